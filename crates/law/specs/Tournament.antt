-- The tournament, and the one that some items say together. Line numbers, blank spellings and which letters a 162 gave are no part of it.
use Rattle.std.specs.Prelude.{Bool, cond, List, [], ◌∷◌, map, ℕ, ◌-◌, eqb, get_or, take}
use Prim.Native.Char.{code}
use Rattle.kit.specs.Lists.{any, flat, top, only_or}
use Rattle.types.specs.declared.Acceleration.{Acceleration}
use Rattle.law.specs.Sizes.{most_rounds}
use Rattle.law.specs.Columns.{blank, is_blank}
use Rattle.law.specs.Scoring.{Scoring, scoring_of}
use Rattle.law.specs.Players.{unknown_result, Slot, PlayerLine}
use Rattle.law.specs.Items.{Item, passed, text, rounds, colour, scoring, acceleration, player}

-- a round's entry: "an entry names its opponent by start number; it has id 0 and colour `-` for a bye, and a capital result letter", or `?` where the result is unknown
pub record Entry : Type 0 where
  pub id : ℕ
  pub colour : ℕ
  pub result : ℕ

pub record Player : Type 0 where
  pub start : ℕ
  pub kept : List ℕ
  pub points : ℕ
  pub rank : ℕ
  pub entries : List Entry

-- text: the kept lines, without their CRs. colour: the initial colour, 0 if none
pub record Tournament : Type 0 where
  pub text : List (List ℕ)
  pub rounds : ℕ
  pub colour : ℕ
  pub scoring : Scoring
  pub accelerations : List Acceleration
  pub players : List Player

-- ---- an entry of a slot: with no opponent "colour `-` or blank", "blank is Z"; beside an opponent a blank result is the unknown one, and a blank colour stays what it is
abbrev pub blank_as : ℕ → ℕ → ℕ
blank_as d c = cond (is_blank c) d c

unfoldable pub normal : Slot → Entry
normal s =
    cond (eqb s.id 0) (record { id = 0; colour = blank_as (code "-") s.colour; result = blank_as (code "Z") s.result })
    (record { id = s.id; colour = s.colour; result = blank_as unknown_result s.result })

-- ---- what each item adds
abbrev pub text_in : Item → List (List ℕ)
text_in passed = []
text_in (text kept) = kept ∷ []
text_in (rounds n) = []
text_in (colour c) = []
text_in (scoring given) = []
text_in (acceleration a) = []
text_in (player p) = []

abbrev pub rounds_in : Item → List ℕ
rounds_in passed = []
rounds_in (text kept) = []
rounds_in (rounds n) = n ∷ []
rounds_in (colour c) = []
rounds_in (scoring given) = []
rounds_in (acceleration a) = []
rounds_in (player p) = []

abbrev pub colour_in : Item → List ℕ
colour_in passed = []
colour_in (text kept) = []
colour_in (rounds n) = []
colour_in (colour c) = c ∷ []
colour_in (scoring given) = []
colour_in (acceleration a) = []
colour_in (player p) = []

abbrev pub scoring_in : Item → List (List (ℕ × ℕ))
scoring_in passed = []
scoring_in (text kept) = []
scoring_in (rounds n) = []
scoring_in (colour c) = []
scoring_in (scoring given) = given ∷ []
scoring_in (acceleration a) = []
scoring_in (player p) = []

abbrev pub acceleration_in : Item → List Acceleration
acceleration_in passed = []
acceleration_in (text kept) = []
acceleration_in (rounds n) = []
acceleration_in (colour c) = []
acceleration_in (scoring given) = []
acceleration_in (acceleration a) = a ∷ []
acceleration_in (player p) = []

abbrev pub player_in : Item → List PlayerLine
player_in passed = []
player_in (text kept) = []
player_in (rounds n) = []
player_in (colour c) = []
player_in (scoring given) = []
player_in (acceleration a) = []
player_in (player p) = p ∷ []

-- ---- the number of rounds
abbrev pub no_slot : Slot
no_slot = record { id = 0; colour = blank; result = blank; used = Bool.false }

abbrev pub slot_at : ℕ → PlayerLine → Slot
slot_at r p = get_or p.slots (r - 1) no_slot

-- "the highest round in which some 001 line has a byte other than a blank in its id, colour or result"
unfoldable pub used_rounds : List PlayerLine → ℕ
used_rounds lines = top (λ r. any (λ p. (slot_at r p).used) lines) most_rounds

-- "If 142 is missing": the rounds used
unfoldable pub rounds_of : List Item → ℕ
rounds_of items = only_or (used_rounds (flat player_in items)) (flat rounds_in items)

-- ---- what the items say together, in file order
abbrev pub player_of : ℕ → PlayerLine → Player
player_of R p = record { start = p.start; kept = p.kept; points = p.points; rank = p.rank; entries = map normal (take R p.slots) }

unfoldable pub tournament_of : List Item → Tournament
tournament_of items =
    record {
      text = flat text_in items;
      rounds = rounds_of items;
      colour = only_or 0 (flat colour_in items);
      scoring = scoring_of (only_or [] (flat scoring_in items));
      accelerations = flat acceleration_in items;
      players = map (player_of (rounds_of items)) (flat player_in items);
    }
