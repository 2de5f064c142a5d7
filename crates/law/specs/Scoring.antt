-- 162, the scoring: what a win (W), a draw (D), a loss (L), an absence (A) and a pairing-allocated bye (P) are worth, and X, an unknown result.
use Rattle.std.specs.Prelude.{◌≡◌, Bool, true, cond, ◌&&◌, not, List, [], ◌∷◌, map, ℕ, eqb, drop}
use Prim.Native.Char.{code}
use Rattle.kit.specs.Ascii.{ascii}
use Rattle.kit.specs.Lists.{all, among, is_empty, each_after}
use Rattle.law.specs.Columns.{Field, is_blank, col, part, else_blank, after_code}
use Rattle.law.specs.Fields.{SpellsPoints}

-- the values of W D L A P X, in tenths
pub record Scoring : Type 0 where
  pub win : ℕ
  pub draw : ℕ
  pub loss : ℕ
  pub absent : ℕ
  pub pairing : ℕ
  pub unknown : ℕ

-- all six with their letters, in that order
abbrev pub stated : Scoring → List (ℕ × ℕ)
stated s = (code "W", s.win) ∷ (code "D", s.draw) ∷ (code "L", s.loss) ∷ (code "A", s.absent) ∷ (code "P", s.pairing) ∷ (code "X", s.unknown) ∷ []

abbrev pub values : Scoring → List ℕ
values s = map (λ (v : ℕ × ℕ). v.1) (stated s)

-- "W 1.0, D 0.5, L 0.0, A 0.0, P 1.0, X 0.5"
abbrev pub defaults : Scoring
defaults = record { win = 10; draw = 5; loss = 0; absent = 0; pairing = 10; unknown = 5 }

-- the letters of some values
abbrev pub letters_of : List (ℕ × ℕ) → List ℕ
letters_of given = map (λ (v : ℕ × ℕ). v.0) given

abbrev pub letters : List ℕ
letters = letters_of (stated defaults)

-- what is given for a letter, or else d
abbrev pub given_or : ℕ → ℕ → List (ℕ × ℕ) → ℕ
given_or d letter [] = d
given_or d letter (v ∷ given) = cond (eqb letter v.0) v.1 (given_or d letter given)

-- the event's own W and D, given or default
abbrev pub own_win : List (ℕ × ℕ) → ℕ
own_win given = given_or defaults.win (code "W") given

abbrev pub own_draw : List (ℕ × ℕ) → ℕ
own_draw given = given_or defaults.draw (code "D") given

-- "A letter that is not given keeps its default [..]. The same defaults hold with no 162." Of P and X document 02 decides: "a P or X not given in 162 takes the event's
-- own W or D, given or default"
unfoldable pub scoring_of : List (ℕ × ℕ) → Scoring
scoring_of given =
    record {
      win = own_win given;
      draw = own_draw given;
      loss = given_or defaults.loss (code "L") given;
      absent = given_or defaults.absent (code "A") given;
      pairing = given_or (own_win given) (code "P") given;
      unknown = given_or (own_draw given) (code "X") given;
    }

-- ---- the line
abbrev pub scoring_code : List ℕ
scoring_code = ascii "162"

-- "six slots at columns 6, 15, 24, 33, 42, 51", five columns each
abbrev pub slot_fields : List Field
slot_fields = (6, 10) ∷ (15, 19) ∷ (24, 28) ∷ (33, 37) ∷ (42, 46) ∷ (51, 55) ∷ []

-- a slot: "one of W D L A P X, then a points field"
pub record SpellsValue (slot : List ℕ) (v : ℕ × ℕ) : Type 0 where
  pub letter : v.0 ≡ col slot 1
  pub letter_in : among (col slot 1) letters ≡ true
  pub points : SpellsPoints (drop 1 slot) v.1

-- "The first is filled, none is filled after an empty one": the first slots spell the values, one each, and the others are empty
abbrev pub FilledFirst : List (List ℕ) → List (ℕ × ℕ) → Type 0
FilledFirst slots [] = all (all is_blank) slots ≡ true
FilledFirst [] (v ∷ given) = ⊥
FilledFirst (slot ∷ slots) (v ∷ given) = SpellsValue slot v × FilledFirst slots given

-- "no letter comes twice"
abbrev pub letters_differ : List (ℕ × ℕ) → Bool
letters_differ given = each_after (λ before letter. not (among letter before)) [] (letters_of given)

pub record SpellsScoring (row : List ℕ) (given : List (ℕ × ℕ)) : Type 0 where
  pub slots : FilledFirst (map (λ f. part f row) slot_fields) given
  pub given_is : not (is_empty given) && letters_differ given ≡ true
  pub nothing_else : else_blank after_code slot_fields row ≡ true
