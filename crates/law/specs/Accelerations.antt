-- 250, the acceleration records: points for the start numbers and rounds from first to last.
use Rattle.std.specs.Prelude.{◌≡◌, Bool, true, ◌&&◌, List, [], ◌∷◌, ℕ, leb}
use Rattle.kit.specs.Ascii.{ascii}
use Rattle.kit.specs.Lists.{between, conj}
use Rattle.types.specs.declared.Acceleration.{Acceleration}
use Rattle.law.specs.Sizes.{most_rounds, most_points, is_start}
use Rattle.law.specs.Columns.{Field, part, else_blank, after_code}
use Rattle.law.specs.Fields.{SpellsNumber, SpellsPoints}

-- "points, not 0; [..] Rounds are 1 to 20, start numbers 1 to 9999, first not above last"
abbrev pub acceleration_rules : Acceleration → List Bool
acceleration_rules a =
    between 1 most_points a.points ∷ between 1 most_rounds a.first_round ∷ between 1 most_rounds a.last_round ∷ leb a.first_round a.last_round ∷
    is_start a.first_start ∷ is_start a.last_start ∷ leb a.first_start a.last_start ∷ []

abbrev pub is_acceleration : Acceleration → Bool
is_acceleration a = conj (acceleration_rules a)

-- ---- the line: "columns 5-8 blank; 10-13 points, not 0; 15-17 and 19-21 first and last round; 23-26 and 28-31 first and last start number"
abbrev pub acceleration_code : List ℕ
acceleration_code = ascii "250"

abbrev pub added_field : Field
added_field = (10, 13)

abbrev pub first_round_field : Field
first_round_field = (15, 17)

abbrev pub last_round_field : Field
last_round_field = (19, 21)

abbrev pub first_start_field : Field
first_start_field = (23, 26)

abbrev pub last_start_field : Field
last_start_field = (28, 31)

abbrev pub acceleration_fields : List Field
acceleration_fields = added_field ∷ first_round_field ∷ last_round_field ∷ first_start_field ∷ last_start_field ∷ []

pub record SpellsAcceleration (row : List ℕ) (a : Acceleration) : Type 0 where
  pub points : SpellsPoints (part added_field row) a.points
  pub first_round : SpellsNumber (part first_round_field row) a.first_round
  pub last_round : SpellsNumber (part last_round_field row) a.last_round
  pub first_start : SpellsNumber (part first_start_field row) a.first_start
  pub last_start : SpellsNumber (part last_start_field row) a.last_start
  pub rules : is_acceleration a ≡ true
  pub nothing_else : else_blank after_code acceleration_fields row ≡ true

-- ---- "two 250 share a round and a start number"
abbrev pub overlap : ℕ → ℕ → ℕ → ℕ → Bool
overlap first last first' last' = leb first last' && leb first' last

unfoldable pub shares : Acceleration → Acceleration → Bool
shares a b =
    overlap a.first_round a.last_round b.first_round b.last_round && overlap a.first_start a.last_start b.first_start b.last_start

-- a record covers a start number in a round
unfoldable pub covers : ℕ → ℕ → Acceleration → Bool
covers start round a = between a.first_round a.last_round round && between a.first_start a.last_start start
