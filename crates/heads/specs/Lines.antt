-- Parts of the lines 162 and 250 that one function puts, and how wide each line is, in the statement's own words. Means: no part of the statement.
use Rattle.std.specs.Prelude.{List, ◌∷◌, ◌++◌, ℕ, ◌+◌, get_or}
use Rattle.law.specs.Columns.{blank, width, code_field}
use Rattle.law.specs.Scoring.{Scoring, slot_fields}
use Rattle.law.specs.Accelerations.{first_round_field, first_start_field, last_start_field}
use Rattle.law.specs.Writing.{blanks, filled, noughts, points_text}

-- first and last of something in a 250 line, in w columns each with a column between them
abbrev pub span_text : ℕ → ℕ → ℕ → List ℕ
span_text w first last = filled noughts w first ++ (blanks 1 ++ filled noughts w last)

abbrev pub span_wide : ℕ → ℕ
span_wide w = w + (1 + w)

-- how many columns a round has there, and a start number
abbrev pub round_wide : ℕ
round_wide = width first_round_field

abbrev pub start_wide : ℕ
start_wide = width first_start_field

abbrev pub acceleration_wide : ℕ
acceleration_wide = last_start_field.1

-- a letter and its points in a 162 line; the blanks before it
abbrev pub value_text : ℕ → ℕ → ℕ → List ℕ
value_text gap letter points = blanks gap ++ (letter ∷ points_text blank points)

abbrev pub scoring_in : List ℕ → Scoring
scoring_in v =
    record {
      win = get_or v 0 0;
      draw = get_or v 1 0;
      loss = get_or v 2 0;
      absent = get_or v 3 0;
      pairing = get_or v 4 0;
      unknown = get_or v 5 0;
    }

-- a slot's columns; the line ends with the last slot
abbrev pub slot_wide : ℕ
slot_wide = width (get_or slot_fields 0 code_field)

abbrev pub scoring_wide : ℕ
scoring_wide = (get_or slot_fields 5 code_field).1
