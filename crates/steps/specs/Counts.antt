-- The counts and what a step answers, as join says them.
use Rattle.std.specs.Prelude.{List, [], ◌∷◌, ℕ, ◌+◌, ◌≤◌, Option, Some, None, Result, Ok, Err, is_some, unwrap_or}
use Prim.Native.Char.{code}
use Rattle.types.specs.declared.Fault.{Fault}
use Rattle.types.specs.Faults.{number_of}
use Rattle.law.specs.Sizes.{most_accelerations, most_text}
use Rattle.law.specs.Text.{text_codes}
use Rattle.law.specs.Scoring.{values, scoring_of}
use Rattle.join.specs.Run.{Way, on, stop}
use Rattle.join.specs.Store.{Nine, Count, State, state, code_place}
use Rattle.scorings.specs.declared.Scoring.{Scoring}
use Rattle.steps.specs.declared.counts.Counts.{Counts}

-- the values by what 162 said: the defaults where it said nothing
abbrev pub values_by : Option Scoring → List ℕ
values_by None = values (scoring_of [])
values_by (Some scoring) = scoring.values

abbrev pub as_count : Counts → Count
as_count c =
    record {
      players = c.players;
      accelerations = c.accelerations;
      text = c.text;
      records = c.records;
      seen = c.seen;
      stated = is_some c.rounds;
      rounds = unwrap_or c.rounds 0;
      colour = c.colour;
      scored = is_some c.scoring;
      values = values_by c.scoring;
    }

-- no more than there is room for
pub record Small (c : Counts) : Type 0 where
  pub accelerations : c.accelerations ≤ most_accelerations
  pub text : c.text ≤ most_text

-- the step of a line after ln others, and what it leaves: the state after it, or a fault and the state as it was
abbrev pub went : {A : Type 0} → ℕ → Result A Fault → Counts → Nine → Way State ℕ
went ln (Ok a) c t = on (state (ln + 1) (as_count c) t)
went ln (Err e) c t = stop (number_of e) (state ln (as_count c) t)

-- the place among the sixteen of a text code, which ends with 2, by its first two bytes
abbrev pub place_of_code : ℕ → ℕ → ℕ
place_of_code a b = code_place (a ∷ b ∷ code "2" ∷ []) 0 text_codes

abbrev pub place_in0 : ℕ → ℕ
place_in0 b = place_of_code (code "0") b

abbrev pub place_in1 : ℕ → ℕ
place_in1 b = place_of_code (code "1") b

abbrev pub place_in2 : ℕ → ℕ
place_in2 b = place_of_code (code "2") b

-- tables with another text, or other line numbers
abbrev pub with_text : Nine → List ℕ → Nine
with_text t x =
    record { starts = t.starts; points = t.points; ranks = t.ranks; kept = t.kept; opponents = t.opponents; colours = t.colours; results = t.results; text = x; lines = t.lines }

abbrev pub with_lines : Nine → List ℕ → Nine
with_lines t x =
    record { starts = t.starts; points = t.points; ranks = t.ranks; kept = t.kept; opponents = t.opponents; colours = t.colours; results = t.results; text = t.text; lines = x }
