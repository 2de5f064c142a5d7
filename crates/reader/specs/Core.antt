-- What the core of a reading answers and leaves: the statement's relation, with the acceleration records by value and how many of them are filled in.
use Rattle.std.specs.Prelude.{◌≡◌, List, ◌++◌, ℕ, ◌≤◌, length, take, drop}
use Rattle.types.specs.declared.Acceleration.{Acceleration}
use Rattle.law.specs.Sizes.{most_accelerations}
use Rattle.law.specs.Tables.{Lent}
use Rattle.law.specs.Calls.{Reads}
use Rattle.join.specs.Store.{Nine}
use Rattle.lines_read.specs.declared.CoreAnswer.{CoreAnswer}

-- ---- with each list of records of the told length, the statement's relation
abbrev pub lent_with : Nine → List Acceleration → Lent
lent_with t records =
    record {
      tables =
          record {
            starts = t.starts;
            points = t.points;
            ranks = t.ranks;
            kept = t.kept;
            opponents = t.opponents;
            colours = t.colours;
            results = t.results;
            text = t.text;
            accelerations = records;
          };
      lines = t.lines;
    }

abbrev pub filled_in : CoreAnswer → List Acceleration → List Acceleration
filled_in r records = take r.fill r.records ++ drop r.fill records

pub record CoreReads (file : List ℕ) (b : Nine) (accelerations : ℕ) (r : CoreAnswer) (x : Nine) : Type 0 where
  pub fits : r.fill ≤ accelerations
  pub few : r.fill ≤ most_accelerations
  pub reads : (records : List Acceleration) → length records ≡ accelerations → Reads file (lent_with b records) r.answer (lent_with x (filled_in r records))
