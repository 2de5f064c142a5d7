-- What the test behind 18 looks at, in the parts that are asked one by one. Means: no part of the statement.
use Rattle.std.specs.Prelude.{◌≡◌, true, List, ℕ, ◌*◌, ◌≤◌, ◌<◌, get_or, take}
use Rattle.std.proofs.Math.Option.{none}
use Rattle.types.specs.declared.Acceleration.{Acceleration}
use Rattle.types.specs.declared.Answer.{Answer}
use Rattle.law.specs.Sizes.{most_players, most_rounds, most_accelerations, most_text, most_points, is_start, is_rank}
use Rattle.law.specs.Columns.{width}
use Rattle.law.specs.Accelerations.{is_acceleration}
use Rattle.law.specs.Players.{kept_field}
use Rattle.law.specs.Entries.{Law}
use Rattle.law.specs.Lawful.{no_acceleration}
use Rattle.law.specs.Tables.{kept_cells}
use Rattle.join.specs.Grid.{first_from}
use Rattle.join.specs.Store.{place_of}
use Rattle.join.specs.Check.{broken_cell, wrong_sum, shared_record}
use Rattle.tables.specs.declared.lent.Tables.{Tables}
use Rattle.index.specs.declared.Entries.{Entries}
use Rattle.checks.specs.Laws.{four, four_of}
use Rattle.texts.specs.Kept.{KeptText}
use Rattle.readings.specs.Good.{Unused, UnusedEntries}
use Rattle.held.specs.Rows.{HasKept}

-- what n players have but entries
pub record Own (n : ℕ) (t : Tables) : Type 0 where
  pub started : (p : ℕ) → p < n → is_start (get_or t.starts.now p 0) ≡ true
  pub stated : (p : ℕ) → p < n → get_or t.points.now p 0 ≤ most_points
  pub ranked : (p : ℕ) → p < n → is_rank (get_or t.ranks.now p 0) ≡ true
  pub columns : (p : ℕ) → p < n → HasKept t.kept.now p

-- the cells that n players leave unused
pub record OwnRest (n : ℕ) (t : Tables) : Type 0 where
  pub starts_rest : Unused 0 n most_players t.starts.now
  pub points_rest : Unused 0 n most_players t.points.now
  pub ranks_rest : Unused 0 n most_players t.ranks.now
  pub kept_rest : Unused 0 (n * width kept_field) kept_cells t.kept.now

pub record EntriesRest (n R : ℕ) (t : Tables) : Type 0 where
  pub opponents_rest : UnusedEntries n R t.opponents.now
  pub colours_rest : UnusedEntries n R t.colours.now
  pub results_rest : UnusedEntries n R t.results.now

-- n bytes of text
pub record TextIs (n : ℕ) (text : List ℕ) : Type 0 where
  pub kept : KeptText (take n text)
  pub rest : Unused 0 n most_text text

-- n acceleration records
pub record RecordsAre (n : ℕ) (records : List Acceleration) : Type 0 where
  pub each : (j : ℕ) → j < n → is_acceleration (get_or records j no_acceleration) ≡ true
  pub apart : first_from (shared_record records) 0 n ≡ none
  pub rest : Unused no_acceleration n most_accelerations records

-- each entry keeps a law
abbrev pub Keeps : Law → Entries → Type 0
Keeps law e = first_from (broken_cell law e.players e.rounds (four_of e)) 0 (e.players * most_rounds) ≡ none

-- what n players and their entries keep together
pub record Together (n R : ℕ) (values : List ℕ) (t : Tables) : Type 0 where
  pub new : (p : ℕ) → p < n → place_of t.starts.now p (get_or t.starts.now p 0) ≡ none
  pub laws : (law : Law) → first_from (broken_cell law n R (four t.starts.now t.opponents.now t.colours.now t.results.now)) 0 (n * most_rounds) ≡ none
  pub sums : first_from (wrong_sum values t.points.now t.results.now R) 0 n ≡ none

-- tables that hold the reading of an answer
pub record Holds (a : Answer) (t : Tables) (records : List Acceleration) : Type 0 where
  pub own : Own a.players t
  pub own_rest : OwnRest a.players t
  pub entries_rest : EntriesRest a.players a.rounds t
  pub text : TextIs a.text t.text.now
  pub accelerations : RecordsAre a.accelerations records
  pub whole : Together a.players a.rounds a.values t
