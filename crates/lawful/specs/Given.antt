-- The tables that writer and question are lent, and the acceleration records as their cores are given them: the first 32 by value, and how many are lent.
use Rattle.std.specs.Prelude.{◌≡◌, List, [], ◌∷◌, ◌++◌, ℕ, ◌≤◌, length, take}
use Rattle.types.specs.declared.Acceleration.{Acceleration}
use Rattle.law.specs.Sizes.{most_players, most_accelerations, most_text}
use Rattle.law.specs.Tables.{Tables, kept_cells, entry_cells}
use Rattle.tables.specs.declared.lent.Tables.{Tables as Lent}

abbrev pub tables_of : List ℕ → List ℕ → List ℕ → List ℕ → List ℕ → List ℕ → List ℕ → List ℕ → List Acceleration → Tables
tables_of starts points ranks kept opponents colours results text accelerations =
    record {
      starts = starts;
      points = points;
      ranks = ranks;
      kept = kept;
      opponents = opponents;
      colours = colours;
      results = results;
      text = text;
      accelerations = accelerations;
    }

-- the lent tables as the structs hold them
abbrev pub tables_in : Lent → List Acceleration → Tables
tables_in t accelerations = tables_of t.starts.now t.points.now t.ranks.now t.kept.now t.opponents.now t.colours.now t.results.now t.text.now accelerations

-- all: the array that a core is given; records: what is lent. An array for a list that is too short may hold anything
pub record Given (accelerations : ℕ) (all records : List Acceleration) : Type 0 where
  pub long : length records ≡ accelerations
  pub firsts : most_accelerations ≤ accelerations → all ≡ take most_accelerations records

-- the tables with a list of records in place of the array
abbrev pub over : Tables → List Acceleration → Tables
over t records = tables_of t.starts t.points t.ranks t.kept t.opponents t.colours t.results t.text records

-- each table's size and the length that is lent, with so many records lent
abbrev pub eight_rooms : Tables → List (ℕ × ℕ)
eight_rooms t =
    (most_players, length t.starts) ∷ (most_players, length t.points) ∷ (most_players, length t.ranks) ∷ (kept_cells, length t.kept) ∷
    (entry_cells, length t.opponents) ∷ (entry_cells, length t.colours) ∷ (entry_cells, length t.results) ∷ (most_text, length t.text) ∷ []

abbrev pub rooms_by : Tables → ℕ → List (ℕ × ℕ)
rooms_by t n = eight_rooms t ++ ((most_accelerations, n) ∷ [])
