-- What the readers of a 001 line answer: a round, the rounds and the line as their structs hold them.
use Rattle.std.specs.Prelude.{◌≡◌, Bool, true, List, [], ◌∷◌, map, ℕ, ◌+◌, ◌*◌, ◌≤◌, ◌<◌, length, get_or}
use Rattle.std.proofs.Math.Option.{Option, some}
use Rattle.kit.specs.Lists.{all, conj, among, flat}
use Rattle.kit.specs.Decides.{to, when, keep}
use Rattle.law.specs.Sizes.{most_rounds}
use Rattle.law.specs.Columns.{blank, is_blank, cells, else_blank}
use Rattle.law.specs.Players as law
use Rattle.law.specs.Tournament.{Entry, blank_as}
use Rattle.law.proofs.RecordsRead.{slots_of}
use Rattle.join.specs.Store.{raw_cell, raw_cells}
use Rattle.rows.specs.declared.Slot.{Slot}
use Rattle.rows.specs.declared.Slots.{Slots}
use Rattle.rows.specs.declared.Row.{Row}

-- the columns before the rounds and those of the first n rounds; all of them
abbrev pub rounds_end : ℕ → ℕ
rounds_end n = 89 + 10 * n

abbrev pub player_columns : ℕ
player_columns = law.result_column most_rounds

-- a line has the columns of its first rounds, and those of the rounds after them are blank
pub record Reaches (line : List ℕ) (reach : ℕ) : Type 0 where
  pub most : reach ≤ most_rounds
  pub long : rounds_end reach ≤ length line
  pub blank_on : (i : ℕ) → rounds_end reach ≤ i → i < player_columns → get_or line i blank ≡ blank

-- the columns between the fields before the rounds; those before a round's fields and between them, the round's columns from at on
abbrev pub head_else_blank : List ℕ → Bool
head_else_blank line = conj (all is_blank (cells line 3 1) ∷ all is_blank (cells line 8 1) ∷ all is_blank (cells line 79 1) ∷ all is_blank (cells line 84 1) ∷ [])

abbrev pub round_else_blank : List ℕ → ℕ → Bool
round_else_blank line at = conj (all is_blank (cells line at 2) ∷ all is_blank (cells line (at + 6) 1) ∷ all is_blank (cells line (at + 8) 1) ∷ [])

-- a result as it is held beside an opponent
abbrev pub result_in : ℕ → Option ℕ
result_in code = to (blank_as law.unknown_result) (keep (λ c. among c law.slot_results) (some (law.capital code)))

-- the rounds' columns: all rounds, where the columns between them and after the last are blank
abbrev pub rounds_in : List ℕ → Option (List law.Slot)
rounds_in line = when (else_blank (rounds_end 0 + 1) (flat law.round_fields law.every_round) line) (slots_of line)

-- an entry as a round's columns are stored, and a round
abbrev pub as_slot : Entry → Slot
as_slot e = record { id = e.id; colour = e.colour; result = e.result }

abbrev pub stored : law.Slot → Slot
stored s = as_slot (raw_cell s)

-- a round without an opponent, of which a byte is not blank
abbrev pub bye : ℕ → ℕ → law.Slot
bye colour result = record { id = 0; colour = colour; result = result; used = true }

-- ---- the rounds as they are stored, one list a column
unfoldable pub ids_of : List Entry → List ℕ
ids_of cells = map (λ (e : Entry). e.id) cells

unfoldable pub colours_of : List Entry → List ℕ
colours_of cells = map (λ (e : Entry). e.colour) cells

unfoldable pub results_of : List Entry → List ℕ
results_of cells = map (λ (e : Entry). e.result) cells

unfoldable pub the_slots : List law.Slot → Slots
the_slots slots = record { ids = ids_of (map raw_cell slots); colours = colours_of (map raw_cell slots); results = results_of (map raw_cell slots) }

-- ---- the line
unfoldable pub the_row : law.PlayerLine → Row
the_row p =
    record {
      start = record { 0 = p.start };
      rank = record { 0 = p.rank };
      points = p.points;
      kept = p.kept;
      ids = ids_of (raw_cells p);
      colours = colours_of (raw_cells p);
      results = results_of (raw_cells p);
    }
