-- Parts of a 001 line that one function puts, and how wide it is, in the statement's own words. Means: no part of the statement.
use Rattle.std.specs.Prelude.{List, [], ◌∷◌, ℕ, suc, ◌+◌, ◌*◌, ◌-◌}
use Rattle.law.specs.Columns.{blank, code_field}
use Rattle.law.specs.Players.{player_code, start_field, kept_field, points_field, rank_field, id_column}
use Rattle.law.specs.Tournament.{Entry}
use Rattle.law.specs.Writing.{blanks, number, points_text, entry_pieces, laid}

-- a 001 line up to the rank
abbrev pub head_text : ℕ → List ℕ → ℕ → ℕ → List ℕ
head_text start kept points rank =
    laid 1 ((code_field, player_code) ∷ number blanks start_field start ∷ (kept_field, kept) ∷ (points_field, points_text blank points) ∷ number blanks rank_field rank ∷ [])

abbrev pub head_wide : ℕ
head_wide = rank_field.1

-- a round's columns, from the one after what stands before it: those of round 1, and of every other round in its place
abbrev pub entry_text : Entry → List ℕ
entry_text e = laid (suc head_wide) (entry_pieces 1 e)

abbrev pub entry_wide : ℕ
entry_wide = id_column 2 - id_column 1

-- "exactly 89+10R bytes for R rounds"
abbrev pub player_wide : ℕ → ℕ
player_wide rounds = head_wide + rounds * entry_wide

abbrev pub entry : ℕ → ℕ → ℕ → Entry
entry id colour result = record { id = id; colour = colour; result = result }
