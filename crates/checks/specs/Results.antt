-- An entry of three cells.
use Rattle.std.specs.Prelude.{ℕ}
use Rattle.law.specs.Tournament.{Entry}

abbrev pub entry : ℕ → ℕ → ℕ → Entry
entry id colour result = record { id = id; colour = colour; result = result }
