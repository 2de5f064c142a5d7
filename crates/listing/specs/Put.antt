-- Bytes put into a lent room from a place on, however many they are: what the room holds then, and where they end.
use Rattle.std.specs.Prelude.{List, ℕ, length}
use Rattle.puts.specs.Puts.{Puts}

abbrev pub Put : List ℕ → ℕ → List ℕ → ℕ → List ℕ → Type 0
Put bytes at before end after = Puts bytes (length bytes) at before after end
