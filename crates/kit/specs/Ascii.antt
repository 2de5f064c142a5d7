-- A quoted text as the list of its characters' codes.
use Rattle.std.specs.Prelude.{ℕ}
use Prim.Native.Char.{code}
use Prim.Native.String.{String, [], ◌∷◌}
use mathlib.Core.List as L

abbrev pub ascii : String → L.List ℕ
ascii [] = L.List.[]
ascii (c ∷ s) = L.List.◌∷◌ (code c) (ascii s)
