-- What the tests of the kept columns are made of.
use Rattle.std.specs.Prelude.{Bool, ◌&&◌, ◌||◌, List, ℕ, eqb}
use Prim.Native.Char.{code}
use Rattle.kit.specs.Ascii.{ascii}
use Rattle.law.specs.Fields.{is_digit}

-- what stands before M in a title
abbrev pub grades : List ℕ
grades = ascii "GIFC"

abbrev pub date_shape : List ℕ
date_shape = ascii "0000/00/00"

-- a byte in a column of a shape, in which 0 stands for any digit
abbrev pub fits_shape : ℕ → ℕ → Bool
fits_shape s c = eqb s c || (eqb s (code "0") && is_digit c)
