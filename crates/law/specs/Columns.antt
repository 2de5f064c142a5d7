-- Rows and columns. "Columns count bytes from 1. Columns past the end of a line read as blank."
use Rattle.std.specs.Prelude.{Bool, ◌&&◌, List, [], ◌∷◌, ℕ, zero, suc, ◌-◌, eqb, get_or, drop}
use Rattle.kit.specs.Lists.{all}

-- a row is the list of a line's characters, of which the columns are counted; here a character is a byte
abbrev pub row_of : List ℕ → List ℕ
row_of text = text

abbrev pub blank : ℕ
blank = 32

abbrev pub is_blank : ℕ → Bool
is_blank c = eqb c blank

-- the character in a column
abbrev pub col : List ℕ → ℕ → ℕ
col row c = get_or row (c - 1) blank

-- the first w characters, blanks past the end
abbrev pub padded : ℕ → List ℕ → List ℕ
padded zero l = []
padded (suc w) [] = blank ∷ padded w []
padded (suc w) (x ∷ l) = x ∷ padded w l

-- w columns, with i columns before them
unfoldable pub cells : List ℕ → ℕ → ℕ → List ℕ
cells row i w = padded w (drop i row)

-- a field: its first and its last column, as document 01 gives them
abbrev pub Field : Type 0
Field = ℕ × ℕ

abbrev pub width : Field → ℕ
width f = suc f.1 - f.0

abbrev pub part : Field → List ℕ → List ℕ
part f row = cells row (f.0 - 1) (width f)

-- the field of one column
abbrev pub column : ℕ → Field
column c = (c, c)

-- from column c on there are only blanks
abbrev pub blank_from : ℕ → List ℕ → Bool
blank_from c row = all is_blank (drop (c - 1) row)

-- "all else is blank": of the columns from c on, those in none of these fields, which stand in order
abbrev pub else_blank : ℕ → List Field → List ℕ → Bool
else_blank c [] row = blank_from c row
else_blank c (f ∷ fs) row = all is_blank (cells row (c - 1) (f.0 - c)) && else_blank (suc f.1) fs row

-- "Column 4 of every record is blank": what is asked of a record's columns begins there; before it stands the code
abbrev pub after_code : ℕ
after_code = 4

abbrev pub code_field : Field
code_field = (1, 3)
