-- 142, the number of rounds, and 152, the initial colour.
use Rattle.std.specs.Prelude.{◌≡◌, true, List, [], ◌∷◌, ℕ, ◌≤◌}
use Rattle.kit.specs.Ascii.{ascii}
use Rattle.kit.specs.Lists.{among}
use Rattle.law.specs.Sizes.{most_rounds}
use Rattle.law.specs.Columns.{Field, col, part, column, else_blank, after_code}
use Rattle.law.specs.Fields.{SpellsLeading}

-- "142: one to three digits from column 5, then only blanks; value 0 to 20."
abbrev pub rounds_code : List ℕ
rounds_code = ascii "142"

abbrev pub rounds_field : Field
rounds_field = (5, 7)

pub record SpellsRounds (row : List ℕ) (n : ℕ) : Type 0 where
  pub number : SpellsLeading (part rounds_field row) n
  pub number_in : n ≤ most_rounds
  pub nothing_else : else_blank after_code (rounds_field ∷ []) row ≡ true

-- "152: `W` or `B` in column 5, nothing after."
abbrev pub colour_code : List ℕ
colour_code = ascii "152"

abbrev pub colour_column : ℕ
colour_column = 5

abbrev pub initial_colours : List ℕ
initial_colours = ascii "WB"

pub record SpellsColour (row : List ℕ) (c : ℕ) : Type 0 where
  pub colour : c ≡ col row colour_column
  pub colour_in : among (col row colour_column) initial_colours ≡ true
  pub nothing_else : else_blank after_code (column colour_column ∷ []) row ≡ true
