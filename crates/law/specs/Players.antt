-- 001, a player's line: start number, the kept columns 10-79, points, rank, and twenty rounds.
use Rattle.std.specs.Prelude.{◌≡◌, Bool, true, cond, ◌||◌, not, List, [], ◌∷◌, ◌++◌, ℕ, ◌+◌, ◌*◌, ◌-◌, replicate}
use Prim.Native.Char.{code}
use Rattle.kit.specs.Ascii.{ascii}
use Rattle.kit.specs.Lists.{between, all, among, is_one_of, from, flat, Each}
use Rattle.law.specs.Sizes.{most_rounds, is_start, is_rank}
use Rattle.law.specs.Columns.{Field, blank, is_blank, col, part, column, else_blank, after_code}
use Rattle.law.specs.Fields.{SpellsNumber, SpellsPoints, SpellsNumberOrBlank, has_shape}

abbrev pub player_code : List ℕ
player_code = ascii "001"

-- ---- "The 70 columns 10-79 are kept byte by byte."
abbrev pub sex_field : Field
sex_field = column 10

abbrev pub title_field : Field
title_field = (11, 13)

abbrev pub name_field : Field
name_field = (15, 47)

abbrev pub rating_field : Field
rating_field = (49, 52)

abbrev pub federation_field : Field
federation_field = (54, 56)

abbrev pub fide_field : Field
fide_field = (58, 68)

abbrev pub birth_field : Field
birth_field = (70, 79)

abbrev pub kept_field : Field
kept_field = (sex_field.0, birth_field.1)

abbrev pub kept_fields : List Field
kept_fields = sex_field ∷ title_field ∷ name_field ∷ rating_field ∷ federation_field ∷ fide_field ∷ birth_field ∷ []

-- the kept columns in their places of the line
abbrev pub in_line : List ℕ → List ℕ
in_line kept = replicate (kept_field.0 - 1) blank ++ kept

-- "sex `m`, `w` or blank"
abbrev pub sexes : List (List ℕ)
sexes = ascii "m" ∷ ascii "w" ∷ ascii " " ∷ []

-- "title, from the left: GM, IM, WGM, FM, WIM, CM, WFM, WCM or blank"
abbrev pub titles : List (List ℕ)
titles = ascii "GM " ∷ ascii "IM " ∷ ascii "WGM" ∷ ascii "FM " ∷ ascii "WIM" ∷ ascii "CM " ∷ ascii "WFM" ∷ ascii "WCM" ∷ ascii "   " ∷ []

-- "birth date, blank or digits in the shape YYYY/MM/DD"
abbrev pub is_birth : List ℕ → Bool
is_birth field = all is_blank field || has_shape (ascii "0000/00/00") field

-- "rating, a number field or blank"; name, federation and FIDE number have no rule
pub record SpellsKept (kept : List ℕ) : Type 0 where
  pub sex : is_one_of (part sex_field (in_line kept)) sexes ≡ true
  pub title : is_one_of (part title_field (in_line kept)) titles ≡ true
  pub rating : (n : ℕ) × SpellsNumberOrBlank (part rating_field (in_line kept)) n
  pub birth : is_birth (part birth_field (in_line kept)) ≡ true
  pub nothing_else : else_blank kept_field.0 kept_fields (in_line kept) ≡ true

-- ---- a round's columns: the id (0 where blank), the colour as it stands, the result as a capital; used: some byte of the three fields is not blank
pub record Slot : Type 0 where
  pub id : ℕ
  pub colour : ℕ
  pub result : ℕ
  pub used : Bool

-- "Round r has its id at 92+10(r-1), four columns; its colour five columns after the id's first; its result seven after."
abbrev pub id_column : ℕ → ℕ
id_column r = 92 + 10 * (r - 1)

abbrev pub id_field : ℕ → Field
id_field r = (id_column r, id_column r + 3)

abbrev pub entry_colour_column : ℕ → ℕ
entry_colour_column r = id_column r + 5

abbrev pub result_column : ℕ → ℕ
result_column r = id_column r + 7

abbrev pub round_fields : ℕ → List Field
round_fields r = id_field r ∷ column (entry_colour_column r) ∷ column (result_column r) ∷ []

-- the bytes that a colour and a result may be; those of a game, of a bye, and a blank
abbrev pub game_colours : List ℕ
game_colours = ascii "wb"

abbrev pub game_results : List ℕ
game_results = ascii "1=0WDL+-"

abbrev pub bye_results : List ℕ
bye_results = ascii "HFUZ"

abbrev pub slot_colours : List ℕ
slot_colours = game_colours ++ ascii "- "

abbrev pub slot_results : List ℕ
slot_results = game_results ++ (bye_results ++ ascii " ")

-- document 02: "An entry with an opponent, a colour `w` or `b` and a blank result is an unknown result. [..] The tables hold `?` there"; on a line `?` is no result
abbrev pub unknown_result : ℕ
unknown_result = code "?"

-- a game's result as the tables hold it: unknown, or one of the eight
abbrev pub held_game_results : List ℕ
held_game_results = unknown_result ∷ game_results

-- "Result letters may be small or capital."
abbrev pub capital : ℕ → ℕ
capital c = cond (between (code "a") (code "z") c) (c - (code "a" - code "A")) c

pub record SpellsSlot (row : List ℕ) (r : ℕ) (s : Slot) : Type 0 where
  pub id : SpellsNumberOrBlank (part (id_field r) row) s.id
  pub colour : s.colour ≡ col row (entry_colour_column r)
  pub colour_in : among (col row (entry_colour_column r)) slot_colours ≡ true
  pub result : s.result ≡ capital (col row (result_column r))
  pub result_in : among (capital (col row (result_column r))) slot_results ≡ true
  pub used : s.used ≡ not (all (λ f. all is_blank (part f row)) (round_fields r))

-- ---- the line
pub record PlayerLine : Type 0 where
  pub start : ℕ
  pub kept : List ℕ
  pub points : ℕ
  pub rank : ℕ
  pub slots : List Slot

-- "start number 5-8 (1 to 9999); [..] 81-84 points; 86-89 rank (1 to 9999)"
abbrev pub start_field : Field
start_field = (5, 8)

abbrev pub points_field : Field
points_field = (81, 84)

abbrev pub rank_field : Field
rank_field = (86, 89)

abbrev pub every_round : List ℕ
every_round = from 1 most_rounds

-- "All other columns, and all from 290 on, are blank": the last of these fields is the twentieth round's result, column 289
abbrev pub player_fields : List Field
player_fields = start_field ∷ kept_field ∷ points_field ∷ rank_field ∷ flat round_fields every_round

pub record SpellsPlayer (row : List ℕ) (p : PlayerLine) : Type 0 where
  pub start : SpellsNumber (part start_field row) p.start
  pub start_in : is_start p.start ≡ true
  pub kept : p.kept ≡ part kept_field row
  pub kept_is : SpellsKept p.kept
  pub points : SpellsPoints (part points_field row) p.points
  pub rank : SpellsNumber (part rank_field row) p.rank
  pub rank_in : is_rank p.rank ≡ true
  pub slots : Each (SpellsSlot row) every_round p.slots
  pub nothing_else : else_blank after_code player_fields row ≡ true
