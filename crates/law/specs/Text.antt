-- Kept text: the sixteen records whose lines are kept as they stand, without their trailing blanks.
use Rattle.std.specs.Prelude.{◌≡◌, Bool, true, false, ◌&&◌, ◌||◌, not, List, [], ◌∷◌, ◌++◌, ℕ, suc, replicate}
use Rattle.kit.specs.Ascii.{ascii}
use Rattle.kit.specs.Lists.{any, same}
use Rattle.law.specs.Lines.{CR}
use Rattle.law.specs.Columns.{blank, is_blank, col, part, blank_from, after_code, code_field}

-- 012 must be there and have text; 112 may stand as often as wanted
abbrev pub name_code : List ℕ
name_code = ascii "012"

abbrev pub repeated_code : List ℕ
repeated_code = ascii "112"

abbrev pub text_codes : List (List ℕ)
text_codes =
    name_code ∷ ascii "022" ∷ ascii "032" ∷ ascii "042" ∷ ascii "052" ∷ ascii "062" ∷ ascii "072" ∷ ascii "092" ∷
    ascii "102" ∷ repeated_code ∷ ascii "122" ∷ ascii "132" ∷ ascii "192" ∷ ascii "202" ∷ ascii "212" ∷ ascii "222" ∷ []

-- the line of 012
abbrev pub is_name : List ℕ → Bool
is_name row = same (part code_field row) name_code

-- "012 must [..] have something other than a blank after column 4"
abbrev pub says_name : List ℕ → Bool
says_name row = not (is_name row) || not (blank_from (suc after_code) row)

abbrev pub last_or : ℕ → List ℕ → ℕ
last_or c [] = c
last_or c (d ∷ l) = last_or d l

-- a row and the same without its trailing blanks
pub record Trimmed (row kept : List ℕ) : Type 0 where
  pub blanks : ℕ
  pub text : row ≡ kept ++ replicate blanks blank
  pub ends : is_blank (last_or 0 kept) ≡ false

pub record SpellsText (row kept : List ℕ) : Type 0 where
  pub gap : is_blank (col row after_code) ≡ true
  pub name : says_name row ≡ true
  pub kept_is : Trimmed row kept

-- "ended by one CR"
abbrev pub ended : List ℕ → List ℕ
ended line = line ++ (CR ∷ [])

-- "Each stands at most once, but 112 as often as wanted": a line whose code stands among the lines before it
abbrev pub is_repeated : List (List ℕ) → List ℕ → Bool
is_repeated before line = not (same (part code_field line) repeated_code) && any (λ other. same (part code_field other) (part code_field line)) before
