-- Lines. A line ends with CR; one LF directly after it belongs to the terminator.
use Rattle.std.specs.Prelude.{◌≡◌, Bool, true, false, ◌&&◌, not, List, [], ◌∷◌, ◌++◌, ℕ, eqb}
use Rattle.std.proofs.Math.Option.{Option, none, some}
use Rattle.kit.specs.Lists.{between, all, is_empty}

abbrev pub CR : ℕ
CR = 13

abbrev pub LF : ℕ
LF = 10

-- "Other bytes below 32, and 127, are not allowed." A byte is a number up to 255
abbrev pub allowed : ℕ → Bool
allowed c = between 32 255 c && not (eqb c 127)

-- the two terminators
pub data End : Type 0 where
  cr crlf : End

-- a line: its text, and its terminator or none
pub record Line : Type 0 where
  pub text : List ℕ
  pub end : Option End

abbrev pub end_bytes : Option End → List ℕ
end_bytes none = []
end_bytes (some cr) = CR ∷ []
end_bytes (some crlf) = CR ∷ LF ∷ []

-- the bytes of some lines
abbrev pub joined : List Line → List ℕ
joined [] = []
joined (l ∷ ls) = l.text ++ (end_bytes l.end ++ joined ls)

abbrev pub has_no_cr : List ℕ → Bool
has_no_cr text = all (λ c. not (eqb c CR)) text

abbrev pub starts_with_lf : List ℕ → Bool
starts_with_lf [] = false
starts_with_lf (c ∷ l) = eqb c LF

-- what stands after a line: no LF after a CR alone, for it would belong to the terminator; nothing after a line without its CR, which has a byte
abbrev pub Follows : Option End → List ℕ → List Line → Type 0
Follows none text after = (is_empty text ≡ false) × (is_empty after ≡ true)
Follows (some cr) text after = starts_with_lf (joined after) ≡ false
Follows (some crlf) text after = Unit {0}

abbrev pub AreLines : List Line → Type 0
AreLines [] = Unit {0}
AreLines (l ∷ after) = (has_no_cr l.text ≡ true) × Follows l.end l.text after × AreLines after

-- the lines of a file; "an empty file has none"
pub record Lines (file : List ℕ) (lines : List Line) : Type 0 where
  pub bytes : file ≡ joined lines
  pub are : AreLines lines

abbrev pub is_ended : Option End → Bool
is_ended none = false
is_ended (some e) = true
