-- The sixteen codes of kept text by their last byte. Assumes nothing.
use mathlib.Core.Path.{◌≡◌, ap}
use mathlib.Core.Bool.{false}
use mathlib.Core.List.{List, [], ◌∷◌}
use Prim.Native.Nat.{ℕ}
use Prim.Native.Char.{code}
use lib.ListN.{get_or}
use borrow.Author.Tests.{ne_eqb}
use Rattle.kit.specs.Lists.{is_one_of}
use Rattle.law.specs.Columns.{blank, part, code_field}
use Rattle.law.specs.Text.{text_codes}
use Rattle.fields.proofs.Columns.{cells_three}
use Rattle.fields.proofs.Keys.{and-false}

pub text_last : (a b c : ℕ) → (c ≡ code "2" → ⊥) → is_one_of (a ∷ b ∷ c ∷ []) text_codes ≡ false
text_last a b c e = simp (ne_eqb c (code "2") e, and-false)

pub text_of_columns : (row : List ℕ) (a b c : ℕ) → a ≡ get_or row 0 blank → b ≡ get_or row 1 blank → c ≡ get_or row 2 blank
    → is_one_of (a ∷ b ∷ c ∷ []) text_codes ≡ is_one_of (part code_field row) text_codes
text_of_columns row a b c p q r = let e : a ∷ b ∷ c ∷ [] ≡ part code_field row = cc (cells_three row 0) in ap (λ (l : List ℕ). is_one_of l text_codes) e
