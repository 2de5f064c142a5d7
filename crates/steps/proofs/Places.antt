-- The place of a kept text line's code among the sixteen. Assumes nothing.
use mathlib.Core.Path.{◌≡◌, refl, sym, ap, ◌∙◌, subst}
use mathlib.Core.Bool.{Bool, true, false, cond, ◌||◌}
use mathlib.Core.List.{List, [], ◌∷◌}
use Prim.Native.Nat.{ℕ, ◌+◌, ◌<◌}
use Prim.Native.Char.{code}
use native.Mathlib.Decide.{ℕ_discrete}
use native.Mathlib.Omega.{arith}
use lib.ListN.{length, get_or}
use borrow.Author.Tests.{ne_eqb}
use Rattle.kit.specs.Lists.{same, is_one_of}
use Rattle.kit.proofs.Bools.{clash}
use Rattle.law.specs.Columns.{blank, part, code_field}
use Rattle.law.specs.Text.{text_codes}
use Rattle.law.specs.Items.{kept-text, kind_of}
use Rattle.law.proofs.Seats.{text-listed}
use Rattle.fields.proofs.Columns.{cells_three}
use Rattle.records.proofs.Codes.{text_last}
use Rattle.join.specs.Store.{code_place}
use Rattle.steps.specs.Counts.{place_of_code, place_in0, place_in1, place_in2}

-- a code that is one of a list has its place in it
place_in_lem : (a : List ℕ) (i : ℕ) (l : List (List ℕ)) → is_one_of a l ≡ true → code_place a i l < i + length l
unfolding code_place
place_in_lem a i [] e = clash e
place_in_lem a i (c ∷ l) e = go (same a c) e (place_in_lem a (i + 1) l)
  where
    go : (v : Bool) → v || is_one_of a l ≡ true → (is_one_of a l ≡ true → code_place a (i + 1) l < i + 1 + length l) → cond v i (code_place a (i + 1) l) < i + length (c ∷ l)
    go true e ih = omega arith
    go false e ih = let h = ih e in omega (arith, h)

module _ (row : List ℕ) (e : kind_of row ≡ kept-text) (a b : ℕ) (p : a ≡ get_or row 0 blank) (q : b ≡ get_or row 1 blank) where
  abbrev third : ℕ
  third = get_or row 2 blank

  code_is : a ∷ b ∷ third ∷ [] ≡ part code_field row
  code_is = cc (cells_three row 0)

  last_is : third ≡ code "2"
  last_is = go (ℕ_discrete third (code "2"))
    where
      go : Dec (third ≡ code "2") → third ≡ code "2"
      go (yes d) = d
      go (no d) = clash (sym (text_last a b third d) ∙ ap (λ (x : List ℕ). is_one_of x text_codes) code_is ∙ text-listed row e)

  pub code_place_lem : (place_of_code a b ≡ code_place (part code_field row) 0 text_codes) × (place_of_code a b < 16)
  code_place_lem =
      let u : place_of_code a b ≡ code_place (part code_field row) 0 text_codes = ap (λ (z : ℕ). code_place (a ∷ b ∷ z ∷ []) 0 text_codes) (sym last_is) ∙ ap (λ (x : List ℕ). code_place x 0 text_codes) code_is in
      (u, subst (λ (k : ℕ). k < 16) (sym u) (place_in_lem (part code_field row) 0 text_codes (text-listed row e)))

-- ---- second bytes of no code, and first ones
pub other_in_0 : (b : ℕ) → (b ≡ code "1" → ⊥) → (b ≡ code "2" → ⊥) → (b ≡ code "3" → ⊥) → (b ≡ code "4" → ⊥) → (b ≡ code "5" → ⊥) → (b ≡ code "6" → ⊥) → (b ≡ code "7" → ⊥) → (b ≡ code "9" → ⊥) → 16 ≡ place_in0 b
unfolding code_place
other_in_0 b k1 k2 k3 k4 k5 k6 k7 k9 = rw (ne_eqb b (code "1") k1, ne_eqb b (code "2") k2, ne_eqb b (code "3") k3, ne_eqb b (code "4") k4, ne_eqb b (code "5") k5, ne_eqb b (code "6") k6, ne_eqb b (code "7") k7, ne_eqb b (code "9") k9) refl

pub other_in_1 : (b : ℕ) → (b ≡ code "0" → ⊥) → (b ≡ code "1" → ⊥) → (b ≡ code "2" → ⊥) → (b ≡ code "3" → ⊥) → (b ≡ code "9" → ⊥) → 16 ≡ place_in1 b
unfolding code_place
other_in_1 b k0 k1 k2 k3 k9 = rw (ne_eqb b (code "0") k0, ne_eqb b (code "1") k1, ne_eqb b (code "2") k2, ne_eqb b (code "3") k3, ne_eqb b (code "9") k9) refl

pub other_in_2 : (b : ℕ) → (b ≡ code "0" → ⊥) → (b ≡ code "1" → ⊥) → (b ≡ code "2" → ⊥) → 16 ≡ place_in2 b
unfolding code_place
other_in_2 b k0 k1 k2 = rw (ne_eqb b (code "0") k0, ne_eqb b (code "1") k1, ne_eqb b (code "2") k2) refl

pub other_code : (a b : ℕ) → (a ≡ code "0" → ⊥) → (a ≡ code "1" → ⊥) → (a ≡ code "2" → ⊥) → 16 ≡ place_of_code a b
unfolding code_place
other_code a b p q r = rw (ne_eqb a (code "0") p, ne_eqb a (code "1") q, ne_eqb a (code "2") r) refl
