-- A number field of four columns by its bytes: where its digits begin, and the number that they make. Assumes nothing.
use mathlib.Core.Path.{◌≡◌, refl, sym, ap, ◌∙◌}
use mathlib.Core.Bool.{Bool, true, false, cond, ◌&&◌}
use mathlib.Core.Option.{some}
use mathlib.Core.List.{List, [], ◌∷◌}
use Prim.Native.Nat.{ℕ, ◌+◌, ◌*◌}
use Prim.Native.Char.{code}
use native.Mathlib.Omega.{arith}
use borrow.Author.Tests.{eq-eqb, ne_eqb}
use Rattle.kit.specs.Lists.{all}
use Rattle.law.specs.Columns.{blank, is_blank}
use Rattle.law.specs.Fields.{is_digit, digit_value, decimal_from}
use Rattle.law.proofs.FieldsRead as law
use Rattle.std.specs.Prelude.{Option as Opt, Some, Result, Ok, Err}
use Rattle.std.specs.Result.{MatchResult, IsOkAnd}
use Rattle.types.specs.declared.Fault.{Fault}
use Rattle.types.specs.Faults.{number_of}
use Rattle.fields.specs.Said.{says, refuses, said, or_bad_field}
use Rattle.fields.specs.Fields.{number_says, or_blank}
use Rattle.fields.proofs.Cases.{never}

-- all digits, or not a number
digits-all : (n : ℕ) (ds : List ℕ) → law.digits_from n ds ≡ cond (all is_digit ds) (law.value (decimal_from n ds)) law.bad
digits-all n [] = refl
digits-all n (d ∷ ds) = ap (λ (r : law.Number). cond (is_digit d) r law.bad) (digits-all (n * 10 + digit_value d) ds) ∙ go (is_digit d) (all is_digit ds)
  where
    go : (u v : Bool) → cond u (cond v (law.value (decimal_from n (d ∷ ds))) law.bad) law.bad ≡ cond (u && v) (law.value (decimal_from n (d ∷ ds))) law.bad
    go true v = refl
    go false v = refl

-- ---- a field whose digits are ds, perhaps after zeros in place of its blanks: their number is the field's, which is then not blank
pub their_number : (field ds : List ℕ) (r : Result ℕ Fault) (s : Result (Opt ℕ) Fault) → law.number_of field ≡ law.digits_from 0 ds → said r ≡ or_bad_field (law.the_number (law.digits_from 0 ds))
    → MatchResult r (λ x. IsOkAnd s (λ y. y ≡ Some x)) (λ e. s ≡ Err e) → number_says s ≡ or_blank (law.number_of field)
their_number field ds r s start e h = rw (start ∙ digits-all 0 ds) (go (all is_digit ds) (decimal_from 0 ds) r s (e ∙ ap (λ (o : law.Number). or_bad_field (law.the_number o)) (digits-all 0 ds)) h)
  where
    go : (v : Bool) (w : ℕ) (r : Result ℕ Fault) (s : Result (Opt ℕ) Fault) → said r ≡ or_bad_field (law.the_number (cond v (law.value w) law.bad))
        → MatchResult r (λ x. IsOkAnd s (λ y. y ≡ Some x)) (λ e. s ≡ Err e) → number_says s ≡ or_blank (cond v (law.value w) law.bad)
    go true w (Ok x) (Ok y) e h = let u : x ≡ w = cc in rw h (ap (λ (k : ℕ). says (some k)) u)
    go true w (Ok x) (Err d) e h = absurd h
    go true w (Err d) s e h = never (sym e)
    go false w (Ok x) s e h = never e
    go false w (Err d) s e h = let u : number_of d ≡ 7 = cc in rw h (ap (λ (k : ℕ). refuses k) u)

-- ---- where the digits begin
module _ (a b c d : ℕ) where
  pub from_first : (a ≡ blank → ⊥) → law.number_of (a ∷ b ∷ c ∷ d ∷ []) ≡ law.digits_from 0 (a ∷ b ∷ c ∷ d ∷ [])
  from_first p = rw (ne_eqb a blank p) refl

  module _ (a-is : a ≡ blank) where
    pub from_second : (b ≡ blank → ⊥) → law.number_of (a ∷ b ∷ c ∷ d ∷ []) ≡ law.digits_from 0 (code "0" ∷ b ∷ c ∷ d ∷ [])
    from_second p = rw (eq-eqb a blank a-is, ne_eqb b blank p) refl

-- ---- a number is not blank
pub number-not-blank : (l : List ℕ) (n : ℕ) → law.number_of l ≡ law.value n → all is_blank l ≡ false
number-not-blank [] n e = let z : ◌≡◌ {A = ℕ} 0 1 = cc in absurd (omega arith)
number-not-blank (c ∷ l) n e = go (is_blank c) (number-not-blank l n) e
  where
    go : (v : Bool) → (law.number_of l ≡ law.value n → all is_blank l ≡ false) → cond v (law.number_of l) (law.digits_from 0 (c ∷ l)) ≡ law.value n → v && all is_blank l ≡ false
    go true ih q = ih q
    go false ih q = refl
