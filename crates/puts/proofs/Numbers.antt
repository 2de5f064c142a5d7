-- A number in its columns, whatever fills them: one law for every width. Assumes nothing.
use mathlib.Core.Path.{◌≡◌, refl, sym, ap, ◌∙◌}
use mathlib.Core.Bool.{Bool, true, false, cond}
use mathlib.Core.List.{List, [], ◌∷◌, ◌++◌}
use Prim.Native.Nat.{ℕ, zero, suc, ◌+◌, ◌-◌, ◌/◌, ◌≤◌, ◌<◌}
use native.Mathlib.Numerals.{add-one}
use native.Mathlib.Omega.{arith}
use lib.Dec.{eqb}
use lib.ListN.{length, length-append, length-replicate}
use borrow.Author.Tests.{eqb-true, eq-eqb, ne_eqb}
use Rattle.law.specs.Writing.{digit, filled, nothing}
use Rattle.puts.specs.Puts.{run}
use Rattle.puts.specs.Numbers.{rest}

-- ---- the width, for every number
module _ (fill : ℕ → List ℕ) (long : (k : ℕ) → length (fill k) ≡ k) where
  pub filled-wide : (w n : ℕ) → length (filled fill w n) ≡ w
  filled-wide zero n = refl
  filled-wide (suc w) n = length-append (rest fill w (n / 10)) (digit n ∷ []) ∙ ap (λ (k : ℕ). k + 1) (go (eqb (n / 10) 0) (filled-wide w (n / 10))) ∙ add-one w
    where
      go : (b : Bool) → length (filled fill w (n / 10)) ≡ w → length (cond b (fill w) (filled fill w (n / 10))) ≡ w
      go true h = long w
      go false h = h

pub run_long : (c k : ℕ) → length (run c k) ≡ k
run_long c k = length-replicate k c

-- ---- column by column, from the last
run_last : (c k : ℕ) → run c (suc k) ≡ run c k ++ (c ∷ [])
run_last c zero = refl
run_last c (suc k) = ap (λ (l : List ℕ). c ∷ l) (run_last c k)

pub rest_last : (c k n : ℕ) → rest (run c) (k + 1) n ≡ rest (run c) k (n / 10) ++ (cond (eqb n 0) c (digit n) ∷ [])
rest_last c k n = ap (λ (m : ℕ). rest (run c) m n) (add-one k) ∙ go (eqb n 0) refl
  where
    go : (b : Bool) → eqb n 0 ≡ b → cond b (run c (suc k)) (filled (run c) (suc k) n) ≡ rest (run c) k (n / 10) ++ (cond b c (digit n) ∷ [])
    go true e =
        let z = eqb-true n 0 e in
        let y : n / 10 ≡ 0 = omega arith in
        run_last c k ∙ sym (ap (λ (b : Bool). cond b (run c k) (filled (run c) k (n / 10)) ++ (c ∷ [])) (eq-eqb (n / 10) 0 y))
    go false e = refl

pub filled_last : (c w n : ℕ) {v : ℕ} → 1 ≤ w → v ≡ digit n → rest (run c) (w - 1) (n / 10) ++ (v ∷ []) ≡ filled (run c) w n
filled_last c w n {v} l e =
    let k : suc (w - 1) ≡ w = omega arith in
    ap (λ (d : ℕ). rest (run c) (w - 1) (n / 10) ++ (d ∷ [])) e ∙ ap (λ (m : ℕ). filled (run c) m n) k

-- ---- with no filling: up to two digits, as many columns as there are digits
pub one_digit : (c n : ℕ) → n < 10 → filled (run c) 1 n ≡ filled nothing 3 n
one_digit c n l = let z : n / 10 ≡ 0 = omega arith in rw (eq-eqb (n / 10) 0 z) refl

pub two_digits : (c n : ℕ) → 10 ≤ n → n < 100 → filled (run c) 2 n ≡ filled nothing 3 n
two_digits c n l m =
    let z : n / 10 / 10 ≡ 0 = omega arith in
    rw (ne_eqb (n / 10) 0 (λ e. omega arith), eq-eqb (n / 10 / 10) 0 z) refl

pub one_wide : (n : ℕ) → n < 10 → length (filled nothing 3 n) ≡ 1
one_wide n l = sym (ap length (one_digit 0 n l)) ∙ filled-wide (run 0) (run_long 0) 1 n

pub two_wide : (n : ℕ) → 10 ≤ n → n < 100 → length (filled nothing 3 n) ≡ 2
two_wide n l m = sym (ap length (two_digits 0 n l m)) ∙ filled-wide (run 0) (run_long 0) 2 n
