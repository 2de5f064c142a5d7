-- The loop that puts a number: how it begins, one turn, how it ends. Assumes nothing.
use mathlib.Core.Path.{◌≡◌, refl, sym, ap, ◌∙◌}
use mathlib.Core.Bool.{Bool, true, false, cond}
use mathlib.Core.List.{List, [], ◌∷◌, ◌++◌, append_assoc, append-nil}
use Prim.Native.Nat.{ℕ, ◌+◌, ◌-◌, ◌/◌, ◌≤◌, ◌<◌}
use native.Mathlib.Omega.{arith}
use lib.Dec.{eqb}
use lib.ListN.{length, set}
use Rattle.law.specs.Writing.{digit, filled}
use Rattle.puts.specs.Puts.{Puts, run}
use Rattle.puts.specs.Numbers.{rest}
use Rattle.puts.proofs.Puts.{puts_as, puts_at, puts_none, puts_before}
use Rattle.puts.proofs.Numbers.{rest_last}

-- ---- the upper columns of a number, w of them, of which the last are put: i are left, and of the number `left`
pub record Showing (fill w n at : ℕ) (x y : List ℕ) (i left : ℕ) : Type 0 where
  pub upto : i ≤ w
  pub done : List ℕ
  pub said : rest (run fill) w n ≡ rest (run fill) i left ++ done
  pub put : Puts done (w - i) (at + i) x y (at + w)

module _ {fill w n at : ℕ} {x : List ℕ} where
  pub showing_none : at + w ≤ length x → Showing fill w n at x x w n
  showing_none r = record { upto = omega arith; done = []; said = sym (append-nil (rest (run fill) w n)); put = puts_as refl (omega arith) refl (puts_none r) }

  pub showing_next : {y : List ℕ} {i left v : ℕ} → Showing fill w n at x y i left → 0 < i → v ≡ cond (eqb left 0) fill (digit left) → Showing fill w n at x (set y (at + (i - 1)) v) (i - 1) (left / 10)
  showing_next {y} {i} {left} {v} h l e =
      let k : i - 1 + 1 ≡ i = omega arith in
      let u = h.upto in
      record {
        upto = omega arith;
        done = v ∷ h.done;
        said =
            h.said
            ∙ ap (λ (m : List ℕ). m ++ h.done) (ap (λ (m : ℕ). rest (run fill) m left) (sym k) ∙ rest_last fill (i - 1) left ∙ ap (λ (d : ℕ). rest (run fill) (i - 1) (left / 10) ++ (d ∷ [])) (sym e))
            ∙ append_assoc (rest (run fill) (i - 1) (left / 10)) (v ∷ []) h.done;
        put = puts_as refl (omega arith) refl (puts_before (puts_at (omega arith) h.put));
      }

  pub showing_all : {y : List ℕ} {i left : ℕ} → Showing fill w n at x y i left → i ≤ 0 → Puts (rest (run fill) w n) w at x y (at + w)
  showing_all {y} {i} {left} h l =
      let z : i ≡ 0 = omega arith in
      puts_as (sym (h.said ∙ ap (λ (m : List ℕ). m ++ h.done) (ap (λ (k : ℕ). rest (run fill) k left) z ∙ none (eqb left 0)))) (omega arith) refl (puts_at (omega arith) h.put)
    where
      none : (b : Bool) → cond b (run fill 0) (filled (run fill) 0 left) ≡ []
      none true = refl
      none false = refl
