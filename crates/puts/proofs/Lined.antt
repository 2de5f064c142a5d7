-- The loops that put one line, or one round, after the other, all of one width: how each begins, one turn, how it ends. Assumes nothing.
use mathlib.Core.Path.{◌≡◌, refl, sym, ap, ◌∙◌}
use mathlib.Core.List.{List, [], ◌∷◌, ◌++◌, map}
use Prim.Native.Nat.{ℕ, zero, suc, ◌+◌, ◌*◌, ◌-◌, ◌≤◌, ◌<◌}
use native.Mathlib.Nat.{zero-mul, suc-mul, mul-le-mul_right}
use native.Mathlib.Numerals.{add-one}
use native.Mathlib.Omega.{arith}
use lib.ListN.{length, get_or, take}
use lib.Seq.{take-suc, take_all, take-length}
use Rattle.kit.specs.Lists.{flat, from}
use Rattle.kit.proofs.Lists.{flat_snoc, length_from}
use Rattle.puts.specs.Puts.{Puts}
use Rattle.puts.proofs.Puts.{puts_as, puts_none, puts_then}

-- the first j of l are put, f giving the bytes of each, w of them
pub record Lined {A : Type 0} (f : A → List ℕ) (w : ℕ) (l : List A) (n at : ℕ) (x y : List ℕ) (j next : ℕ) : Type 0 where
  pub upto : j ≤ n
  pub put : Puts (flat f (take j l)) (j * w) at x y next

module _ {A : Type 0} {f : A → List ℕ} {w : ℕ} {l : List A} {n at : ℕ} {x : List ℕ} where
  pub lined_none : at + n * w ≤ length x → Lined f w l n at x x 0 at
  unfolding flat
  lined_none r = record { upto = omega arith; put = puts_as refl (sym (zero-mul w)) refl (puts_none (omega arith)) }

  -- there is room for one more
  pub lined_room : {y : List ℕ} {j next : ℕ} → Lined f w l n at x y j next → j < n → at + n * w ≤ length x → next + w ≤ length y
  lined_room {y} {j} {next} h a r =
      let m : suc j * w ≤ n * w = mul-le-mul_right w a in
      let s : suc j * w ≡ j * w + w = suc-mul j w in
      let e = h.put.ends in
      let k = h.put.long in
      omega arith

  -- or for its first bytes, u of them
  pub lined_front : {y : List ℕ} {j next : ℕ} (u v : ℕ) → w ≡ u + v → Lined f w l n at x y j next → j < n → at + n * w ≤ length x → next + u ≤ length y
  lined_front {y} {j} {next} u v e h a r = let s = lined_room h a r in omega arith

  pub lined_next : {y z : List ℕ} {j next next' : ℕ} (d : A) → Lined f w l n at x y j next → j < n → n ≤ length l → Puts (f (get_or l j d)) w next y z next' → Lined f w l n at x z (j + 1) next'
  lined_next {y} {z} {j} {next} {next'} d h a b p =
      record {
        upto = omega arith;
        put =
            puts_as
            (sym (ap (λ (k : ℕ). flat f (take k l)) (add-one j) ∙ ap (flat f) (take-suc l j d (omega arith)) ∙ flat_snoc f (take j l) (get_or l j d)))
            (sym (ap (λ (k : ℕ). k * w) (add-one j) ∙ suc-mul j w))
            refl
            (puts_then h.put p);
      }

  pub lined_all : {y : List ℕ} {j next : ℕ} → Lined f w l n at x y j next → n ≤ j → Puts (flat f (take n l)) (n * w) at x y next
  lined_all {y} {j} {next} h a = let u = h.upto in let e : j ≡ n = omega arith in puts_as (ap (λ (k : ℕ). flat f (take k l)) e) (ap (λ (k : ℕ). k * w) e) refl h.put

-- ---- over a run of numbers
pub from_at : (i n k : ℕ) → k < n → get_or (from i n) k 0 ≡ i + k
from_at i zero k l = absurd (omega arith)
from_at i (suc n) zero l = omega arith
from_at i (suc n) (suc k) l = from_at (i + 1) n k (omega arith) ∙ omega arith

pub from-long : (i n : ℕ) → n ≤ length (from i n)
from-long i n = let e = length_from i n in omega arith

pub take-from : (i n : ℕ) → take n (from i n) ≡ from i n
take-from i n = take_all n (from i n) (let e = length_from i n in omega arith)

-- one turn more is one turn less to come
pub turn_less : {i n : ℕ} → i < n → n - (i + 1) < n - i
turn_less l = omega arith

pub flat_map : {A B C : Type 0} (f : B → List C) (h : A → B) (l : List A) → flat (λ a. f (h a)) l ≡ flat f (map h l)
unfolding flat
flat_map f h [] = refl
flat_map f h (a ∷ l) = ap (λ (r : List _). f (h a) ++ r) (flat_map f h l)

-- all of l
pub lined_map : {A B : Type 0} (g : B → List ℕ) (h : A → B) {w : ℕ} {l : List A} {at : ℕ} {x y : List ℕ} {j next : ℕ} → Lined (λ a. g (h a)) w l (length l) at x y j next → length l ≤ j → Puts (flat g (map h l)) (length l * w) at x y next
lined_map g h {l = l} p a = puts_as (flat_map g h (take (length l) l) ∙ ap (λ (r : List _). flat g (map h r)) (take-length l)) refl refl (lined_all p a)
