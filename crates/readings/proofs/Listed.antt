-- Lists by their cells: what is asked of all and of each after those before it, the first cells of a list, and a run in which nothing is found. Assumes nothing.
use mathlib.Core.Path.{◌≡◌, refl, sym, ◌∙◌, subst}
use mathlib.Core.Bool.{Bool, true, false}
use mathlib.Core.Option.{none}
use mathlib.Core.List.{List, [], ◌∷◌, ◌++◌, append-nil}
use Prim.Native.Nat.{ℕ, zero, suc, ◌+◌, ◌≤◌, ◌<◌}
use native.Mathlib.Decide.{dec_lt}
use native.Mathlib.Omega.{arith}
use lib.ListN.{length, get_or, take, get_or-eq_default}
use lib.Seq.{append_snoc, get_or-take, length-take-le, ext_get_or}
use Rattle.kit.specs.Lists.{all, each_after}
use Rattle.kit.proofs.Bools.{clash, and, both, not_so}
use Rattle.join.specs.Grid.{first_from, some_below}
use Rattle.join.proofs.Firsts.{some_at}
use Rattle.readings.specs.Good.{Unused}

-- ---- a run
pub none_from : (f : ℕ → Bool) (i n : ℕ) → ((k : ℕ) → i ≤ k → k < i + n → f k ≡ false) → first_from f i n ≡ none
unfolding first_from
none_from f i zero h = refl
none_from f i (suc n) h = rw (h i (omega arith) (omega arith)) (none_from f (i + 1) n (λ k a b. h k (omega arith) (omega arith)))

pub none_below : (f : ℕ → Bool) (n : ℕ) → ((k : ℕ) → k < n → f k ≡ false) → some_below f n ≡ false
none_below f n h = not_so (some_below f n) (λ e. let u = some_at f n e in clash (sym (h u.0 u.1) ∙ u.2))

-- ---- all, and each after those before it
module _ {A : Type 0} (d : A) where
  pub all-at : (f : A → Bool) (l : List A) → all f l ≡ true → (k : ℕ) → k < length l → f (get_or l k d) ≡ true
  all-at f [] h k m = absurd (omega arith)
  all-at f (x ∷ l) h zero m = (and (f x) (all f l) h).0
  all-at f (x ∷ l) h (suc k) m = all-at f l (and (f x) (all f l) h).1 k (omega arith)

  pub at_all : (f : A → Bool) (l : List A) → ((k : ℕ) → k < length l → f (get_or l k d) ≡ true) → all f l ≡ true
  at_all f [] h = refl
  at_all f (x ∷ l) h = both (h 0 (omega arith)) (at_all f l (λ k m. h (suc k) (omega arith)))

  pub after_at : (f : List A → A → Bool) (e l : List A) → each_after f e l ≡ true → (k : ℕ) → k < length l → f (e ++ take k l) (get_or l k d) ≡ true
  after_at f e [] h k m = absurd (omega arith)
  after_at f e (x ∷ l) h zero m = rw append-nil (and (f e x) (each_after f (e ++ (x ∷ [])) l) h).0
  after_at f e (x ∷ l) h (suc k) m =
      subst (λ (b : List A). f b (get_or l k d) ≡ true) (append_snoc e x (take k l)) (after_at f (e ++ (x ∷ [])) l (and (f e x) (each_after f (e ++ (x ∷ [])) l) h).1 k (omega arith))

  pub at_after : (f : List A → A → Bool) (e l : List A) → ((k : ℕ) → k < length l → f (e ++ take k l) (get_or l k d) ≡ true) → each_after f e l ≡ true
  at_after f e [] h = refl
  at_after f e (x ∷ l) h =
      both (rw append-nil at (h 0 (omega arith)))
      (at_after f (e ++ (x ∷ [])) l (λ k m. subst (λ (b : List A). f b (get_or l k d) ≡ true) (sym (append_snoc e x (take k l))) (h (suc k) (omega arith))))

-- ---- the first n cells of a list, of which those up to m hold d
module _ {A : Type 0} (d : A) (n m : ℕ) (l : List A) where
  pub taken_at : n ≤ length l → Unused d n m l → (i : ℕ) → i < m → get_or l i d ≡ get_or (take n l) i d
  taken_at room rest i b = go (dec_lt i n)
    where
      go : Dec (i < n) → get_or l i d ≡ get_or (take n l) i d
      go (yes c) = sym (get_or-take n l i d c)
      go (no c) = rest i (omega arith) b ∙ sym (get_or-eq_default (take n l) d {n = i} (let z = length-take-le n l room in omega arith))

  module _ (k : List A) (same : (i : ℕ) → i < m → get_or l i d ≡ get_or k i d) (long : n ≡ length k) where
    pub rest_of : Unused d n m l
    rest_of i a b = same i b ∙ get_or-eq_default k d {n = i} (omega arith)

    pub taken_is : m ≤ length l → n ≤ m → take n l ≡ k
    taken_is room few =
        let z = length-take-le n l (omega arith) in
        ext_get_or d (take n l) k (z ∙ long) (λ i a. get_or-take n l i d (omega arith) ∙ same i (omega arith))
