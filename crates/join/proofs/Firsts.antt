-- The first number of a run and the first label of a list; the greatest, a sum, some below: each by index and by list. Assumes nothing.
use mathlib.Core.Path.{◌≡◌, refl, sym, ap, ◌∙◌}
use mathlib.Core.Bool.{Bool, true, false, cond, ◌||◌}
use mathlib.Core.Option.{Option, none, some}
use mathlib.Core.List.{List, [], ◌∷◌, map}
use Prim.Native.Nat.{ℕ, zero, suc, ◌+◌, ◌≤◌, ◌<◌, max}
use native.Mathlib.Decide.{dec_lt, ℕ_discrete}
use native.Mathlib.Nat.{add-zero, zero-add, le_antisymm}
use native.Mathlib.Omega.{arith}
use lib.ListN.{length, get_or, take}
use lib.Seq.{get_or-take, length-take-le}
use Rattle.kit.specs.Lists.{any, first, from, top, sum_of}
use Rattle.kit.specs.Decides.{to, is_some}
use Rattle.kit.proofs.Bools.{both_ways}
use Rattle.kit.proofs.Lists.{top-low, top-past}
use Rattle.join.specs.Grid.{first_from, most_from, sum_from, some_below}

pub first_as : (f g : ℕ → Bool) (i n : ℕ) → ((k : ℕ) → i ≤ k → k < i + n → f k ≡ g k) → first_from f i n ≡ first_from g i n
unfolding first_from
first_as f g i zero h = refl
first_as f g i (suc n) h = rw (h i (omega arith) (omega arith), first_as f g (i + 1) n (λ k a b. h k (omega arith) (omega arith)))

-- labels listed by their number
pub first-listed : {L : Type 0} (t : L → Bool) (lab : ℕ → L) (i n : ℕ) → first t (map lab (from i n)) ≡ to lab (first_from (λ k. t (lab k)) i n)
unfolding first_from
first-listed t lab i zero = refl
first-listed t lab i (suc n) = go (t (lab i)) (first-listed t lab (i + 1) n)
  where
    go : (v : Bool) → first t (map lab (from (i + 1) n)) ≡ to lab (first_from (λ k. t (lab k)) (i + 1) n) → cond v (some (lab i)) (first t (map lab (from (i + 1) n))) ≡ to lab (cond v (some i) (first_from (λ k. t (lab k)) (i + 1) n))
    go true e = refl
    go false e = e

-- a list by its numbers: h at i, i + 1, .. is the list's elements
pub listed : {A : Type 0} (h : ℕ → A) (d : A) (l : List A) (i : ℕ) → ((k : ℕ) → k < length l → h (i + k) ≡ get_or l k d) → map h (from i (length l)) ≡ l
listed h d [] i e = refl
listed {A} h d (x ∷ l) i e =
    let a : h i ≡ x = ap h (sym (add-zero i)) ∙ e 0 (omega arith) in
    let b : map h (from (i + 1) (length l)) ≡ l = listed h d l (i + 1) (λ k m. ap h (omega arith) ∙ e (suc k) (omega arith)) in
    rw (a, b)

-- the first element of a list, and its number. d: what a number past the end gives
pub first_at : {A : Type 0} (t : A → Bool) (d : A) (l : List A) → first t l ≡ to (λ k. get_or l k d) (first_from (λ k. t (get_or l k d)) 0 (length l))
first_at t d l =
    ap (first t) (sym (listed (λ k. get_or l k d) d l 0 (λ k _. ap (λ (j : ℕ). get_or l j d) (zero-add k))))
    ∙ first-listed t (λ k. get_or l k d) 0 (length l)

pub first_under : (f : ℕ → Bool) (i n k : ℕ) → first_from f i n ≡ some k → (i ≤ k) × (k < i + n)
unfolding first_from
first_under f i zero k e = let z : ◌≡◌ {A = ℕ} 0 1 = cc in absurd (omega arith)
first_under f i (suc n) k e = go (f i) (first_under f (i + 1) n k) e
  where
    go : (v : Bool) → (first_from f (i + 1) n ≡ some k → (i + 1 ≤ k) × (k < i + 1 + n)) → cond v (some i) (first_from f (i + 1) n) ≡ some k → (i ≤ k) × (k < i + suc n)
    go true ih q = let u : i ≡ k = cc in (omega arith, omega arith)
    go false ih q = let u = ih q in (omega arith, omega arith)

pub first-none : (f : ℕ → Bool) (i n : ℕ) → first_from f i n ≡ none → (k : ℕ) → i ≤ k → k < i + n → f k ≡ false
unfolding first_from
first-none f i zero e k a b = absurd (omega arith)
first-none f i (suc n) e k a b = go (f i) refl (first-none f (i + 1) n) e (ℕ_discrete k i)
  where
    go : (v : Bool) → f i ≡ v → (first_from f (i + 1) n ≡ none → (j : ℕ) → i + 1 ≤ j → j < i + 1 + n → f j ≡ false) → cond v (some i) (first_from f (i + 1) n) ≡ none → Dec (k ≡ i) → f k ≡ false
    go true h ih q d = let z : ◌≡◌ {A = ℕ} 0 1 = cc in absurd (omega arith)
    go false h ih q (yes s) = rw s h
    go false h ih q (no s) = let z : k ≡ i → ⊥ = s in ih q k (omega arith) (omega arith)

-- ---- some element, by its number
pub any_at : {A : Type 0} (t : A → Bool) (d : A) (l : List A) → any t l ≡ true → (p : ℕ) × (p < length l) × (t (get_or l p d) ≡ true)
any_at t d [] e = let z : ◌≡◌ {A = ℕ} 0 1 = cc in absurd (omega arith)
any_at t d (x ∷ l) e = go (t x) refl (any_at t d l) e
  where
    go : (v : Bool) → t x ≡ v → (any t l ≡ true → (p : ℕ) × (p < length l) × (t (get_or l p d) ≡ true)) → v || any t l ≡ true → (p : ℕ) × (p < suc (length l)) × (t (get_or (x ∷ l) p d) ≡ true)
    go true q ih e = (zero, omega arith, q)
    go false q ih e = let u = ih e in (suc u.0, omega arith, u.2)

pub any_of : {A : Type 0} (t : A → Bool) (d : A) (l : List A) (p : ℕ) → p < length l → t (get_or l p d) ≡ true → any t l ≡ true
any_of t d [] p m e = absurd (omega arith)
any_of t d (x ∷ l) zero m e = rw e
any_of t d (x ∷ l) (suc p) m e = go (t x) (any_of t d l p (omega arith) e)
  where
    go : (v : Bool) → any t l ≡ true → v || any t l ≡ true
    go true h = refl
    go false h = h

-- ---- the greatest of f i, f (i + 1), ..: none is above it, and it is one of them or 0
top-holds : (t : ℕ → Bool) (m : ℕ) → 1 ≤ top t m → t (top t m) ≡ true
unfolding top
top-holds t zero h = absurd (omega arith)
top-holds t (suc m) h = go (t (suc m)) refl h (top-holds t m)
  where
    go : (v : Bool) → t (suc m) ≡ v → 1 ≤ cond v (suc m) (top t m) → (1 ≤ top t m → t (top t m) ≡ true) → t (cond v (suc m) (top t m)) ≡ true
    go true e h ih = e
    go false e h ih = ih h

most_above : (f : ℕ → ℕ) (i n k : ℕ) → i ≤ k → k < i + n → f k ≤ most_from f i n
unfolding most_from
most_above f i zero k a b = absurd (omega arith)
most_above f i (suc n) k a b = go (ℕ_discrete k i) (most_above f (i + 1) n k)
  where
    go : Dec (k ≡ i) → (i + 1 ≤ k → k < i + 1 + n → f k ≤ most_from f (i + 1) n) → f k ≤ max (f i) (most_from f (i + 1) n)
    go (yes e) ih = rw e (omega arith)
    go (no e) ih = let z : k ≡ i → ⊥ = e in let h = ih (omega arith) (omega arith) in omega arith

most_one : (f : ℕ → ℕ) (i n : ℕ) → 1 ≤ most_from f i n → (k : ℕ) × (i ≤ k) × (k < i + n) × (f k ≡ most_from f i n)
unfolding most_from
most_one f i zero h = absurd (omega arith)
most_one f i (suc n) h = go (dec_lt (f i) (most_from f (i + 1) n)) (most_one f (i + 1) n)
  where
    go : Dec (f i < most_from f (i + 1) n) → (1 ≤ most_from f (i + 1) n → (k : ℕ) × (i + 1 ≤ k) × (k < i + 1 + n) × (f k ≡ most_from f (i + 1) n)) → (k : ℕ) × (i ≤ k) × (k < i + suc n) × (f k ≡ max (f i) (most_from f (i + 1) n))
    go (yes l) ih = let u = ih (omega arith) in (u.0, omega arith, omega arith, u.3 ∙ omega arith)
    go (no l) ih = (i, omega arith, omega arith, omega arith)

-- so the greatest number found cell by cell is the highest that passes the test
pub top-most : (t : ℕ → Bool) (m : ℕ) (f : ℕ → ℕ) (n : ℕ)
    → ((k : ℕ) → k < n → f k ≤ m) → ((k : ℕ) → k < n → 1 ≤ f k → t (f k) ≡ true)
    → ((r : ℕ) → 1 ≤ r → r ≤ m → t r ≡ true → (k : ℕ) × (k < n) × (f k ≡ r))
    → most_from f 0 n ≡ top t m
top-most t m f n small holds found = le_antisymm (up (dec_lt (top t m) (most_from f 0 n))) (down (dec_lt 0 (top t m)))
  where
    up : Dec (top t m < most_from f 0 n) → most_from f 0 n ≤ top t m
    up (no l) = omega arith
    up (yes l) =
        let u = most_one f 0 n (omega arith) in
        let a = small u.0 (omega arith) in
        let x : t (f u.0) ≡ true = holds u.0 (omega arith) (omega (arith, u.3)) in
        let y : t (f u.0) ≡ false = top-past t m (f u.0) (omega (arith, u.3)) a in
        let z : ◌≡◌ {A = ℕ} 0 1 = cc in
        absurd (omega arith)

    down : Dec (0 < top t m) → top t m ≤ most_from f 0 n
    down (no l) = omega arith
    down (yes l) =
        let u = found (top t m) l (top-low t m) (top-holds t m l) in
        let a = most_above f 0 n u.0 (omega arith) (omega arith) in
        omega (arith, u.2)

-- ---- a sum over a list, by its numbers
pub sum_at_lem : {A : Type 0} (f : A → ℕ) (g : ℕ → ℕ) (d : A) (l : List A) (i : ℕ) → ((k : ℕ) → k < length l → g (i + k) ≡ f (get_or l k d)) → sum_from g i (length l) ≡ sum_of f l
unfolding sum_from
sum_at_lem f g d [] i e = refl
sum_at_lem f g d (x ∷ l) i e =
    let a : g i ≡ f x = ap g (sym (add-zero i)) ∙ e 0 (omega arith) in
    rw (a, sum_at_lem f g d l (i + 1) (λ k m. ap g (omega arith) ∙ e (suc k) (omega arith)))

-- ---- some number below n
pub some_at : (f : ℕ → Bool) (n : ℕ) → some_below f n ≡ true → (k : ℕ) × (k < n) × (f k ≡ true)
unfolding some_below
some_at f zero e = let z : ◌≡◌ {A = ℕ} 0 1 = cc in absurd (omega arith)
some_at f (suc n) e = go (some_below f n) (f n) refl e (some_at f n)
  where
    go : (a b : Bool) → f n ≡ b → a || b ≡ true → (a ≡ true → (k : ℕ) × (k < n) × (f k ≡ true)) → (k : ℕ) × (k < suc n) × (f k ≡ true)
    go true b q e ih = let u = ih refl in (u.0, omega arith, u.2)
    go false b q e ih = (n, omega arith, q ∙ e)

pub some_of : (f : ℕ → Bool) (n k : ℕ) → k < n → f k ≡ true → some_below f n ≡ true
unfolding some_below
some_of f zero k l e = absurd (omega arith)
some_of f (suc n) k l e = go (ℕ_discrete k n) (some_of f n k)
  where
    right : (a b : Bool) → b ≡ true → a || b ≡ true
    right true b h = refl
    right false b h = h

    go : Dec (k ≡ n) → (k < n → f k ≡ true → some_below f n ≡ true) → some_below f n || f n ≡ true
    go (yes q) ih = right (some_below f n) (f n) (rw q at e)
    go (no q) ih = let z : k ≡ n → ⊥ = q in rw (ih (omega arith) e)

pub some_as : (f g : ℕ → Bool) (n : ℕ) → ((k : ℕ) → k < n → f k ≡ g k) → some_below f n ≡ some_below g n
unfolding some_below
some_as f g zero h = refl
some_as f g (suc n) h = rw (some_as f g n (λ k l. h k (omega arith)), h n (omega arith))

-- an earlier element of a list
pub any-before : {A : Type 0} (t : A → Bool) (d : A) (l : List A) (p : ℕ) → p ≤ length l → any t (take p l) ≡ some_below (λ q. t (get_or l q d)) p
any-before {A} t d l p h =
    both_ways (any t (take p l)) (some_below (λ q. t (get_or l q d)) p)
    (λ e. let u = any_at t d (take p l) e in let m : u.0 < p = omega (arith, u.1, n) in some_of (λ q. t (get_or l q d)) p u.0 m (rw (get_or-take p l u.0 d m) at u.2))
    (λ e. let u = some_at (λ q. t (get_or l q d)) p e in any_of t d (take p l) u.0 (omega (arith, u.1, n)) (rw (get_or-take p l u.0 d u.1) u.2))
  where
    n : length (take p l) ≡ p
    n = length-take-le p l h

-- ---- whether some element passes a test
pub some_first : {A : Type 0} (t : A → Bool) (l : List A) → is_some (first t l) ≡ any t l
some_first t [] = refl
some_first t (x ∷ l) = go (t x) (some_first t l)
  where
    go : (v : Bool) → is_some (first t l) ≡ any t l → is_some (cond v (some x) (first t l)) ≡ v || any t l
    go true e = refl
    go false e = e

pub to_some : {A B : Type 0} (f : A → B) (o : Option A) → is_some (to f o) ≡ is_some o
to_some f none = refl
to_some f (some x) = refl
