-- The loops that look at 0, 1, .., n - 1 in their order: for the first that passes a test, the greatest, the sum. Of each: how it begins, one turn, how it
-- ends. Assumes nothing.
use mathlib.Core.Path.{◌≡◌, refl, sym, ap, ◌∙◌}
use mathlib.Core.Bool.{Bool, true, false, ◌||◌}
use mathlib.Core.Option.{Option, none, some}
use Prim.Native.Nat.{ℕ, suc, ◌+◌, ◌-◌, ◌≤◌, ◌<◌, max}
use native.Mathlib.Nat.{le_antisymm}
use native.Mathlib.Numerals.{add-one}
use native.Mathlib.Omega.{arith}
use Rattle.join.specs.Grid.{first_from, most_from, sum_from, some_below}

-- the first that passes: i are passed, and what is left comes to the whole; `tell` makes the answer of it: a turn, a player or a record
pub record Seeking (f : ℕ → Bool) (n i : ℕ) : Type 0 where
  pub upto : i ≤ n
  pub rest : first_from f i (n - i) ≡ first_from f 0 n

module _ (f : ℕ → Bool) (n : ℕ) where
  pub seek_none : Seeking f n 0
  seek_none = record { upto = omega arith; rest = ap (first_from f 0) (omega arith) }

module _ {f : ℕ → Bool} {n i : ℕ} (s : Seeking f n i) where
  pub seek_hit : {A : Type 0} (tell : Option ℕ → A) → i < n → f i ≡ true → tell (some i) ≡ tell (first_from f 0 n)
  unfolding first_from
  seek_hit tell l h =
      let e : n - i ≡ suc (n - (i + 1)) = omega arith in
      let r : first_from f i (n - i) ≡ some i = rw (e, h) in
      ap tell (sym r ∙ s.rest)

  pub seek_more : i < n → f i ≡ false → Seeking f n (i + 1)
  unfolding first_from
  seek_more l h =
      let e : n - i ≡ suc (n - (i + 1)) = omega arith in
      let r : first_from f i (n - i) ≡ first_from f (i + 1) (n - (i + 1)) = rw (e, h) in
      record { upto = omega arith; rest = sym r ∙ s.rest }

  pub seek_end : {A : Type 0} (tell : Option ℕ → A) → n ≤ i → tell none ≡ tell (first_from f 0 n)
  unfolding first_from
  seek_end tell l =
      let e : n - i ≡ 0 = omega arith in
      let r : first_from f i (n - i) ≡ none = rw e in
      ap tell (sym r ∙ s.rest)

-- the greatest so far, m
pub record Climbing (f : ℕ → ℕ) (n i m : ℕ) : Type 0 where
  pub upto : i ≤ n
  pub rest : max m (most_from f i (n - i)) ≡ most_from f 0 n

module _ {f : ℕ → ℕ} {n : ℕ} where
  pub climb_none : Climbing f n 0 0
  climb_none = record { upto = omega arith; rest = let e : n - 0 ≡ n = omega arith in rw e (omega arith) }

  pub climb_more : {i m : ℕ} → Climbing f n i m → i < n → (v w : ℕ) → v ≡ f i → w ≡ max m v → Climbing f n (i + 1) w
  unfolding most_from
  climb_more {i} {m} s l v w p q =
      let e : n - i ≡ suc (n - (i + 1)) = omega arith in
      let r : max m (max (f i) (most_from f (i + 1) (n - (i + 1)))) ≡ most_from f 0 n = rw e at s.rest in
      record { upto = omega arith; rest = omega arith }

  pub climb_end : {i m : ℕ} → Climbing f n i m → n ≤ i → m ≡ most_from f 0 n
  unfolding most_from
  climb_end {i} {m} s l =
      let e : n - i ≡ 0 = omega arith in
      let r : max m 0 ≡ most_from f 0 n = rw e at s.rest in
      omega arith

-- the sum so far, m
pub record Adding (f : ℕ → ℕ) (n i m : ℕ) : Type 0 where
  pub upto : i ≤ n
  pub rest : m + sum_from f i (n - i) ≡ sum_from f 0 n

module _ {f : ℕ → ℕ} {n : ℕ} where
  pub add_none : Adding f n 0 0
  add_none = record { upto = omega arith; rest = let e : n - 0 ≡ n = omega arith in rw e (omega arith) }

  pub add_more : {i m : ℕ} → Adding f n i m → i < n → (v : ℕ) → v ≡ f i → Adding f n (i + 1) (m + v)
  unfolding sum_from
  add_more {i} {m} s l v p =
      let e : n - i ≡ suc (n - (i + 1)) = omega arith in
      let r : m + (f i + sum_from f (i + 1) (n - (i + 1))) ≡ sum_from f 0 n = rw e at s.rest in
      record { upto = omega arith; rest = omega arith }

  pub add-end : {i m : ℕ} → Adding f n i m → n ≤ i → m ≡ sum_from f 0 n
  unfolding sum_from
  add-end {i} {m} s l =
      let e : n - i ≡ 0 = omega arith in
      let r : m + 0 ≡ sum_from f 0 n = rw e at s.rest in
      omega arith

-- whether one of the first i passes: v
pub record Asking (f : ℕ → Bool) (n i : ℕ) (v : Bool) : Type 0 where
  pub upto : i ≤ n
  pub so_far : v ≡ some_below f i

module _ {f : ℕ → Bool} {n : ℕ} where
  pub ask_none : Asking f n 0 false
  unfolding some_below
  ask_none = record { upto = omega arith; so_far = refl }

  pub ask_more : {i : ℕ} {v : Bool} → Asking f n i v → i < n → (w : Bool) → w ≡ f i → Asking f n (i + 1) (v || w)
  unfolding some_below
  ask_more {i} {v} s l w e = record { upto = omega arith; so_far = rw (add-one i, s.so_far, e) refl }

  pub ask_end : {i : ℕ} {v : Bool} → Asking f n i v → n ≤ i → v ≡ some_below f n
  ask_end {i} s l = s.so_far ∙ ap (some_below f) (le_antisymm s.upto l)
