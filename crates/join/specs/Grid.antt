-- Cells by place and round, in an order that is told by two inverse laws, and the first number of a run that passes a test.
use Rattle.std.specs.Prelude.{◌≡◌, Bool, false, cond, ◌||◌, List, [], ℕ, zero, suc, ◌+◌, ◌-◌, ◌≤◌, ◌<◌, max, get_or, set}
use Rattle.std.proofs.Math.Option.{Option, none, some}

-- an order of n cells by place (from 0) and round (from 1)
pub record Order (n places rounds : ℕ) (cell : ℕ → ℕ → ℕ) (place round : ℕ → ℕ) : Type 0 where
  pub within : (p r : ℕ) → p < places → 1 ≤ r → r ≤ rounds → cell p r < n
  pub place_of : (p r : ℕ) → p < places → 1 ≤ r → r ≤ rounds → place (cell p r) ≡ p
  pub round_of : (p r : ℕ) → p < places → 1 ≤ r → r ≤ rounds → round (cell p r) ≡ r
  pub back : (i : ℕ) → i < n → cell (place i) (round i) ≡ i
  pub place_in_lem : (i : ℕ) → i < n → place i < places
  pub round_in : (i : ℕ) → i < n → (1 ≤ round i) × (round i ≤ rounds)

-- the first k of a row's values in the cells of place p; d is what a value past the row's end reads as
unfoldable pub put_row : {A : Type 0} → A → (ℕ → ℕ → ℕ) → List A → ℕ → List A → ℕ → List A
put_row d cell x p v zero = x
put_row d cell x p v (suc k) = set (put_row d cell x p v k) (cell p (suc k)) (get_or v k d)

-- part of the entry at place p and round r
abbrev pub entry_in : {E : Type 0} → (E → ℕ) → E → List (List E) → ℕ → ℕ → ℕ
entry_in part absent es p r = part (get_or (get_or es p []) (r - 1) absent)

-- the first of i, i + 1, .., of which there are n, that passes a test
unfoldable pub first_from : (ℕ → Bool) → ℕ → ℕ → Option ℕ
first_from f i zero = none
first_from f i (suc n) = cond (f i) (some i) (first_from f (i + 1) n)

-- the greatest of f i, f (i + 1), .., of which there are n; or 0
unfoldable pub most_from : (ℕ → ℕ) → ℕ → ℕ → ℕ
most_from f i zero = 0
most_from f i (suc n) = max (f i) (most_from f (i + 1) n)

unfoldable pub sum_from : (ℕ → ℕ) → ℕ → ℕ → ℕ
sum_from f i zero = 0
sum_from f i (suc n) = f i + sum_from f (i + 1) n

-- whether a test holds at some number below n
unfoldable pub some_below : (ℕ → Bool) → ℕ → Bool
some_below f zero = false
some_below f (suc n) = some_below f n || f n
