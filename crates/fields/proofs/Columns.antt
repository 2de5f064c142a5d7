-- Columns one by one: what a loop over the columns of a line has before it at each turn. Assumes nothing.
use mathlib.Core.Path.{◌≡◌, refl, sym, ap, ap₂, ◌∙◌}
use mathlib.Core.List.{List, [], ◌∷◌}
use Prim.Native.Nat.{ℕ, zero, suc, ◌+◌, ◌-◌, ◌≤◌, ◌<◌}
use native.Mathlib.Nat.{add-zero, sub-zero}
use native.Mathlib.Numerals.{add-one, towards_suc}
use native.Mathlib.Omega.{arith}
use lib.ListN.{length, get_or, drop, drop_of_length-le}
use lib.Seq.{drop-cons}
use Rattle.law.specs.Columns.{blank, cells}

-- within a list the default plays no part
pub get_d_any : {A : Type 0} (l : List A) (i : ℕ) (d e : A) → i < length l → get_or l i d ≡ get_or l i e
get_d_any [] i d e h = absurd (omega arith)
get_d_any (x ∷ l) zero d e h = refl
get_d_any (x ∷ l) (suc i) d e h = get_d_any l i d e (omega arith)

pub cells-nil : (row : List ℕ) (i : ℕ) → cells row i 0 ≡ []
unfolding cells
cells-nil row i = refl

-- a field is its first column and the rest
pub cells-cons : (row : List ℕ) (i w : ℕ) → cells row i (suc w) ≡ get_or row i blank ∷ cells row (suc i) w
unfolding cells
cells-cons [] zero w = refl
cells-cons [] (suc i) w = refl
cells-cons (x ∷ row) zero w = refl
cells-cons (x ∷ row) (suc i) w = cells-cons row i w

pub cells_one : (row : List ℕ) (i : ℕ) → cells row i 1 ≡ get_or row i blank ∷ []
cells_one row i = simp (cells-cons row i 0, cells-nil) refl

pub cells_three : (row : List ℕ) (i : ℕ) → cells row i 3 ≡ get_or row i blank ∷ get_or row (i + 1) blank ∷ get_or row (i + 2) blank ∷ []
cells_three row i = simp (cells-cons row i 2, cells-cons row (suc i) 1, cells-cons row (suc (suc i)) 0, cells-nil, towards_suc) refl

pub cells-four : (row : List ℕ) (i : ℕ) → cells row i 4 ≡ get_or row i blank ∷ get_or row (i + 1) blank ∷ get_or row (i + 2) blank ∷ get_or row (i + 3) blank ∷ []
cells-four row i = simp (cells-cons row i 3, cells-cons row (suc i) 2, cells-cons row (suc (suc i)) 1, cells-cons row (suc (suc (suc i))) 0, cells-nil, towards_suc) refl

-- ---- a function of the w columns after j, of which a loop has passed i
module _ {A : Type 0} (F : List ℕ → A) (row : List ℕ) (j w : ℕ) where
  pub whole : F (cells row j w) ≡ F (cells row (j + 0) (w - 0))
  whole = ap₂ (λ (k v : ℕ). F (cells row k v)) (sym (add-zero j)) (sym (sub-zero w))

  -- c stands in the next column
  pub turn : (i c : ℕ) → i < w → c ≡ get_or row (j + i) blank → F (cells row (j + i) (w - i)) ≡ F (c ∷ cells row (j + (i + 1)) (w - (i + 1)))
  turn i c h at =
      let p : w - i ≡ suc (w - (i + 1)) = omega arith in
      let q : suc (j + i) ≡ j + (i + 1) = omega arith in
      ap (λ (k : ℕ). F (cells row (j + i) k)) p
      ∙ ap F (cells-cons row (j + i) (w - (i + 1)))
      ∙ ap₂ (λ (x k : ℕ). F (x ∷ cells row k (w - (i + 1)))) (sym at) q

  pub ends : (i : ℕ) → w ≤ i → F (cells row (j + i) (w - i)) ≡ F []
  ends i h =
      let p : w - i ≡ 0 = omega arith in
      ap (λ (k : ℕ). F (cells row (j + i) k)) p ∙ ap F (cells-nil row (j + i))

-- ---- a function of what stands after the first k bytes
module _ {A : Type 0} (F : List ℕ → A) (row : List ℕ) (k : ℕ) where
  pub next : k < length row → F (drop k row) ≡ F (get_or row k 0 ∷ drop (k + 1) row)
  next h = rw (add-one, drop-cons row k 0)

  pub past : length row ≤ k → F (drop k row) ≡ F []
  past h = ap F (drop_of_length-le row {i = k} h)
