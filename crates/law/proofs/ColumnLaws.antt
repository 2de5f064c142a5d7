-- Laws on columns: trailing blanks change nothing, a field has its width, allowed bytes stay allowed. Assumes nothing.
use mathlib.Core.Path.{◌≡◌, refl, ap, ◌∙◌}
use mathlib.Core.Bool.{Bool, true, false, ◌&&◌}
use mathlib.Core.List.{List, [], ◌∷◌, ◌++◌}
use Prim.Native.Nat.{ℕ, zero, suc, ◌-◌}
use native.Mathlib.Omega.{arith}
use lib.ListN.{length, get_or, drop, replicate}
use Rattle.kit.specs.Lists.{all}
use Rattle.kit.proofs.Bools.{and, both, all_same}
use Rattle.law.specs.Columns.{blank, is_blank, padded, cells, col, part, width, column}
use Rattle.law.proofs.FieldsRead.{blanks-all}

pub length-padded : (w : ℕ) (l : List ℕ) → length (padded w l) ≡ w
length-padded zero l = refl
length-padded (suc w) [] = ap suc (length-padded w [])
length-padded (suc w) (x ∷ l) = ap suc (length-padded w l)

pub length-cells : (row : List ℕ) (i w : ℕ) → length (cells row i w) ≡ w
unfolding cells
length-cells row i w = length-padded w (drop i row)

-- ---- a row and the same with blanks at its end
abbrev and-blanks : List ℕ → ℕ → List ℕ
and-blanks l k = l ++ replicate k blank

pub drop-blanks : (i : ℕ) (l : List ℕ) (k : ℕ) → (j : ℕ) × (drop i (and-blanks l k) ≡ and-blanks (drop i l) j)
drop-blanks zero l k = (k, refl)
drop-blanks (suc i) [] zero = (0, refl)
drop-blanks (suc i) [] (suc k) = more i k (drop-blanks i [] k)
  where
    nothing_left : (i : ℕ) → ◌≡◌ {A = List ℕ} (drop i []) []
    nothing_left zero = refl
    nothing_left (suc i) = refl

    more : (i k : ℕ) → (j : ℕ) × (drop i (and-blanks [] k) ≡ and-blanks (drop i []) j) → (j : ℕ) × (drop i (replicate k blank) ≡ and-blanks [] j)
    more i k h = (h.0, h.1 ∙ ap (λ (l : List ℕ). and-blanks l h.0) (nothing_left i))
drop-blanks (suc i) (x ∷ l) k = drop-blanks i l k

pub all-blank-same : (l : List ℕ) (k : ℕ) → all is_blank (and-blanks l k) ≡ all is_blank l
all-blank-same l k = all_same is_blank l (replicate k blank) ∙ go (all is_blank l)
  where
    go : (b : Bool) → b && all is_blank (replicate k blank) ≡ b
    go true = blanks-all k
    go false = refl

pub drop-blank-same : (i : ℕ) (l : List ℕ) (k : ℕ) → all is_blank (drop i (and-blanks l k)) ≡ all is_blank (drop i l)
drop-blank-same i l k = let d = drop-blanks i l k in ap (all is_blank) d.1 ∙ all-blank-same (drop i l) d.0

padded-blanks : (w : ℕ) (l : List ℕ) (k : ℕ) → padded w (and-blanks l k) ≡ padded w l
padded-blanks zero l k = refl
padded-blanks (suc w) [] zero = refl
padded-blanks (suc w) [] (suc k) = ap (λ (l : List ℕ). blank ∷ l) (padded-blanks w [] k)
padded-blanks (suc w) (x ∷ l) k = ap (λ (m : List ℕ). x ∷ m) (padded-blanks w l k)

pub cells-blanks : (l : List ℕ) (k i w : ℕ) → cells (and-blanks l k) i w ≡ cells l i w
unfolding cells
cells-blanks l k i w = let d = drop-blanks i l k in ap (padded w) d.1 ∙ padded-blanks w (drop i l) d.0

pub get_or_blanks : (l : List ℕ) (k i : ℕ) → get_or (and-blanks l k) i blank ≡ get_or l i blank
get_or_blanks [] zero i = refl
get_or_blanks [] (suc k) zero = refl
get_or_blanks [] (suc k) (suc i) = get_or_blanks [] k i ∙ past i
  where
    past : (i : ℕ) → get_or [] i blank ≡ blank
    past zero = refl
    past (suc i) = refl
get_or_blanks (x ∷ l) k zero = refl
get_or_blanks (x ∷ l) k (suc i) = get_or_blanks l k i

-- ---- what holds of all characters and of a blank holds of all of a field
module _ (f : ℕ → Bool) (of-blank : f blank ≡ true) where
  all_drop : (i : ℕ) (l : List ℕ) → all f l ≡ true → all f (drop i l) ≡ true
  all_drop zero l h = h
  all_drop (suc i) [] h = refl
  all_drop (suc i) (x ∷ l) h = all_drop i l (and (f x) (all f l) h).1

  all-padded : (w : ℕ) (l : List ℕ) → all f l ≡ true → all f (padded w l) ≡ true
  all-padded zero l h = refl
  all-padded (suc w) [] h = both of-blank (all-padded w [] refl)
  all-padded (suc w) (x ∷ l) h = let k = and (f x) (all f l) h in both k.0 (all-padded w l k.1)

  pub all-cells : (row : List ℕ) (i w : ℕ) → all f row ≡ true → all f (cells row i w) ≡ true
  unfolding cells
  all-cells row i w h = all-padded w (drop i row) (all_drop i row h)

-- ---- one column
cells_one : (row : List ℕ) (i : ℕ) → cells row i 1 ≡ get_or row i blank ∷ []
unfolding cells
cells_one [] zero = refl
cells_one [] (suc i) = refl
cells_one (x ∷ row) zero = refl
cells_one (x ∷ row) (suc i) = cells_one row i

pub one_width : (c : ℕ) → width (column c) ≡ 1
one_width c = omega arith

pub column_cell : (row : List ℕ) (c : ℕ) → part (column c) row ≡ col row c ∷ []
column_cell row c = ap (cells row (c - 1)) (one_width c) ∙ cells_one row (c - 1)
