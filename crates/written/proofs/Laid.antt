-- A line laid out: each piece stands in its field, the columns between are blank, and the line ends with its last piece. One law for all records. Assumes nothing.
use mathlib.Core.Path.{◌≡◌, refl, sym, ap, ◌∙◌, subst}
use mathlib.Core.Bool.{Bool, true}
use mathlib.Core.List.{List, [], ◌∷◌, ◌++◌, map, append_assoc, append-nil}
use Prim.Native.Nat.{ℕ, zero, suc, ◌+◌, ◌-◌, ◌≤◌}
use native.Mathlib.Omega.{arith}
use lib.ListN.{length, replicate, length-append, length-replicate, drop_of_length-le}
use lib.Seq.{drop-append-add}
use Rattle.kit.specs.Lists.{all}
use Rattle.kit.specs.First.{AllOf}
use Rattle.kit.proofs.Bools.{both, all_append}
use Rattle.law.specs.Columns.{Field, blank, is_blank, padded, cells, width, part, else_blank}
use Rattle.law.specs.Writing.{Piece, blanks, laid}
use Rattle.law.proofs.FieldsRead.{blanks-all}

-- ---- a piece fills its field, and the next stands to the right of it
abbrev pub Ordered : ℕ → List Piece → Type 0
Ordered c [] = Unit {0}
Ordered c (x ∷ ps) = (c ≤ x.0.0) × (x.0.0 ≤ x.0.1) × (length x.1 ≡ width x.0) × Ordered (suc x.0.1) ps

-- the column after the last piece
abbrev pub end_of : ℕ → List Piece → ℕ
end_of c [] = c
end_of c (x ∷ ps) = end_of (suc x.0.1) ps

abbrev pub fields_of : List Piece → List Field
fields_of ps = map (λ (x : Piece). x.0) ps

-- ---- columns of a list put together
padded_front : (t r : List ℕ) (w : ℕ) → length t ≡ w → padded w (t ++ r) ≡ t
padded_front [] r zero e = refl
padded_front [] r (suc w) e = absurd (omega arith)
padded_front (c ∷ t) r zero e = absurd (omega arith)
padded_front (c ∷ t) r (suc w) e = ap (λ (l : List ℕ). c ∷ l) (padded_front t r w (omega arith))

pub cells_front : (t r : List ℕ) (w : ℕ) → length t ≡ w → cells (t ++ r) 0 w ≡ t
unfolding cells
cells_front t r w e = padded_front t r w e

pub cells-after : (a r : List ℕ) (i w : ℕ) → cells (a ++ r) (length a + i) w ≡ cells r i w
unfolding cells
cells-after a r i w = ap (padded w) (drop-append-add a r i)

pub cells-past : (row : List ℕ) (i w : ℕ) → length row ≤ i → cells row i w ≡ replicate w blank
unfolding cells
cells-past row i w h = ap (padded w) (drop_of_length-le row {i = i} h) ∙ nothing w
  where
    nothing : (w : ℕ) → padded w [] ≡ replicate w blank
    nothing zero = refl
    nothing (suc w) = ap (λ (l : List ℕ). blank ∷ l) (nothing w)

-- ---- each piece in its field. pre: what stands before column c
abbrev pub Stands : List ℕ → Piece → Type 0
Stands row x = part x.0 row ≡ x.1

abbrev one : Piece → ℕ → List ℕ
one x c = blanks (x.0.0 - c) ++ x.1

one_long : (x : Piece) (c : ℕ) → c ≤ x.0.0 → x.0.0 ≤ x.0.1 → length x.1 ≡ width x.0 → c + length (one x c) ≡ suc x.0.1
one_long x c a b e =
    let l = length-append (blanks (x.0.0 - c)) x.1 in
    let m = length-replicate (x.0.0 - c) blank in
    omega arith

split : (pre : List ℕ) (c : ℕ) (x : Piece) (ps : List Piece) → pre ++ laid c (x ∷ ps) ≡ (pre ++ one x c) ++ laid (suc x.0.1) ps
split pre c x ps =
    ap (λ (l : List ℕ). pre ++ l) (sym (append_assoc (blanks (x.0.0 - c)) x.1 (laid (suc x.0.1) ps)))
    ∙ sym (append_assoc pre (one x c) (laid (suc x.0.1) ps))

pre_long : (pre : List ℕ) (c : ℕ) (x : Piece) → suc (length pre) ≡ c → c ≤ x.0.0 → x.0.0 ≤ x.0.1 → length x.1 ≡ width x.0 → suc (length (pre ++ one x c)) ≡ suc x.0.1
pre_long pre c x p a b e = let l = length-append pre (one x c) in let m = one_long x c a b e in omega arith

-- the piece just laid
here : (pre : List ℕ) (c : ℕ) (x : Piece) (ps : List Piece) → suc (length pre) ≡ c → c ≤ x.0.0 → length x.1 ≡ width x.0 → Stands (pre ++ laid c (x ∷ ps)) x
here pre c x ps p a e =
    let r : List ℕ = laid (suc x.0.1) ps in
    let s : pre ++ laid c (x ∷ ps) ≡ (pre ++ blanks (x.0.0 - c)) ++ (x.1 ++ r) = sym (append_assoc pre (blanks (x.0.0 - c)) (x.1 ++ r)) in
    let l = length-append pre (blanks (x.0.0 - c)) in
    let m = length-replicate (x.0.0 - c) blank in
    let i : x.0.0 - 1 ≡ length (pre ++ blanks (x.0.0 - c)) + 0 = omega arith in
    ap (λ (row : List ℕ). cells row (x.0.0 - 1) (width x.0)) s
    ∙ ap (λ (j : ℕ). cells ((pre ++ blanks (x.0.0 - c)) ++ (x.1 ++ r)) j (width x.0)) i
    ∙ cells-after (pre ++ blanks (x.0.0 - c)) (x.1 ++ r) 0 (width x.0)
    ∙ cells_front x.1 r (width x.0) e

pub pieces_stand : (pre : List ℕ) (c : ℕ) (ps : List Piece) → suc (length pre) ≡ c → Ordered c ps → AllOf (Stands (pre ++ laid c ps)) ps
pieces_stand pre c [] p o = tt
pieces_stand pre c (x ∷ ps) p o = (
  here pre c x ps p o.0 o.2,
  subst (λ (row : List ℕ). AllOf (Stands row) ps) (sym (split pre c x ps)) (pieces_stand (pre ++ one x c) (suc x.0.1) ps (pre_long pre c x p o.0 o.1 o.2) o.3),
)

-- ---- all else is blank, as far as the pieces go
gap : (pre : List ℕ) (c : ℕ) (x : Piece) (ps : List Piece) → suc (length pre) ≡ c → all is_blank (cells (pre ++ laid c (x ∷ ps)) (c - 1) (x.0.0 - c)) ≡ true
gap pre c x ps p =
    let i : c - 1 ≡ length pre + 0 = omega arith in
    ap (all is_blank)
    (ap (λ (j : ℕ). cells (pre ++ laid c (x ∷ ps)) j (x.0.0 - c)) i
    ∙ cells-after pre (laid c (x ∷ ps)) 0 (x.0.0 - c)
    ∙ cells_front (blanks (x.0.0 - c)) (x.1 ++ laid (suc x.0.1) ps) (x.0.0 - c) (length-replicate (x.0.0 - c) blank))
    ∙ blanks-all (x.0.0 - c)

pub laid_else : (pre : List ℕ) (c : ℕ) (ps : List Piece) (more : List Field) → suc (length pre) ≡ c → Ordered c ps → else_blank (end_of c ps) more (pre ++ laid c ps) ≡ true → else_blank c (fields_of ps ++ more) (pre ++ laid c ps) ≡ true
laid_else pre c [] more p o h = h
laid_else pre c (x ∷ ps) more p o h =
    both (gap pre c x ps p)
    (subst (λ (row : List ℕ). else_blank (suc x.0.1) (fields_of ps ++ more) row ≡ true) (sym (split pre c x ps))
    (laid_else (pre ++ one x c) (suc x.0.1) ps more (pre_long pre c x p o.0 o.1 o.2) o.3
    (subst (λ (row : List ℕ). else_blank (end_of (suc x.0.1) ps) more row ≡ true) (split pre c x ps) h)))

pub laid-long : (pre : List ℕ) (c : ℕ) (ps : List Piece) → suc (length pre) ≡ c → Ordered c ps → suc (length (pre ++ laid c ps)) ≡ end_of c ps
laid-long pre c [] p o = ap (λ (l : List ℕ). suc (length l)) (append-nil pre) ∙ p
laid-long pre c (x ∷ ps) p o = ap (λ (l : List ℕ). suc (length l)) (split pre c x ps) ∙ laid-long (pre ++ one x c) (suc x.0.1) ps (pre_long pre c x p o.0 o.1 o.2) o.3

-- ---- fields past the end of the line are blank, and so is all between them
abbrev pub Rising : ℕ → List Field → Type 0
Rising c [] = Unit {0}
Rising c (f ∷ fs) = (c ≤ suc f.1) × Rising (suc f.1) fs

pub else_past : (row : List ℕ) (c : ℕ) (fs : List Field) → suc (length row) ≤ c → Rising c fs → else_blank c fs row ≡ true
else_past row c [] h r = ap (all is_blank) (drop_of_length-le row {i = c - 1} (omega arith))
else_past row c (f ∷ fs) h r =
    both (ap (all is_blank) (cells-past row (c - 1) (f.0 - c) (omega arith)) ∙ blanks-all (f.0 - c)) (else_past row (suc f.1) fs (let k = r.0 in omega arith) r.1)

-- ---- what holds of a blank and of every piece holds of the line
module _ (f : ℕ → Bool) (of-blank : f blank ≡ true) where
  all-blanks_so : (k : ℕ) → all f (blanks k) ≡ true
  all-blanks_so zero = refl
  all-blanks_so (suc k) = both of-blank (all-blanks_so k)

  pub laid-all : (c : ℕ) (ps : List Piece) → AllOf (λ (x : Piece). all f x.1 ≡ true) ps → all f (laid c ps) ≡ true
  laid-all c [] h = refl
  laid-all c (x ∷ ps) h = all_append f (blanks (x.0.0 - c)) (x.1 ++ laid (suc x.0.1) ps) (all-blanks_so (x.0.0 - c)) (all_append f x.1 (laid (suc x.0.1) ps) h.0 (laid-all (suc x.0.1) ps h.1))
