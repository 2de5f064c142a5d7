-- The kept columns of a 001 line: filled from the line, and tested. Assumes nothing.
use mathlib.Core.Path.{◌≡◌, refl, sym, ap, ap₂, ◌∙◌}
use mathlib.Core.Bool.{Bool, true, false, ◌&&◌}
use mathlib.Core.Option.{Option, none, some}
use mathlib.Core.List.{List, [], ◌∷◌, ◌++◌}
use Prim.Native.Nat.{ℕ, zero, suc, ◌+◌, ◌-◌, ◌≤◌, ◌<◌}
use native.Mathlib.Nat.{add-zero}
use native.Mathlib.Numerals.{add-one, unary_clauses}
use native.Mathlib.Omega.{arith}
use lib.ListN.{length, get_or, take, drop, replicate, drop_of_length-le, length-drop}
use lib.Seq.{drop-cons, take_all}
use Rattle.kit.specs.Lists.{all, is_one_of}
use Rattle.kit.specs.Decides.{is_some}
use Rattle.law.specs.Columns.{blank, is_blank, padded, cells, else_blank}
use Rattle.law.specs.Fields.{has_shape}
use Rattle.law.specs.Players.{kept_field, kept_fields, in_line, sexes, titles, is_birth}
use Rattle.law.proofs.FieldsRead as law
use Rattle.law.proofs.RecordsRead.{is_kept}
use Rattle.fields.proofs.Columns.{get_d_any, cells-cons, cells_one, cells_three, turn}
use Rattle.fields.proofs.Turns.{and-true}
use Rattle.std.specs.Prelude.{Result, Ok, Err}
use Rattle.std.specs.Result.{is_ok}
use Rattle.types.specs.declared.Fault.{Fault}
use Rattle.fields.specs.Said.{said, or_bad_field}
use Rattle.fields.proofs.Cases.{never}
use Rattle.kept_columns.specs.Kept.{date_shape, fits_shape}

-- ---- a column of some
pub get_or_cells : (row : List ℕ) (i w j : ℕ) → j < w → get_or (cells row i w) j 0 ≡ get_or row (i + j) blank
get_or_cells row i zero j h = absurd (omega arith)
get_or_cells row i (suc w) zero h = ap (λ (l : List ℕ). get_or l 0 0) (cells-cons row i w) ∙ ap (λ (k : ℕ). get_or row k blank) (sym (add-zero i))
get_or_cells row i (suc w) (suc j) h =
    let e : suc i + j ≡ i + suc j = omega arith in
    ap (λ (l : List ℕ). get_or l (suc j) 0) (cells-cons row i w) ∙ get_or_cells row (suc i) w j (omega arith) ∙ ap (λ (k : ℕ). get_or row k blank) e

-- ---- w columns of a row: those that there are, then blanks
or_blanks : (w : ℕ) (l : List ℕ) → take w l ++ replicate (w - length (take w l)) blank ≡ padded w l
or_blanks zero l = refl
or_blanks (suc w) [] = simp unary_clauses (ap (λ (m : List ℕ). blank ∷ m) (nothing w))
  where
    nothing : (w : ℕ) → replicate w blank ≡ padded w []
    nothing zero = refl
    nothing (suc w) = ap (λ (m : List ℕ). blank ∷ m) (nothing w)
or_blanks (suc w) (x ∷ l) = simp unary_clauses (ap (λ (m : List ℕ). x ∷ m) (or_blanks w l))

module _ (row : List ℕ) (i w : ℕ) where
  pub all_there : take w (drop i row) ++ replicate (w - length (take w (drop i row))) blank ≡ cells row i w
  unfolding cells
  all_there = or_blanks w (drop i row)

  pub some-there : length row ≤ i + w → drop i row ++ replicate (w - length (drop i row)) blank ≡ cells row i w
  some-there h = ap (λ (l : List ℕ). l ++ replicate (w - length l) blank) (sym (take_all w (drop i row) (omega (arith, length-drop i row)))) ∙ all_there

-- ---- sex and title
sex-there : (k : List ℕ) → length k ≡ 70 → is_one_of (cells k 0 1) sexes ≡ is_one_of (get_or k 0 0 ∷ []) sexes
sex-there k l = ap (λ (m : List ℕ). is_one_of m sexes) (cells_one k 0) ∙ ap (λ (c : ℕ). is_one_of (c ∷ []) sexes) (get_d_any k 0 blank 0 (omega arith))

title-there : (k : List ℕ) → length k ≡ 70 → is_one_of (cells k 1 3) titles ≡ is_one_of (get_or k 1 0 ∷ get_or k 2 0 ∷ get_or k 3 0 ∷ []) titles
title-there k l =
    ap (λ (m : List ℕ). is_one_of m titles) (cells_three k 1)
    ∙ ap₂ (λ (a b : ℕ). is_one_of (a ∷ b ∷ get_or k 3 blank ∷ []) titles) (get_d_any k 1 blank 0 (omega arith)) (get_d_any k 2 blank 0 (omega arith))
    ∙ ap (λ (c : ℕ). is_one_of (get_or k 1 0 ∷ get_or k 2 0 ∷ c ∷ []) titles) (get_d_any k 3 blank 0 (omega arith))

-- ---- the birth date
pub date_turn : (row : List ℕ) (j i c : ℕ) → i < 10 → c ≡ get_or row (j + i) blank → (v : Bool) → fits_shape (get_or date_shape i 0) c ≡ v
    → has_shape (drop i date_shape) (cells row (j + i) (10 - i)) ≡ v && has_shape (drop (i + 1) date_shape) (cells row (j + (i + 1)) (10 - (i + 1)))
date_turn row j i c h at v e =
    turn (has_shape (drop i date_shape)) row j 10 i c h at
    ∙ ap (λ (s : List ℕ). has_shape s (c ∷ cells row (j + (i + 1)) (10 - (i + 1)))) (drop-cons date_shape i 0 h ∙ ap (λ (k : ℕ). get_or date_shape i 0 ∷ drop k date_shape) (sym (add-one i)))
    ∙ ap (λ (b : Bool). b && has_shape (drop (i + 1) date_shape) (cells row (j + (i + 1)) (10 - (i + 1)))) e

-- ---- the columns between the fields
pub gap : (k : List ℕ) (i : ℕ) → i < length k → all is_blank (cells k i 1) ≡ is_blank (get_or k i 0)
gap k i h = ap (all is_blank) (cells_one k i) ∙ and-true (is_blank (get_or k i blank)) ∙ ap is_blank (get_d_any k i blank 0 h)

pub gaps_by : (k : List ℕ) → length k ≡ 70
    → else_blank kept_field.0 kept_fields (in_line k) ≡ is_blank (get_or k 4 0) && (is_blank (get_or k 38 0) && (is_blank (get_or k 43 0) && (is_blank (get_or k 47 0) && is_blank (get_or k 59 0))))
unfolding cells
gaps_by k l =
    let z : drop 70 k ≡ [] = drop_of_length-le k {i = 70} (omega arith) in
    rw (gap k 4 (omega arith), gap k 38 (omega arith), gap k 43 (omega arith), gap k 47 (omega arith), gap k 59 (omega arith), z, and-true (is_blank (get_or k 59 0))) refl

-- ---- the tests together
pub kept_by : (k : List ℕ) (s t b g : Bool) (r : Option ℕ) → is_one_of (cells k 0 1) sexes ≡ s → is_one_of (cells k 1 3) titles ≡ t → is_birth (cells k 60 10) ≡ b
    → else_blank kept_field.0 kept_fields (in_line k) ≡ g → law.number_or0 (law.number_of (cells k 39 4)) ≡ r → is_kept k ≡ (((s && t) && b) && g) && is_some r
unfolding cells
kept_by k s t b g r s-is t-is b-is g-is r-is = rw (s-is, t-is, b-is, g-is, r-is) refl

-- .. where the sex and the title are read byte by byte
pub kept-there : (k : List ℕ) → length k ≡ 70
    → is_kept k ≡ (((is_one_of (get_or k 0 0 ∷ []) sexes && is_one_of (get_or k 1 0 ∷ get_or k 2 0 ∷ get_or k 3 0 ∷ []) titles) && is_birth (cells k 60 10)) && else_blank kept_field.0 kept_fields (in_line k)) && is_some (law.number_or0 (law.number_of (cells k 39 4)))
kept-there k l = kept_by k _ _ _ _ _ (sex-there k l) (title-there k l) refl refl refl

-- one test, of which v is then another
pub and_then : (a b : Bool) {x v : Bool} → x ≡ a → x ≡ true → v ≡ b → v ≡ a && b
and_then a b p q e = e ∙ rw (sym p ∙ q) refl

pub and_not : (a b : Bool) {x v : Bool} → x ≡ a → x ≡ false → v ≡ x → v ≡ a && b
and_not a b p q e = e ∙ q ∙ rw (sym p ∙ q) refl

-- a reader's answer is a value exactly where one is decided
pub ok_is_some : {A : Type 0} (r : Result A Fault) (o : Option A) → said r ≡ or_bad_field o → is_ok r ≡ is_some o
ok_is_some (Ok a) (some b) e = refl
ok_is_some (Ok a) none e = never e
ok_is_some (Err d) (some b) e = never (sym e)
ok_is_some (Err d) none e = refl
