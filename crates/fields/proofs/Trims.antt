-- A line without its trailing blanks, from its end: its last byte, if blank, goes, and else the line stays. Assumes nothing.
use mathlib.Core.Path.{◌≡◌, refl, sym, ap, ◌∙◌}
use mathlib.Core.Bool.{Bool, true, false, ◌&&◌}
use mathlib.Core.List.{List, [], ◌∷◌, ◌++◌}
use Prim.Native.Nat.{ℕ, suc, ◌-◌, ◌≤◌, ◌<◌}
use native.Mathlib.Omega.{arith}
use lib.ListN.{length, get_or, take}
use lib.Seq.{take-suc, length-take-le}
use borrow.Author.Tests.{ne_eqb}
use Rattle.law.specs.Columns.{blank, is_blank}
use Rattle.law.proofs.FieldsRead.{cons_unless, is_nil, trim}

trim_blank : (l : List ℕ) → trim (l ++ (blank ∷ [])) ≡ trim l
trim_blank [] = refl
trim_blank (x ∷ l) = rw (trim_blank l) refl

trim_other : (l : List ℕ) (c : ℕ) → is_blank c ≡ false → trim (l ++ (c ∷ [])) ≡ l ++ (c ∷ [])
trim_other [] c e = rw e refl
trim_other (x ∷ l) c e = rw (trim_other l c e, not-nil l) (go (is_blank x))
  where
    not-nil : (l : List ℕ) → is_nil (l ++ (c ∷ [])) ≡ false
    not-nil [] = refl
    not-nil (y ∷ l) = refl

    go : (b : Bool) → cons_unless (b && false) x (l ++ (c ∷ [])) ≡ x ∷ (l ++ (c ∷ []))
    go true = refl
    go false = refl

-- ---- the first n bytes of a line, of which the last is looked at
module _ (l : List ℕ) (n : ℕ) (some : 0 < n) (in_line_lem : n ≤ length l) where
  last : take n l ≡ take (n - 1) l ++ (get_or l (n - 1) 0 ∷ [])
  last = let p : n ≡ suc (n - 1) = omega arith in ap (λ (k : ℕ). take k l) p ∙ take-suc l (n - 1) 0 (omega arith)

  pub trim_less : get_or l (n - 1) 0 ≡ blank → trim (take n l) ≡ trim (take (n - 1) l)
  trim_less e = ap trim (last ∙ ap (λ (c : ℕ). take (n - 1) l ++ (c ∷ [])) e) ∙ trim_blank (take (n - 1) l)

  pub trim_stays : (get_or l (n - 1) 0 ≡ blank → ⊥) → length (trim (take n l)) ≡ n
  trim_stays e =
      ap (λ (m : List ℕ). length (trim m)) last
      ∙ ap length (trim_other (take (n - 1) l) (get_or l (n - 1) 0) (ne_eqb (get_or l (n - 1) 0) blank e) ∙ sym last)
      ∙ length-take-le n l in_line_lem
