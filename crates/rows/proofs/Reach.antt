-- The rounds that a 001 line does not reach: their columns are blank, so that nothing is stored of them. Assumes nothing.
use mathlib.Core.Path.{◌≡◌, refl, sym, ap, ap₂, ◌∙◌}
use mathlib.Core.Bool.{Bool, true, ◌&&◌}
use mathlib.Core.Option.{some}
use mathlib.Core.List.{List, [], ◌∷◌, ◌++◌}
use Prim.Native.Nat.{ℕ, zero, suc, ◌+◌, ◌*◌, ◌-◌, ◌≤◌, ◌<◌}
use native.Mathlib.Omega.{arith}
use lib.ListN.{length, get_or, replicate, get_or-eq_default}
use Rattle.kit.specs.Lists.{all, from}
use Rattle.kit.specs.Decides.{cons, each}
use Rattle.kit.proofs.Bools.{both}
use Rattle.law.specs.Columns.{blank, is_blank, cells, else_blank}
use Rattle.law.specs.Players.{capital}
use Rattle.law.proofs.ColumnLaws.{get_or_blanks}
use Rattle.law.proofs.FieldsRead.{number_of, number_or0}
use Rattle.law.proofs.RecordsRead.{slot_of}
use Rattle.fields.proofs.Columns.{cells-nil, cells-cons, cells-four}
use Rattle.rows.specs.Rows.{Reaches}
use Rattle.rows.proofs.PlayerRounds.{slot_from, no_slot, used-by, slot_by, between_turn, between-end, left}

module _ (row : List ℕ) (reach : ℕ) (f : Reaches row reach) where
  blank-cells : (w at : ℕ) → 89 + 10 * reach ≤ at → at + w ≤ 289 → all is_blank (cells row at w) ≡ true
  blank-cells zero at h g = ap (all is_blank) (cells-nil row at)
  blank-cells (suc w) at h g =
      ap (all is_blank) (cells-cons row at w)
      ∙ ap₂ (λ (x : ℕ) (v : Bool). is_blank x && v) (f.blank_on at h (omega arith)) (blank-cells w (suc at) (omega arith) (omega arith))

  -- ---- a round, and all of them
  blank_slot : (r : ℕ) → reach < r → r ≤ 20 → slot_of row r ≡ some no_slot
  blank_slot r h g =
      let at : (k : ℕ) → k ≤ 7 → get_or row (81 + 10 * r + k) blank ≡ blank = λ k q. f.blank_on (81 + 10 * r + k) (omega arith) (omega arith) in
      slot_by row r (omega arith) blank blank true true (some 0) (sym (at 5 (omega arith))) (ap capital (sym (at 7 (omega arith)))) refl refl
      (ap (λ (l : List ℕ). number_or0 (number_of l)) (cells-four row (81 + 10 * r) ∙ (λ i. f.blank_on (81 + 10 * r) (omega arith) (omega arith) i ∷ at 1 (omega arith) i ∷ at 2 (omega arith) i ∷ at 3 (omega arith) i ∷ [])))
      ∙ ap (λ (u : Bool). some (slot_from 0 blank blank u))
      (used-by row r (omega arith) true true true (blank-cells 4 (81 + 10 * r) (omega arith) (omega arith)) (blank-cells 1 (81 + 10 * r + 5) (omega arith) (omega arith)) (blank-cells 1 (81 + 10 * r + 7) (omega arith) (omega arith)))

  blank-slots : (n r : ℕ) → reach < r → r + n ≤ 21 → each (slot_of row) (from r n) ≡ some (replicate n no_slot)
  blank-slots zero r h g = refl
  blank-slots (suc n) r h g = ap₂ cons (blank_slot r h (omega arith)) (blank-slots n (r + 1) (omega arith) (omega arith))

  -- those after the first i
  pub others-blank : (i : ℕ) → reach ≤ i → i ≤ reach → each (slot_of row) (from (i + 1) (20 - i)) ≡ some (replicate (20 - i) no_slot)
  others-blank i h g = blank-slots (20 - i) (i + 1) (omega arith) (let m = f.most in omega arith)

  -- ---- the columns between their fields
  blank-between : (n i : ℕ) → reach ≤ i → i + n ≡ 20 → left row i ≡ else_blank 290 [] row
  blank-between zero i h g = between-end row i (omega arith)
  blank-between (suc n) i h g =
      between_turn row i (omega arith) true
      (both (blank-cells 2 (89 + 10 * i) (omega arith) (omega arith)) (both (blank-cells 1 (89 + 10 * i + 6) (omega arith) (omega arith)) (both (blank-cells 1 (89 + 10 * i + 8) (omega arith) (omega arith)) refl)))
      ∙ blank-between n (i + 1) (omega arith) (omega arith)

  pub others-between : (i : ℕ) → reach ≤ i → i ≤ reach → left row i ≡ else_blank 290 [] row
  others-between i h g = blank-between (20 - i) i h (let m = f.most in omega arith)

-- ---- how far a line reaches: as it is, or with blanks after it
pub reaches_long : (line : List ℕ) (reach : ℕ) → reach ≤ 20 → (reach < 20 → length line ≤ 89 + 10 * reach) → 89 + 10 * reach ≤ length line → Reaches line reach
reaches_long line reach most short long =
    record { most = most; long = long; blank_on = λ i h g. get_or-eq_default line blank {n = i} (let z = short (omega arith) in omega arith) }

pub reaches_short : (line wide : List ℕ) (k reach : ℕ) → wide ≡ line ++ replicate k blank → reach ≤ 20 → length line ≤ 89 + 10 * reach → 89 + 10 * reach ≤ length wide → Reaches wide reach
reaches_short line wide k reach e most short long =
    record { most = most; long = long; blank_on = λ i h g. ap (λ (l : List ℕ). get_or l i blank) e ∙ get_or_blanks line k i ∙ get_or-eq_default line blank {n = i} (omega arith) }
