-- Where all rows of entries keep the laws, or none goes on past the rounds, the searches find nothing. Assumes nothing.
use mathlib.Core.Path.{◌≡◌, refl, sym, ap}
use mathlib.Core.Bool.{Bool, true, false, ◌&&◌, not}
use mathlib.Core.Option.{none}
use mathlib.Core.List.{List}
use Prim.Native.Nat.{ℕ, zero, suc, ◌+◌, ◌*◌, ◌%◌, ◌≤◌, ◌<◌}
use native.Mathlib.Omega.{arith}
use borrow.Author.Count.{below_more}
use borrow.Author.Tests.{leb-true, ltb-true, eq-eqb, eqb-true}
use lib.Dec.{eqb, leb, ltb}
use lib.ListN.{get_or}
use Rattle.kit.proofs.Bools.{and}
use Rattle.law.specs.Sizes.{most_rounds}
use Rattle.law.specs.Entries.{Law, bye-or-game, mutual_pairing, fitting_results, one_U}
use Rattle.law.specs.Tables.{cell_of}
use Rattle.join.specs.Grid.{first_from}
use Rattle.join.specs.Store.{Nine}
use Rattle.join.specs.Check.{place_at, round_at, past_cell, keeps_cell, broken_cell}
use Rattle.glances.specs.Glance.{KeepsRows, OnceU, BlankRow}

-- ---- nothing is found
never : (f : ℕ → Bool) (i m : ℕ) → ((k : ℕ) → i ≤ k → k < i + m → f k ≡ false) → first_from f i m ≡ none
unfolding first_from
never f i zero h = refl
never f i (suc m) h = rw (h i (omega arith) (omega arith)) (never f (i + 1) m (λ k a b. h k (omega arith) (omega arith)))

module _ (n R : ℕ) (t : Nine) (rows : KeepsRows n t n R) (once : OnceU t.results n) (few : R ≤ most_rounds) where
  kept : (law : Law) (place j : ℕ) → place < n → j < R → keeps_cell law n t place (j + 1) ≡ true
  unfolding keeps_cell
  kept bye-or-game place j l m = (rows place l j m).game
  kept mutual_pairing place j l m = (rows place l j m).answers
  kept fitting_results place j l m = (rows place l j m).fitted
  kept one_U place j l m = ap not (once place l j (omega arith))

  whole : (law : Law) (k : ℕ) → k < n * most_rounds → broken_cell law n R t k ≡ false
  unfolding broken_cell
  whole law k l = go (leb (round_at k) R) refl
    where
      go : (b : Bool) → leb (round_at k) R ≡ b → b && not (keeps_cell law n t (place_at k) (round_at k)) ≡ false
      go true e = ap not (kept law (place_at k) (k % most_rounds) (omega arith) (omega (arith, leb-true (round_at k) R e)))
      go false e = refl

  pub none_found : (law : Law) → first_from (broken_cell law n R t) 0 (n * most_rounds) ≡ none
  none_found law = never (broken_cell law n R t) 0 (n * most_rounds) (λ k a b. whole law k (omega arith))

-- ---- nothing past the rounds
pub blank_more : (cells : List ℕ) (place from j : ℕ) {good : Bool} → (good ≡ true → (k : ℕ) → k < j → from ≤ k → get_or cells (cell_of place (k + 1)) 0 ≡ 0) → {i : ℕ} → i ≡ cell_of place (j + 1)
    → good && eqb (get_or cells i 0) 0 ≡ true → (k : ℕ) → k < j + 1 → from ≤ k → get_or cells (cell_of place (k + 1)) 0 ≡ 0
blank_more cells place from j {good} h {i} e b =
    let u = and good (eqb (get_or cells i 0) 0) b in
    below_more (λ k. from ≤ k → get_or cells (cell_of place (k + 1)) 0 ≡ 0) j (h u.0) (λ _. rw (sym e) (eqb-true (get_or cells i 0) 0 u.1))

pub none_past_lem : (R n : ℕ) (colours : List ℕ) → ((place : ℕ) → place < n → BlankRow colours place R) → first_from (past_cell R colours) 0 (n * most_rounds) ≡ none
unfolding past_cell
none_past_lem R n colours h = never (past_cell R colours) 0 (n * most_rounds) (λ k a b. go k (omega arith) (ltb R (round_at k)) refl)
  where
    go : (k : ℕ) → k < n * most_rounds → (b : Bool) → ltb R (round_at k) ≡ b → b && not (eqb (get_or colours (cell_of (place_at k) (round_at k)) 0) 0) ≡ false
    go k l true e = ap not (eq-eqb (get_or colours (cell_of (place_at k) (round_at k)) 0) 0 (h (place_at k) (omega arith) (k % most_rounds) (omega (arith, ltb-true R (round_at k) e)) (omega arith)))
    go k l false e = refl
