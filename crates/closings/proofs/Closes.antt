-- The closing pass, turn by turn: the cells of the turns passed are closed, the others are as before. The order of cells is used by its inverse laws alone.
-- Assumes nothing.
use mathlib.Core.Path.{◌≡◌, refl, sym, ap, ◌∙◌, subst}
use mathlib.Core.Bool.{Bool, cond, ◌&&◌}
use mathlib.Core.List.{List}
use Prim.Native.Nat.{ℕ, ◌+◌, ◌*◌, ◌≤◌, ◌<◌}
use native.Mathlib.Decide.{dec_lt}
use native.Mathlib.Omega.{arith}
use borrow.Author.Tests.{lt-ltb, le-ltb}
use lib.Dec.{eqb, leb, ltb}
use lib.ListN.{length, get_or, set, length-set}
use Rattle.kit.specs.Table.{Holds}
use Rattle.law.specs.Sizes.{most_players, most_rounds}
use Rattle.law.specs.Tables.{entry_cells, cell_of, place_in, round_in}
use Rattle.join.specs.Check.{place_at, round_at, closing}
use Rattle.join.proofs.Cells.{holds_as, holds-set}
use Rattle.join.proofs.Keeps.{by_player}
use Rattle.closings.specs.Closing.{turn_of, after, Closing, ClosesRow}

abbrev at : ℕ → ℕ
at k = cell_of (place_at k) (round_at k)

pub close_none : (n R letter : ℕ) (b : List ℕ) → n ≤ most_players → entry_cells ≤ length b → Closing n R letter b b 0
close_none n R letter b few room =
    record {
      upto = omega arith;
      few = few;
      room = room;
      holds = record { long = refl; cells = λ i l. rw (le-ltb (turn_of i) 0 (omega arith)) refl; rest = λ i l. refl };
    }

module _ {n R letter : ℕ} {b t : List ℕ} {k : ℕ} (s : Closing n R letter b t k) (l : k < n * most_rounds) where
  place-low : place_at k < most_players
  place-low = let f = s.few in omega arith

  place_is : place_in (at k) ≡ place_at k
  place_is = by_player.place_of (place_at k) (round_at k) place-low (omega arith) (omega arith)

  round_is : round_in (at k) ≡ round_at k
  round_is = by_player.round_of (place_at k) (round_at k) place-low (omega arith) (omega arith)

  inside : at k < entry_cells
  inside = by_player.within (place_at k) (round_at k) place-low (omega arith) (omega arith)

  turn_is : turn_of (at k) ≡ k
  turn_is = rw (place_is, round_is) (omega arith)

  cell_is : (i : ℕ) → i < entry_cells → turn_of i ≡ k → i ≡ at k
  cell_is i m e =
      let r = by_player.round_in i m in
      let p : place_at k ≡ place_in i = omega arith in
      let q : round_at k ≡ round_in i = omega arith in
      rw (p, q) (sym (by_player.back i m))

  -- this turn changes no other cell
  others : (i : ℕ) → i < entry_cells → (i ≡ at k → ⊥) → after R letter k i (get_or b i 0) ≡ after R letter (k + 1) i (get_or b i 0)
  others i m ne = ap (λ (v : Bool). cond (v && leb (round_in i) R && eqb (get_or b i 0) 0) letter (get_or b i 0)) (go (dec_lt (turn_of i) k))
    where
      go : Dec (turn_of i < k) → ltb (turn_of i) k ≡ ltb (turn_of i) (k + 1)
      go (yes a) = lt-ltb (turn_of i) k a ∙ sym (lt-ltb (turn_of i) (k + 1) (omega arith))
      go (no a) =
          let y : turn_of i ≡ k → ⊥ = λ q. ne (cell_is i m q) in
          let z : turn_of i < k → ⊥ = a in
          le-ltb (turn_of i) k (omega arith) ∙ sym (le-ltb (turn_of i) (k + 1) (omega arith))

  as_before : get_or t (at k) 0 ≡ get_or b (at k) 0
  as_before = s.holds.cells (at k) inside ∙ rw (le-ltb (turn_of (at k)) k (omega (arith, turn_is))) refl

  closed_is : after R letter (k + 1) (at k) (get_or b (at k) 0) ≡ cond (leb (round_at k) R && eqb (get_or b (at k) 0) 0) letter (get_or b (at k) 0)
  closed_is =
      rw (lt-ltb (turn_of (at k)) (k + 1) (omega (arith, turn_is)))
      (ap (λ (r : ℕ). cond (leb r R && eqb (get_or b (at k) 0) 0) letter (get_or b (at k) 0)) round_is)

  -- one turn: v in cell i
  pub close_more : (i v : ℕ) → i ≡ at k → v ≡ cond (leb (round_at k) R && eqb (get_or t i 0) 0) letter (get_or t i 0) → Closing n R letter b (set t i v) (k + 1)
  close_more i v e h =
      let q : v ≡ after R letter (k + 1) (at k) (get_or b (at k) 0) = h ∙ rw (e, as_before) (sym closed_is) in
      subst (λ (j : ℕ). Closing n R letter b (set t j v) (k + 1)) (sym e)
      (record {
        upto = omega arith;
        few = s.few;
        room = s.room;
        holds = holds-set (λ j. after R letter (k + 1) j (get_or b j 0)) s.holds s.room (at k) v inside q others;
      })

pub close_end : {n R letter : ℕ} {b t : List ℕ} {k : ℕ} → Closing n R letter b t k → n * most_rounds ≤ k → Holds 0 entry_cells (λ i. closing n R letter i (get_or b i 0)) b t
unfolding closing
close_end {n} {R} {letter} {b} {t} {k} s l =
    holds_as _ s.holds (λ i m. ap (λ (v : Bool). cond (v && leb (round_in i) R && eqb (get_or b i 0) 0) letter (get_or b i 0)) (go i m (dec_lt (place_in i) n)))
  where
    go : (i : ℕ) → i < entry_cells → Dec (place_in i < n) → ltb (turn_of i) k ≡ ltb (place_in i) n
    go i m (yes a) = let r = by_player.round_in i m in lt-ltb (turn_of i) k (omega arith) ∙ sym (lt-ltb (place_in i) n a)
    go i m (no a) =
        let z : place_in i < n → ⊥ = a in
        let w = s.upto in
        le-ltb (turn_of i) k (omega arith) ∙ sym (le-ltb (place_in i) n (omega arith))

-- ---- the rounds of one player, after j of them
pub record Row (R letter place : ℕ) (b t : List ℕ) (j : ℕ) : Type 0 where
  pub upto : j ≤ most_rounds
  pub long : length t ≡ length b
  pub closes : (n : ℕ) (a : List ℕ) → place < n → Closing n R letter a b (place * most_rounds) → Closing n R letter a t (place * most_rounds + j)

pub row_none : (R letter place : ℕ) (b : List ℕ) → Row R letter place b b 0
row_none R letter place b = record { upto = omega arith; long = refl; closes = λ n a l s. subst (λ (k : ℕ). Closing n R letter a b k) (omega arith) s }

pub row_more : {R letter place : ℕ} {b t : List ℕ} {j : ℕ} → Row R letter place b t j → j < most_rounds → (i v : ℕ) → i ≡ cell_of place (j + 1)
    → v ≡ cond (leb (j + 1) R && eqb (get_or t i 0) 0) letter (get_or t i 0) → Row R letter place b (set t i v) (j + 1)
row_more {R} {letter} {place} {b} {t} {j} x l i v e h =
    record {
      upto = omega arith;
      long = length-set t i v ∙ x.long;
      closes = λ n a m s.
          let k : ℕ = place * most_rounds + j in
          let p : place_at k ≡ place = omega arith in
          let r : round_at k ≡ j + 1 = omega arith in
          let q : k + 1 ≡ place * most_rounds + (j + 1) = omega arith in
          subst (λ (y : ℕ). Closing n R letter a (set t i v) y) q
          (close_more (x.closes n a m s) (omega arith) i v (rw (p, r) e) (rw r h));
    }

pub row_end : {R letter place : ℕ} {b t : List ℕ} {j : ℕ} → Row R letter place b t j → most_rounds ≤ j → ClosesRow R letter place b t
row_end {R} {letter} {place} {b} {t} {j} x m n a l s =
    subst (λ (y : ℕ). Closing n R letter a t (place * most_rounds + y)) (let u = x.upto in omega arith) (x.closes n a l s)

-- ---- player by player
pub player_more : {n R letter : ℕ} {a b t : List ℕ} {p : ℕ} → Closing n R letter a b (p * most_rounds) → p < n → ClosesRow R letter p b t → Closing n R letter a t ((p + 1) * most_rounds)
player_more {n} {R} {letter} {a} {b} {t} {p} s l x = subst (λ (y : ℕ). Closing n R letter a t y) (omega arith) (x n a l s)
