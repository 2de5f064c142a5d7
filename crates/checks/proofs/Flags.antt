-- A flag for each round: whether one of the players passed has U in it. Turns go player by player and round by round, so that at a turn its round's flag
-- tells of the earlier players. Assumes nothing.
use mathlib.Core.Path.{◌≡◌, refl, sym, ap, ◌∙◌}
use mathlib.Core.Bool.{Bool, false, ◌&&◌, ◌||◌, or-false, not-not}
use mathlib.Core.List.{List}
use Prim.Native.Nat.{ℕ, ◌+◌, ◌*◌, ◌%◌, ◌<◌}
use native.Mathlib.Decide.{ℕ_discrete}
use native.Mathlib.Numerals.{add-one}
use native.Mathlib.Omega.{arith}
use borrow.Author.Tests.{eq-eqb, ne_eqb, eqb-true}
use lib.Dec.{eqb, leb}
use lib.ListN.{length, get_or, set, replicate, length-set, length-replicate, get_or-replicate}
use lib.Seq.{get_or-set_same, get_or-set_other}
use Rattle.kit.proofs.Bools.{and, both, both_ways}
use Rattle.law.specs.Sizes.{most_rounds}
use Rattle.law.specs.Entries.{one_U}
use Rattle.join.specs.Grid.{some_below}
use Rattle.join.specs.Check.{place_at, round_at, has_uat, keeps_cell, broken_cell}
use Rattle.join.proofs.Firsts.{some_at, some_of}
use Rattle.checks.specs.Laws.{four}

-- whether one of the first k turns is of a round and has U
abbrev flagged : List ℕ → ℕ → ℕ → Bool
flagged results r k = some_below (λ j. eqb (round_at j) r && has_uat results (place_at j) r) k

flag_says_lem : (results : List ℕ) (k : ℕ) → flagged results (round_at k) k ≡ some_below (λ q. has_uat results q (round_at k)) (place_at k)
flag_says_lem results k =
    both_ways (flagged results (round_at k) k) (some_below (λ q. has_uat results q (round_at k)) (place_at k))
    (λ e.
    let w = some_at (λ j. eqb (round_at j) (round_at k) && has_uat results (place_at j) (round_at k)) k e in
    let v = and (eqb (round_at w.0) (round_at k)) (has_uat results (place_at w.0) (round_at k)) w.2 in
    let same : round_at w.0 ≡ round_at k = eqb-true (round_at w.0) (round_at k) v.0 in
    some_of (λ q. has_uat results q (round_at k)) (place_at k) (place_at w.0) (omega (arith, w.1)) v.1)
    (λ e.
    let w = some_at (λ q. has_uat results q (round_at k)) (place_at k) e in
    let j : ℕ = w.0 * most_rounds + k % most_rounds in
    let p : place_at j ≡ w.0 = omega arith in
    let r : round_at j ≡ round_at k = omega arith in
    some_of (λ j. eqb (round_at j) (round_at k) && has_uat results (place_at j) (round_at k)) k j (omega (arith, w.1)) (both (eq-eqb (round_at j) (round_at k) r) (rw p w.2)))

-- flag r is that of round r + 1
pub record Flags (results : List ℕ) (k : ℕ) (seen : List Bool) : Type 0 where
  pub long : length seen ≡ most_rounds
  pub says : (r : ℕ) → r < most_rounds → get_or seen r false ≡ flagged results (r + 1) k

pub flags-none : (results : List ℕ) → Flags results 0 (replicate most_rounds false)
unfolding some_below
flags-none results = record { long = length-replicate most_rounds false; says = λ r l. get_or-replicate {A = Bool} most_rounds r false false l }

module _ {results : List ℕ} {k : ℕ} {seen : List Bool} (x : Flags results k seen) where
  -- a turn with U in a round up to the last, in which an earlier player has U
  pub second_is : (n R : ℕ) (starts opponents colours : List ℕ) {round : ℕ} {here : Bool} → round ≡ round_at k → here ≡ has_uat results (place_at k) (round_at k)
      → leb round R && (here && get_or seen (k % most_rounds) false) ≡ broken_cell one_U n R (four starts opponents colours results) k
  unfolding broken_cell keeps_cell
  second_is n R starts opponents colours {round} {here} p q =
      rw (p, q, x.says (k % most_rounds) (omega arith) ∙ flag_says_lem results k)
      (ap (λ (v : Bool). leb (round_at k) R && v) (sym (not-not (has_uat results (place_at k) (round_at k) && some_below (λ j. has_uat results j (round_at k)) (place_at k)))))

  pub flags_more : {here : Bool} → here ≡ has_uat results (place_at k) (round_at k) → Flags results (k + 1) (set seen (k % most_rounds) (get_or seen (k % most_rounds) false || here))
  unfolding some_below
  flags_more {here} q =
      record { long = length-set seen (k % most_rounds) (get_or seen (k % most_rounds) false || here) ∙ x.long; says = λ r l. go r l (ℕ_discrete r (k % most_rounds)) }
    where
      go : (r : ℕ) → r < most_rounds → Dec (r ≡ k % most_rounds) → get_or (set seen (k % most_rounds) (get_or seen (k % most_rounds) false || here)) r false ≡ flagged results (r + 1) (k + 1)
      go r l (yes e) =
          rw (e, add-one k, eq-eqb (round_at k) (round_at k) refl)
          (get_or-set_same seen (k % most_rounds) (get_or seen (k % most_rounds) false || here) false (let z = x.long in omega arith)
          ∙ rw (x.says (k % most_rounds) (omega arith), q) refl)
      go r l (no e) =
          let z : r ≡ k % most_rounds → ⊥ = e in
          rw (add-one k, ne_eqb (round_at k) (r + 1) (λ s. omega arith), or-false (flagged results (r + 1) k))
          (get_or-set_other seen (k % most_rounds) r (get_or seen (k % most_rounds) false || here) false e ∙ x.says r l)
