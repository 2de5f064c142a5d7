-- The index of the start numbers: none, one player more, and what a cell says of the player with a number. Assumes nothing.
use mathlib.Core.Path.{◌≡◌, refl, sym, ap, ◌∙◌}
use mathlib.Core.Bool.{Bool, true, false, cond}
use mathlib.Core.Option.{Option, none, some}
use mathlib.Core.List.{List}
use Prim.Native.Nat.{ℕ, zero, suc, ◌+◌, ◌-◌, ◌≤◌, ◌<◌}
use native.Mathlib.Decide.{ℕ_discrete}
use native.Mathlib.Nat.{add-zero}
use native.Mathlib.Numerals.{add-one}
use native.Mathlib.Omega.{arith}
use borrow.Author.Tests.{eq-eqb, ne_eqb}
use lib.Dec.{eqb}
use lib.ListN.{length, get_or, set, replicate, length-set, length-replicate, get_or-replicate}
use lib.Seq.{get_or-set_same, get_or-set_other}
use Rattle.kit.specs.Decides.{or_else}
use Rattle.law.specs.Sizes.{most_start}
use Rattle.join.specs.Grid.{first_from}
use Rattle.join.specs.Store.{place_of}
use Rattle.join.proofs.Firsts.{first_as}
use Rattle.std.specs.Prelude.{Some, None}
use Rattle.index.specs.Index.{IndexOf, LowStarts, index_cell, as_placed}

-- ---- one more to look at, at the end
first_snoc : (f : ℕ → Bool) (i n : ℕ) → first_from f i (suc n) ≡ or_else (first_from f i n) (cond (f (i + n)) (some (i + n)) none)
unfolding first_from
first_snoc f i zero = rw add-zero refl
first_snoc f i (suc n) = go (f i) (first_snoc f (i + 1) n)
  where
    go : (b : Bool) → first_from f (i + 1) (suc n) ≡ or_else (first_from f (i + 1) n) (cond (f (i + 1 + n)) (some (i + 1 + n)) none)
        → cond b (some i) (first_from f (i + 1) (suc n)) ≡ or_else (cond b (some i) (first_from f (i + 1) n)) (cond (f (i + suc n)) (some (i + suc n)) none)
    go true h = refl
    go false h = let e : i + suc n ≡ i + 1 + n = omega arith in rw e h

place_snoc : (starts : List ℕ) (n id : ℕ) → place_of starts (n + 1) id ≡ or_else (place_of starts n id) (cond (eqb (get_or starts n 0) id) (some n) none)
unfolding place_of
place_snoc starts n id =
    let z : 0 + n ≡ n = omega arith in
    rw add-one (rw z at (first_snoc (λ i. eqb (get_or starts i 0) id) 0 n))

-- a start number stored after the first n is not among them
place-before : (starts : List ℕ) (n v id : ℕ) → place_of (set starts n v) n id ≡ place_of starts n id
unfolding place_of
place-before starts n v id =
    first_as (λ i. eqb (get_or (set starts n v) i 0) id) (λ i. eqb (get_or starts i 0) id) 0 n
    (λ k a l. ap (λ (x : ℕ). eqb x id) (get_or-set_other starts n k v 0 (λ e. omega arith)))

place_added : (starts : List ℕ) (n v id : ℕ) → n < length starts → place_of (set starts n v) (n + 1) id ≡ or_else (place_of starts n id) (cond (eqb v id) (some n) none)
place_added starts n v id l = place_snoc (set starts n v) n id ∙ rw (place-before starts n v id, get_or-set_same starts n v 0 l) refl

-- ---- no player: an index of zeros
pub index_none : (starts index : List ℕ) → most_start < length index → ((id : ℕ) → id ≤ most_start → get_or index id 0 ≡ 0) → IndexOf starts 0 index
unfolding place_of first_from
index_none starts index l z = record { long = l; says = z }

pub index_zeros : (starts : List ℕ) (m : ℕ) → most_start < m → IndexOf starts 0 (replicate m 0)
index_zeros starts m l = index_none starts (replicate m 0) (omega (arith, length-replicate {A = ℕ} m 0)) (λ id h. get_or-replicate {A = ℕ} m id 0 0 (omega arith))

-- ---- a player more, whose start number none before has
pub index_more : {starts index : List ℕ} {n : ℕ} → IndexOf starts n index → n < length starts → (start : ℕ) → place_of starts n start ≡ none
    → IndexOf (set starts n start) (n + 1) (set index start (n + 1))
index_more {starts} {index} {n} x l start free =
    record { long = let e = length-set index start (n + 1) in let z = x.long in omega arith; says = λ id h. go id h (ℕ_discrete id start) }
  where
    after : (o : Option ℕ) → index_cell o ≡ index_cell (or_else o none)
    after none = refl
    after (some p) = refl

    go : (id : ℕ) → id ≤ most_start → Dec (id ≡ start) → get_or (set index start (n + 1)) id 0 ≡ index_cell (place_of (set starts n start) (n + 1) id)
    go id h (yes e) =
        let z = x.long in
        rw (e, place_added starts n start start l, free, eq-eqb start start refl) (get_or-set_same index start (n + 1) 0 (omega arith))
    go id h (no e) =
        rw (place_added starts n start id l, ne_eqb start id (λ q. e (sym q))) (get_or-set_other index start id (n + 1) 0 e ∙ x.says id h ∙ after (place_of starts n id))

pub low_more : (starts : List ℕ) (n start : ℕ) → LowStarts starts n → n < length starts → start ≤ most_start → LowStarts (set starts n start) (n + 1)
low_more starts n start low l h = λ i m. go i m (ℕ_discrete i n)
  where
    go : (i : ℕ) → i < n + 1 → Dec (i ≡ n) → get_or (set starts n start) i 0 ≤ most_start
    go i m (yes e) = rw (e, get_or-set_same starts n start 0 l) h
    go i m (no e) = let z : i ≡ n → ⊥ = e in rw (get_or-set_other starts n i start 0 e) (low i (omega arith))

-- ---- a look-up
never : (i n : ℕ) → first_from (λ k. false) i n ≡ none
unfolding first_from
never i zero = refl
never i (suc n) = never (i + 1) n

nobody_above : (starts : List ℕ) (n id : ℕ) → LowStarts starts n → most_start < id → place_of starts n id ≡ none
unfolding place_of
nobody_above starts n id low h =
    first_as (λ i. eqb (get_or starts i 0) id) (λ i. false) 0 n (λ k a l. ne_eqb (get_or starts k 0) id (λ e. omega (arith, low k (omega arith)))) ∙ never 0 n

pub above : (starts : List ℕ) (n id : ℕ) → LowStarts starts n → most_start < id → None ≡ as_placed (place_of starts n id)
above starts n id low h = rw (nobody_above starts n id low h) refl

module _ (starts : List ℕ) (n : ℕ) (index : List ℕ) (id : ℕ) where
  pub cell_none : IndexOf starts n index → id ≤ most_start → get_or index id 0 ≡ 0 → None ≡ as_placed (place_of starts n id)
  cell_none x h e = go (place_of starts n id) (sym (x.says id h) ∙ e)
    where
      go : (o : Option ℕ) → index_cell o ≡ 0 → None ≡ as_placed o
      go none q = refl
      go (some p) q = absurd (omega arith)

  pub cell_some : IndexOf starts n index → id ≤ most_start → (v : ℕ) → v ≡ get_or index id 0 → (v ≡ 0 → ⊥) → Some (record { 0 = v - 1 }) ≡ as_placed (place_of starts n id)
  cell_some x h v e z = go (place_of starts n id) (e ∙ x.says id h)
    where
      go : (o : Option ℕ) → v ≡ index_cell o → Some (record { 0 = v - 1 }) ≡ as_placed o
      go none q = absurd (z q)
      go (some p) q = let s : v - 1 ≡ p = omega arith in rw s refl
