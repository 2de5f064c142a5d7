-- A byte among a list of bytes, by the keys of a `match` and by runs of bytes. Assumes nothing.
use mathlib.Core.Path.{◌≡◌, refl, sym, ap, ◌∙◌}
use mathlib.Core.Logic.{inl, inr}
use mathlib.Core.Bool.{Bool, true, false, ◌&&◌, ◌||◌}
use mathlib.Core.List.{List, [], ◌∷◌}
use Prim.Native.Nat.{ℕ, zero, suc, ◌+◌, ◌≤◌, ◌<◌}
use native.Mathlib.Decide.{ℕ_discrete}
use native.Mathlib.Omega.{arith}
use lib.Dec.{eqb, leb}
use borrow.Author.Tests.{eqb-true, lt-leb}
use types.Run.{OneOf}
use Rattle.kit.specs.Lists.{between, all, among, from}
use Rattle.kit.proofs.Bools.{clash, and, within, among-all, both_ways, not_so}

pub and-false : (b : Bool) → b && false ≡ false
and-false true = refl
and-false false = refl

pub key_among : (ks l : List ℕ) (c : ℕ) → OneOf ks c → all (λ k. among k l) ks ≡ true → among c l ≡ true
key_among [] l c h e = absurd h
key_among (k ∷ []) l c h e = ap (λ (x : ℕ). among x l) h ∙ (and (among k l) true e).0
key_among (k ∷ j ∷ ks) l c (inl h) e = ap (λ (x : ℕ). among x l) h ∙ (and (among k l) (all (λ k. among k l) (j ∷ ks)) e).0
key_among (k ∷ j ∷ ks) l c (inr h) e = key_among (j ∷ ks) l c h (and (among k l) (all (λ k. among k l) (j ∷ ks)) e).1

pub one_of : (ks : List ℕ) (c : ℕ) → among c ks ≡ true → OneOf ks c
one_of [] c e = clash e
one_of (k ∷ []) c e = go (eqb c k) refl e
  where
    go : (b : Bool) → eqb c k ≡ b → b || false ≡ true → c ≡ k
    go true p q = eqb-true c k p
    go false p q = clash q
one_of (k ∷ j ∷ ks) c e = go (eqb c k) refl e (one_of (j ∷ ks) c)
  where
    go : (b : Bool) → eqb c k ≡ b → b || among c (j ∷ ks) ≡ true → (among c (j ∷ ks) ≡ true → OneOf (j ∷ ks) c) → OneOf (k ∷ j ∷ ks) c
    go true p q ih = inl (eqb-true c k p)
    go false p q ih = inr (ih q)

pub key_other : (ks l : List ℕ) (c : ℕ) → (OneOf ks c → ⊥) → all (λ x. among x ks) l ≡ true → among c l ≡ false
key_other ks l c h e = not_so (among c l) (λ p. h (one_of ks c (among-all (λ x. among x ks) c l p e)))

-- ---- a run of n bytes from first on, and one other
pub in_run : (n first : ℕ) (l : List ℕ) (c : ℕ) → first ≤ c → c < first + n → all (λ k. among k l) (from first n) ≡ true → among c l ≡ true
in_run zero first l c p q e = absurd (omega arith)
in_run (suc n) first l c p q e = go (ℕ_discrete first c) (in_run n (first + 1) l c)
  where
    parts : (among first l ≡ true) × (all (λ k. among k l) (from (first + 1) n) ≡ true)
    parts = and (among first l) (all (λ k. among k l) (from (first + 1) n)) e

    go : Dec (first ≡ c) → (first + 1 ≤ c → c < first + 1 + n → all (λ k. among k l) (from (first + 1) n) ≡ true → among c l ≡ true) → among c l ≡ true
    go (yes d) ih = ap (λ (x : ℕ). among x l) (sym d) ∙ parts.0
    go (no d) ih = let z : first ≡ c → ⊥ = d in ih (omega arith) (omega arith) parts.1

pub run-or : (first n other : ℕ) (l : List ℕ) → all (λ x. eqb x other || between first (first + n) x) l ≡ true → all (λ k. among k l) (other ∷ from first (suc n)) ≡ true
    → (c : ℕ) → among c l ≡ eqb c other || between first (first + n) c
run-or first n other l there back c =
    both_ways (among c l) (eqb c other || between first (first + n) c)
    (λ p. among-all (λ x. eqb x other || between first (first + n) x) c l p there)
    (λ p. go (between first (first + n) c) refl (eqb c other) refl p)
  where
    parts : (among other l ≡ true) × (all (λ k. among k l) (from first (suc n)) ≡ true)
    parts = and (among other l) (all (λ k. among k l) (from first (suc n))) back

    go : (v : Bool) → between first (first + n) c ≡ v → (w : Bool) → eqb c other ≡ w → w || v ≡ true → among c l ≡ true
    go v p true q e = ap (λ (x : ℕ). among x l) (eqb-true c other q) ∙ parts.0
    go true p false q e = let k = within first (first + n) c p in in_run (suc n) first l c k.0 (omega (arith, k.1)) parts.1
    go false p false q e = clash e

-- ---- neither a key of the `match` nor in its run
pub key_nor_run : (ks l : List ℕ) (first last c : ℕ) → (OneOf ks c → ⊥) → between first last c ≡ false → all (λ x. between first last x || among x ks) l ≡ true → among c l ≡ false
key_nor_run ks l first last c h r e = not_so (among c l) (λ p. h (one_of ks c (go (among-all (λ x. between first last x || among x ks) c l p e))))
  where
    go : between first last c || among c ks ≡ true → among c ks ≡ true
    go q = rw r at q

pub run_below : (first last c : ℕ) → c < first → between first last c ≡ false
run_below first last c h = rw (lt-leb first c h) refl

pub run_above : (first last c : ℕ) → last < c → between first last c ≡ false
run_above first last c h = rw (lt-leb c last h) (and-false (leb first c))
