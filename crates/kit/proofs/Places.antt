-- The place of a number among others. Assumes nothing.
use mathlib.Core.Path.{◌≡◌, refl, sym, ◌∙◌}
use mathlib.Core.Bool.{Bool, true, false, cond, ◌||◌}
use mathlib.Core.List.{List, [], ◌∷◌, ◌++◌}
use Prim.Native.Nat.{ℕ, suc, ◌≤◌}
use native.Mathlib.Omega.{arith}
use borrow.Author.Tests.{eqb-true, ltb-true, ltb-false, lt-ltb, le-ltb}
use lib.Dec.{eqb, ltb}
use lib.ListN.{length, get_or}
use Rattle.kit.specs.Lists.{among, place_among}
use Rattle.kit.proofs.Bools.{clash}

pub place-most : (c : ℕ) (l : List ℕ) → place_among c l ≤ length l
place-most c [] = omega arith
place-most c (x ∷ l) = go (eqb c x) (place-most c l)
  where
    go : (v : Bool) → place_among c l ≤ length l → cond v 0 (suc (place_among c l)) ≤ suc (length l)
    go true h = omega arith
    go false h = omega (arith, h)

pub place_at : (c : ℕ) (l : List ℕ) → among c l ≡ true → get_or l (place_among c l) 0 ≡ c
place_at c [] e = clash e
place_at c (x ∷ l) e = go (eqb c x) refl e (place_at c l)
  where
    go : (v : Bool) → eqb c x ≡ v → v || among c l ≡ true → (among c l ≡ true → get_or l (place_among c l) 0 ≡ c) → get_or (x ∷ l) (cond v 0 (suc (place_among c l))) 0 ≡ c
    go true p e h = sym (eqb-true c x p)
    go false p e h = h e

suc_ltb : (a b : ℕ) → ltb (suc a) (suc b) ≡ ltb a b
suc_ltb a b = go (ltb a b) refl
  where
    go : (v : Bool) → ltb a b ≡ v → ltb (suc a) (suc b) ≡ v
    go true e = lt-ltb (suc a) (suc b) (omega (arith, ltb-true a b e))
    go false e = le-ltb (suc a) (suc b) (omega (arith, ltb-false a b e))

-- c is one of the first exactly where its place is among theirs
pub place-first : (c : ℕ) (k l : List ℕ) → ltb (place_among c (k ++ l)) (length k) ≡ among c k
place-first c [] l = le-ltb (place_among c l) 0 (omega arith)
place-first c (x ∷ k) l = go (eqb c x) (place-first c k l)
  where
    go : (v : Bool) → ltb (place_among c (k ++ l)) (length k) ≡ among c k → ltb (cond v 0 (suc (place_among c (k ++ l)))) (suc (length k)) ≡ v || among c k
    go true h = lt-ltb 0 (suc (length k)) (omega arith)
    go false h = suc_ltb (place_among c (k ++ l)) (length k) ∙ h
