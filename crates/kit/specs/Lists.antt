-- Words on lists: for all, for some, is one of, one after another.
use Rattle.std.specs.Prelude.{Bool, true, false, cond, ◌&&◌, ◌||◌, List, [], ◌∷◌, ◌++◌, ℕ, zero, suc, ◌+◌, eqb, leb}
use Rattle.std.proofs.Math.Option.{Option, none, some}

-- from a to b
abbrev pub between : ℕ → ℕ → ℕ → Bool
between a b n = leb a n && leb n b

module _ {A : Type 0} where
  abbrev pub all : (A → Bool) → List A → Bool
  all f [] = true
  all f (x ∷ l) = f x && all f l

  abbrev pub any : (A → Bool) → List A → Bool
  any f [] = false
  any f (x ∷ l) = f x || any f l

  abbrev pub is_empty : List A → Bool
  is_empty [] = true
  is_empty (x ∷ l) = false

  abbrev pub at_most_one : List A → Bool
  at_most_one [] = true
  at_most_one (x ∷ l) = is_empty l

  -- the first of a list, or else d: of a list with at most one, the only one
  abbrev pub only_or : A → List A → A
  only_or d [] = d
  only_or d (x ∷ l) = x

  -- each of l passes a test that also looks at those before it; e stand before l
  abbrev pub each_after : (List A → A → Bool) → List A → List A → Bool
  each_after f e [] = true
  each_after f e (x ∷ l) = f e x && each_after f (e ++ (x ∷ [])) l

-- all of these tests
abbrev pub conj : List Bool → Bool
conj [] = true
conj (b ∷ l) = b && conj l

-- is one of these
abbrev pub among : ℕ → List ℕ → Bool
among c l = any (eqb c) l

-- how many of these stand before c; all of them where c is none
abbrev pub place_among : ℕ → List ℕ → ℕ
place_among c [] = 0
place_among c (x ∷ l) = cond (eqb c x) 0 (suc (place_among c l))

-- the same text
abbrev pub same : List ℕ → List ℕ → Bool
same [] [] = true
same [] (b ∷ l) = false
same (a ∷ k) [] = false
same (a ∷ k) (b ∷ l) = eqb a b && same k l

abbrev pub is_one_of : List ℕ → List (List ℕ) → Bool
is_one_of a l = any (same a) l

-- i, i + 1, .., of which there are n
abbrev pub from : ℕ → ℕ → List ℕ
from i zero = []
from i (suc n) = i ∷ from (i + 1) n

module _ {A B : Type 0} where
  -- what each gives, one after the other
  unfoldable pub flat : (A → List B) → List A → List B
  flat f [] = []
  flat f (x ∷ l) = f x ++ flat f l

  -- one for one
  abbrev pub Each : (A → B → Type 0) → List A → List B → Type 0
  Each S [] [] = Unit {0}
  Each S [] (b ∷ l) = ⊥
  Each S (a ∷ k) [] = ⊥
  Each S (a ∷ k) (b ∷ l) = S a b × Each S k l

module _ {A : Type 0} where
  abbrev pub sum_of : (A → ℕ) → List A → ℕ
  sum_of f [] = 0
  sum_of f (x ∷ l) = f x + sum_of f l

  -- the first that passes a test
  abbrev pub first : (A → Bool) → List A → Option A
  first t [] = none
  first t (x ∷ l) = cond (t x) (some x) (first t l)

-- the highest of 1 .. m that passes a test, or 0
unfoldable pub top : (ℕ → Bool) → ℕ → ℕ
top t zero = 0
top t (suc m) = cond (t (suc m)) (suc m) (top t m)
