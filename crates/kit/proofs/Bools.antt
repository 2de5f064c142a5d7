-- Laws on tests: what a conjunction says, ranges, a test that fails. Assumes nothing.
use mathlib.Core.Path.{◌≡◌, refl, sym, ap, ◌∙◌}
use mathlib.Core.Bool.{Bool, true, false, ◌&&◌, ◌||◌}
use mathlib.Core.List.{List, [], ◌∷◌, ◌++◌}
use Prim.Native.Nat.{ℕ, ◌≤◌}
use native.Mathlib.Omega.{arith}
use lib.Dec.{eqb, leb}
use borrow.Author.Tests.{le-leb, leb-true, eqb-true, eq-eqb}
use Rattle.kit.specs.Lists.{between, all, any, conj, among, same, is_one_of}

pub clash : {A : Type 0} → false ≡ true → A
clash e = let z : ◌≡◌ {A = ℕ} 0 1 = cc in absurd (omega arith)

pub and : (a b : Bool) → a && b ≡ true → (a ≡ true) × (b ≡ true)
and true b e = (refl, e)
and false b e = clash e

pub both : {a b : Bool} → a ≡ true → b ≡ true → a && b ≡ true
both p q = rw (p, q) refl

-- the tests of a list, one by one
abbrev pub True : List Bool → Type 0
True [] = Unit {0}
True (b ∷ l) = (b ≡ true) × True l

pub tests_of : (l : List Bool) → conj l ≡ true → True l
tests_of [] e = tt
tests_of (b ∷ l) e = let k = and b (conj l) e in (k.0, tests_of l k.1)

pub of_tests : (l : List Bool) → True l → conj l ≡ true
of_tests [] t = refl
of_tests (b ∷ l) t = both t.0 (of_tests l t.1)

pub within : (a b n : ℕ) → between a b n ≡ true → (a ≤ n) × (n ≤ b)
within a b n e = let k = and (leb a n) (leb n b) e in (leb-true a n k.0, leb-true n b k.1)

pub in_between : (a b n : ℕ) → a ≤ n → n ≤ b → between a b n ≡ true
in_between a b n p q = both (le-leb a n p) (le-leb n b q)

-- two tests that imply each other are one
pub both_ways : (a b : Bool) → (a ≡ true → b ≡ true) → (b ≡ true → a ≡ true) → a ≡ b
both_ways true b f g = sym (f refl)
both_ways false true f g = g refl
both_ways false false f g = refl

pub not_so : (b : Bool) → (b ≡ true → ⊥) → b ≡ false
not_so true h = absurd (h refl)
not_so false h = refl

pub is_so : (b : Bool) → (b ≡ false → ⊥) → b ≡ true
is_so true h = refl
is_so false h = absurd (h refl)

-- ---- texts
pub same_is : (a b : List ℕ) → same a b ≡ true → a ≡ b
same_is [] [] e = refl
same_is [] (b ∷ l) e = clash e
same_is (a ∷ k) [] e = clash e
same_is (a ∷ k) (b ∷ l) e =
    let p = and (eqb a b) (same k l) e in
    ap (λ (x : ℕ). x ∷ k) (eqb-true a b p.0) ∙ ap (λ (x : List ℕ). b ∷ x) (same_is k l p.1)

pub is_same : (a : List ℕ) → same a a ≡ true
is_same [] = refl
is_same (a ∷ k) = both (eq-eqb a a refl) (is_same k)

-- what holds of all of a list holds of one of them
module _ {A : Type 0} (f : A → Bool) (eq : A → A → Bool) (equal : (a b : A) → eq a b ≡ true → a ≡ b) where
  pub one_of_all : (a : A) (l : List A) → any (eq a) l ≡ true → all f l ≡ true → f a ≡ true
  one_of_all a [] e h = clash e
  one_of_all a (x ∷ l) e h = go (eq a x) refl e (and (f x) (all f l) h) (one_of_all a l)
    where
      go : (b : Bool) → eq a x ≡ b → b || any (eq a) l ≡ true → (f x ≡ true) × (all f l ≡ true) → (any (eq a) l ≡ true → all f l ≡ true → f a ≡ true) → f a ≡ true
      go true p q k ih = ap f (equal a x p) ∙ k.0
      go false p q k ih = ih q k.1

pub among-all : (f : ℕ → Bool) (c : ℕ) (l : List ℕ) → among c l ≡ true → all f l ≡ true → f c ≡ true
among-all f c l = one_of_all f eqb eqb-true c l

pub one_of_texts : (f : List ℕ → Bool) (a : List ℕ) (l : List (List ℕ)) → is_one_of a l ≡ true → all f l ≡ true → f a ≡ true
one_of_texts f a l = one_of_all f same same_is a l

pub all_append : {A : Type 0} (f : A → Bool) (a b : List A) → all f a ≡ true → all f b ≡ true → all f (a ++ b) ≡ true
all_append f [] b p q = q
all_append f (c ∷ a) b p q = let k = and (f c) (all f a) p in both k.0 (all_append f a b k.1 q)

pub any_append : {A : Type 0} (f : A → Bool) (a b : List A) → any f (a ++ b) ≡ any f a || any f b
any_append f [] b = refl
any_append f (c ∷ a) b = go (f c) (any_append f a b)
  where
    go : (v : Bool) → any f (a ++ b) ≡ any f a || any f b → v || any f (a ++ b) ≡ (v || any f a) || any f b
    go true e = refl
    go false e = e

pub all_same : {A : Type 0} (f : A → Bool) (a b : List A) → all f (a ++ b) ≡ all f a && all f b
all_same f [] b = refl
all_same f (c ∷ a) b = go (f c) (all_same f a b)
  where
    go : (v : Bool) → all f (a ++ b) ≡ all f a && all f b → v && all f (a ++ b) ≡ (v && all f a) && all f b
    go true e = e
    go false e = refl
