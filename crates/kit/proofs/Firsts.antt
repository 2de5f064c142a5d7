-- The first of which a proposition holds is one at most, with no decision; where a test decides the proposition, `first` finds it. Assumes nothing.
use mathlib.Core.Path.{◌≡◌, refl, sym, ap, ◌∙◌, subst}
use mathlib.Core.Bool.{Bool, true, false, cond, ◌||◌}
use mathlib.Core.Option.{none, some}
use mathlib.Core.List.{List, [], ◌∷◌, ◌++◌, map}
use Prim.Native.Nat.{ℕ, zero, suc, ◌<◌}
use lib.ListN.{length, get_or}
use native.Mathlib.Omega.{arith}
use lib.Dec.{eqb}
use borrow.Author.Tests.{eqb-true}
use Rattle.kit.specs.Lists.{any, among, first, flat}
use Rattle.kit.specs.First.{AllOf, NoneOf, FirstIn}
use Rattle.kit.specs.Decides.{Decides, Tests, or_else}
use Rattle.kit.proofs.Bools.{clash}
use Rattle.kit.proofs.Decided.{fails, failed}

-- ---- all of a list
module _ {L : Type 0} (P : L → Type 0) where
  pub all_of_append : (a b : List L) → AllOf P a → AllOf P b → AllOf P (a ++ b)
  all_of_append [] b h k = k
  all_of_append (x ∷ a) b h k = (h.0, all_of_append a b h.1 k)

  pub all_of_left : (a b : List L) → AllOf P (a ++ b) → AllOf P a
  all_of_left [] b h = tt
  all_of_left (x ∷ a) b h = (h.0, all_of_left a b h.1)

  pub all_of_right : (a b : List L) → AllOf P (a ++ b) → AllOf P b
  all_of_right [] b h = h
  all_of_right (x ∷ a) b h = all_of_right a b h.1

pub all_of_map : {A L : Type 0} (P : L → Type 0) (f : A → L) (l : List A) → AllOf (λ a. P (f a)) l → AllOf P (map f l)
all_of_map P f [] h = tt
all_of_map P f (x ∷ l) h = (h.0, all_of_map P f l h.1)

pub map-all_of : {A L : Type 0} (P : L → Type 0) (f : A → L) (l : List A) → AllOf P (map f l) → AllOf (λ a. P (f a)) l
map-all_of P f [] h = tt
map-all_of P f (x ∷ l) h = (h.0, map-all_of P f l h.1)

pub all_of_flat : {A L : Type 0} (P : L → Type 0) (f : A → List L) (l : List A) → AllOf (λ a. AllOf P (f a)) l → AllOf P (flat f l)
unfolding flat
all_of_flat P f [] h = tt
all_of_flat P f (x ∷ l) h = all_of_append P (f x) (flat f l) h.0 (all_of_flat P f l h.1)

pub flat-all_of : {A L : Type 0} (P : L → Type 0) (f : A → List L) (l : List A) → AllOf P (flat f l) → AllOf (λ a. AllOf P (f a)) l
unfolding flat
flat-all_of P f [] h = tt
flat-all_of P f (x ∷ l) h = (all_of_left P (f x) (flat f l) h, flat-all_of P f l (all_of_right P (f x) (flat f l) h))

pub all_of_each : {L : Type 0} (P Q : L → Type 0) → ((x : L) → P x → Q x) → (l : List L) → AllOf P l → AllOf Q l
all_of_each P Q f [] h = tt
all_of_each P Q f (x ∷ l) h = (f x h.0, all_of_each P Q f l h.1)

pub all_of_at : {L : Type 0} (P : L → Type 0) (d : L) (l : List L) → AllOf P l → (k : ℕ) → k < length l → P (get_or l k d)
all_of_at P d [] h k m = absurd (omega arith)
all_of_at P d (x ∷ l) h zero m = h.0
all_of_at P d (x ∷ l) h (suc k) m = all_of_at P d l h.1 k (omega arith)

-- one of the list that a test finds
pub found_of : {L : Type 0} (P : L → Type 0) (f : L → Bool) (l : List L) → AllOf P l → any f l ≡ true → (x : L) × (f x ≡ true) × P x
found_of P f [] h e = clash e
found_of P f (x ∷ l) h e = go (f x) refl e (found_of P f l h.1)
  where
    go : (v : Bool) → f x ≡ v → v || any f l ≡ true → (any f l ≡ true → (x : _) × (f x ≡ true) × P x) → (x : _) × (f x ≡ true) × P x
    go true u e ih = (x, u, h.0)
    go false u e ih = ih e

-- a list of things that are told apart by a number: what holds of all of it holds of each that stands in it, in whatever order
module _ {A : Type 0} (number : A → ℕ) (back : ℕ → A) (again : (a : A) → back (number a) ≡ a) (P : A → Type 0) where
  pub all_in : (l : List A) → AllOf P l → (a : A) → among (number a) (map number l) ≡ true → P a
  all_in [] h a e = clash e
  all_in (x ∷ l) h a e = go (eqb (number a) (number x)) refl e (all_in l h.1 a)
    where
      go : (b : Bool) → eqb (number a) (number x) ≡ b → b || among (number a) (map number l) ≡ true → (among (number a) (map number l) ≡ true → P a) → P a
      go true p q ih = subst P (sym (sym (again a) ∙ ap back (eqb-true (number a) (number x) p) ∙ again x)) h.0
      go false p q ih = ih q

pub all_every : {A : Type 0} (P : A → Type 0) → ((a : A) → P a) → (l : List A) → AllOf P l
all_every P h [] = tt
all_every P h (x ∷ l) = (h x, all_every P h l)

module _ {L : Type 0} (P : L → Type 0) where
  -- ---- one at most
  one_split : (b : List L) (x : L) (a b' : List L) (y : L) (a' : List L) → NoneOf P b → P x → NoneOf P b' → P y → b ++ (x ∷ a) ≡ b' ++ (y ∷ a') → x ≡ y
  one_split [] x a [] y a' h p h' p' e = cc
  one_split [] x a (z ∷ b') y a' h p h' p' e = let u : x ≡ z = cc in absurd (h'.0 (subst P u p))
  one_split (z ∷ b) x a [] y a' h p h' p' e = let u : y ≡ z = cc in absurd (h.0 (subst P u p'))
  one_split (z ∷ b) x a (z' ∷ b') y a' h p h' p' e = one_split b x a b' y a' h.1 p h'.1 p' (cc)

  pub first_unique : {l : List L} {x y : L} → FirstIn P l x → FirstIn P l y → x ≡ y
  first_unique f g = one_split f.before _ f.after g.before _ g.after f.none_before f.holds g.none_before g.holds (sym f.stands ∙ g.stands)

  -- and none where it holds of none
  none_in : (b : List L) (x : L) (a : List L) → NoneOf P (b ++ (x ∷ a)) → P x → ⊥
  none_in [] x a h p = h.0 p
  none_in (y ∷ b) x a h p = none_in b x a h.1 p

  pub none_first : {l : List L} {x : L} → NoneOf P l → FirstIn P l x → ⊥
  none_first h f = none_in f.before _ f.after (subst (NoneOf P) f.stands h) f.holds

  pub first_later : (y : L) {l : List L} {x : L} → (P y → ⊥) → FirstIn P l x → FirstIn P (y ∷ l) x
  first_later y n f =
      record {
        before = y ∷ f.before;
        after = f.after;
        stands = ap (λ (m : List L). y ∷ m) f.stands;
        none_before = (n, f.none_before);
        holds = f.holds;
      }

-- ---- where a test decides the proposition
module _ {L : Type 0} {P : L → Type 0} {t : L → Bool} (d : Tests P t) where
  found : (b : List L) (x : L) (a : List L) → NoneOf P b → P x → first t (b ++ (x ∷ a)) ≡ some x
  found [] x a h p = rw (d.complete x p) refl
  found (y ∷ b) x a h p = rw (failed d y h.0) (found b x a h.1 p)

  first-sound : (l : List L) (x : L) → first t l ≡ some x → FirstIn P l x
  first-sound [] x e = let z : ◌≡◌ {A = ℕ} 0 1 = cc in absurd (omega arith)
  first-sound (y ∷ l) x e = go (t y) refl (first-sound l x) e
    where
      go : (b : Bool) → t y ≡ b → (first t l ≡ some x → FirstIn P l x) → cond b (some y) (first t l) ≡ some x → FirstIn P (y ∷ l) x
      go true p ih q =
          let u : y ≡ x = cc in
          record { before = []; after = l; stands = ap (λ (z : L). z ∷ l) u; none_before = tt; holds = subst P u (d.sound y p) }
      go false p ih q = first_later P y (fails d y p) (ih q)

  pub firsts : Decides (FirstIn P) (first t)
  firsts =
      record {
        sound = first-sound;
        complete = λ l x f. ap (first t) f.stands ∙ found f.before x f.after f.none_before f.holds;
      }

  pub none_found : (l : List L) → first t l ≡ none → NoneOf P l
  none_found [] e = tt
  none_found (y ∷ l) e = go (t y) refl (none_found l) e
    where
      go : (b : Bool) → t y ≡ b → (first t l ≡ none → NoneOf P l) → cond b (some y) (first t l) ≡ none → NoneOf P (y ∷ l)
      go true p ih q = let z : ◌≡◌ {A = ℕ} 0 1 = cc in absurd (omega arith)
      go false p ih q = (fails d y p, ih q)

  pub found_none : (l : List L) → NoneOf P l → first t l ≡ none
  found_none [] h = refl
  found_none (y ∷ l) h = rw (failed d y h.0) (found_none l h.1)

-- ---- the first of a list put together
pub first-append : {L : Type 0} (t : L → Bool) (a b : List L) → first t (a ++ b) ≡ or_else (first t a) (first t b)
first-append t [] b = refl
first-append t (x ∷ a) b = go (t x) (first-append t a b)
  where
    go : (v : Bool) → first t (a ++ b) ≡ or_else (first t a) (first t b) → cond v (some x) (first t (a ++ b)) ≡ or_else (cond v (some x) (first t a)) (first t b)
    go true e = refl
    go false e = e
