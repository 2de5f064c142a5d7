-- A decided relation holds of one thing at most, and of none exactly where its function gives none. Combinators that carry the proof. Assumes nothing.
use mathlib.Core.Path.{◌≡◌, refl, sym, ap, ◌∙◌, subst}
use mathlib.Core.Option.{Option, none, some, none-ne-some}
use mathlib.Core.Bool.{Bool, true, false, ◌&&◌, not}
use mathlib.Core.List.{List, [], ◌∷◌}
use Prim.Native.Nat.{ℕ}
use native.Mathlib.Omega.{arith}
use Rattle.kit.specs.Lists.{Each}
use Rattle.kit.specs.Decides.{Decides, Tests, pair, to, when, keep, cons, is_some, each}
use Rattle.kit.proofs.Bools.{clash, and}

module _ {X A : Type 0} {S : X → A → Type 0} {f : X → Option A} (d : Decides S f) where
  pub unique : (x : X) (a b : A) → S x a → S x b → a ≡ b
  unique x a b p q = let u = d.complete x a p in let v = d.complete x b q in cc

  pub refused : (x : X) → f x ≡ none → (a : A) → S x a → ⊥
  refused x e a p = none-ne-some a (sym e ∙ d.complete x a p)

  pub refuses : (x : X) → ((a : A) → S x a → ⊥) → f x ≡ none
  refuses x h = go (f x) refl
    where
      go : (o : Option A) → f x ≡ o → f x ≡ none
      go none e = e
      go (some a) e = absurd (h a (d.sound x a e))

-- ---- what a combined `some` says of its parts
pub no_some : {A B : Type 0} {b : A} → ◌≡◌ {A = Option A} none (some b) → B
no_some {b = b} e = absurd (none-ne-some b e)

module _ {A B : Type 0} where
  pub pair_inv : (o : Option A) (q : Option B) (a : A) (b : B) → pair o q ≡ some (a, b) → (o ≡ some a) × (q ≡ some b)
  pair_inv none q a b e = no_some e
  pair_inv (some x) none a b e = no_some e
  pair_inv (some x) (some y) a b e =
      let u : ◌≡◌ {A = A × B} (x, y) (a, b) = cc in
      (ap (λ (p : A × B). some p.0) u, ap (λ (p : A × B). some p.1) u)

  pub to_at : (g : A → B) (o : Option A) (b : B) → to g o ≡ some b → (a : A) × (o ≡ some a) × (b ≡ g a)
  to_at g none b e = no_some e
  to_at g (some a) b e = (a, refl, cc)

  to_inv : (g : A → B) (h : B → A) → ((a : A) → h (g a) ≡ a) → (o : Option A) (b : B) → to g o ≡ some b → o ≡ some (h b)
  to_inv g h hg none b e = no_some e
  to_inv g h hg (some a) b e = let u : g a ≡ b = cc in ap some (sym (hg a) ∙ ap h u)

module _ {A : Type 0} where
  pub when_inv : (v : Bool) (o : Option A) (a : A) → when v o ≡ some a → (v ≡ true) × (o ≡ some a)
  when_inv true o a e = (refl, e)
  when_inv false o a e = no_some e

  pub keep_inv : (t : A → Bool) (o : Option A) (a : A) → keep t o ≡ some a → (o ≡ some a) × (t a ≡ true)
  keep_inv t none a e = no_some e
  keep_inv t (some b) a e =
      let k = when_inv (t b) (some b) a e in
      let u : b ≡ a = cc in
      (k.1, subst (λ (c : A). t c ≡ true) u k.0)

  pub cons-nil : (o : Option A) (q : Option (List A)) → cons o q ≡ some [] → ⊥
  cons-nil none q e = no_some e
  cons-nil (some a) none e = no_some e
  cons-nil (some a) (some l) e = let z : ◌≡◌ {A = ℕ} 0 1 = cc in omega arith

  pub cons_inv : (o : Option A) (q : Option (List A)) (a : A) (l : List A) → cons o q ≡ some (a ∷ l) → (o ≡ some a) × (q ≡ some l)
  cons_inv none q a l e = no_some e
  cons_inv (some x) none a l e = no_some e
  cons_inv (some x) (some y) a l e = (cc, cc)

-- ---- combinators
module _ {X A B : Type 0} {S : X → A → Type 0} {R : X → B → Type 0} {f : X → Option A} {g : X → Option B} where
  -- two things at once
  pub together : Decides S f → Decides R g → Decides (λ x (p : A × B). S x p.0 × R x p.1) (λ x. pair (f x) (g x))
  together d e =
      record {
        sound = λ x p h. let k = pair_inv (f x) (g x) p.0 p.1 h in (d.sound x p.0 k.0, e.sound x p.1 k.1);
        complete = λ x p h. rw (d.complete x p.0 h.0, e.complete x p.1 h.1) refl;
      }

module _ {X A : Type 0} {S : X → A → Type 0} {f : X → Option A} (d : Decides S f) where
  -- the same under other names: a record for a tuple
  pub renamed : {B : Type 0} (g : A → B) (h : B → A) → ((a : A) → h (g a) ≡ a) → ((b : B) → g (h b) ≡ b) → Decides (λ x b. S x (h b)) (λ x. to g (f x))
  renamed g h hg gh =
      record {
        sound = λ x b e. d.sound x (h b) (to_inv g h hg (f x) b e);
        complete = λ x b p. rw (d.complete x (h b) p) (ap some (gh b));
      }

  -- only what passes a test
  pub kept : (t : A → Bool) → Decides (λ x a. S x a × (t a ≡ true)) (λ x. keep t (f x))
  kept t =
      record {
        sound = λ x a e. let k = keep_inv t (f x) a e in (d.sound x a k.0, k.1);
        complete = λ x a p. rw (d.complete x a p.0, p.1) refl;
      }

  -- only of a text of which a proposition holds
  pub guarded_by : {P : X → Type 0} {t : X → Bool} → Tests P t → Decides (λ x a. P x × S x a) (λ x. when (t x) (f x))
  guarded_by {t = t} c =
      record {
        sound = λ x a e. let k = when_inv (t x) (f x) a e in (c.sound x k.0, d.sound x a k.1);
        complete = λ x a p. rw (c.complete x p.0) (d.complete x a p.1);
      }

  -- a thing that is made of the text and of what was read
  pub made : {B : Type 0} (g : X → A → B) (h : B → A) → ((x : X) (a : A) → h (g x a) ≡ a) → Decides (λ x b. (b ≡ g x (h b)) × S x (h b)) (λ x. to (g x) (f x))
  made g h hg =
      record {
        sound = λ x b e. let k = to_at (g x) (f x) b e in
            let u : h b ≡ k.0 = ap h k.2 ∙ hg x k.0 in
            (k.2 ∙ ap (g x) (sym u), subst (λ (a : _). S x a) (sym u) (d.sound x k.0 k.1));
        complete = λ x b p. rw (d.complete x (h b) p.1) (ap some (sym p.0));
      }

  -- the same relation in other words
  pub retold : {R : X → A → Type 0} → ((x : X) (a : A) → S x a → R x a) → ((x : X) (a : A) → R x a → S x a) → Decides R f
  retold there back = record { sound = λ x a e. there x a (d.sound x a e); complete = λ x a r. d.complete x a (back x a r) }

  -- of something computed from the text
  pub on : {Y : Type 0} (v : Y → X) → Decides (λ y. S (v y)) (λ y. f (v y))
  on v = record { sound = λ y. d.sound (v y); complete = λ y. d.complete (v y) }

  -- something is spelled
  pub spelled : Tests (λ x. (a : A) × S x a) (λ x. is_some (f x))
  spelled = record { sound = λ x e. go x (f x) refl e; complete = λ x h. rw (d.complete x h.0 h.1) refl }
    where
      go : (x : X) (o : Option A) → f x ≡ o → is_some o ≡ true → (a : A) × S x a
      go x none p e = clash e
      go x (some a) p e = (a, d.sound x a p)

  -- nothing is spelled
  pub unspelled : Tests (λ x. (a : A) → S x a → ⊥) (λ x. not (is_some (f x)))
  unspelled = record { sound = λ x e. go (f x) refl e; complete = λ x h. rw (refuses d x h) refl }
    where
      go : {x : X} (o : Option A) → f x ≡ o → not (is_some o) ≡ true → (a : A) → S x a → ⊥
      go {x} none p e = refused d x p
      go (some a) p e = clash e

-- one for each of a list
module _ {X A : Type 0} {S : X → A → Type 0} {f : X → Option A} (d : Decides S f) where
  each-sound : (xs : List X) (l : List A) → each f xs ≡ some l → Each S xs l
  each-sound [] [] e = tt
  each-sound [] (a ∷ l) e = let z : ◌≡◌ {A = ℕ} 0 1 = cc in absurd (omega arith)
  each-sound (x ∷ xs) [] e = absurd (cons-nil (f x) (each f xs) e)
  each-sound (x ∷ xs) (a ∷ l) e =
      let k = cons_inv (f x) (each f xs) a l e in
      (d.sound x a k.0, each-sound xs l k.1)

  each-complete : (xs : List X) (l : List A) → Each S xs l → each f xs ≡ some l
  each-complete [] [] h = refl
  each-complete [] (a ∷ l) h = absurd h
  each-complete (x ∷ xs) [] h = absurd h
  each-complete (x ∷ xs) (a ∷ l) h = rw (d.complete x a h.0, each-complete xs l h.1) refl

  pub listed : Decides (Each S) (each f)
  listed = record { sound = each-sound; complete = each-complete }

-- what is computed from the text
pub plain : {X A : Type 0} (v : X → A) → Decides (λ x a. a ≡ v x) (λ x. some (v x))
plain v = record { sound = λ x a e. cc; complete = λ x a e. ap some (sym e) }

-- ---- tests
module _ {X : Type 0} {P : X → Type 0} {t : X → Bool} (d : Tests P t) where
  pub fails : (x : X) → t x ≡ false → P x → ⊥
  fails x e p = clash (sym e ∙ d.complete x p)

  pub failed : (x : X) → (P x → ⊥) → t x ≡ false
  failed x h = go (t x) refl
    where
      go : (b : Bool) → t x ≡ b → b ≡ false
      go false e = refl
      go true e = absurd (h (d.sound x e))

  pub tests_on : {Y : Type 0} (v : Y → X) → Tests (λ y. P (v y)) (λ y. t (v y))
  tests_on v = record { sound = λ y. d.sound (v y); complete = λ y. d.complete (v y) }

  pub tests_retold : {Q : X → Type 0} → ((x : X) → P x → Q x) → ((x : X) → Q x → P x) → Tests Q t
  tests_retold there back = record { sound = λ x e. there x (d.sound x e); complete = λ x q. d.complete x (back x q) }

-- a test is its own proposition
pub itself : {X : Type 0} (t : X → Bool) → Tests (λ x. t x ≡ true) t
itself t = record { sound = λ x e. e; complete = λ x e. e }

module _ {X : Type 0} {P Q : X → Type 0} {t u : X → Bool} where
  pub tests_both : Tests P t → Tests Q u → Tests (λ x. P x × Q x) (λ x. t x && u x)
  tests_both d e =
      record {
        sound = λ x h. let k = and (t x) (u x) h in (d.sound x k.0, e.sound x k.1);
        complete = λ x h. rw (d.complete x h.0, e.complete x h.1) refl;
      }

-- two tests
pub two : {X : Type 0} (t u : X → Bool) → Tests (λ x. (t x ≡ true) × (u x ≡ true)) (λ x. t x && u x)
two t u = tests_both (itself t) (itself u)
