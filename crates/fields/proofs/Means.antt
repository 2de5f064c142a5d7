-- What a reader's contract says in the statement's terms. Assumes nothing.
use mathlib.Core.Path.{◌≡◌, refl, sym, subst}
use mathlib.Core.Logic.{inl, inr}
use mathlib.Core.Option.{Option, none, some}
use mathlib.Core.List.{List}
use Prim.Native.Nat.{ℕ}
use Rattle.kit.specs.Decides.{Decides, to}
use Rattle.kit.proofs.Decided.{refused}
use Rattle.law.proofs.FieldsRead as law
use Rattle.fields.specs.Said.{Said, or_bad_field, Means}
use Rattle.fields.specs.Fields.{or_blank, SpellsNumberOrBlanks}

-- a number field, of which blanks are said too
pub number_means : (field : List ℕ) (s : Said (Option ℕ)) → s ≡ or_blank (law.number_of field) → Means SpellsNumberOrBlanks field s
number_means field s e = subst (Means SpellsNumberOrBlanks field) (sym e) (go (law.number_of field) refl)
  where
    go : (o : law.Number) → law.number_of field ≡ o → Means SpellsNumberOrBlanks field (or_blank o)
    go (law.value n) p = law.number-sound field n p
    go law.none-there p = law.blank-sound field p
    go law.bad p = (refl, nothing)
      where
        nothing : (n : Option ℕ) → SpellsNumberOrBlanks field n → ⊥
        nothing (some n) h = refused law.number-or-blank field (rw p refl) n (inl h)
        nothing none h = refused law.number-or-blank field (rw p refl) 0 (inr (h, refl))

-- what is read of a value that a relation spells
module _ {X A : Type 0} {S : X → A → Type 0} {f : X → Option A} (d : Decides S f) (x : X) where
  pub means : (s : Said A) → s ≡ or_bad_field (f x) → Means S x s
  means s e = subst (Means S x) (sym e) (go (f x) refl)
    where
      go : (o : Option A) → f x ≡ o → Means S x (or_bad_field o)
      go (some a) p = d.sound x a p
      go none p = (refl, refused d x p)

  -- or a part of it
  pub means_part : {B : Type 0} (g : A → B) (s : Said B) → s ≡ or_bad_field (to g (f x)) → Means (λ (y : X) (b : B). (a : A) × (S y a × (b ≡ g a))) x s
  means_part {B} g s e = subst (Means (λ (y : X) (b : B). (a : A) × (S y a × (b ≡ g a))) x) (sym e) (go (f x) refl)
    where
      go : (o : Option A) → f x ≡ o → Means (λ (y : X) (b : B). (a : A) × (S y a × (b ≡ g a))) x (or_bad_field (to g o))
      go (some a) p = (a, (d.sound x a p, refl))
      go none p = (refl, λ b h. refused d x p h.0 h.1.0)
