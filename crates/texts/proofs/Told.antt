-- Tests that tell whether something is so: a no, one put in other words, and a Boolean test. Assumes nothing.
use mathlib.Core.Path.{◌≡◌, sym, ◌∙◌}
use mathlib.Core.Bool.{Bool, true, false}
use Rattle.kit.specs.Decides.{Tests}
use Rattle.kit.proofs.Bools.{clash}
use Rattle.texts.specs.Kept.{Told}

pub told_no : {P : Type 0} → (P → ⊥) → Told P false
told_no h = record { sound = clash; complete = λ p. absurd (h p) }

pub told_as : {P Q : Type 0} {b : Bool} → (P → Q) → (Q → P) → Told P b → Told Q b
told_as f g t = record { sound = λ e. f (t.sound e); complete = λ q. t.complete (g q) }

-- the test itself
pub told_is : (b r : Bool) → r ≡ b → Told (b ≡ true) r
told_is b r e = record { sound = λ h. sym e ∙ h; complete = λ h. e ∙ h }

pub told_test : {X : Type 0} {P : X → Type 0} {t : X → Bool} → Tests P t → (x : X) {r : Bool} → r ≡ t x → Told (P x) r
told_test d x e = record { sound = λ h. d.sound x (sym e ∙ h); complete = λ p. e ∙ d.complete x p }
