-- `results::is_result` meets its contract. Assumes nothing.
use mathlib.Core.Path.{◌≡◌, refl, sym}
use mathlib.Core.Logic.{inl, inr}
use mathlib.Core.List.{List, [], ◌∷◌}
use Prim.Native.Nat.{ℕ}
use types.Run.{OneOf}
use Rattle.fields.proofs.Keys.{key_among, key_other}
use Rattle.results.specs.Order.{known_results}
use Rattle.results.proofs.is_result.Goals as goal

-- no key of either arm
neither : (a k : ℕ) (ks : List ℕ) (c : ℕ) → (c ≡ a → ⊥) → (OneOf (k ∷ ks) c → ⊥) → OneOf (a ∷ k ∷ ks) c → ⊥
neither a k ks c p q (inl e) = p e
neither a k ks c p q (inr o) = q o

pub returns-in-48 : goal.returns-in-48
returns-in-48 c = sym (key_among (48 ∷ []) known_results c.args.c c.in-48.is refl)

pub returns-in-49 : goal.returns-in-49
returns-in-49 c = sym (key_among (43 ∷ 45 ∷ 49 ∷ 61 ∷ 68 ∷ 70 ∷ 72 ∷ 76 ∷ 85 ∷ 87 ∷ 90 ∷ []) known_results c.args.c c.in-49.is refl)

pub returns-in_default : goal.returns-in_default
returns-in_default c = sym (key_other (48 ∷ 43 ∷ 45 ∷ 49 ∷ 61 ∷ 68 ∷ 70 ∷ 72 ∷ 76 ∷ 85 ∷ 87 ∷ 90 ∷ []) known_results c.args.c (neither 48 43 (45 ∷ 49 ∷ 61 ∷ 68 ∷ 70 ∷ 72 ∷ 76 ∷ 85 ∷ 87 ∷ 90 ∷ []) c.args.c c.in_default.in_default-own.rest.0.1 c.in_default.in_default-own.rest.1) refl)
