-- `Decides S f`: f gives `some a` exactly where the relation S holds of x and a. `Tests P t`: t gives true exactly where P holds.
-- S and P have no reader in them; f and t are the means. Below: functions from which such f are put together.
use Rattle.std.specs.Prelude.{◌≡◌, Bool, true, false, List, [], ◌∷◌}
use Rattle.std.proofs.Math.Option.{Option, none, some}

pub record Decides {X A : Type 0} (S : X → A → Type 0) (f : X → Option A) : Type 0 where
  pub sound : (x : X) (a : A) → f x ≡ some a → S x a
  pub complete : (x : X) (a : A) → S x a → f x ≡ some a

pub record Tests {X : Type 0} (P : X → Type 0) (t : X → Bool) : Type 0 where
  pub sound : (x : X) → t x ≡ true → P x
  pub complete : (x : X) → P x → t x ≡ true

module _ {A B : Type 0} where
  abbrev pub pair : Option A → Option B → Option (A × B)
  pair none q = none
  pair (some a) none = none
  pair (some a) (some b) = some (a, b)

  abbrev pub to : (A → B) → Option A → Option B
  to g none = none
  to g (some a) = some (g a)

module _ {A : Type 0} where
  abbrev pub when : Bool → Option A → Option A
  when true o = o
  when false o = none

  abbrev pub keep : (A → Bool) → Option A → Option A
  keep t none = none
  keep t (some a) = when (t a) (some a)

  abbrev pub cons : Option A → Option (List A) → Option (List A)
  cons none q = none
  cons (some a) none = none
  cons (some a) (some l) = some (a ∷ l)

  abbrev pub is_some : Option A → Bool
  is_some none = false
  is_some (some a) = true

  abbrev pub or_else : Option A → Option A → Option A
  or_else none q = q
  or_else (some x) q = some x

module _ {X A : Type 0} where
  abbrev pub each : (X → Option A) → List X → Option (List A)
  each f [] = some []
  each f (x ∷ xs) = cons (f x) (each f xs)
