-- Pairs that are listed, as texts of two: what holds of each listed one holds of two that are listed, one way round or either. Assumes nothing.
use mathlib.Core.Path.{◌≡◌, refl}
use mathlib.Core.Bool.{Bool, true, false, ◌&&◌, ◌||◌}
use mathlib.Core.List.{List, [], ◌∷◌}
use Prim.Native.Nat.{ℕ}
use lib.ListN.{get_or}
use Rattle.kit.specs.Lists.{all, is_one_of}
use Rattle.kit.proofs.Bools.{and, one_of_texts}

module _ (f : ℕ → ℕ → Bool) where
  abbrev pub on_pair : List ℕ → Bool
  on_pair pair = f (get_or pair 0 0) (get_or pair 1 0)

  abbrev pub either_way : List ℕ → Bool
  either_way pair = on_pair pair && f (get_or pair 1 0) (get_or pair 0 0)

  module _ (l : List (List ℕ)) where
    pub listed-pair : all on_pair l ≡ true → (a b : ℕ) → is_one_of (a ∷ b ∷ []) l ≡ true → f a b ≡ true
    listed-pair h a b e = one_of_texts on_pair (a ∷ b ∷ []) l e h

    pub listed_either : all either_way l ≡ true → (a b : ℕ) → is_one_of (a ∷ b ∷ []) l || is_one_of (b ∷ a ∷ []) l ≡ true → f a b ≡ true
    listed_either h a b e = go (is_one_of (a ∷ b ∷ []) l) refl e
      where
        go : (v : Bool) → is_one_of (a ∷ b ∷ []) l ≡ v → v || is_one_of (b ∷ a ∷ []) l ≡ true → f a b ≡ true
        go true p _ = (and (f a b) (f b a) (one_of_texts either_way (a ∷ b ∷ []) l p h)).0
        go false _ p = (and (f b a) (f a b) (one_of_texts either_way (b ∷ a ∷ []) l p h)).1
