-- What a 162 line makes of the six values. Assumes nothing.
use mathlib.Core.Path.{◌≡◌, refl}
use mathlib.Core.Bool.{Bool, true, false, cond, ◌||◌}
use mathlib.Core.List.{List, [], ◌∷◌}
use Prim.Native.Nat.{ℕ}
use lib.Dec.{eqb}
use Rattle.kit.specs.Lists.{among}
use Rattle.law.specs.Scoring.{defaults, letters_of, given_or, scoring_of}

-- where a letter is given, what it would be worth otherwise does not matter; where it is not, it is worth just that
pub given_else : (d e letter : ℕ) (given : List (ℕ × ℕ)) → cond (among letter (letters_of given)) (given_or d letter given) e ≡ given_or e letter given
given_else d e letter [] = refl
given_else d e letter (v ∷ given) = go (eqb letter v.0) (given_else d e letter given)
  where
    go : (b : Bool) → cond (among letter (letters_of given)) (given_or d letter given) e ≡ given_or e letter given
        → cond (b || among letter (letters_of given)) (cond b v.1 (given_or d letter given)) e ≡ cond b v.1 (given_or e letter given)
    go true h = refl
    go false h = h

-- "The same defaults hold with no 162." All six: `scoring_of` itself takes P and X from W and D
pub no_162 : scoring_of [] ≡ defaults
unfolding scoring_of
no_162 = refl
