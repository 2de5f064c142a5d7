-- The results that fit, listed the player's own first: the statement's pairs, and the same turned round. Assumes nothing.
use mathlib.Core.Path.{◌≡◌, refl}
use mathlib.Core.Bool.{Bool}
use mathlib.Core.List.{[], ◌∷◌}
use Prim.Native.Nat.{ℕ}
use Rattle.kit.specs.Lists.{is_one_of}
use Rattle.kit.proofs.Bools.{both_ways}
use Rattle.kit.proofs.Pairs.{listed-pair, listed_either}
use Rattle.law.specs.Entries.{fitting_pairs, fits}
use Rattle.demands.specs.Demands.{fitting_ways}

abbrev is_way : ℕ → ℕ → Bool
is_way own theirs = is_one_of (own ∷ theirs ∷ []) fitting_ways

pub results_fit : (own theirs : ℕ) → fits own theirs ≡ is_one_of (own ∷ theirs ∷ []) fitting_ways
unfolding fits
results_fit own theirs = both_ways (fits own theirs) (is_way own theirs) (listed_either is_way fitting_pairs refl own theirs) (listed-pair fits fitting_ways refl own theirs)
