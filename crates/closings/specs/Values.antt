-- Values that are points.
use Rattle.std.specs.Prelude.{Bool, List, ℕ, leb}
use Rattle.kit.specs.Lists.{all}
use Rattle.law.specs.Sizes.{most_points}

abbrev pub are_small : List ℕ → Bool
are_small values = all (λ v. leb v most_points) values
