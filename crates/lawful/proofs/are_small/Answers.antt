-- `lawful::are_small` meets its contract. Assumes nothing.
use mathlib.Core.Path.{◌≡◌, refl, ap, ◌∙◌}
use mathlib.Core.Bool.{Bool, ◌&&◌}
use mathlib.Core.List.{List, [], ◌∷◌}
use Prim.Native.Nat.{ℕ}
use lib.Dec.{leb}
use borrow.Author.Tests.{tests}
use Rattle.std.specs.List.{list_all}
use Rattle.std.proofs.Common.{rules}
use Rattle.std.proofs.lemmas.Iterator.{YieldsList-from_slice}
use Rattle.std.proofs.lemmas.Iterator.Search.{all_from_yields_List}
use Rattle.law.specs.Sizes.{most_points}
use Rattle.closings.specs.Values.{are_small}
use Rattle.lawful.proofs.are_small.Goals as goal

same_all : (values : List ℕ) → list_all (λ v. leb v most_points) values ≡ are_small values
same_all [] = refl
same_all (v ∷ values) = ap (λ (b : Bool). leb v most_points && b) (same_all values)

pub returns : goal.returns
returns c =
    all_from_yields_List (λ v. leb v most_points) _ _ _ c.all.ensures.ran (YieldsList-from_slice c.args.values.now cc) (λ x b q k. search (rules, tests)) ∙ same_all c.args.values.now
