-- What a result earns is one of the values or 0, so that a sum over the rounds is small. Assumes nothing.
use mathlib.Core.Path.{◌≡◌}
use mathlib.Core.Bool.{Bool, true, false, cond}
use mathlib.Core.List.{List, [], ◌∷◌}
use Prim.Native.Nat.{ℕ, zero, suc, ◌≤◌}
use native.Mathlib.Omega.{arith}
use lib.Dec.{eqb, leb}
use lib.ListN.{get_or}
use borrow.Author.Tests.{leb-true}
use Rattle.kit.specs.Ascii.{ascii}
use Rattle.kit.specs.Lists.{among}
use Rattle.kit.proofs.Bools.{and}
use Rattle.law.specs.Sizes.{most_points}
use Rattle.law.specs.Players.{unknown_result}
use Rattle.join.specs.Check.{worth_by}
use Rattle.closings.specs.Values.{are_small}

small_at : (v : List ℕ) (i : ℕ) → are_small v ≡ true → get_or v i 0 ≤ most_points
small_at [] i e = omega arith
small_at (x ∷ v) zero e = leb-true x most_points (and (leb x most_points) (are_small v) e).0
small_at (x ∷ v) (suc i) e = small_at v i (and (leb x most_points) (are_small v) e).1

either : (t : Bool) (a b : ℕ) → a ≤ most_points → b ≤ most_points → cond t a b ≤ most_points
either true a b p q = p
either false a b p q = q

pub worth-small : (v : List ℕ) (result : ℕ) → are_small v ≡ true → worth_by v result ≤ most_points
unfolding worth_by
worth-small v result e =
    either (among result (ascii "1W+F")) _ _ (small_at v 0 e)
    (either (among result (ascii "=DH")) _ _ (small_at v 1 e)
    (either (among result (ascii "0L")) _ _ (small_at v 2 e)
    (either (among result (ascii "-Z")) _ _ (small_at v 3 e)
    (either (among result (ascii "U")) _ _ (small_at v 4 e)
    (either (eqb result unknown_result) _ _ (small_at v 5 e) (omega arith))))))
