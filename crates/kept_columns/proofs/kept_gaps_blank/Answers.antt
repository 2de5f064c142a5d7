-- `kept_columns::kept_gaps_blank` meets its contract. Assumes nothing.
use mathlib.Core.Path.{◌≡◌}
use lib.ListN.{length}
use native.Mathlib.Omega.{arith}
use borrow.Author.Rules.{rules}
use Rattle.std.proofs.lemmas.Bool.Decides.{nat_tests}
use Rattle.kept_columns.proofs.KeptColumns.{gaps_by}
use Rattle.kept_columns.proofs.kept_gaps_blank.Goals as goal

pub returns-then-kept-eq32-4 : goal.returns-then-kept-eq32-4
returns-then-kept-eq32-4 c =
    let long : length c.args.kept ≡ 70 = search rules in
    rw (gaps_by c.args.kept long) (grind (arith, nat_tests))

pub returns-else-kept-eq32-4 : goal.returns-else-kept-eq32-4
returns-else-kept-eq32-4 c =
    let long : length c.args.kept ≡ 70 = search rules in
    rw (gaps_by c.args.kept long) (grind (arith, nat_tests))
