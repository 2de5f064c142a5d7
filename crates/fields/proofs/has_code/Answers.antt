use mathlib.Core.Path.{◌≡◌}
use lib.ListN.{length}
use native.Mathlib.Omega.{arith}
use borrow.Author.Rules.{rules}
use Rattle.std.proofs.lemmas.Bool.Decides.{nat_tests}
use Rattle.fields.proofs.Turns.{code_is}
use Rattle.fields.proofs.has_code.Goals as goal
use Rattle.fields.proofs.has_code.Goals.{then-column-a, else-column-a}

pub returns-then-column-b : goal.returns-then-column-b
returns-then-column-b c =
    let long : length c.args.code.now ≡ 3 = search rules in
    rw (code_is c.args.line.now c.args.code.now long) (elim c.if-column-a.branch [ then-column-a w ↦ grind (arith, nat_tests, w) | else-column-a w ↦ grind (arith, nat_tests, w) ])

pub returns-else-column-b : goal.returns-else-column-b
returns-else-column-b c =
    let long : length c.args.code.now ≡ 3 = search rules in
    rw (code_is c.args.line.now c.args.code.now long) (elim c.if-column-a.branch [ then-column-a w ↦ grind (arith, nat_tests, w) | else-column-a w ↦ grind (arith, nat_tests, w) ])
