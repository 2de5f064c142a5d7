use mathlib.Core.Path.{refl, ◌∙◌}
use native.Mathlib.Omega.{arith}
use Rattle.join.specs.Check.{sum_at}
use Rattle.turns.proofs.Seeks.{add_none, add_more, add-end}
use Rattle.closings.proofs.Worths.{worth-small}
use Rattle.closings.proofs.sum_by.Goals as goal

pub loop-j-init : goal.loop-j-init
loop-j-init c = (add_none, omega arith)

pub overflow_add-sum : goal.overflow_add-sum
overflow_add-sum c =
    let one = worth-small c.args.worths.now.values c.letter_at.result c.requires.small in
    omega (arith, c.of-sum.ensures, one, c.loop-j.invariant.1, c.loop-j-test.true, c.requires.rounds)

pub loop-j-preserved : goal.loop-j-preserved
loop-j-preserved c =
    let one = worth-small c.args.worths.now.values c.letter_at.result c.requires.small in
    let h = c.loop-j.invariant in
    (add_more h.0 c.loop-j-test.true _ (c.of-sum.ensures ∙ rw c.letter_at.ensures refl), omega (arith, c.of-sum.ensures, one, h.1))

pub returns : goal.returns
unfolding sum_at
returns c = add-end c.loop-j.invariant.0 c.loop-j-test.false
