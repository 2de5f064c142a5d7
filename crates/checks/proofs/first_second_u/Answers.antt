use mathlib.Core.Path.{sym, ◌∙◌}
use Rattle.turns.specs.Found.{as_found_turn}
use Rattle.turns.proofs.Seeks.{seek_none, seek_hit, seek_more, seek_end}
use Rattle.checks.proofs.Flags.{flags-none, flags_more, second_is}
use Rattle.checks.proofs.first_second_u.Goals as goal

pub loop-k-init : goal.loop-k-init
loop-k-init c = (seek_none _ _, flags-none _)

pub returns-then-round-entries : goal.returns-then-round-entries
returns-then-round-entries c =
    let x = c.loop-k.invariant in
    seek_hit x.0 as_found_turn c.loop-k-test.true (sym (second_is x.1 _ _ _ _ _ c.round.ensures c.has_u-here.ensures) ∙ c.if-round-entries.true)

pub loop-k-preserved : goal.loop-k-preserved
loop-k-preserved c =
    let x = c.loop-k.invariant in
    (seek_more x.0 c.loop-k-test.true (sym (second_is x.1 _ _ _ _ _ c.round.ensures c.has_u-here.ensures) ∙ c.if-round-entries.false), flags_more x.1 c.has_u-here.ensures)

pub returns : goal.returns
returns c = seek_end c.loop-k.invariant.0 as_found_turn c.loop-k-test.false
