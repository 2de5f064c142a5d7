use mathlib.Core.Path.{sym, ◌∙◌}
use native.Mathlib.Omega.{arith}
use Rattle.held.proofs.Differ.{differ_none, start-low, differ_not, differ_next, differ_all}
use Rattle.held.proofs.starts_differ.Goals as goal

pub loop-p-init : goal.loop-p-init
loop-p-init c = differ_none c.requires.players c.requires.starts c.requires.empty

pub returns-then-is_some-clause-told : goal.returns-then-is_some-clause-told
returns-then-is_some-clause-told c = differ_not c.loop-p.invariant c.loop-p-test.true c.start_at-start.ensures c.place_of.ensures (sym c.is_some.ensures ∙ c.if-is_some.true)

pub index_start-requires : goal.index_start-requires
index_start-requires c = (start-low c.loop-p.invariant c.loop-p-test.true c.start_at-start.ensures, omega (arith, c.loop-p-test.true, c.requires.players))

pub loop-p-preserved : goal.loop-p-preserved
loop-p-preserved c =
    differ_next c.loop-p.invariant c.loop-p-test.true c.start_at-start.ensures c.place_of.ensures (omega (arith, c.requires.long, c.loop-p-test.true)) (sym c.is_some.ensures ∙ c.if-is_some.false) c.index_start.ensures

pub returns : goal.returns
returns c = let k = differ_all c.loop-p.invariant c.loop-p-test.false in record { told = k.0; theirs = λ _. k.1 }
