-- `closings::closed` meets its contract: past the last round and where something stands a cell stays. Assumes nothing.
use mathlib.Core.Path.{refl}
use borrow.Author.Tests.{le-leb, lt-leb, eq-eqb, ne_eqb}
use Rattle.closings.proofs.closed.Goals as goal

pub returns-then-rounds-round : goal.returns-then-rounds-round
returns-then-rounds-round c = rw (lt-leb _ _ c.if-rounds-round.true) refl

pub returns-then-cell-eq0 : goal.returns-then-cell-eq0
returns-then-cell-eq0 c = rw (le-leb _ _ c.if-rounds-round.false, eq-eqb _ 0 c.if-cell-eq0.true) refl

pub returns : goal.returns
returns c = rw (le-leb _ _ c.if-rounds-round.false, ne_eqb _ 0 c.if-cell-eq0.false) refl
