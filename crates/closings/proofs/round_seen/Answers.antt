-- `closings::round_seen` meets its contract. Assumes nothing.
use mathlib.Core.Path.{refl, sym, ◌∙◌}
use Rattle.join.specs.Check.{round_seen}
use Rattle.closings.proofs.round_seen.Goals as goal

pub returns-then-is_seen : goal.returns-then-is_seen
unfolding round_seen
returns-then-is_seen c = rw (sym c.is_seen.ensures ∙ c.if-is_seen.true) c.round.ensures

pub returns : goal.returns
unfolding round_seen
returns c = rw (sym c.is_seen.ensures ∙ c.if-is_seen.false) refl
