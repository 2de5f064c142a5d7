-- `glances::none_past` meets its contract. Assumes nothing.
use Rattle.std.proofs.Common.{rules}
use Rattle.glances.specs.Glance.{BlankRow}
use Rattle.glances.proofs.Laws.{none_past_lem}
use Rattle.glances.proofs.Ranges.{all_below}
use Rattle.glances.proofs.none_past.Goals as goal

pub returns : goal.returns
returns c = λ e. none_past_lem _ _ _ (all_below _ _ _ _ (λ p. BlankRow c.args.colours.now p c.args.rounds) c.all.ensures.ran (λ x q k. search rules) e)
