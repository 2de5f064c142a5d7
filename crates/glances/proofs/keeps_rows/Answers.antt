-- `glances::keeps_rows` meets its contract. Assumes nothing.
use Rattle.std.proofs.Common.{rules}
use Rattle.glances.proofs.Ranges.{all_below}
use Rattle.glances.proofs.keeps_rows.Goals as goal

pub returns : goal.returns
returns c = all_below _ _ _ _ _ c.all.ensures.ran (λ x q k. search rules)
