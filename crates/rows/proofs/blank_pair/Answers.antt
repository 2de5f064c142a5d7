-- `rows::blank_pair` meets its contract. Assumes nothing.
use mathlib.Core.Path.{◌∙◌}
use Rattle.rows.proofs.PlayerRounds.{pair_is}
use Rattle.rows.proofs.blank_pair.Goals as goal

pub returns : goal.returns
returns c =
    c.are_blank.ensures ∙ pair_is c.args.line.now c.args.i c.requires
