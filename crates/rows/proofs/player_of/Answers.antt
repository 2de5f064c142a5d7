-- `rows::player_of` meets its contract: blanks after a line change nothing of it. Assumes nothing.
use mathlib.Core.Path.{ap, ◌∙◌}
use mathlib.Core.Option.{Option}
use Prim.Native.Nat.{◌-◌}
use lib.ListN.{length}
use Rattle.kit.specs.Decides.{to}
use Rattle.law.specs.Players.{PlayerLine}
use Rattle.fields.specs.Said.{or_bad_field}
use Rattle.rows.specs.Rows.{the_row}
use Rattle.rows.proofs.Reach.{reaches_long, reaches_short}
use Rattle.rows.proofs.ShortLines.{kept_wide, player_wide}
use borrow.Author.Rules.{rules}
use Rattle.rows.proofs.player_of.Goals as goal

pub wide_player-requires : goal.wide_player-requires
wide_player-requires c =
    let line = c.args.line.now in
    let wide = c.widened-wide.result in
    let e = c.widened-wide.ensures in
    (reaches_short line wide (289 - length line) c.reach_of-reach.result e c.reach_of-reach.ensures.0 (search rules) (search rules), c.kept_of-kept.ensures ∙ kept_wide line wide (289 - length line) e)

pub returns-then-line-reach : goal.returns-then-line-reach
returns-then-line-reach c =
    let line = c.args.line.now in
    c.wide_player.ensures ∙ ap (λ (o : Option PlayerLine). or_bad_field (to the_row o)) (player_wide line c.widened-wide.result (289 - length line) c.widened-wide.ensures)

pub wide_player-requires-2 : goal.wide_player-requires-2
wide_player-requires-2 c =
    (reaches_long c.args.line.now c.reach_of-reach.result c.reach_of-reach.ensures.0 c.reach_of-reach.ensures.1 (search rules), c.kept_of-kept.ensures)

pub returns : goal.returns
returns c = c.wide_player-2.ensures
