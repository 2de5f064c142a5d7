-- `checks::is_game` meets its contract. Assumes nothing.
use Rattle.std.proofs.Common.{◌∙◌}
use mathlib.Core.Bool.{and_assoc}
use Rattle.join.specs.Check.{is_game_by}
use Rattle.checks.proofs.Kept.{placed_some}
use Rattle.checks.proofs.is_game.Goals as goal

pub returns : goal.returns
unfolding is_game_by
returns c = λ o e. simp (and_assoc, c.is_some.ensures ∙ placed_some o e, c.is_game_colour-of_colour.ensures, c.is_held_game_result-of_result.ensures)
