-- `checks::keeps_bye_or_game` meets its contract. Assumes nothing.
use Rattle.std.proofs.Common.{refl, sym, ◌∙◌}
use Rattle.join.specs.Check.{entry_cell, keeps_cell}
use Rattle.checks.proofs.keeps_bye_or_game.Goals as goal

pub returns-then-is_bye : goal.returns-then-is_bye
unfolding keeps_cell entry_cell
returns-then-is_bye c =
    rw (c.if-is_bye.true, rw (c.opponent_at-id.ensures, c.colour_at-colour.ensures, c.result_at-result.ensures) at (sym c.is_bye.ensures ∙ c.if-is_bye.true)) refl

pub returns-else-is_bye : goal.returns-else-is_bye
unfolding keeps_cell entry_cell
returns-else-is_bye c =
    rw (c.is_game.ensures _ c.player_of.ensures.found, c.opponent_at-id.ensures, c.colour_at-colour.ensures, c.result_at-result.ensures, c.start_at-start.ensures)
    (rw (rw (c.opponent_at-id.ensures, c.colour_at-colour.ensures, c.result_at-result.ensures) at (sym c.is_bye.ensures ∙ c.if-is_bye.false)) refl)
