-- `rows::wide_player` meets its contract: at each answer the fields read so far say what the line is. Assumes nothing.
use mathlib.Core.Path.{sym, ◌∙◌}
use Rattle.kit.specs.Decides.{to}
use Rattle.fields.proofs.Cases.{value-said, none_said}
use Rattle.rows.specs.Rows.{the_slots, rounds_in}
use Rattle.rows.proofs.PlayerRounds.{refused_on}
use Rattle.rows.proofs.PlayerLines.{else_bad, kept_bad, start_bad, points_bad, rank_bad, slots_bad, row_good}
use Rattle.rows.proofs.wide_player.Goals as goal
use Rattle.rows.proofs.wide_player.Goals.{then-not-player_else_blank-via-then-not-player_else_blank, then-not-player_else_blank-via-else-not-player_else_blank+then-not-is_kept}

pub returns-then-not-player_else_blank : goal.returns-then-not-player_else_blank
returns-then-not-player_else_blank c =
    elim c.then-not-player_else_blank.branch [
      | then-not-player_else_blank-via-then-not-player_else_blank w ↦ else_bad c.args.line.now c.args.kept c.requires.1 (sym c.player_else_blank.ensures ∙ w.if-not-player_else_blank.true)
      | then-not-player_else_blank-via-else-not-player_else_blank+then-not-is_kept w ↦ kept_bad c.args.line.now c.args.kept c.requires.1 (sym c.player_else_blank.ensures ∙ w.if-not-player_else_blank.false) (sym w.is_kept.ensures ∙ w.if-not-is_kept.true)
    ]

pub returns-in_err-start : goal.returns-in_err-start
returns-in_err-start c =
    refused_on _ _ c.from_residual.ensures.1 _ c.in_err-start.ensures ∙ start_bad c.args.line.now c.args.kept c.requires.1 (sym c.player_else_blank.ensures ∙ c.if-not-player_else_blank.false) (sym c.is_kept.ensures ∙ c.if-not-is_kept.false) (none_said _ (sym c.in_err-start.ensures))

pub returns-in_err-points : goal.returns-in_err-points
returns-in_err-points c =
    refused_on _ _ c.from_residual-in_err-points.ensures.1 _ c.in_err-points.ensures ∙ points_bad c.args.line.now c.args.kept c.requires.1 (sym c.player_else_blank.ensures ∙ c.if-not-player_else_blank.false) (sym c.is_kept.ensures ∙ c.if-not-is_kept.false) _ (value-said _ _ (sym c.in_ok-start.ensures)) (none_said _ (sym c.in_err-points.ensures))

pub returns-in_err-rank : goal.returns-in_err-rank
returns-in_err-rank c =
    refused_on _ _ c.from_residual-in_err-rank.ensures.1 _ c.in_err-rank.ensures ∙ rank_bad c.args.line.now c.args.kept c.requires.1 (sym c.player_else_blank.ensures ∙ c.if-not-player_else_blank.false) (sym c.is_kept.ensures ∙ c.if-not-is_kept.false) _ (value-said _ _ (sym c.in_ok-start.ensures)) _ (value-said _ _ (sym c.in_ok-points.ensures)) (none_said _ (sym c.in_err-rank.ensures))

pub returns-in_err-ids : goal.returns-in_err-ids
returns-in_err-ids c =
    refused_on _ _ c.from_residual-in_err-ids.ensures.1 (to the_slots (rounds_in c.args.line.now)) c.in_err-ids.ensures
    ∙ slots_bad c.args.line.now c.args.kept c.requires.1 (sym c.player_else_blank.ensures ∙ c.if-not-player_else_blank.false) (sym c.is_kept.ensures ∙ c.if-not-is_kept.false) _ (value-said _ _ (sym c.in_ok-start.ensures)) _ (value-said _ _ (sym c.in_ok-points.ensures)) _ (value-said _ _ (sym c.in_ok-rank.ensures)) (none_said _ (sym c.in_err-ids.ensures))

pub returns : goal.returns
returns c =
    row_good c.args.line.now c.args.kept c.requires.1 (sym c.player_else_blank.ensures ∙ c.if-not-player_else_blank.false) (sym c.is_kept.ensures ∙ c.if-not-is_kept.false) _ (value-said _ _ (sym c.in_ok-start.ensures)) _ (value-said _ _ (sym c.in_ok-points.ensures)) _ (value-said _ _ (sym c.in_ok-rank.ensures)) _ (value-said _ _ (sym c.in_ok-ids.ensures))
