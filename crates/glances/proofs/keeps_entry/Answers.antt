-- `glances::keeps_entry` meets its contract. Assumes nothing.
use mathlib.Core.Path.{sym, ◌∙◌}
use borrow.Author.Tests.{eqb-true}
use Rattle.kit.proofs.Bools.{clash, and}
use Rattle.checks.specs.Laws.{four_of}
use Rattle.glances.proofs.Entries.{bye-keeps, game-keeps}
use Rattle.glances.proofs.keeps_entry.Goals as goal
use Rattle.glances.proofs.keeps_entry.Goals.{then-mutual, else-mutual}

pub returns-in_default : goal.returns-in_default
returns-in_default c =
    λ t _.
    bye-keeps _ (four_of c.args.entries.now) _ _ c.opponent_at-id.ensures c.colour_at-colour.ensures c.result_at-result.ensures c.player_of.ensures.found c.in_default.is c.is_bye.ensures t

pub returns-then-are_opposite : goal.returns-then-are_opposite
returns-then-are_opposite c =
    λ t own.
    elim c.if-mutual.branch [
      | then-mutual w ↦
          let tests = and _ _ w.if-mutual.true in
          game-keeps _ (four_of c.args.entries.now) _ _ c.opponent_at-id.ensures c.colour_at-colour.ensures c.result_at-result.ensures c.player_of.ensures.found c.in-Some.is
          c.opponent_at-named.ensures w.colour_at.ensures c.result_at.ensures own tests.0 (eqb-true _ _ tests.1) (w.are_opposite.ensures (sym w.value-is ∙ c.if-are_opposite.true)) (sym c.fits.ensures ∙ t)
      | else-mutual w ↦ clash (sym w.if-mutual.false ∙ sym w.value-is ∙ c.if-are_opposite.true)
    ]
