-- `scorings::Given::with` meets its contract. Assumes nothing.
use mathlib.Core.Path.{◌∙◌, refl}
use Rattle.scorings.proofs.ScoringSlots.{letter-again, letter-new}
use Rattle.scorings.proofs.Given.with.Goals as goal
use Rattle.scorings.proofs.Given.with.Goals.{then-not-own, else-not-own}

pub returns-then-self-place : goal.returns-then-self-place
returns-then-self-place c = λ given letter h p s. letter-again c.args.self given letter c.args.points h p s c.if-self-place.true

pub returns : goal.returns
returns c =
    λ given letter h p s. letter-new c.args.self given letter c.args.points h p s c.if-self-place.false c.follower_of-follower.ensures.0
    (elim c.if-not-own.branch [
      | then-not-own w ↦ w.more-is ∙ rw w.if-not-own.true refl
      | else-not-own w ↦ w.more-is ∙ rw w.if-not-own.false refl
    ])
