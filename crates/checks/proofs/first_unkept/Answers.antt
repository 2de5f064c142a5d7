use mathlib.Core.Path.{ap, ◌∙◌}
use mathlib.Core.Bool.{not}
use Rattle.turns.specs.Found.{as_found_turn}
use Rattle.turns.proofs.Seeks.{seek_hit, seek_more, seek_end}
use Rattle.checks.proofs.Kept.{broken_past, broken_here}
use Rattle.checks.proofs.first_unkept.Goals as goal
use Rattle.checks.proofs.first_unkept.Goals.{else-round-entries-via-then-round-entries+else-not-keeps, else-round-entries-via-else-round-entries}

pub returns-then-not-keeps : goal.returns-then-not-keeps
returns-then-not-keeps g c =
    λ law tells.
    seek_hit (c.loop-k.invariant law tells) as_found_turn c.loop-k-test.true
    (broken_here law _ _ _ _ c.round-round.ensures c.if-round-entries.true c.place.ensures (tells _ _ _ c.keeps.ensures) ∙ ap not c.if-not-keeps.true)

pub loop-k-preserved : goal.loop-k-preserved
loop-k-preserved g c =
    λ law tells.
    seek_more (c.loop-k.invariant law tells) c.loop-k-test.true
    (elim c.else-round-entries.branch [
      | else-round-entries-via-then-round-entries+else-not-keeps w ↦
          broken_here law _ _ _ _ c.round-round.ensures w.if-round-entries.true w.place.ensures (tells _ _ _ w.keeps.ensures) ∙ ap not w.if-not-keeps.false
      | else-round-entries-via-else-round-entries w ↦ broken_past law _ _ _ _ c.round-round.ensures w.if-round-entries.false
    ])

pub returns : goal.returns
returns g c = λ law tells. seek_end (c.loop-k.invariant law tells) as_found_turn c.loop-k-test.false
