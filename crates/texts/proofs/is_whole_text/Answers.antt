use Rattle.texts.proofs.Left.{walk_start, walk_end, walk_broken, walk_bad, walk_on}
use Rattle.texts.proofs.is_whole_text.Goals as goal
use Rattle.texts.proofs.is_whole_text.Goals.{then-text-to-via-then-text-to, then-text-to-via-else-text-to+then-not-stand}

pub loop-at-init : goal.loop-at-init
loop-at-init c = walk_start _

pub returns-then-text-to : goal.returns-then-text-to
returns-then-text-to c =
    let l = c.loop-at in
    elim c.then-text-to.branch [
      | then-text-to-via-then-text-to w ↦ walk_broken _ l.at l.seen l.invariant _ c.cr_from-to.ensures c.loop-at-test.true w.if-text-to.true
      | then-text-to-via-else-text-to+then-not-stand w ↦
          walk_bad _ l.at l.seen l.invariant _ c.cr_from-to.ensures w.if-text-to.false (w.stand.ensures l.invariant.before l.invariant.stood) w.if-not-stand.true
    ]

pub loop-at-preserved : goal.loop-at-preserved
loop-at-preserved c =
    let l = c.loop-at in
    walk_on _ l.at l.seen l.invariant _ c.cr_from-to.ensures c.if-text-to.false (c.stand.ensures l.invariant.before l.invariant.stood) c.if-not-stand.false

pub returns : goal.returns
returns c = let l = c.loop-at in walk_end _ l.at l.seen l.invariant c.loop-at-test.false
