-- `lines::Cursor::next_line` meets its contract: the first byte that is not allowed says what the first line is. Assumes nothing.
use mathlib.Core.Path.{ap}
use mathlib.Core.Bool.{false}
use native.Mathlib.Omega.{arith}
use lib.ListN.{drop_of_length-le}
use Rattle.law.proofs.Cut.{cut}
use Rattle.lines.specs.Step.{StepMeans}
use Rattle.lines.proofs.Found.{stop-here, stop-past, stop-cr, clean-text, broken, foul}
use Rattle.lines.proofs.Cursor.next_line.Goals as goal

pub returns-then-file-at : goal.returns-then-file-at
unfolding StepMeans
returns-then-file-at c = ap (cut false) (drop_of_length-le c.args.file.now c.if-file-at.true)

pub whole-requires : goal.whole-requires
whole-requires c =
    let m = c.past_mark-start.ensures in
    let s = stop-here m.0 m.1 m.2 c.if-file-start-eq-CR.true in
    (m.1, c.requires, stop-cr s (λ _. c.if-file-start-eq-CR.true), clean-text s)

pub returns-then-file-start-eq-CR : goal.returns-then-file-start-eq-CR
unfolding StepMeans
returns-then-file-start-eq-CR c = c.whole.ensures

pub returns-then-file-to : goal.returns-then-file-to
unfolding StepMeans
returns-then-file-to c =
    let m = c.past_mark-start.ensures in
    let s = stop-past m.0 m.2 c.stop_from-to.ensures in
    broken _ _ _ (stop-cr s (λ l. absurd (let g = c.if-file-to.true in omega arith))) (clean-text s) c.if-file-at.false c.if-file-to.true

pub returns-then-file-to-ne-CR : goal.returns-then-file-to-ne-CR
unfolding StepMeans
returns-then-file-to-ne-CR c =
    let m = c.past_mark-start.ensures in
    foul (stop-past m.0 m.2 c.stop_from-to.ensures) c.if-file-to.false c.if-file-to-ne-CR.true

pub whole-requires-2 : goal.whole-requires-2
whole-requires-2 c =
    let m = c.past_mark-start.ensures in
    let s = stop-past m.0 m.2 c.stop_from-to.ensures in
    (c.if-file-to.false, c.requires, stop-cr s (λ _. c.if-file-to-ne-CR.false), clean-text s)

pub returns : goal.returns
unfolding StepMeans
returns c = c.whole-2.ensures
