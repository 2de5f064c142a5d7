-- `runs::run` meets its contract. Assumes nothing.
use mathlib.Core.Path.{refl, ap}
use borrow.Author.Rules.{rules}
use native.Mathlib.Omega.{arith}
use Rattle.std.specs.Prelude.{Ok}
use Rattle.types.proofs.Numbers.{some_number}
use Rattle.tables.specs.Lent.{nine_of}
use Rattle.lines.proofs.Told.{told_done, told_fault, told_line}
use Rattle.runs.proofs.Going.{going_done, going_fault, going_stop, going_next}
use Rattle.runs.proofs.run.Goals as goal

pub returns-in-Ok-None-clause-run : goal.returns-in-Ok-None-clause-run
returns-in-Ok-None-clause-run c = going_done c.loop-line.invariant.going (told_done _ _ c.in-Ok-None.ensures (ap Ok c.in-Ok-None.field-0-is))

pub returns-in-Err-clause-run : goal.returns-in-Err-clause-run
returns-in-Err-clause-run c = rw c.refused_at.ensures (going_fault c.loop-line.invariant.going c.in-Err.fault (told_fault _ _ c.in-Err.ensures refl) (some_number c.in-Err.fault))

pub slice_bounds-line-count : goal.slice_bounds-line-count
slice_bounds-line-count c = let m = told_line _ _ c.in-Ok-Some.ensures (ap Ok c.in-Ok-Some.field-0-is) in search rules

pub slice_bounds-line-start : goal.slice_bounds-line-start
slice_bounds-line-start c = let m = told_line _ _ c.in-Ok-Some.ensures (ap Ok c.in-Ok-Some.field-0-is) in search rules

pub slice_bounds-line-end : goal.slice_bounds-line-end
slice_bounds-line-end c = let m = told_line _ _ c.in-Ok-Some.ensures (ap Ok c.in-Ok-Some.field-0-is) in search rules

pub step-requires-clause-clean : goal.step-requires-clause-clean
step-requires-clause-clean c = (told_line _ _ c.in-Ok-Some.ensures (ap Ok c.in-Ok-Some.field-0-is)).clean

pub returns-in-Err-step-clause-run : goal.returns-in-Err-step-clause-run
returns-in-Err-step-clause-run c =
    let m = told_line _ _ c.in-Ok-Some.ensures (ap Ok c.in-Ok-Some.field-0-is) in
    rw c.refused_at-in-Err-step.ensures (going_stop c.loop-line.invariant.going m (search rules) c.step.result c.step.new.counts (nine_of c.step.new.settled c.step.new.closing c.step.new.columns c.step.new.text) c.step.ensures.step c.in-Err-step.is)

pub loop-line-smaller : goal.loop-line-smaller
loop-line-smaller c =
    let m = told_line _ _ c.in-Ok-Some.ensures (ap Ok c.in-Ok-Some.field-0-is) in
    let forward = m.forward in
    let past = m.past in
    let within = m.within in
    omega arith

pub loop-line-preserved : goal.loop-line-preserved
loop-line-preserved c =
    let m = told_line _ _ c.in-Ok-Some.ensures (ap Ok c.in-Ok-Some.field-0-is) in
    record {
      same_settled = search rules;
      same_closing = search rules;
      same_columns = search rules;
      long = search rules;
      room = c.step.ensures.small;
      going = going_next c.loop-line.invariant.going m (search rules) c.step.result c.step.new.counts (nine_of c.step.new.settled c.step.new.closing c.step.new.columns c.step.new.text) c.step.ensures.step c.in_default.is c.step.ensures.indexed;
    }
