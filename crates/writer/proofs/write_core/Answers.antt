-- `writer::write_core` meets its contract. Assumes nothing.
use mathlib.Core.Path.{refl, sym, ◌∙◌}
use lib.ListN.{length, take}
use Rattle.law.specs.Sizes.{most_accelerations}
use Rattle.law.specs.Calls.{end_of}
use Rattle.lawful.specs.Given.{tables_of}
use Rattle.writer.proofs.Report.{good_fit}
use Rattle.writer.proofs.Core.{core_short, core_unread, core_room, core_whole}
use Rattle.writer.proofs.write_core.Goals as goal

pub returns-then-not-enough : goal.returns-then-not-enough
returns-then-not-enough c =
    let a = c.args in
    let t = tables_of a.starts.now a.points.now a.ranks.now a.kept.now a.opponents.now a.colours.now a.results.now a.text.now (take most_accelerations a.accelerations.now) in
    core_short a.answer t (length a.accelerations.now) a.accelerations.now (record { long = refl; firsts = λ _. refl }) (end_of a.cr_alone) (sym c.enough.ensures ∙ c.if-not-enough.true) c.refused.ensures

pub returns-then-not-is_reading : goal.returns-then-not-is_reading
returns-then-not-is_reading c =
    let a = c.args in
    let t = tables_of a.starts.now a.points.now a.ranks.now a.kept.now a.opponents.now a.colours.now a.results.now a.text.now c.carried-records.result in
    core_unread a.answer t (length a.accelerations.now) a.accelerations.now (record { long = refl; firsts = c.carried-records.ensures.enough }) (sym c.enough.ensures ∙ c.if-not-enough.false) c.is_reading.ensures (end_of a.cr_alone) c.if-not-is_reading.true c.refused-then-not-is_reading.ensures

pub written_length-requires : goal.written_length-requires
written_length-requires c = good_fit (c.is_reading.ensures.sound c.if-not-is_reading.false)

pub returns-then-out-written_length : goal.returns-then-out-written_length
returns-then-out-written_length c =
    let a = c.args in
    let t = tables_of a.starts.now a.points.now a.ranks.now a.kept.now a.opponents.now a.colours.now a.results.now a.text.now c.carried-records.result in
    core_room a.answer t (length a.accelerations.now) a.accelerations.now (record { long = refl; firsts = c.carried-records.ensures.enough }) (sym c.enough.ensures ∙ c.if-not-enough.false) c.is_reading.ensures c.if-not-is_reading.false c.ending-end.result (end_of a.cr_alone) c.ending-end.ensures c.written_length.ensures c.if-out-written_length.true
    c.refused-then-out-written_length.ensures

pub returns : goal.returns
returns c =
    let a = c.args in
    let t = tables_of a.starts.now a.points.now a.ranks.now a.kept.now a.opponents.now a.colours.now a.results.now a.text.now c.carried-records.result in
    core_whole a.answer t (length a.accelerations.now) a.accelerations.now (record { long = refl; firsts = c.carried-records.ensures.enough }) (sym c.enough.ensures ∙ c.if-not-enough.false) c.is_reading.ensures c.if-not-is_reading.false c.ending-end.result (end_of a.cr_alone) c.ending-end.ensures c.put_report.ensures
    c.done.ensures
