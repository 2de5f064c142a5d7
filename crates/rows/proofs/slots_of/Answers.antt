use native.Mathlib.Nat.{lt_of_lt_of_le}
use Prim.Native.Nat.{◌+◌}
use mathlib.Core.Path.{sym, ◌∙◌}
use Rattle.kit.specs.Decides.{to}
use Rattle.law.proofs.RecordsRead.{slot_of}
use Rattle.fields.proofs.Cases.{value-said, none_said}
use Rattle.rows.specs.Rows.{stored}
use Rattle.rows.proofs.PlayerRounds.{refused_on, none_read, gaps_bad, round_bad, round_more, end_bad, all_read, to_none}
use Rattle.rows.proofs.Reach.{others-blank, others-between}
use Rattle.rows.proofs.slots_of.Goals as goal

pub loop-i-init : goal.loop-i-init
loop-i-init c = none_read c.args.line.now

pub returns-then-not-round_else_blank : goal.returns-then-not-round_else_blank
returns-then-not-round_else_blank c =
    let l = c.loop-i in
    gaps_bad c.args.line.now l.i l.ids l.colours l.results l.invariant (lt_of_lt_of_le c.loop-i-test.true c.requires.most) (sym c.round_else_blank.ensures ∙ c.if-not-round_else_blank.true)

pub returns-in_err-slot : goal.returns-in_err-slot
returns-in_err-slot c =
    let l = c.loop-i in
    let o = to stored (slot_of c.args.line.now (l.i + 1)) in
    refused_on _ _ c.from_residual.ensures.1 o c.in_err-slot.ensures
    ∙ round_bad c.args.line.now l.i l.ids l.colours l.results l.invariant (lt_of_lt_of_le c.loop-i-test.true c.requires.most) (sym c.round_else_blank.ensures ∙ c.if-not-round_else_blank.false) (to_none stored _ (none_said o (sym c.in_err-slot.ensures)))

pub loop-i-preserved : goal.loop-i-preserved
loop-i-preserved c =
    let l = c.loop-i in
    round_more c.args.line.now l.i l.ids l.colours l.results l.invariant (lt_of_lt_of_le c.loop-i-test.true c.requires.most) (sym c.round_else_blank.ensures ∙ c.if-not-round_else_blank.false) _ (value-said _ _ (sym c.in_ok-slot.ensures))

pub returns-then-not-blank_from : goal.returns-then-not-blank_from
returns-then-not-blank_from c =
    let l = c.loop-i in
    end_bad c.args.line.now l.i l.ids l.colours l.results l.invariant (others-between c.args.line.now c.args.reach c.requires l.i c.loop-i-test.false l.auto.i-end ∙ sym c.blank_from.ensures ∙ c.if-not-blank_from.true)

pub returns : goal.returns
returns c =
    let l = c.loop-i in
    all_read c.args.line.now l.i l.ids l.colours l.results l.invariant (others-between c.args.line.now c.args.reach c.requires l.i c.loop-i-test.false l.auto.i-end ∙ sym c.blank_from.ensures ∙ c.if-not-blank_from.false) (others-blank c.args.line.now c.args.reach c.requires l.i c.loop-i-test.false l.auto.i-end)
