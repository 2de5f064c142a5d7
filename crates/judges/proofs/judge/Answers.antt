-- `judges::judge` meets its contract. Assumes nothing.
use mathlib.Core.Path.{sym, ap, ◌∙◌}
use mathlib.Core.Option.{some}
use Prim.Native.Nat.{ℕ}
use mathlib.Core.List.{List}
use lib.ListN.{length}
use Rattle.kit.specs.Decides.{to}
use Rattle.types.specs.declared.Acceleration.{Acceleration}
use Rattle.join.specs.Grid.{first_from}
use Rattle.join.specs.Check.{shared_record}
use Rattle.steps.specs.Counts.{as_count}
use Rattle.closings.proofs.Shared.{shared_front}
use Rattle.types.specs.declared.Refusal.{Refusal}
use Rattle.verdicts.specs.Verdict.{stated, refusal_in, unlawful_in}
use Rattle.verdicts.proofs.Parts.{handed}
use Rattle.judges.proofs.Judging.{judged_10, judged_11, judged_17, judged_12, judged_16, at_record}
use Rattle.judges.proofs.judge.Goals as goal

pub returns-then-not-is_complete : goal.returns-then-not-is_complete
returns-then-not-is_complete c =
    λ x y e0 e1 e2 e3 e4 e5 e6 past_is.
    ap (λ (r : Refusal). some (stated r)) c.from.ensures ∙ judged_10 (as_count c.args.counts.now) c.args.entries.now.rounds x y (sym c.is_complete.ensures ∙ c.if-not-is_complete.true)

pub returns-in_err-past : goal.returns-in_err-past
returns-in_err-past c =
    λ x y e0 e1 e2 e3 e4 e5 e6 past_is.
    handed _ _ c.from_residual.ensures.1
    ∙ judged_11 (as_count c.args.counts.now) c.args.entries.now.rounds x y (sym c.is_complete.ensures ∙ c.if-not-is_complete.false) (ap refusal_in (sym c.in_err-past.was) ∙ past_is)

pub returns-in_err-sharing : goal.returns-in_err-sharing
returns-in_err-sharing c =
    let rs = c.args.counts.now.records in
    let n = c.args.counts.now.accelerations in
    λ x y e0 e1 e2 e3 e4 e5 e6 past_is.
    let here = at_record (as_count c.args.counts.now) c.args.entries.now.rounds x y c.args.lines.now.numbers.now in
    handed _ _ c.from_residual-in_err-sharing.ensures.1
    ∙ judged_17 (as_count c.args.counts.now) c.args.entries.now.rounds x y (sym c.is_complete.ensures ∙ c.if-not-is_complete.false) (ap refusal_in (sym c.in_ok-past.was) ∙ past_is) e6
    (c.in_err-sharing.ensures ∙ ap (to here) (ap (λ (l : List Acceleration). first_from (shared_record l) 0 (length l)) c.records_of.ensures.first ∙ shared_front rs n c.records_of.ensures.within))

pub returns-in_err-first_unlawful : goal.returns-in_err-first_unlawful
returns-in_err-first_unlawful c =
    let rs = c.args.counts.now.records in
    let n = c.args.counts.now.accelerations in
    λ x y e0 e1 e2 e3 e4 e5 e6 past_is.
    let here = at_record (as_count c.args.counts.now) c.args.entries.now.rounds x y c.args.lines.now.numbers.now in
    handed _ _ c.from_residual-in_err-first_unlawful.ensures.1
    ∙ judged_12 (as_count c.args.counts.now) c.args.entries.now.rounds x y (sym c.is_complete.ensures ∙ c.if-not-is_complete.false) (ap refusal_in (sym c.in_ok-past.was) ∙ past_is) e6
    (c.in_ok-sharing.ensures ∙ ap (to here) (ap (λ (l : List Acceleration). first_from (shared_record l) 0 (length l)) c.records_of.ensures.first ∙ shared_front rs n c.records_of.ensures.within)) (c.in_err-first_unlawful.ensures y e0 e2 e3 e4 e5 ∙ ap (λ (k : ℕ). unlawful_in k c.args.entries.now.rounds y) c.requires.players)

pub returns : goal.returns
returns c =
    let rs = c.args.counts.now.records in
    let n = c.args.counts.now.accelerations in
    λ x y e0 e1 e2 e3 e4 e5 e6 past_is.
    let here = at_record (as_count c.args.counts.now) c.args.entries.now.rounds x y c.args.lines.now.numbers.now in
    judged_16 (as_count c.args.counts.now) c.args.entries.now.rounds x y (sym c.is_complete.ensures ∙ c.if-not-is_complete.false) (ap refusal_in (sym c.in_ok-past.was) ∙ past_is) e6
    (c.in_ok-sharing.ensures ∙ ap (to here) (ap (λ (l : List Acceleration). first_from (shared_record l) 0 (length l)) c.records_of.ensures.first ∙ shared_front rs n c.records_of.ensures.within)) (c.in_ok-first_unlawful.ensures y e0 e2 e3 e4 e5 ∙ ap (λ (k : ℕ). unlawful_in k c.args.entries.now.rounds y) c.requires.players) e1 e4 e5 (rw (sym c.values_of.ensures, sym c.requires.players) c.wrong_points.ensures)
