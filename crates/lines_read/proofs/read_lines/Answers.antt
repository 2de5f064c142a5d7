-- `lines_read::read_lines` meets its contract. Assumes nothing.
use mathlib.Core.Path.{refl, sym, ap, ◌∙◌, subst}
use Prim.Native.Nat.{ℕ}
use Rattle.join.specs.Store.{Count}
use Rattle.join.specs.Check.{verdict, Closes}
use Rattle.tables.specs.Lent.{nine_of}
use Rattle.verdicts.specs.Verdict.{refusal_in}
use Rattle.steps.specs.Counts.{as_count}
use Rattle.lines_read.proofs.Leaves.{read_as, begun, none-indexed, long_nine, line_refused, rounds_fit, values_fit, file-refused, file-accepted}
use Rattle.lines_read.proofs.read_lines.Goals as goal

pub run-requires-clause-indexed : goal.run-requires-clause-indexed
run-requires-clause-indexed c = rw (ap (λ (k : Count). k.players) c.new-counts.ensures) (none-indexed _)

pub finish-finished-requires-clause-rounds : goal.finish-finished-requires-clause-rounds
finish-finished-requires-clause-rounds c =
    let t = nine_of c.args.settled.now c.args.closing.now c.args.columns.now c.args.text.now in
    let file = c.args.file.now in
    rounds_fit t (long_nine c.args.settled.now c.args.closing.now c.args.columns.now c.args.text.now c.requires.text) c.requires.zeroed file c.requires.file c.run.new.counts (nine_of c.run.new.settled c.run.new.closing c.run.new.columns c.run.new.text) c.in-Ok.field-0 (begun _ file t c.new-counts.result c.new-counts.ensures c.in-Ok.ensures.run)

pub finish-finished-requires-clause-small : goal.finish-finished-requires-clause-small
finish-finished-requires-clause-small c =
    let t = nine_of c.args.settled.now c.args.closing.now c.args.columns.now c.args.text.now in
    let file = c.args.file.now in
    values_fit t (long_nine c.args.settled.now c.args.closing.now c.args.columns.now c.args.text.now c.requires.text) c.requires.zeroed file c.requires.file c.run.new.counts (nine_of c.run.new.settled c.run.new.closing c.run.new.columns c.run.new.text) c.in-Ok.field-0 (begun _ file t c.new-counts.result c.new-counts.ensures c.in-Ok.ensures.run)

pub returns-in-Ok-verdict-clause-read : goal.returns-in-Ok-verdict-clause-read
returns-in-Ok-verdict-clause-read c =
    let t = nine_of c.args.settled.now c.args.closing.now c.args.columns.now c.args.text.now in
    let file = c.args.file.now in
    let did = begun _ file t c.new-counts.result c.new-counts.ensures c.in-Ok.ensures.run in
    let left = nine_of c.run.new.settled c.run.new.closing c.run.new.columns c.run.new.text in
    let count = as_count c.run.new.counts in
    let shown = c.shared.ensures in
    let done = c.finish-finished in
    let after = nine_of c.run.new.settled done.new.closing c.run.new.columns c.run.new.text in
    read_as c.accepted.ensures
    (file-accepted t (long_nine c.args.settled.now c.args.closing.now c.args.columns.now c.args.text.now c.requires.text) c.requires.zeroed file c.requires.file c.run.new.counts left c.in-Ok.field-0 did after
    (subst (λ (n : ℕ). Closes count.players n left after) done.ensures.rounds
    (record { starts = refl; points = refl; ranks = refl; kept = refl; opponents = refl; colours = done.ensures.colours; results = done.ensures.results; text = refl; lines = refl })) done.ensures.rounds
    (ap refusal_in (sym c.in-Ok-verdict.is)
    ∙ done.ensures.verdict left after refl (sym shown.lines) (sym shown.starts) (sym shown.points) (sym shown.opponents) refl refl (sym shown.lines)
    ∙ ap (λ (n : ℕ). verdict count n left after) done.ensures.rounds))

pub returns-in-Err-verdict-clause-read : goal.returns-in-Err-verdict-clause-read
returns-in-Err-verdict-clause-read c =
    let t = nine_of c.args.settled.now c.args.closing.now c.args.columns.now c.args.text.now in
    let file = c.args.file.now in
    let did = begun _ file t c.new-counts.result c.new-counts.ensures c.in-Ok.ensures.run in
    let left = nine_of c.run.new.settled c.run.new.closing c.run.new.columns c.run.new.text in
    let count = as_count c.run.new.counts in
    let shown = c.shared.ensures in
    let done = c.finish-finished in
    let after = nine_of c.run.new.settled done.new.closing c.run.new.columns c.run.new.text in
    read_as c.refused_by.ensures
    (file-refused t (long_nine c.args.settled.now c.args.closing.now c.args.columns.now c.args.text.now c.requires.text) c.requires.zeroed file c.requires.file c.run.new.counts left c.in-Ok.field-0 did after
    (subst (λ (n : ℕ). Closes count.players n left after) done.ensures.rounds
    (record { starts = refl; points = refl; ranks = refl; kept = refl; opponents = refl; colours = done.ensures.colours; results = done.ensures.results; text = refl; lines = refl })) c.in-Err-verdict.refusal
    (ap refusal_in (sym c.in-Err-verdict.is)
    ∙ done.ensures.verdict left after refl (sym shown.lines) (sym shown.starts) (sym shown.points) (sym shown.opponents) refl refl (sym shown.lines)
    ∙ ap (λ (n : ℕ). verdict count n left after) done.ensures.rounds))

pub returns-in-Err-clause-read : goal.returns-in-Err-clause-read
returns-in-Err-clause-read c =
    let t = nine_of c.args.settled.now c.args.closing.now c.args.columns.now c.args.text.now in
    let file = c.args.file.now in
    read_as c.refused_by-in-Err.ensures
    (line_refused t (long_nine c.args.settled.now c.args.closing.now c.args.columns.now c.args.text.now c.requires.text) c.requires.zeroed file c.requires.file c.run.new.counts (nine_of c.run.new.settled c.run.new.closing c.run.new.columns c.run.new.text) c.in-Err.refusal c.in-Err.ensures.no_round (begun _ file t c.new-counts.result c.new-counts.ensures c.in-Err.ensures.run))
