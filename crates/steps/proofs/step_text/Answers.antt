-- `steps::step_text` meets its contract. Assumes nothing.
use mathlib.Core.Path.{refl, sym, ap, ◌∙◌}
use borrow.Author.Rules.{rules}
use Prim.Native.Nat.{ℕ, ◌+◌}
use lib.ListN.{length, take}
use lib.Seq.{paste, length-take-le}
use Rattle.law.specs.Text.{ended}
use Rattle.kit.specs.Decides.{to}
use Rattle.law.specs.Columns.{part, code_field}
use Rattle.law.specs.Text.{text_codes}
use Rattle.law.proofs.RecordsRead.{text_of}
use Rattle.join.specs.Store.{count_text, code_place}
use Rattle.steps.specs.Counts.{as_count, with_text}
use Rattle.steps.proofs.Answers.{front_of, to_none}
use Rattle.steps.proofs.Went.{handed, text_bad, text-again, text_full, text-on}
use Rattle.steps.proofs.step_text.Goals as goal

pub returns-in_err-n-clause-step : goal.returns-in_err-n-clause-step
returns-in_err-n-clause-step c =
    let row = c.args.line.now in
    λ ln t. let h = handed (to length (text_of row)) _ _ c.from_residual.ensures.1 c.in_err-n.ensures ln c.args.counts.now (with_text t c.args.text.now) in
    h.0 ∙ text_bad ln (as_count c.args.counts.now) (with_text t c.args.text.now) (text_of row) (code_place (part code_field row) 0 text_codes) (to_none length _ h.1)

pub returns-then-place-counts-clause-step : goal.returns-then-place-counts-clause-step
returns-then-place-counts-clause-step c =
    let row = c.args.line.now in
    let f = front_of row _ (sym c.in_ok-n.ensures) in
    λ ln t. text-again ln (as_count c.args.counts.now) (with_text t c.args.text.now) row _ f (code_place (part code_field row) 0 text_codes) c.text_place-place.ensures.0 c.if-place-counts.true

pub returns-then-end-gt-MOST_TEXT-clause-step : goal.returns-then-end-gt-MOST_TEXT-clause-step
returns-then-end-gt-MOST_TEXT-clause-step c =
    let row = c.args.line.now in
    let f = front_of row _ (sym c.in_ok-n.ensures) in
    λ ln t. text_full ln (as_count c.args.counts.now) (with_text t c.args.text.now) row _ f (code_place (part code_field row) 0 text_codes) c.text_place-place.ensures.0 c.if-place-counts.false c.if-end-gt-MOST_TEXT.true

pub returns-clause-step : goal.returns-clause-step
unfolding count_text
returns-clause-step c =
    let row = c.args.line.now in
    let f = front_of row _ (sym c.in_ok-n.ensures) in
    λ ln t.
    text-on ln (as_count c.args.counts.now) (with_text t c.args.text.now) row _ f (code_place (part code_field row) 0 text_codes) c.text_place-place.ensures.0 c.if-place-counts.false c.if-end-gt-MOST_TEXT.false refl
    (c.store_text.ensures ∙ ap (λ (k : ℕ). paste c.args.text.now c.args.counts.now.text (ended (take c.in_ok-n.n row)) (k + 1)) (length-take-le c.in_ok-n.n row f.within))

pub overflow_add-end : goal.overflow_add-end
overflow_add-end c =
    let f = front_of c.args.line.now _ (sym c.in_ok-n.ensures) in
    let p = c.requires in
    search rules

pub overflow_add-end-2 : goal.overflow_add-end-2
overflow_add-end-2 c =
    let f = front_of c.args.line.now _ (sym c.in_ok-n.ensures) in
    let p = c.requires in
    let t = c.requires.fits in
    search rules

pub slice_bounds-store_text-end : goal.slice_bounds-store_text-end
slice_bounds-store_text-end c =
    let f = front_of c.args.line.now _ (sym c.in_ok-n.ensures) in
    sym (length-take-le c.in_ok-n.n c.args.line.now f.within)
