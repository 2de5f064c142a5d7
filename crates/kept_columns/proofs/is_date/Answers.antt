use native.Mathlib.Omega.{arith}
use mathlib.Core.Path.{◌≡◌, sym, ap, ◌∙◌}
use mathlib.Core.Bool.{true, false}
use Prim.Native.Nat.{ℕ}
use mathlib.Core.List.{[]}
use lib.ListN.{drop}
use Rattle.law.specs.Fields.{has_shape}
use Rattle.fields.proofs.Columns.{whole, ends}
use Rattle.kept_columns.specs.Kept.{date_shape}
use Rattle.kept_columns.proofs.KeptColumns.{date_turn}
use Rattle.kept_columns.proofs.is_date.Goals as goal

pub loop-i-init : goal.loop-i-init
loop-i-init c = whole (has_shape date_shape) c.args.line.now c.args.from 10

pub returns-then-not-fits_date : goal.returns-then-not-fits_date
returns-then-not-fits_date c =
    let a = c.args in
    sym (c.loop-i.invariant ∙ date_turn a.line.now a.from c.loop-i.i c.column.result c.loop-i-test.true c.column.ensures false
    (sym c.fits_date.ensures ∙ c.if-not-fits_date.true))

pub loop-i-preserved : goal.loop-i-preserved
loop-i-preserved c =
    let a = c.args in
    c.loop-i.invariant ∙ date_turn a.line.now a.from c.loop-i.i c.column.result c.loop-i-test.true c.column.ensures true
    (sym c.fits_date.ensures ∙ c.if-not-fits_date.false)

pub returns : goal.returns
returns c =
    let a = c.args in
    let all_past : c.loop-i.i ≡ 10 = omega arith in
    sym (c.loop-i.invariant ∙ ends (has_shape (drop c.loop-i.i date_shape)) a.line.now a.from 10 c.loop-i.i c.loop-i-test.false
    ∙ ap (λ (k : ℕ). has_shape (drop k date_shape) []) all_past)
