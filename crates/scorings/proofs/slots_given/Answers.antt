use native.Mathlib.Omega.{arith}
use mathlib.Core.Path.{◌≡◌, sym, ap, ◌∙◌}
use Prim.Native.Nat.{ℕ, ◌+◌, ◌*◌, ◌-◌}
use lib.ListN.{drop}
use mathlib.Core.List.{◌∷◌}
use Rattle.kit.specs.Decides.{to}
use Rattle.law.specs.Columns.{cells}
use Rattle.fields.proofs.Cases.{handed_on}
use Rattle.scorings.specs.Scoring.{differing, slots_in, if_filled, slots_give}
use Rattle.scorings.proofs.ScoringSlots.{slots_turn, none_at}
use Rattle.scorings.proofs.slots_given.Goals as goal

pub returns-in_err-given : goal.returns-in_err-given
returns-in_err-given c =
    let row = c.args.line.now in
    let i = c.loop-i.i - 1 in
    let up : c.loop-i.i ≡ i + 1 = omega arith in
    let e = c.in_err-given.ensures (drop (i + 1) (slots_in row)) (c.loop-i.invariant ∙ ap (λ (k : ℕ). slots_give (drop k (slots_in row))) up) in
    handed_on _ _ c.from_residual.ensures.1 (to if_filled (differing (cells row (5 + 9 * i) 5 ∷ drop (i + 1) (slots_in row)))) (to if_filled (differing (slots_in row))) e (λ _. none_at row i (omega arith) e)

pub loop-i-preserved : goal.loop-i-preserved
loop-i-preserved c =
    let row = c.args.line.now in
    let i = c.loop-i.i - 1 in
    let up : c.loop-i.i ≡ i + 1 = omega arith in
    c.in_ok-given.ensures (drop (i + 1) (slots_in row)) (c.loop-i.invariant ∙ ap (λ (k : ℕ). slots_give (drop k (slots_in row))) up) ∙ ap slots_give (sym (slots_turn row i (omega arith)))

pub returns : goal.returns
returns c =
    let none_left : c.loop-i.i ≡ 0 = omega arith in
    c.loop-i.invariant ∙ ap (λ (k : ℕ). slots_give (drop k (slots_in c.args.line.now))) none_left
