-- `steps::place_of_code` meets its contract. Assumes nothing.
use mathlib.Core.Path.{sym, ap, ◌∙◌}
use Prim.Native.Nat.{ℕ}
use Rattle.steps.specs.Counts.{place_of_code}
use Rattle.steps.proofs.Places.{other_code}
use Rattle.steps.proofs.place_of_code.Goals as goal

pub returns-in-48 : goal.returns-in-48
returns-in-48 c = c.place_in_0.ensures ∙ sym (ap (λ (a : ℕ). place_of_code a c.args.b) c.in-48.is)

pub returns-in-49 : goal.returns-in-49
returns-in-49 c = c.place_in_1.ensures ∙ sym (ap (λ (a : ℕ). place_of_code a c.args.b) c.in-49.is)

pub returns-in-50 : goal.returns-in-50
returns-in-50 c = c.place_in_2.ensures ∙ sym (ap (λ (a : ℕ). place_of_code a c.args.b) c.in-50.is)

pub returns-in_default : goal.returns-in_default
returns-in_default c =
    let n = c.in_default.in_default-own.rest in
    other_code c.args.a c.args.b n.0.0.1 n.0.1 n.1
