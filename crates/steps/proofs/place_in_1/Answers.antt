-- `steps::place_in_1` meets its contract. Assumes nothing.
use mathlib.Core.Path.{sym, ap}
use Rattle.join.specs.Store.{code_place}
use Rattle.steps.specs.Counts.{place_in1}
use Rattle.steps.proofs.Places.{other_in_1}
use Rattle.steps.proofs.place_in_1.Goals as goal

pub returns-in-48 : goal.returns-in-48
unfolding code_place
returns-in-48 c = sym (ap place_in1 c.in-48.is)

pub returns-in-49 : goal.returns-in-49
unfolding code_place
returns-in-49 c = sym (ap place_in1 c.in-49.is)

pub returns-in-50 : goal.returns-in-50
unfolding code_place
returns-in-50 c = sym (ap place_in1 c.in-50.is)

pub returns-in-51 : goal.returns-in-51
unfolding code_place
returns-in-51 c = sym (ap place_in1 c.in-51.is)

pub returns-in-57 : goal.returns-in-57
unfolding code_place
returns-in-57 c = sym (ap place_in1 c.in-57.is)

pub returns-in_default : goal.returns-in_default
returns-in_default c =
    let n = c.in_default.in_default-own.rest in
    other_in_1 c.args.b n.0.0.0.0.1 n.0.0.0.1 n.0.0.1 n.0.1 n.1
