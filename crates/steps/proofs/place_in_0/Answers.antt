-- `steps::place_in_0` meets its contract. Assumes nothing.
use mathlib.Core.Path.{sym, ap}
use Rattle.join.specs.Store.{code_place}
use Rattle.steps.specs.Counts.{place_in0}
use Rattle.steps.proofs.Places.{other_in_0}
use Rattle.steps.proofs.place_in_0.Goals as goal

pub returns-in-49 : goal.returns-in-49
unfolding code_place
returns-in-49 c = sym (ap place_in0 c.in-49.is)

pub returns-in-50 : goal.returns-in-50
unfolding code_place
returns-in-50 c = sym (ap place_in0 c.in-50.is)

pub returns-in-51 : goal.returns-in-51
unfolding code_place
returns-in-51 c = sym (ap place_in0 c.in-51.is)

pub returns-in-52 : goal.returns-in-52
unfolding code_place
returns-in-52 c = sym (ap place_in0 c.in-52.is)

pub returns-in-53 : goal.returns-in-53
unfolding code_place
returns-in-53 c = sym (ap place_in0 c.in-53.is)

pub returns-in-54 : goal.returns-in-54
unfolding code_place
returns-in-54 c = sym (ap place_in0 c.in-54.is)

pub returns-in-55 : goal.returns-in-55
unfolding code_place
returns-in-55 c = sym (ap place_in0 c.in-55.is)

pub returns-in-57 : goal.returns-in-57
unfolding code_place
returns-in-57 c = sym (ap place_in0 c.in-57.is)

pub returns-in_default : goal.returns-in_default
returns-in_default c =
    let n = c.in_default.in_default-own.rest in
    other_in_0 c.args.b n.0.0.0.0.0.0.0.1 n.0.0.0.0.0.0.1 n.0.0.0.0.0.1 n.0.0.0.0.1 n.0.0.0.1 n.0.0.1 n.0.1 n.1
