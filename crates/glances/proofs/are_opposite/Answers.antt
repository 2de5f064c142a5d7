-- `glances::are_opposite` meets its contract. Assumes nothing.
use mathlib.Core.Path.{refl}
use Prim.Native.Char.{code}
use Rattle.kit.proofs.Bools.{clash}
use Rattle.glances.proofs.Entries.{opposite}
use Rattle.glances.proofs.are_opposite.Goals as goal

pub returns-in-119 : goal.returns-in-119
returns-in-119 c = λ e. opposite (code "w") (code "b") (refl, refl) _ _ c.in-119.is e

pub returns-in-98 : goal.returns-in-98
returns-in-98 c = λ e. opposite (code "b") (code "w") (refl, refl) _ _ c.in-98.is e

pub returns-in_default : goal.returns-in_default
returns-in_default c = λ e. clash e
