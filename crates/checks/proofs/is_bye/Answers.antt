-- `checks::is_bye` meets its contract. Assumes nothing.
use mathlib.Core.Path.{refl}
use Rattle.law.specs.Entries.{is_bye}
use Rattle.checks.proofs.is_bye.Goals as goal

pub returns : goal.returns
unfolding is_bye
returns c = rw c.is_bye_result-of_bye.ensures refl
