-- `lawful::are_apart` meets its contract. Assumes nothing.
use mathlib.Core.Path.{sym, ap, ◌∙◌}
use native.Mathlib.Omega.{arith}
use Rattle.std.specs.Prelude.{is_some}
use Rattle.turns.specs.Found.{as_found_record}
use Rattle.closings.proofs.Shared.{shared_front}
use Rattle.lawful.proofs.Parts.{told_found}
use Rattle.lawful.proofs.are_apart.Goals as goal

pub returns : goal.returns
returns c = told_found _ (sym c.is_none.ensures ∙ ap is_some (c.first_shared.ensures ∙ ap as_found_record (shared_front c.args.records.now c.args.n (omega (arith, c.requires, c.told-records)))))
