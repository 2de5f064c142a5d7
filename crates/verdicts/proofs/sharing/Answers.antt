-- `verdicts::sharing` meets its contract. Assumes nothing.
use mathlib.Core.Path.{ap}
use Prim.Native.Nat.{ℕ, ◌+◌}
use native.Mathlib.Omega.{arith}
use lib.ListN.{length, get_or}
use Rattle.law.specs.Sizes.{most_players}
use Rattle.law.specs.Refusals.{refusal, file_fault_number, shared}
use Rattle.join.specs.Grid.{first_from}
use Rattle.join.specs.Check.{shared_record}
use Rattle.turns.proofs.Told.{told_record, told_under}
use Rattle.verdicts.proofs.Parts.{nothing_found, one_found}
use Rattle.verdicts.proofs.sharing.Goals as goal

pub returns-in_default : goal.returns-in_default
returns-in_default c =
    nothing_found (λ j. refusal (file_fault_number shared) (get_or c.args.lines.now.numbers.now (most_players + j) 0) 0) _ (told_record _ c.first_shared.ensures c.in_default.is)

pub of_record-requires : goal.of_record-requires
of_record-requires c =
    let rs = c.args.records.now in
    omega (arith, c.requires, told_under (shared_record rs) (length rs) (told_record (first_from (shared_record rs) 0 (length rs)) c.first_shared.ensures c.in-Some.is))

pub returns : goal.returns
returns c =
    one_found (λ j. refusal (file_fault_number shared) (get_or c.args.lines.now.numbers.now (most_players + j) 0) 0) _ _ (told_record _ c.first_shared.ensures c.in-Some.is)
    (ap (λ (l : ℕ). refusal 17 l 0) c.of_record.ensures)
