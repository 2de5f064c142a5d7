-- `verdicts::wrong_points` meets its contract. Assumes nothing.
use mathlib.Core.Path.{ap}
use Prim.Native.Nat.{ℕ}
use native.Mathlib.Omega.{arith}
use lib.ListN.{get_or}
use Rattle.law.specs.Refusals.{refusal, file_fault_number, wrong_sum_lem}
use Rattle.join.specs.Grid.{first_from}
use Rattle.join.specs.Check.{wrong_sum}
use Rattle.turns.proofs.Told.{told_under}
use Rattle.index.proofs.Told.{told-place, told_nobody}
use Rattle.verdicts.proofs.Parts.{nothing_found, one_found}
use Rattle.verdicts.proofs.wrong_points.Goals as goal

pub returns-in_default : goal.returns-in_default
returns-in_default c =
    nothing_found (λ p. refusal (file_fault_number wrong_sum_lem) (get_or c.args.lines.now.numbers.now p 0) 0) _ (told_nobody _ c.first_wrong_sum.ensures c.in_default.is)

pub of_player-requires : goal.of_player-requires
of_player-requires c =
    let a = c.args in
    let f = wrong_sum a.values a.points.now a.results.now a.rounds in
    omega (arith, c.requires.players, told_under f a.n (told-place (first_from f 0 a.n) c.first_wrong_sum.ensures c.in-Some.is))

pub returns : goal.returns
returns c =
    one_found (λ p. refusal (file_fault_number wrong_sum_lem) (get_or c.args.lines.now.numbers.now p 0) 0) _ _ (told-place _ c.first_wrong_sum.ensures c.in-Some.is)
    (ap (λ (l : ℕ). refusal 16 l 0) c.of_player.ensures)
