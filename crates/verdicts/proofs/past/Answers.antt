-- `verdicts::past` meets its contract: by one look, or by the search. Assumes nothing.
use Prim.Native.Nat.{◌*◌}
use native.Mathlib.Omega.{arith}
use Rattle.law.specs.Sizes.{most_rounds}
use Rattle.law.specs.Refusals.{file_fault_number, past_142}
use Rattle.join.specs.Grid.{first_from}
use Rattle.join.specs.Check.{past_cell, at_player}
use Rattle.turns.proofs.Told.{told_turn, told_under}
use Rattle.verdicts.proofs.Parts.{nothing_found}
use Rattle.verdicts.proofs.past.Goals as goal

pub returns-then-none_past : goal.returns-then-none_past
returns-then-none_past c = nothing_found (at_player (file_fault_number past_142) c.args.lines.now.numbers.now) _ (c.none_past.ensures c.if-none_past.true)

pub at_turn-requires : goal.at_turn-requires
at_turn-requires c =
    let a = c.args in
    let f = past_cell a.rounds a.colours.now in
    λ turn e. omega (arith, c.requires.players, told_under f (a.n * most_rounds) (told_turn (first_from f 0 (a.n * most_rounds)) c.first_past-found.ensures e))

pub returns : goal.returns
returns c = c.at_turn.ensures _ c.first_past-found.ensures
