-- `verdicts::broken` meets its contract. Assumes nothing.
use Prim.Native.Nat.{◌*◌}
use native.Mathlib.Omega.{arith}
use Rattle.law.specs.Sizes.{most_rounds}
use Rattle.join.specs.Grid.{first_from}
use Rattle.join.specs.Check.{broken_cell}
use Rattle.turns.proofs.Told.{told_turn, told_under}
use Rattle.checks.specs.Laws.{as_law, four_of}
use Rattle.verdicts.proofs.broken.Goals as goal

pub at_turn-requires : goal.at_turn-requires
at_turn-requires c =
    let e = c.args.entries.now in
    let f = broken_cell (as_law c.args.kind) e.players e.rounds (four_of e) in
    λ turn h. omega (arith, e.indexed.few, told_under f (e.players * most_rounds) (told_turn (first_from f 0 (e.players * most_rounds)) c.first_broken-found.ensures h))
