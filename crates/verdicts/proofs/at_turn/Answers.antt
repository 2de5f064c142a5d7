-- `verdicts::at_turn` meets its contract. Assumes nothing.
use mathlib.Core.Path.{ap, ◌∙◌}
use Prim.Native.Nat.{ℕ}
use native.Mathlib.Omega.{arith}
use lib.ListN.{get_or}
use Rattle.types.specs.Faults.{number_of}
use Rattle.join.specs.Check.{at_player}
use Rattle.turns.proofs.Told.{told_turn}
use Rattle.verdicts.proofs.Parts.{nothing_found, turn_found}
use Rattle.verdicts.proofs.at_turn.Goals as goal

pub returns-in_default : goal.returns-in_default
returns-in_default c = λ o e. nothing_found (at_player (number_of c.args.fault) c.args.lines.now.numbers.now) o (told_turn o e c.in_default.is)

pub place-requires : goal.place-requires
place-requires c = c.requires _ c.in-Some.is

pub of_player-requires : goal.of_player-requires
of_player-requires c = let e = c.place.ensures in let l = c.requires _ c.in-Some.is in omega (arith, e, l)

pub returns : goal.returns
returns c =
    let lines = c.args.lines.now.numbers.now in
    λ o e. turn_found (number_of c.args.fault) lines o _ (told_turn o e c.in-Some.is) _ _ (c.of_player.ensures ∙ ap (λ (k : ℕ). get_or lines k 0) c.place.ensures) c.round.ensures
