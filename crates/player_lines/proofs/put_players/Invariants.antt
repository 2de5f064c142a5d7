-- `player_lines::put_players` meets its contract. The loop's invariant: the first players are put. Assumes nothing.
use Rattle.player_lines.specs.Rows.{seven_in}
use Rattle.player_lines.proofs.Rows.{Players}
use Rattle.player_lines.proofs.put_players.Given as goal

abbrev pub invariant-loop-i : goal.invariant-loop-i
invariant-loop-i l = Players (seven_in l.tables) l.rounds l.end l.players l.at l.initial.out l.out l.i l.next
