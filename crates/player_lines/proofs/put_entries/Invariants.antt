-- `player_lines::put_entries` meets its contract. The loop's invariant: the first rounds are put. Assumes nothing.
use Rattle.player_lines.proofs.Rows.{Rounds}
use Rattle.player_lines.proofs.put_entries.Given as goal

abbrev pub invariant-loop-done : goal.invariant-loop-done
invariant-loop-done l = Rounds l.tables.opponents.now l.tables.colours.now l.tables.results.now l.place.0 l.rounds l.at l.initial.out l.out l.done l.next
