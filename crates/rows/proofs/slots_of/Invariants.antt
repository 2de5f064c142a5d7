-- `rows::slots_of` meets its contract. The loop's invariant: the first i rounds are read. Those that the line does not reach are blank. Assumes nothing.
use Rattle.rows.proofs.PlayerRounds.{Read}
use Rattle.rows.proofs.slots_of.Given as goal

abbrev pub invariant-loop-i : goal.invariant-loop-i
invariant-loop-i l = Read l.line l.i l.ids l.colours l.results
