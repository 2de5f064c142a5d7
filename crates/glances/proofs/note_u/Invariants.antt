-- `glances::note_u` meets its contract. The loop's invariant: the flags of the first j rounds are noted. Assumes nothing.
use Rattle.glances.proofs.Once.{Noting}
use Rattle.glances.proofs.note_u.Given as goal

abbrev pub invariant-loop-j : goal.invariant-loop-j
invariant-loop-j l = Noting l.results l.place.0 l.initial.seen l.seen l.j l.again
