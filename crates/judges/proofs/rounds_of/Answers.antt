-- `judges::rounds_of` meets its contract. Assumes nothing.
use Rattle.judges.proofs.Judging.{rounds-stated, rounds-not-stated}
use Rattle.judges.proofs.rounds_of.Goals as goal

pub returns-in-Some : goal.returns-in-Some
returns-in-Some c = rounds-stated c.args.counts.now c.args.colours.now c.in-Some.is

pub returns-in-None : goal.returns-in-None
returns-in-None c = rounds-not-stated c.args.counts.now c.args.colours.now c.in-None.is c.rounds_seen.ensures
