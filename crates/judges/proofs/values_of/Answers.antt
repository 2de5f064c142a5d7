-- `judges::values_of` meets its contract: where no line gives values, they are the defaults. Assumes nothing.
use Rattle.judges.proofs.Judging.{defaults}
use Rattle.judges.proofs.values_of.Goals as goal

pub returns-in-None : goal.returns-in-None
returns-in-None c = defaults c.args.counts.now.scoring c.in-None.is
