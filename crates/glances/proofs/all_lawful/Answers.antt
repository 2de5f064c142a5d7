-- `glances::all_lawful` meets its contract: where every entry keeps the laws nothing is found. Assumes nothing.
use Rattle.checks.specs.Laws.{four_of}
use Rattle.glances.proofs.Laws.{none_found}
use Rattle.glances.proofs.all_lawful.Goals as goal

pub returns-then-keeps_rows : goal.returns-then-keeps_rows
returns-then-keeps_rows c = λ e. none_found _ _ (four_of c.args.entries.now) (c.keeps_rows.ensures c.if-keeps_rows.true) (c.keeps_one_u.ensures e) c.if-entries-gt-MOST_ROUNDS.false
