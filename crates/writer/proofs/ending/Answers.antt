-- `writer::ending` meets its contract. Assumes nothing.
use mathlib.Core.Path.{sym, ap}
use Rattle.law.specs.Calls.{end_of}
use Rattle.writer.proofs.ending.Goals as goal

pub returns-then-cr_alone : goal.returns-then-cr_alone
returns-then-cr_alone c = sym (ap end_of c.if-cr_alone.true)

pub returns-else-cr_alone : goal.returns-else-cr_alone
returns-else-cr_alone c = sym (ap end_of c.if-cr_alone.false)
