-- `rewritten::print_rewritten`: the number of the file's answer decides what is said of it.
use Rattle.listed.proofs.Laws.{says-accepted, says-refused}
use Rattle.rewritten.proofs.Laws.{rewrites_numbered}
use Rattle.rewritten.proofs.print_rewritten.Goals as goal

pub returns-then-made-eq0 : goal.returns-then-made-eq0
returns-then-made-eq0 g c = says-accepted (rewrites_numbered c.rewrite_file-made.ensures.rewrites) c.if-made-eq0.true

pub returns : goal.returns
returns g c = says-refused (rewrites_numbered c.rewrite_file-made.ensures.rewrites) c.if-made-eq0.false
