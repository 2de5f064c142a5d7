-- `rewritten::rewrite_file`: the reading and the writing together are a file rewritten.
use Rattle.std.proofs.Common.{rules}
use Rattle.rewritten.proofs.Laws.{either_fits, core_rewrites}
use Rattle.rewritten.proofs.rewrite_file.Goals as goal

pub returns-clause-prefix_len : goal.returns-clause-prefix_len
returns-clause-prefix_len c =
    (core_rewrites c.read-core.ensures (search rules) c.new-room.ensures (either_fits c.args.cr_alone (search rules)) c.write_core-written.ensures).0

pub returns-clause-rewrites : goal.returns-clause-rewrites
returns-clause-rewrites c =
    (core_rewrites c.read-core.ensures (search rules) c.new-room.ensures (either_fits c.args.cr_alone (search rules)) c.write_core-written.ensures).1
