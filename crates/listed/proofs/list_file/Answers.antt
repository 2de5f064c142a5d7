-- `listed::list_file`: what the reading promises is small enough to be listed, and what is listed is what the statement says of the file.
use Rattle.std.proofs.Common.{arith}
use Rattle.listed.proofs.Laws.{core_small, core_listed}
use Rattle.listed.proofs.list_file.Goals as goal

pub put_listing-length-requires-clause-players : goal.put_listing-length-requires-clause-players
put_listing-length-requires-clause-players c = (core_small c.read.ensures).0

pub put_listing-length-requires-clause-rounds : goal.put_listing-length-requires-clause-rounds
put_listing-length-requires-clause-rounds c = (core_small c.read.ensures).1

pub returns-clause-lists : goal.returns-clause-lists
returns-clause-lists c = (core_listed c.tables.result c.of-tables.result c.new-room.ensures (omega arith) c.read.ensures c.tables.ensures c.of-tables.ensures c.put_listing-length.ensures.put).0

pub returns-clause-numbered : goal.returns-clause-numbered
returns-clause-numbered c = (core_listed c.tables.result c.of-tables.result c.new-room.ensures (omega arith) c.read.ensures c.tables.ensures c.of-tables.ensures c.put_listing-length.ensures.put).1
