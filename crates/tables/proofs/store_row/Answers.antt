use Prim.Native.Nat.{◌<◌}
use borrow.Author.Rules.{rules}
use lib.ListN.{length}
use Rattle.std.proofs.lemmas.List.{get_or_default}
use Rattle.tables.proofs.Rows.{stored_none, stored_next}
use Rattle.tables.proofs.store_row.Goals as goal

pub loop-j-init : goal.loop-j-init
loop-j-init g c = λ d. stored_none

pub loop-j-preserved : goal.loop-j-preserved
loop-j-preserved g c =
    λ d. let inside : c.loop-j.j < length c.args.row.now = search rules in
    rw (get_or_default c.args.row.now c.loop-j.j c.index-row-j.result d inside) (stored_next (c.loop-j.invariant d) c.cell_of.ensures.0)
