-- `tables::store_row` meets its contract. The loop's invariant: the first j values are stored. Assumes nothing.
use Rattle.law.specs.Tables.{cell_of}
use Rattle.tables.proofs.Rows.{Stored}
use Rattle.tables.proofs.store_row.Given as goal

abbrev pub invariant-loop-j : goal.invariant-loop-j
invariant-loop-j g l = (d : g.row.T.Denot) → Stored d cell_of l.initial.t l.place.0 l.row l.t l.j
