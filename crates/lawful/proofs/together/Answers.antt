-- `lawful::together` meets its contract. No start number is in an index of zeros; 10000: one cell for each and one for 0. Assumes nothing.
use native.Mathlib.Omega.{arith}
use Rattle.index.proofs.Indexes.{index_zeros}
use Rattle.lawful.proofs.together.Goals as goal

pub starts_differ-requires-clause-empty : goal.starts_differ-requires-clause-empty
starts_differ-requires-clause-empty c = index_zeros _ 10000 (omega arith)
