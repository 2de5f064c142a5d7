-- `writer::text_wide` meets its contract. The loop's invariant: the bytes up to the index are counted. Assumes nothing.
use lib.ListN.{length}
use Rattle.writer.proofs.Wide.{Counted}
use Rattle.writer.proofs.text_wide.Given as goal

abbrev pub invariant-loop-c : goal.invariant-loop-c
invariant-loop-c l = Counted l.end l.text (length l.text) l.wide l.c-index
