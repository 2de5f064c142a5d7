-- `texts::is_whole_text` meets its contract. The loop's invariant: the whole is kept text where what is left is, after the lines before it. Assumes nothing.
use Prim.Native.Nat.{◌-◌}
use lib.ListN.{length}
use Rattle.texts.proofs.Left.{Walked}
use Rattle.texts.proofs.is_whole_text.Given as goal

abbrev pub invariant-loop-at : goal.invariant-loop-at
invariant-loop-at l = Walked l.text l.at l.seen

abbrev pub decreases-loop-at : goal.decreases-loop-at
decreases-loop-at l = length l.text - l.at
