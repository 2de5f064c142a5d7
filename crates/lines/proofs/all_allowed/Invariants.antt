-- `lines::all_allowed` meets its contract. The loop's invariant: what the bytes passed said, together with those that are left, is what all say. Assumes nothing.
use mathlib.Core.Path.{◌≡◌}
use mathlib.Core.Bool.{◌&&◌}
use lib.ListN.{drop}
use Rattle.kit.specs.Lists.{all}
use Rattle.law.specs.Lines.{allowed}
use Rattle.lines.proofs.all_allowed.Given as goal

abbrev pub invariant-loop-c : goal.invariant-loop-c
invariant-loop-c l = all allowed l.line ≡ l.good && all allowed (drop l.c-index l.line)
