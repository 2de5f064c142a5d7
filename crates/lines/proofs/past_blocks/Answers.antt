use mathlib.Core.Path.{sym, ◌∙◌}
use Prim.Native.Nat.{◌+◌}
use native.Mathlib.Omega.{arith}
use borrow.Author.Rules.{rules}
use Rattle.lines.proofs.Found.{clean_join, clean_slice}
use Rattle.lines.proofs.past_blocks.Goals as goal

pub loop-i-preserved : goal.loop-i-preserved
loop-i-preserved c =
    let l = c.loop-i in
    let a = c.args in (
      search rules,
      search rules,
      clean_join a.file.now a.at l.i (l.i + a.block) l.invariant.2
          (clean_slice a.file.now l.i (l.i + a.block) (omega arith) (search rules) (sym c.all_allowed.ensures ∙ c.if-not-all_allowed.false)),
    )
