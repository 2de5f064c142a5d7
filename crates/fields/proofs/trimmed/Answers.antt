use mathlib.Core.Path.{◌≡◌, sym, ap, ◌∙◌}
use Prim.Native.Nat.{◌+◌, ◌-◌}
use native.Mathlib.Omega.{arith}
use lib.ListN.{length}
use Rattle.fields.proofs.Trims.{trim_less, trim_stays}
use Rattle.fields.proofs.trimmed.Goals as goal

pub returns-then-line-n-ne32 : goal.returns-then-line-n-ne32
returns-then-line-n-ne32 c =
    let l = c.loop-n in
    let one : l.n - 1 + 1 ≡ l.n = omega arith in
    one ∙ sym (ap length l.invariant ∙ trim_stays c.args.line.now l.n (omega arith) (omega arith) c.if-line-n-ne32.true)

pub loop-n-preserved : goal.loop-n-preserved
loop-n-preserved c =
    let l = c.loop-n in
    l.invariant ∙ trim_less c.args.line.now l.n (omega arith) (omega arith) c.if-line-n-ne32.false
