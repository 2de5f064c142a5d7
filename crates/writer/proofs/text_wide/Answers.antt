use mathlib.Core.Path.{ap, ◌∙◌}
use mathlib.Core.List.{List}
use Prim.Native.Nat.{ℕ}
use native.Mathlib.Omega.{arith}
use lib.ListN.{length}
use lib.Seq.{take-length}
use Rattle.puts.specs.Ends.{relined}
use Rattle.writer.proofs.Wide.{counted_none, counted_next, counted_all}
use Rattle.writer.proofs.text_wide.Goals as goal

pub loop-c-init : goal.loop-c-init
loop-c-init c = let a = c.args in counted_none a.end a.text.now (length a.text.now)

pub overflow_add-wide : goal.overflow_add-wide
overflow_add-wide c =
    let m = c.loop-c.invariant.most in
    omega (arith, c.loop-c-test.true, c.requires, c.kept_wide-wide.ensures.1)

pub loop-c-preserved : goal.loop-c-preserved
loop-c-preserved c =
    let a = c.args in
    counted_next a.end a.text.now (length a.text.now) c.loop-c.invariant c.loop-c-test.true (omega arith) c.kept_wide-wide.ensures.0

pub returns : goal.returns
returns c =
    let a = c.args in
    let h = c.loop-c.invariant in
    let m = h.most in
    let u = h.upto in
    (counted_all a.end a.text.now (length a.text.now) h c.loop-c-test.false ∙ ap (λ (l : List ℕ). length (relined a.end l)) (take-length a.text.now), omega (arith, c.requires))
