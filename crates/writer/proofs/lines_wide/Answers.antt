-- `writer::lines_wide` meets its contract. Assumes nothing.
use Prim.Native.Nat.{ℕ, ◌+◌, ◌*◌}
use mathlib.Core.Path.{ap}
use native.Mathlib.Omega.{arith}
use borrow.Author.Rules.{rules}
use Rattle.writer.proofs.Wide.{few-wide}
use Rattle.writer.proofs.lines_wide.Goals as goal

pub overflow_mul-result : goal.overflow_mul-result
overflow_mul-result c = let a = c.args in let w = few-wide a.n (a.wide + c.end_wide.result) (search rules) (search rules) in omega arith

pub returns : goal.returns
returns c =
    let a = c.args in
    (ap (λ (w : ℕ). a.n * (a.wide + w)) c.end_wide.ensures.0, few-wide a.n (a.wide + c.end_wide.result) (search rules) (search rules))
