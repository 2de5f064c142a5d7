-- `lines::whole` meets its contract. Assumes nothing.
use mathlib.Core.Path.{◌≡◌}
use Prim.Native.Nat.{◌+◌}
use lib.ListN.{get_or}
use native.Mathlib.Omega.{arith}
use Rattle.std.proofs.lemmas.Bool.Decides.{nat_tests}
use Rattle.law.specs.Lines.{LF}
use Rattle.lines.proofs.Found.{whole-end, whole-lf, whole_other}
use Rattle.lines.proofs.whole.Goals as goal
use Rattle.lines.proofs.whole.Goals.{then-after-file, else-after-file}

pub returns-then-has_lf : goal.returns-then-has_lf
returns-then-has_lf c =
    let p = c.requires in
    elim c.if-after-file.branch [
      | then-after-file w ↦
          let e : get_or c.args.file.now (c.args.to + 1) 0 ≡ LF = grind (arith, nat_tests) in
          whole-lf _ _ _ p.2 p.3 w.if-after-file.true e
      | else-after-file w ↦ absurd (grind (arith, nat_tests))
    ]

pub returns-else-has_lf : goal.returns-else-has_lf
returns-else-has_lf c =
    let p = c.requires in
    elim c.if-after-file.branch [
      | then-after-file w ↦
          let e : get_or c.args.file.now (c.args.to + 1) 0 ≡ LF → ⊥ = λ h. grind (arith, nat_tests) in
          whole_other _ _ _ p.2 p.3 w.if-after-file.true e
      | else-after-file w ↦ whole-end _ _ _ p.2 p.3 p.0 w.if-after-file.false
    ]
