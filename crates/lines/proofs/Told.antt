-- What a step says where its case is known: what a caller has in each arm of its `match`. Assumes nothing.
use mathlib.Core.Path.{◌≡◌, subst}
use mathlib.Core.Bool.{false}
use mathlib.Core.List.{List, []}
use Prim.Native.Nat.{ℕ}
use lib.ListN.{drop}
use Rattle.law.proofs.Cut.{cut}
use Rattle.std.specs.Prelude.{Option, Some, None, Result, Ok, Err}
use Rattle.types.specs.declared.Fault.{Fault}
use Rattle.types.specs.Faults.{number_of}
use Rattle.lines.specs.declared.Line.{Line}
use Rattle.lines.specs.Step.{FaultAt, WholeAt, StepMeans}

module _ (file : List ℕ) (at : ℕ) {step : Result (Option Line) Fault} (means : StepMeans file at step) where
  pub told_done : step ≡ Ok None → cut false (drop at file) ≡ []
  unfolding StepMeans
  told_done e = subst (StepMeans file at) e means

  pub told_fault : {fault : Fault} → step ≡ Err fault → FaultAt file at (number_of fault)
  unfolding StepMeans
  told_fault e = subst (StepMeans file at) e means

  pub told_line : {line : Line} → step ≡ Ok (Some line) → WholeAt file at line.from line.to line.next.at
  unfolding StepMeans
  told_line e = subst (StepMeans file at) e means
