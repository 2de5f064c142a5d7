-- `steps::text_place` meets its contract. Assumes nothing.
use mathlib.Core.Path.{◌∙◌, sym, subst}
use Prim.Native.Nat.{ℕ, ◌<◌}
use Rattle.steps.proofs.Places.{code_place_lem}
use Rattle.steps.proofs.text_place.Goals as goal

pub returns : goal.returns
returns c =
    let k = code_place_lem c.args.line.now c.requires _ _ c.column-a.ensures c.column-b.ensures in
    (c.place_of_code.ensures ∙ k.0, subst (λ (n : ℕ). n < 16) (sym c.place_of_code.ensures) k.1)
