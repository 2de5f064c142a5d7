-- `rows::bye_of` meets its contract. Assumes nothing.
use mathlib.Core.Path.{ap₂, ◌∙◌}
use Prim.Native.Nat.{ℕ}
use Rattle.rows.specs.declared.Slot.{Slot}
use Rattle.rows.proofs.PlayerRounds.{bye_is}
use Rattle.rows.proofs.bye_of.Goals as goal

pub returns : goal.returns
returns c =
    λ letter letter_in result-is.
    ap₂ (λ (x y : ℕ). let s : Slot = record { id = 0; colour = x; result = y } in s) c.blank_as.ensures c.unknown_as.ensures ∙ bye_is c.args.colour letter c.args.res letter_in result-is
