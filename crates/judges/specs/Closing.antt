-- 10 and 11 over the counts and the cells, and the closing pass on colours and on results.
use Rattle.std.specs.Prelude.{Bool, false, ◌&&◌, List, ℕ, ◌*◌, ltb, get_or}
use Rattle.std.proofs.Math.Option.{Option}
use Prim.Native.Char.{code}
use Rattle.kit.specs.Decides.{to}
use Rattle.kit.specs.Table.{Holds}
use Rattle.law.specs.Sizes.{most_rounds}
use Rattle.law.specs.Tables.{entry_cells}
use Rattle.law.specs.Refusals.{Refusal, file_fault_number, past_142}
use Rattle.join.specs.Grid.{first_from}
use Rattle.join.specs.Check.{past_cell, closing, at_player}
use Rattle.join.specs.Store.{Nine, Count}

abbrev pub is_complete : Count → Bool
is_complete c = get_or c.seen 0 false && ltb 0 c.players

abbrev pub past_in : Count → ℕ → Nine → Option Refusal
past_in c R x = to (at_player (file_fault_number past_142) x.lines) (first_from (past_cell R x.colours) 0 (c.players * most_rounds))

-- ---- the closing pass
abbrev pub dash : ℕ
dash = code "-"

abbrev pub zed : ℕ
zed = code "Z"

abbrev pub ClosedBy : ℕ → ℕ → ℕ → List ℕ → List ℕ → Type 0
ClosedBy letter n R before after = Holds 0 entry_cells (λ i. closing n R letter i (get_or before i 0)) before after
