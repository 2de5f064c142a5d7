-- A player's kept columns, and the unused cells of an entry table, place by place. Means: no part of the statement.
use Rattle.std.specs.Prelude.{◌≡◌, true, cond, List, ℕ, ◌+◌, ◌≤◌, ◌<◌, ltb, get_or}
use Rattle.kit.specs.Lists.{all}
use Rattle.law.specs.Sizes.{most_rounds}
use Rattle.law.specs.Lines.{allowed}
use Rattle.law.specs.Players.{SpellsKept}
use Rattle.law.specs.Tables.{cell_of}
use Rattle.readings.specs.Good.{kept_at}

-- the kept columns of a place
pub record HasKept (kept : List ℕ) (p : ℕ) : Type 0 where
  pub clean : all allowed (kept_at kept p) ≡ true
  pub spelled : SpellsKept (kept_at kept p)

-- of n players up to round R: the first round of a place that is unused, counted from 0
abbrev pub unused_from : ℕ → ℕ → ℕ → ℕ
unused_from n R place = cond (ltb place n) R 0

-- zero, d, from a round on, counted from 0
abbrev pub UnusedRow : {A : Type 0} → A → List A → ℕ → ℕ → Type 0
UnusedRow d cells place from = (j : ℕ) → from ≤ j → j < most_rounds → get_or cells (cell_of place (j + 1)) d ≡ d
