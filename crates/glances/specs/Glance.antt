-- What one look at the entries tells when it says yes: of an entry, of a player's, of all, and of U. Means: no part of the statement.
use Rattle.std.specs.Prelude.{◌≡◌, Bool, true, false, ◌&&◌, ◌||◌, List, ℕ, ◌+◌, ◌≤◌, ◌<◌, eqb, length, get_or}
use Rattle.kit.specs.Lists.{among}
use Rattle.law.specs.Sizes.{most_rounds}
use Rattle.law.specs.Players.{game_colours}
use Rattle.law.specs.Entries.{bye-or-game, mutual_pairing, fitting_results}
use Rattle.law.specs.Tables.{cell_of}
use Rattle.join.specs.Grid.{some_below}
use Rattle.join.specs.Store.{Nine}
use Rattle.join.specs.Check.{has_uat, keeps_cell}

-- two colours of one game
abbrev pub Opposite : ℕ → ℕ → Type 0
Opposite a b = (among a game_colours ≡ true) × (eqb b a ≡ false)

-- 12, 13 and 14 at a place and round, of a player up to a round, and of the first players
pub record KeepsEntry (n : ℕ) (t : Nine) (place round : ℕ) : Type 0 where
  pub game : keeps_cell bye-or-game n t place round ≡ true
  pub answers : keeps_cell mutual_pairing n t place round ≡ true
  pub fitted : keeps_cell fitting_results n t place round ≡ true

abbrev pub KeepsRow : ℕ → Nine → ℕ → ℕ → Type 0
KeepsRow n t place rounds = (j : ℕ) → j < rounds → KeepsEntry n t place (j + 1)

abbrev pub KeepsRows : ℕ → Nine → ℕ → ℕ → Type 0
KeepsRows n t players rounds = (place : ℕ) → place < players → KeepsRow n t place rounds

-- 15: a flag for each round, that of round j + 1 at j, and what a player more makes of them. again: one of his U is not the first in its round
pub record Noted (results : List ℕ) (place : ℕ) (before after : List Bool) (again : Bool) : Type 0 where
  pub long : length after ≡ most_rounds
  pub flags : (j : ℕ) → j < most_rounds → get_or after j false ≡ get_or before j false || has_uat results place (j + 1)
  pub once : again ≡ false → (j : ℕ) → j < most_rounds → has_uat results place (j + 1) && get_or before j false ≡ false

-- no player of the first has U where one before has
abbrev pub OnceU : List ℕ → ℕ → Type 0
OnceU results players = (place : ℕ) → place < players → (j : ℕ) → j < most_rounds → has_uat results place (j + 1) && some_below (λ q. has_uat results q (j + 1)) place ≡ false

-- 11: the cells of a place are zero from a round on, counted from 0
abbrev pub BlankRow : List ℕ → ℕ → ℕ → Type 0
BlankRow cells place from = (j : ℕ) → from ≤ j → j < most_rounds → get_or cells (cell_of place (j + 1)) 0 ≡ 0
