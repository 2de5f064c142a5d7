-- The closing pass, turn by turn: the cells of the turns passed are closed, the others are as before. Means: no part of the statement.
use Rattle.std.specs.Prelude.{cond, ◌&&◌, List, ℕ, ◌+◌, ◌*◌, ◌-◌, ◌≤◌, ◌<◌, eqb, leb, ltb, length, get_or}
use Rattle.kit.specs.Table.{Holds}
use Rattle.law.specs.Sizes.{most_players, most_rounds}
use Rattle.law.specs.Tables.{entry_cells, place_in, round_in}

-- the turn at which a cell is looked at
abbrev pub turn_of : ℕ → ℕ
turn_of i = place_in i * most_rounds + (round_in i - 1)

-- what cell i holds after k turns, where c stood before
abbrev pub after : ℕ → ℕ → ℕ → ℕ → ℕ → ℕ
after R letter k i c = cond (ltb (turn_of i) k && leb (round_in i) R && eqb c 0) letter c

-- k turns of n players from table b on, with t now
pub record Closing (n R letter : ℕ) (b t : List ℕ) (k : ℕ) : Type 0 where
  pub upto : k ≤ n * most_rounds
  pub few : n ≤ most_players
  pub room : entry_cells ≤ length b
  pub holds : Holds 0 entry_cells (λ i. after R letter k i (get_or b i 0)) b t

-- one player's turns, from table b to table t, go on with any pass that came as far as them
abbrev pub ClosesRow : ℕ → ℕ → ℕ → List ℕ → List ℕ → Type 0
ClosesRow R letter place b t = (n : ℕ) (a : List ℕ) → place < n → Closing n R letter a b (place * most_rounds) → Closing n R letter a t (place * most_rounds + most_rounds)
