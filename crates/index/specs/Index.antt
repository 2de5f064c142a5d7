-- The index of the start numbers: at each number the place of its player plus one, or 0 where no player has it.
use Rattle.std.specs.Prelude.{◌≡◌, List, ℕ, ◌+◌, ◌≤◌, ◌<◌, length, get_or}
use Rattle.std.proofs.Math.Option.{Option, none, some}
use Rattle.law.specs.Sizes.{most_players, most_start}
use Rattle.join.specs.Store.{place_of}
use Rattle.std.specs.Prelude as program
use Rattle.types.specs.declared.Place.{Place}
use Rattle.std.specs.Prelude.{Some, None}

abbrev pub index_cell : Option ℕ → ℕ
index_cell none = 0
index_cell (some place) = place + 1

-- the index of the first n start numbers
pub record IndexOf (starts : List ℕ) (n : ℕ) (index : List ℕ) : Type 0 where
  pub long : most_start < length index
  pub says : (id : ℕ) → id ≤ most_start → get_or index id 0 ≡ index_cell (place_of starts n id)

-- the first n start numbers are in the index
abbrev pub LowStarts : List ℕ → ℕ → Type 0
LowStarts starts n = (i : ℕ) → i < n → get_or starts i 0 ≤ most_start

-- the index has the start numbers of n players, all of which it can have
pub record Indexed (starts : List ℕ) (n : ℕ) (index : List ℕ) : Type 0 where
  pub few : n ≤ most_players
  pub says : IndexOf starts n index
  pub low : LowStarts starts n

-- of some players
pub record IsIndex (index : List ℕ) : Type 0 where
  pub starts : List ℕ
  pub players : ℕ
  pub indexed : Indexed starts players index

-- what a look-up answers
abbrev pub as_placed : Option ℕ → program.Option Place
as_placed none = None
as_placed (some place) = Some (record { 0 = place })
