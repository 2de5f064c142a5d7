-- The place of each result in their order, and what the tables hold that are lent. Means: no part of the statement.
use Rattle.std.specs.Prelude.{◌≡◌, Bool, false, List, [], ◌∷◌, ◌++◌, ℕ, ◌<◌, eqb, length, get_or}
use Prim.Native.Char.{code}
use Rattle.kit.specs.Lists.{place_among}
use Rattle.law.specs.Players.{game_results, bye_results, unknown_result}
use Rattle.law.specs.Entries.{fits}
use Rattle.join.specs.Check.{worth_by}

-- the results that a line may have: of games, then of byes
abbrev pub known_results : List ℕ
known_results = game_results ++ bye_results

-- what stands after the results of games: those of byes, then the unknown one
abbrev pub other_results : List ℕ
other_results = bye_results ++ (unknown_result ∷ [])

-- the order
abbrev pub all_results : List ℕ
all_results = game_results ++ other_results

abbrev pub result_at : ℕ → ℕ
result_at k = get_or all_results k 0

-- the place of a byte among them; past the last for one that is no result
unfoldable pub result_place : ℕ → ℕ
result_place c = place_among c all_results

-- a cell for each two of the eight results of games, which says whether they fit
pub record IsGrid (cells : List (List Bool)) : Type 0 where
  pub each : (x y : ℕ) → x < length game_results → y < length game_results → get_or (get_or cells x []) y false ≡ fits (result_at x) (result_at y)

-- a cell for each byte, which says its place
pub record IsOrder (cells : List ℕ) : Type 0 where
  pub each : (c : ℕ) → c < 256 → get_or cells c 0 ≡ result_place c

-- a cell for each place and one for any other byte, which says what it earns
pub record AreWorths (values cells : List ℕ) : Type 0 where
  pub each : (c : ℕ) → c < 256 → get_or cells (result_place c) 0 ≡ worth_by values c

-- the bye of which a round has at most one
abbrev pub is_allocated : ℕ → Bool
is_allocated result = eqb result (code "U")

abbrev pub is_unknown : ℕ → Bool
is_unknown result = eqb result unknown_result
