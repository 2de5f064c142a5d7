-- Who is named, what a turn's entry says of a law, and that the laws read four tables alone: over plain values, as the code has them. Assumes nothing.
use mathlib.Core.Path.{◌≡◌, refl}
use mathlib.Core.Bool.{Bool, false, ◌&&◌, not, and-true}
use mathlib.Core.Option.{Option, none, some}
use mathlib.Core.List.{List}
use Prim.Native.Nat.{ℕ, ◌≤◌, ◌<◌}
use native.Mathlib.Omega.{arith}
use borrow.Author.Tests.{le-leb, lt-leb}
use lib.Dec.{eqb}
use Rattle.std.specs.Prelude as program
use Rattle.std.specs.Prelude.{Some, None, IfSome}
use Rattle.kit.specs.Lists.{among}
use Rattle.kit.specs.Decides.{is_some}
use Rattle.types.specs.declared.Place.{Place}
use Rattle.law.specs.Sizes.{most_players}
use Rattle.law.specs.Players.{game_colours, held_game_results}
use Rattle.law.specs.Entries.{Law, bye-or-game, mutual_pairing, fitting_results, one_U}
use Rattle.join.specs.Grid.{first_from}
use Rattle.join.specs.Store.{Nine, place_of}
use Rattle.join.specs.Check.{place_at, round_at, entry_cell, is_game_by, keeps_cell, broken_cell}
use Rattle.join.proofs.Firsts.{first_as}
use Rattle.index.specs.Index.{as_placed}
use Rattle.index.proofs.Told.{told-place, told-player}
use Rattle.checks.specs.Results.{entry}
use Rattle.checks.specs.Laws.{four}

-- ---- who is named
pub placed_some : (o : Option ℕ) {answer : program.Option Place} → answer ≡ as_placed o → program.is_some answer ≡ is_some o
placed_some none e = rw e refl
placed_some (some q) e = rw e refl

pub placed_below : (starts : List ℕ) (n id : ℕ) {answer : program.Option Place} → answer ≡ as_placed (place_of starts n id) → n ≤ most_players → IfSome answer (λ place. place.0 < most_players)
placed_below starts n id {answer} told few = go answer refl
  where
    go : (a : program.Option Place) → answer ≡ a → IfSome a (λ place. place.0 < most_players)
    go None e = tt
    go (Some place) e = omega (arith, few, told-player starts n id told e)

-- ---- a game, where somebody is named
pub game_somebody : (id colour result start : ℕ) (o : Option ℕ) {placed : program.Option Place} {place : Place} {of_colour of_result : Bool}
    → placed ≡ as_placed o → placed ≡ Some place → of_colour ≡ among colour game_colours → of_result ≡ among result held_game_results
    → not (eqb id start) && of_colour && of_result ≡ is_game_by (entry id colour result) start o
unfolding is_game_by
game_somebody id colour result start o a b p q = rw (told-place o a b, and-true (not (eqb id start)), p, q) refl

-- ---- the entry of turn k
module _ (law : Law) (n R : ℕ) (t : Nine) (k : ℕ) {round : ℕ} (at-round : round ≡ round_at k) where
  pub broken_past : R < round → broken_cell law n R t k ≡ false
  unfolding broken_cell
  broken_past l = rw (lt-leb (round_at k) R (rw at-round at l)) refl

  pub broken_here : round ≤ R → {place : ℕ} → place ≡ place_at k → {v : Bool} → v ≡ keeps_cell law n t place round → broken_cell law n R t k ≡ not v
  unfolding broken_cell
  broken_here l e q = rw (le-leb (round_at k) R (rw at-round at l), rw (at-round, e) at q) refl

-- ---- the laws read no other table
pub four_in : (law : Law) (n R : ℕ) (t : Nine) (k : ℕ) → broken_cell law n R (four t.starts t.opponents t.colours t.results) k ≡ broken_cell law n R t k
unfolding broken_cell keeps_cell entry_cell
four_in bye-or-game n R t k = refl
four_in mutual_pairing n R t k = refl
four_in fitting_results n R t k = refl
four_in one_U n R t k = refl

pub first_in : (law : Law) (n R : ℕ) (t : Nine) (m : ℕ) → first_from (broken_cell law n R (four t.starts t.opponents t.colours t.results)) 0 m ≡ first_from (broken_cell law n R t) 0 m
first_in law n R t m = first_as (broken_cell law n R (four t.starts t.opponents t.colours t.results)) (broken_cell law n R t) 0 m (λ k _ _. four_in law n R t k)
