-- The checks over cells are the statement's faults of the file, in its order. Assumes nothing.
use mathlib.Core.Path.{◌≡◌, refl, sym, ap, ap₂, ◌∙◌}
use mathlib.Core.Bool.{Bool, ◌&&◌, not}
use mathlib.Core.Option.{Option, none, some}
use mathlib.Core.List.{List, map}
use Prim.Native.Nat.{ℕ, ◌+◌, ◌≤◌, ◌<◌}
use Prim.Native.Char.{code}
use native.Mathlib.Omega.{arith}
use lib.Dec.{eqb}
use lib.ListN.{length, get_or, get_or-map}
use Rattle.kit.specs.Lists.{any, first}
use Rattle.kit.specs.Decides.{to, is_some}
use Rattle.kit.specs.Table.{Holds}
use Rattle.types.specs.declared.Acceleration.{Acceleration}
use Rattle.law.specs.Sizes.{most_players, most_rounds, most_accelerations}
use Rattle.law.specs.Accelerations.{shares}
use Rattle.law.specs.Scoring.{Scoring, values}
use Rattle.law.specs.Tournament.{Entry, Player, Tournament}
use Rattle.law.specs.Entries.{no_entry, no_player, player_at, entry_of, is_game, asked, answers, fits, has_u, Law, bye-or-game, mutual_pairing, fitting_results, one_U, keeps, worth, earned, states_sum}
use Rattle.law.specs.Lawful.{no_acceleration, shares_earlier}
use Rattle.law.specs.Tables.{cells_of, entry_cells, cell_of, entry_cells_of}
use Rattle.join.specs.Grid.{sum_from}
use Rattle.join.specs.Store.{Nine, place_of}
use Rattle.join.specs.Check.{entry_cell, asked_at, is_game_by, answers_by, has_uat, keeps_cell, shared_record, worth_by, sum_at, wrong_sum}
use Rattle.join.proofs.Cells.{grid_at}
use Rattle.join.proofs.Firsts.{first_as, first_at, first_under, some_as, any-before, sum_at_lem, some_first, to_some}
use Rattle.join.proofs.Keeps.{by_player}

-- ---- the tables that the checks look at hold a tournament
pub record HoldCells (t : Tournament) (b y : Nine) : Type 0 where
  pub starts : Holds 0 most_players (cells_of (map (λ p. p.start) t.players)) b.starts y.starts
  pub points : Holds 0 most_players (cells_of (map (λ p. p.points) t.players)) b.points y.points
  pub opponents : Holds 0 entry_cells (entry_cells_of (λ e. e.id) t) b.opponents y.opponents
  pub colours : Holds 0 entry_cells (entry_cells_of (λ e. e.colour) t) b.colours y.colours
  pub results : Holds 0 entry_cells (entry_cells_of (λ e. e.result) t) b.results y.results

module _ (t : Tournament) (b y : Nine) (few : length t.players ≤ most_players) (h : HoldCells t b y) where
  abbrev n : ℕ
  n = length t.players

  start_at : (p : ℕ) → p < most_players → get_or y.starts p 0 ≡ (player_at t p).start
  start_at p l = h.starts.cells p l ∙ get_or-map (λ (q : Player). q.start) t.players p no_player

  points_at_lem : (p : ℕ) → p < most_players → get_or y.points p 0 ≡ (player_at t p).points
  points_at_lem p l = h.points.cells p l ∙ get_or-map (λ (q : Player). q.points) t.players p no_player

  entry_at : (p r : ℕ) → p < most_players → 1 ≤ r → r ≤ most_rounds → entry_cell y p r ≡ entry_of r (player_at t p)
  unfolding entry_cell
  entry_at p r l a c = λ i.
      record {
        id = grid_at by_player (λ p r. (entry_of r (player_at t p)).id) b.opponents y.opponents h.opponents p r l a c i;
        colour = grid_at by_player (λ p r. (entry_of r (player_at t p)).colour) b.colours y.colours h.colours p r l a c i;
        result = grid_at by_player (λ p r. (entry_of r (player_at t p)).result) b.results y.results h.results p r l a c i;
      }

  result_at_lem : (p r : ℕ) → p < most_players → 1 ≤ r → r ≤ most_rounds → get_or y.results (cell_of p r) 0 ≡ (entry_of r (player_at t p)).result
  result_at_lem p r l a c = grid_at by_player (λ p r. (entry_of r (player_at t p)).result) b.results y.results h.results p r l a c

  -- the place of a start number is where the player with it stands
  opponent_is : (id : ℕ) → to (player_at t) (place_of y.starts n id) ≡ first (λ q. eqb q.start id) t.players
  unfolding place_of
  opponent_is id =
      ap (to (player_at t)) (first_as (λ i. eqb (get_or y.starts i 0) id) (λ i. eqb (player_at t i).start id) 0 n (λ k _ l. ap (λ (v : ℕ). eqb v id) (start_at k (omega arith))))
      ∙ sym (first_at (λ q. eqb q.start id) no_player t.players)

  placed_below : (id q : ℕ) → place_of y.starts n id ≡ some q → q < n
  unfolding place_of
  placed_below id q e = let u = first_under (λ i. eqb (get_or y.starts i 0) id) 0 n q e in let v = u.1 in omega arith

  someone : (id : ℕ) → is_some (place_of y.starts n id) ≡ any (λ q. eqb q.start id) t.players
  someone id = sym (to_some (player_at t) (place_of y.starts n id)) ∙ ap is_some (opponent_is id) ∙ some_first (λ q. eqb q.start id) t.players

  -- what is asked of the opponent
  asked_is : (id : ℕ) (f : ℕ → Bool) (g : Player → Bool) → ((q : ℕ) → q < n → f q ≡ g (player_at t q)) → asked_at f (place_of y.starts n id) ≡ asked g (first (λ q. eqb q.start id) t.players)
  asked_is id f g e = go (place_of y.starts n id) refl ∙ ap (asked g) (opponent_is id)
    where
      go : (o : Option ℕ) → place_of y.starts n id ≡ o → asked_at f o ≡ asked g (to (player_at t) o)
      go none q = refl
      go (some q) w = e q (placed_below id q w)

  pub keeps_cell_lem : (law : Law) (p r : ℕ) → p < n → 1 ≤ r → r ≤ most_rounds → keeps_cell law n y p r ≡ keeps t law p r
  unfolding keeps_cell keeps is_game is_game_by answers_by has_uat
  keeps_cell_lem bye-or-game p r l a c =
      let e = entry_at p r (omega arith) a c in
      let s = start_at p (omega arith) in
      rw (e, s, someone (entry_of r (player_at t p)).id) refl
  keeps_cell_lem mutual_pairing p r l a c =
      let e = entry_at p r (omega arith) a c in
      let s = start_at p (omega arith) in
      rw (e, s)
      (asked_is (entry_of r (player_at t p)).id (λ q. eqb (entry_cell y q r).id (player_at t p).start && not (eqb (entry_cell y q r).colour (entry_of r (player_at t p)).colour)) (λ q. answers (player_at t p) (entry_of r (player_at t p)) (entry_of r q))
      (λ q m. rw (entry_at q r (omega arith) a c) refl))
  keeps_cell_lem fitting_results p r l a c =
      let e = entry_at p r (omega arith) a c in
      rw e (asked_is (entry_of r (player_at t p)).id (λ q. fits (entry_of r (player_at t p)).result (entry_cell y q r).result) (λ q. fits (entry_of r (player_at t p)).result (entry_of r q).result) (λ q m. rw (entry_at q r (omega arith) a c) refl))
  keeps_cell_lem one_U p r l a c =
      ap₂ (λ (u v : Bool). not (u && v)) (ap (λ (v : ℕ). eqb v (code "U")) (result_at_lem p r (omega arith) a c))
      (some_as (λ q. eqb (get_or y.results (cell_of q r) 0) (code "U")) (λ q. has_u r (player_at t q)) p (λ q m. ap (λ (v : ℕ). eqb v (code "U")) (result_at_lem q r (omega arith) a c))
      ∙ sym (any-before (has_u r) no_player t.players p (omega arith)))

  -- ---- 16
  worth_is : (s : Scoring) (c : ℕ) → worth_by (values s) c ≡ worth s c
  unfolding worth_by worth
  worth_is s c = refl

  pub sum_cell : (p : ℕ) → p < n → length (player_at t p).entries ≡ t.rounds → t.rounds ≤ most_rounds → wrong_sum (values t.scoring) y.points y.results t.rounds p ≡ not (states_sum t p)
  unfolding wrong_sum sum_at earned
  sum_cell p l m small =
      ap₂ (λ (u v : ℕ). not (eqb u v)) (points_at_lem p (omega arith))
      (ap (sum_from (λ j. worth_by (values t.scoring) (get_or y.results (cell_of p (j + 1)) 0)) 0) (sym m)
      ∙ sum_at_lem (λ (e : Entry). worth t.scoring e.result) (λ j. worth_by (values t.scoring) (get_or y.results (cell_of p (j + 1)) 0)) no_entry (player_at t p).entries 0
      (λ k q. ap (worth_by (values t.scoring)) (result_at_lem p (0 + k + 1) (omega arith) (omega arith) (omega arith)) ∙ worth_is t.scoring (entry_of (0 + k + 1) (player_at t p)).result ∙ ap (λ (j : ℕ). worth t.scoring (get_or (player_at t p).entries j no_entry).result) (omega arith)))

-- ---- 17 over the records that were kept
pub shared_is : (as' records : List Acceleration) → length as' ≤ most_accelerations → ((i : ℕ) → i < most_accelerations → get_or records i no_acceleration ≡ get_or as' i no_acceleration)
    → (j : ℕ) → j < length as' → shared_record records j ≡ shares_earlier as' j
unfolding shared_record
shared_is as' records few e j l =
    some_as (λ i. shares (get_or records j no_acceleration) (get_or records i no_acceleration)) (λ i. shares (get_or as' j no_acceleration) (get_or as' i no_acceleration)) j
    (λ i m. ap₂ shares (e j (omega arith)) (e i (omega arith)))
    ∙ sym (any-before (shares (get_or as' j no_acceleration)) no_acceleration as' j (omega arith))
