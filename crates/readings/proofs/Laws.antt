-- Tables that hold a tournament: the checks 12 to 17 and 8 find nothing in their cells exactly when the tournament keeps these laws. Assumes nothing.
use mathlib.Core.Path.{◌≡◌, refl, sym, ap, ◌∙◌}
use mathlib.Core.Bool.{true, false, ◌&&◌, not}
use mathlib.Core.Option.{none}
use mathlib.Core.List.{List, [], map}
use Prim.Native.Nat.{ℕ, ◌*◌, ◌≤◌, ◌<◌}
use native.Mathlib.Omega.{arith}
use borrow.Author.Tests.{le-leb, leb-true, not-true, not-false}
use lib.Dec.{eqb, leb}
use lib.ListN.{length, get_or, take, get_or-map}
use Rattle.kit.specs.Lists.{each_after}
use Rattle.kit.proofs.Bools.{clash, and, not_so}
use Rattle.law.specs.Sizes.{most_players, most_rounds, most_accelerations}
use Rattle.law.specs.Scoring.{values}
use Rattle.law.specs.Tournament.{Player, Tournament}
use Rattle.law.specs.Entries.{no_player, player_at, Law, keeps, states_sum}
use Rattle.law.specs.Lawful.{Sits, is_taken, shares_earlier}
use Rattle.law.specs.Tables.{Tables, cells_of, cell_of, content_of, HoldAll}
use Rattle.join.specs.Grid.{first_from, some_below}
use Rattle.join.specs.Store.{place_of}
use Rattle.join.specs.Check.{place_at, round_at, keeps_cell, broken_cell, wrong_sum, shared_record}
use Rattle.join.proofs.Firsts.{first-none, some_of, some_as, any-before}
use Rattle.join.proofs.Checks.{HoldCells, keeps_cell_lem, sum_cell, shared_is}
use Rattle.readings.specs.Good.{nine_of}
use Rattle.readings.proofs.Listed.{none_from, none_below, after_at, at_after}

module _ (u : Tournament) (t : Tables) (few : length u.players ≤ most_players) (h : HoldAll (content_of u) t t) where
  abbrev n : ℕ
  n = length u.players

  cells : HoldCells u (nine_of t) (nine_of t)
  unfolding content_of
  cells = record { starts = h.starts; points = h.points; opponents = h.opponents; colours = h.colours; results = h.results }

  -- a number of each player
  pub number_at : (part : Player → ℕ) (cells : List ℕ) → part no_player ≡ 0 → ((i : ℕ) → i < most_players → get_or cells i 0 ≡ cells_of (map part u.players) i) → (p : ℕ) → p < n → get_or cells p 0 ≡ part (player_at u p)
  number_at part cells z own p l = own p (omega arith) ∙ ap (get_or (map part u.players) p) (sym z) ∙ get_or-map part u.players p no_player

  pub start_at : (p : ℕ) → p < n → get_or t.starts p 0 ≡ (player_at u p).start
  unfolding content_of
  start_at p l = number_at (λ q. q.start) t.starts refl h.starts.cells p l

  -- ---- 12 to 15
  module _ (small : u.rounds ≤ most_rounds) where
    pub laws-keep : (law : Law) → first_from (broken_cell law n u.rounds (nine_of t)) 0 (n * most_rounds) ≡ none → (place r : ℕ) → Sits u place r → keeps u law place r ≡ true
    unfolding broken_cell
    laws-keep law e place r s =
        let a = s.place_in_lem in
        let b = s.round_low in
        let c = s.round_high in
        let k = first-none (broken_cell law n u.rounds (nine_of t)) 0 (n * most_rounds) e (cell_of place r) (omega arith) (omega arith) in
        let p : place_at (cell_of place r) ≡ place = omega arith in
        let q : round_at (cell_of place r) ≡ r = omega arith in
        let w : leb r u.rounds && not (keeps_cell law n (nine_of t) place r) ≡ false = rw (p, q) at k in
        sym (keeps_cell_lem u (nine_of t) (nine_of t) few cells law place r a b (omega arith))
        ∙ not-false (keeps_cell law n (nine_of t) place r) (rw (le-leb r u.rounds c) at w)

    pub keep-laws : (law : Law) → ((place r : ℕ) → Sits u place r → keeps u law place r ≡ true) → first_from (broken_cell law n u.rounds (nine_of t)) 0 (n * most_rounds) ≡ none
    unfolding broken_cell
    keep-laws law k =
        none_from (broken_cell law n u.rounds (nine_of t)) 0 (n * most_rounds)
        (λ i _ m.
        not_so (leb (round_at i) u.rounds && not (keeps_cell law n (nine_of t) (place_at i) (round_at i)))
        (λ e.
        let w = and (leb (round_at i) u.rounds) (not (keeps_cell law n (nine_of t) (place_at i) (round_at i))) e in
        let c = leb-true (round_at i) u.rounds w.0 in
        let x = keeps_cell_lem u (nine_of t) (nine_of t) few cells law (place_at i) (round_at i) (omega arith) (omega arith) (omega arith) in
        clash (sym (not-true (keeps_cell law n (nine_of t) (place_at i) (round_at i)) w.1) ∙ x ∙ k (place_at i) (round_at i) (record { place_in_lem = omega arith; round_low = omega arith; round_high = c }))))

    -- ---- 16
    module _ (long : (p : ℕ) → p < n → length (player_at u p).entries ≡ u.rounds) where
      sum_is : (p : ℕ) → p < n → wrong_sum (values u.scoring) t.points t.results u.rounds p ≡ not (states_sum u p)
      sum_is p l = sum_cell u (nine_of t) (nine_of t) few cells p l (long p l) small

      pub sums-state : first_from (wrong_sum (values u.scoring) t.points t.results u.rounds) 0 n ≡ none → (p : ℕ) → p < n → states_sum u p ≡ true
      sums-state e p l = not-false (states_sum u p) (sym (sum_is p l) ∙ first-none (wrong_sum (values u.scoring) t.points t.results u.rounds) 0 n e p (omega arith) (omega arith))

      pub state-sums : ((p : ℕ) → p < n → states_sum u p ≡ true) → first_from (wrong_sum (values u.scoring) t.points t.results u.rounds) 0 n ≡ none
      state-sums k =
          none_from (wrong_sum (values u.scoring) t.points t.results u.rounds) 0 n
          (λ p _ l. let m : p < n = omega arith in sum_is p m ∙ ap not (k p m))

  -- ---- 17
  module _ (short : length u.accelerations ≤ most_accelerations) where
    shared_at : (j : ℕ) → j < length u.accelerations → shared_record t.accelerations j ≡ shares_earlier u.accelerations j
    unfolding content_of
    shared_at = shared_is u.accelerations t.accelerations short h.accelerations.cells

    pub none-shared : first_from (shared_record t.accelerations) 0 (length u.accelerations) ≡ none → (j : ℕ) → j < length u.accelerations → shares_earlier u.accelerations j ≡ false
    none-shared e j l = sym (shared_at j l) ∙ first-none (shared_record t.accelerations) 0 (length u.accelerations) e j (omega arith) (omega arith)

    pub shared-none : ((j : ℕ) → j < length u.accelerations → shares_earlier u.accelerations j ≡ false) → first_from (shared_record t.accelerations) 0 (length u.accelerations) ≡ none
    shared-none k =
        none_from (shared_record t.accelerations) 0 (length u.accelerations)
        (λ j _ l. let m : j < length u.accelerations = omega arith in shared_at j m ∙ k j m)

  -- ---- start numbers that differ
  taken_is : (p : ℕ) → p < n → is_taken (take p u.players) (player_at u p) ≡ some_below (λ i. eqb (get_or t.starts i 0) (get_or t.starts p 0)) p
  taken_is p l =
      any-before (λ q. eqb q.start (player_at u p).start) no_player u.players p (omega arith)
      ∙ some_as (λ i. eqb (player_at u i).start (player_at u p).start) (λ i. eqb (get_or t.starts i 0) (get_or t.starts p 0)) p
      (λ i m. rw (start_at i (omega arith), start_at p l) refl)

  pub differ_new : each_after (λ before p. not (is_taken before p)) [] u.players ≡ true → (p : ℕ) → p < n → place_of t.starts p (get_or t.starts p 0) ≡ none
  unfolding place_of
  differ_new e p l =
      let w = not-true (is_taken (take p u.players) (player_at u p)) (after_at no_player (λ before p. not (is_taken before p)) [] u.players e p l) in
      none_from (λ i. eqb (get_or t.starts i 0) (get_or t.starts p 0)) 0 p
      (λ i _ m.
      not_so (eqb (get_or t.starts i 0) (get_or t.starts p 0))
      (λ q. clash (sym w ∙ taken_is p l ∙ some_of (λ i. eqb (get_or t.starts i 0) (get_or t.starts p 0)) p i (omega arith) q)))

  pub new_differ : ((p : ℕ) → p < n → place_of t.starts p (get_or t.starts p 0) ≡ none) → each_after (λ before p. not (is_taken before p)) [] u.players ≡ true
  unfolding place_of
  new_differ k =
      at_after no_player (λ before p. not (is_taken before p)) [] u.players
      (λ p l.
      ap not (taken_is p l
      ∙ none_below (λ i. eqb (get_or t.starts i 0) (get_or t.starts p 0)) p
      (λ i m. first-none (λ i. eqb (get_or t.starts i 0) (get_or t.starts p 0)) 0 p (k p l) i (omega arith) (omega arith))))
