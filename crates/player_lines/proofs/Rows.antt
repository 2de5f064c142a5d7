-- The rounds of a player and the players, one after the other: each is what the cells say, and all of them are the statement's. Assumes nothing.
use mathlib.Core.Path.{◌≡◌, refl, sym, ap, ◌∙◌}
use mathlib.Core.List.{List, ◌++◌, map}
use Prim.Native.Nat.{ℕ, suc, ◌+◌, ◌*◌, ◌≤◌, ◌<◌}
use native.Mathlib.Omega.{arith}
use lib.ListN.{get_or, take, drop}
use Rattle.kit.specs.Lists.{flat, from}
use Rattle.law.specs.Columns.{width}
use Rattle.law.specs.Players.{kept_field}
use Rattle.law.specs.Tables.{cell_of}
use Rattle.law.specs.Writing.{entries_from, player_line, laid}
use Rattle.puts.specs.Puts.{Puts}
use Rattle.puts.specs.Ends.{end_text, end_wide, ended_by}
use Rattle.puts.specs.declared.Terminator.{Terminator}
use Rattle.puts.proofs.Puts.{puts_as, puts_then}
use Rattle.puts.proofs.Lined.{Lined, lined_next, lined_all, from_at, from-long, take-from, flat_map}
use Rattle.player_lines.specs.Lines.{entry, entry_text, entry_wide, head_text, head_wide, player_wide}
use Rattle.player_lines.specs.Rows.{Seven, entry_at, entries_in, player_in, players_in}
use Rattle.player_lines.proofs.Laid.{player-line, rounds-flat}

-- ---- the rounds of a player
module _ (opponents colours results : List ℕ) (place rounds : ℕ) where
  abbrev pub round_text : ℕ → List ℕ
  round_text r = entry_text (entry_at opponents colours results place r)

  -- the cell that the code reads is that of the next round
  pub round_at_lem : {i : ℕ} (j : ℕ) → j < rounds → i ≡ cell_of place (j + 1) → entry_text (entry (get_or opponents i 0) (get_or colours i 0) (get_or results i 0)) ≡ round_text (get_or (from 1 rounds) j 0)
  round_at_lem {i} j l e =
      let r : cell_of place (j + 1) ≡ cell_of place (1 + j) = omega arith in
      ap (λ (k : ℕ). entry_text (entry (get_or opponents k 0) (get_or colours k 0) (get_or results k 0))) (e ∙ r) ∙ ap round_text (sym (from_at 1 rounds j l))

  pub rounds-all : flat round_text (take rounds (from 1 rounds)) ≡ laid (suc head_wide) (entries_from 1 (entries_in opponents colours results place rounds))
  unfolding entries_in
  rounds-all =
      ap (flat round_text) (take-from 1 rounds)
      ∙ flat_map entry_text (entry_at opponents colours results place) (from 1 rounds)
      ∙ rounds-flat (map (entry_at opponents colours results place) (from 1 rounds))

  -- the rounds that are put: one more, and all of them
  abbrev pub Rounds : ℕ → List ℕ → List ℕ → ℕ → ℕ → Type 0
  Rounds at x y j next = Lined round_text entry_wide (from 1 rounds) rounds at x y j next

  pub round-next : {at i j next next' : ℕ} {x y z : List ℕ} → Rounds at x y j next → j < rounds → i ≡ cell_of place (j + 1) → Puts (entry_text (entry (get_or opponents i 0) (get_or colours i 0) (get_or results i 0))) entry_wide next y z next' → Rounds at x z (j + 1) next'
  round-next {j = j} h l e p = lined_next 0 h l (from-long 1 rounds) (puts_as (round_at_lem j l e) refl refl p)

  pub rounds_put : {at j next : ℕ} {x y : List ℕ} → Rounds at x y j next → rounds ≤ j → Puts (laid (suc head_wide) (entries_from 1 (entries_in opponents colours results place rounds))) (rounds * entry_wide) at x y next
  rounds_put h l = puts_as rounds-all refl refl (lined_all h l)

-- ---- the players
pub head_room : {l : ℕ} (at rounds : ℕ) → at + player_wide rounds ≤ l → at + head_wide ≤ l
head_room at rounds r = omega arith

module _ (t : Seven) (rounds : ℕ) where
  -- the player's numbers stand in the place's cells, and the kept columns from its first cell on
  pub player_parts : (place : ℕ) {start points rank : ℕ} {kept : List ℕ} → start ≡ get_or t.starts place 0 → points ≡ get_or t.points place 0 → rank ≡ get_or t.ranks place 0 → kept ≡ take (width kept_field) (drop (place * width kept_field) t.kept)
      → head_text start kept points rank ++ laid (suc head_wide) (entries_from 1 (entries_in t.opponents t.colours t.results place rounds)) ≡ player_line (player_in t rounds place)
  unfolding player_in
  player_parts place of-start of-points of-rank e = rw (of-start, of-points, of-rank, e) (player-line (player_in t rounds place))

  pub player_put : (place : ℕ) {start points rank at k next : ℕ} {kept x y z : List ℕ} → start ≡ get_or t.starts place 0 → points ≡ get_or t.points place 0 → rank ≡ get_or t.ranks place 0 → kept ≡ take (width kept_field) (drop (place * width kept_field) t.kept)
      → Puts (head_text start kept points rank) head_wide at x y k
      → Puts (laid (suc head_wide) (entries_from 1 (entries_in t.opponents t.colours t.results place rounds))) (rounds * entry_wide) k y z next
      → Puts (player_line (player_in t rounds place)) (player_wide rounds) at x z next
  player_put place of-start of-points of-rank e p q = puts_as (player_parts place of-start of-points of-rank e) refl refl (puts_then p q)

  module _ (end : Terminator) (players : ℕ) where
    abbrev pub ended_player : ℕ → List ℕ
    ended_player place = ended_by end (player_line (player_in t rounds place))

    pub player_at_lem : (j : ℕ) → j < players → ended_player j ≡ ended_player (get_or (from 0 players) j 0)
    player_at_lem j l = ap ended_player (let e = from_at 0 players j l in omega arith)

    pub players-all : flat ended_player (take players (from 0 players)) ≡ flat (ended_by end) (map player_line (players_in t rounds players))
    unfolding players_in
    players-all =
        ap (flat ended_player) (take-from 0 players)
        ∙ flat_map (λ p. ended_by end (player_line p)) (player_in t rounds) (from 0 players)
        ∙ flat_map (ended_by end) player_line (map (player_in t rounds) (from 0 players))

    -- the players that are put: one more, and all of them
    abbrev pub Players : ℕ → List ℕ → List ℕ → ℕ → ℕ → Type 0
    Players at x y j next = Lined ended_player (player_wide rounds + end_wide end) (from 0 players) players at x y j next

    pub player-next : {at j next ended next' : ℕ} {x y z u : List ℕ} → Players at x y j next → j < players → Puts (player_line (player_in t rounds j)) (player_wide rounds) next y z ended → Puts (end_text end) (end_wide end) ended z u next' → Players at x u (j + 1) next'
    player-next {j = j} h l p q = lined_next 0 h l (from-long 0 players) (puts_as (player_at_lem j l) refl refl (puts_then p q))

    pub players_put : {at j next : ℕ} {x y : List ℕ} → Players at x y j next → players ≤ j → Puts (flat (ended_by end) (map player_line (players_in t rounds players))) (players * (player_wide rounds + end_wide end)) at x y next
    players_put h l = puts_as players-all refl refl (lined_all h l)
