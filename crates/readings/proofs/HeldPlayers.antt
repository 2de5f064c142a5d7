-- Players made from the cells of tables, with zero in the other cells: the tables hold them. Assumes nothing.
use mathlib.Core.Path.{◌≡◌, sym, ap, ◌∙◌}
use mathlib.Core.List.{List, map}
use Prim.Native.Nat.{ℕ, ◌+◌, ◌*◌, ◌-◌, ◌/◌, ◌%◌, ◌≤◌, ◌<◌}
use native.Mathlib.Decide.{dec_lt}
use native.Mathlib.Omega.{arith}
use lib.ListN.{length, get_or, drop, length-drop, get_or-map, get_or-eq_default}
use lib.Seq.{length-take-le, get_or-take, get_or-drop}
use Rattle.kit.specs.Lists.{from, flat}
use Rattle.kit.specs.First.{AllOf}
use Rattle.kit.specs.Table.{Holds}
use Rattle.kit.proofs.Firsts.{all_of_map}
use Rattle.kit.proofs.Lists.{map-from_at, made_length, made_at, all_from, flat-length, flat_at}
use Rattle.kit.proofs.Tables.{holds_same}
use Rattle.law.specs.Sizes.{most_players}
use Rattle.law.specs.Columns.{width}
use Rattle.law.specs.Players.{kept_field}
use Rattle.law.specs.Tournament.{Entry, Player}
use Rattle.law.specs.Entries.{no_entry, no_player, entry_of}
use Rattle.law.specs.Tables.{Tables, kept_cells, entry_cells, cells_of, cell_of, place_in, round_in}
use Rattle.law.proofs.ReadsOnce.{Rooms}
use Rattle.join.specs.Check.{entry_cell}
use Rattle.readings.specs.Good.{Unused, UnusedEntries, kept_at, nine_of}
use Rattle.readings.specs.Held.{held_entries, held_player}

-- ---- a player's kept columns and entries
pub kept_wide : (t : Tables) → Rooms t → (p : ℕ) → p < most_players → length (kept_at t.kept p) ≡ width kept_field
kept_wide t room p l =
    let r = room.kept in
    let d = length-drop (p * width kept_field) t.kept in
    length-take-le (width kept_field) (drop (p * width kept_field) t.kept) (omega arith)

module _ (R : ℕ) (t : Tables) (p : ℕ) where
  pub entries-long : length (held_entries R t p) ≡ R
  entries-long = made_length (entry_cell (nine_of t) p) R 1

  pub entry_at : (r : ℕ) → 1 ≤ r → r ≤ R → get_or (held_entries R t p) (r - 1) no_entry ≡ entry_cell (nine_of t) p r
  entry_at r a b = map-from_at (entry_cell (nine_of t) p) no_entry 1 R (r - 1) (omega arith) ∙ ap (entry_cell (nine_of t) p) (omega arith)

-- ---- the players of the first n places, in an event of R rounds
module _ (R : ℕ) (t : Tables) (n : ℕ) where
  abbrev players : List Player
  players = map (held_player R t) (from 0 n)

  pub players-long : length players ≡ n
  players-long = made_length (held_player R t) n 0

  pub player_at_lem : (p : ℕ) → p < n → get_or players p no_player ≡ held_player R t p
  player_at_lem p l = made_at (held_player R t) no_player n p l

  no_player_lem : (p : ℕ) → n ≤ p → get_or players p no_player ≡ no_player
  no_player_lem p l = get_or-eq_default players no_player {n = p} (let z = players-long in omega arith)

  -- a number of each
  pub number-held : (part : Player → ℕ) (cells : List ℕ) → part no_player ≡ 0 → ((p : ℕ) → part (held_player R t p) ≡ get_or cells p 0) → Unused 0 n most_players cells
      → Holds 0 most_players (cells_of (map part players)) cells cells
  number-held part cells z own rest = holds_same 0 most_players (cells_of (map part players)) cells (λ i l. at i l (dec_lt i n))
    where
      by : (i : ℕ) → cells_of (map part players) i ≡ part (get_or players i no_player)
      by i = ap (get_or (map part players) i) (sym z) ∙ get_or-map part players i no_player

      at : (i : ℕ) → i < most_players → Dec (i < n) → get_or cells i 0 ≡ cells_of (map part players) i
      at i l (yes m) = sym (by i ∙ ap part (player_at_lem i m) ∙ own i)
      at i l (no m) = rest i (omega arith) l ∙ sym (by i ∙ ap part (no_player_lem i (omega arith)) ∙ z)

  -- the kept columns
  module _ (room : Rooms t) (few : n ≤ most_players) where
    all-wide : AllOf (λ (p : Player). length p.kept ≡ width kept_field) players
    all-wide = all_of_map (λ (p : Player). length p.kept ≡ width kept_field) (held_player R t) (from 0 n) (all_from (λ p. length (kept_at t.kept p) ≡ width kept_field) 0 n (λ p _ l. kept_wide t room p (omega arith)))

    pub kept-held : Unused 0 (n * width kept_field) kept_cells t.kept → Holds 0 kept_cells (cells_of (flat (λ (p : Player). p.kept) players)) t.kept t.kept
    kept-held rest = holds_same 0 kept_cells (cells_of (flat (λ (p : Player). p.kept) players)) t.kept (λ i l. at i l (dec_lt i (n * width kept_field)))
      where
        at : (i : ℕ) → i < kept_cells → Dec (i < n * width kept_field) → get_or t.kept i 0 ≡ cells_of (flat (λ (p : Player). p.kept) players) i
        at i l (yes m) =
            let p : ℕ = i / width kept_field in
            let r : ℕ = i % width kept_field in
            let e : i ≡ p * width kept_field + r = omega arith in
            let c = players-long in
            let a : p < n = omega arith in
            let b : r < width kept_field = omega arith in
            sym (ap (cells_of (flat (λ (p : Player). p.kept) players)) e
            ∙ flat_at (λ (p : Player). p.kept) (width kept_field) no_player 0 players all-wide p r (omega arith) b
            ∙ ap (λ (q : Player). get_or q.kept r 0) (player_at_lem p a)
            ∙ get_or-take (width kept_field) (drop (p * width kept_field) t.kept) r 0 b
            ∙ get_or-drop (p * width kept_field) t.kept r 0
            ∙ ap (λ (j : ℕ). get_or t.kept j 0) (sym e))
        at i l (no m) =
            let c = players-long in
            let w = flat-length (λ (p : Player). p.kept) (width kept_field) players all-wide in
            rest i (omega arith) l ∙ sym (get_or-eq_default (flat (λ (p : Player). p.kept) players) 0 {n = i} (omega arith))

  -- a part of each entry
  pub entry-held : (part : Entry → ℕ) (cells : List ℕ) → part no_entry ≡ 0 → ((p r : ℕ) → part (entry_cell (nine_of t) p r) ≡ get_or cells (cell_of p r) 0) → UnusedEntries n R cells
      → Holds 0 entry_cells (λ i. part (entry_of (round_in i) (get_or players (place_in i) no_player))) cells cells
  entry-held part cells z own rest = holds_same 0 entry_cells (λ i. part (entry_of (round_in i) (get_or players (place_in i) no_player))) cells (λ i l. at i l (dec_lt (place_in i) n) (dec_lt R (round_in i)))
    where
      at : (i : ℕ) → i < entry_cells → Dec (place_in i < n) → Dec (R < round_in i) → get_or cells i 0 ≡ part (entry_of (round_in i) (get_or players (place_in i) no_player))
      at i l (yes m) (no s) =
          let e : cell_of (place_in i) (round_in i) ≡ i = omega arith in
          sym (ap (λ (q : Player). part (entry_of (round_in i) q)) (player_at_lem (place_in i) m)
          ∙ ap part (entry_at R t (place_in i) (round_in i) (omega arith) (omega arith))
          ∙ own (place_in i) (round_in i)
          ∙ ap (λ (j : ℕ). get_or cells j 0) e)
      at i l (yes m) (yes s) =
          rest i l (λ w. let c = w.1 in omega arith)
          ∙ sym (ap (λ (q : Player). part (entry_of (round_in i) q)) (player_at_lem (place_in i) m)
          ∙ ap part (get_or-eq_default (held_entries R t (place_in i)) no_entry {n = round_in i - 1} (let c = entries-long R t (place_in i) in omega arith))
          ∙ z)
      at i l (no m) s = rest i l (λ w. m w.0) ∙ sym (ap (λ (q : Player). part (entry_of (round_in i) q)) (no_player_lem (place_in i) (omega arith)) ∙ z)
