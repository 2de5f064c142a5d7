-- The reading of a lawful tournament is good, cell by cell. Assumes nothing.
use mathlib.Core.Path.{◌≡◌, refl, sym, ap, ◌∙◌, subst}
use mathlib.Core.Bool.{false}
use mathlib.Core.List.{List, [], ◌∷◌, map}
use Prim.Native.Nat.{ℕ, ◌+◌, ◌*◌, ◌-◌, ◌≤◌, ◌<◌}
use native.Mathlib.Decide.{dec_lt}
use native.Mathlib.Omega.{arith}
use lib.ListN.{length, get_or, take, drop, length-map, get_or-eq_default}
use lib.Seq.{get_or-take, get_or-drop, ext_get_or}
use Rattle.kit.specs.Lists.{all, is_empty, flat}
use Rattle.kit.specs.First.{AllOf}
use Rattle.kit.proofs.Bools.{clash}
use Rattle.kit.proofs.Firsts.{all_of_at, all_of_each}
use Rattle.kit.proofs.Lists.{flat-length, flat_at}
use Rattle.law.specs.Sizes.{most_players, most_accelerations, most_text, is_start, is_rank}
use Rattle.law.specs.Lines.{allowed}
use Rattle.law.specs.Columns.{width}
use Rattle.law.specs.Text.{ended}
use Rattle.law.specs.Accelerations.{is_acceleration}
use Rattle.law.specs.Players.{SpellsKept, kept_field}
use Rattle.law.specs.Tournament.{Entry, Player, Tournament}
use Rattle.law.specs.Entries.{no_entry, no_player, player_at, entry_of}
use Rattle.law.specs.Lawful.{LawfulPlayer, no_acceleration, Lawful}
use Rattle.law.specs.Tables.{Tables, kept_cells, entry_cells, cells_of, place_in, round_in, content_of, HoldAll, answer_of}
use Rattle.law.proofs.ReadsOnce.{Rooms}
use Rattle.readings.specs.Good.{GoodAnswer, Unused, UnusedEntries, kept_at, GoodPlayer, GoodTables, GoodReading}
use Rattle.readings.proofs.Listed.{all-at, rest_of, taken_is}
use Rattle.readings.proofs.Laws.{number_at, start_at, keep-laws, state-sums, shared-none, differ_new}
use Rattle.readings.proofs.HeldPlayers.{kept_wide}

module _ (t : Tables) (u : Tournament) (l : Lawful u) (room : Rooms t) (h : HoldAll (content_of u) t t) where
  abbrev n : ℕ
  n = length u.players

  abbrev R : ℕ
  R = u.rounds

  -- ---- a player
  player_at_lem : (p : ℕ) → p < n → LawfulPlayer R (player_at u p)
  player_at_lem p m = all_of_at (LawfulPlayer R) no_player u.players l.players p m

  points_at_lem : (p : ℕ) → p < n → get_or t.points p 0 ≡ (player_at u p).points
  unfolding content_of
  points_at_lem = number_at u t l.players_fit h (λ q. q.points) t.points refl h.points.cells

  rank_at : (p : ℕ) → p < n → get_or t.ranks p 0 ≡ (player_at u p).rank
  unfolding content_of
  rank_at = number_at u t l.players_fit h (λ q. q.rank) t.ranks refl h.ranks.cells

  all-wide : AllOf (λ (p : Player). length p.kept ≡ width kept_field) u.players
  all-wide = all_of_each (LawfulPlayer R) (λ (p : Player). length p.kept ≡ width kept_field) (λ p r. r.kept_wide) u.players l.players

  kept_at_lem : (p : ℕ) → p < n → kept_at t.kept p ≡ (player_at u p).kept
  unfolding content_of
  kept_at_lem p m =
      let f = l.players_fit in
      let w = kept_wide t room p (omega arith) in
      ext_get_or 0 (kept_at t.kept p) (player_at u p).kept (w ∙ sym (player_at_lem p m).kept_wide)
      (λ j c.
      let b : j < width kept_field = omega arith in
      get_or-take (width kept_field) (drop (p * width kept_field) t.kept) j 0 b
      ∙ get_or-drop (p * width kept_field) t.kept j 0
      ∙ h.kept.cells (p * width kept_field + j) (omega arith)
      ∙ flat_at (λ (p : Player). p.kept) (width kept_field) no_player 0 u.players all-wide p j m b)

  good-player : (p : ℕ) → p < n → GoodPlayer t p
  good-player p m =
      let q = player_at_lem p m in
      record {
        start = ap is_start (start_at u t l.players_fit h p m) ∙ q.start;
        points = let e = points_at_lem p m in let c = q.points in omega arith;
        rank = ap is_rank (rank_at p m) ∙ q.rank;
        clean = ap (all allowed) (kept_at_lem p m) ∙ q.kept_clean;
        kept = subst SpellsKept (sym (kept_at_lem p m)) q.kept;
        new = differ_new u t l.players_fit h l.players_differ p m;
      }

  -- ---- cells that no player has
  numbers_rest : (part : Player → ℕ) (cells : List ℕ) → ((i : ℕ) → i < most_players → get_or cells i 0 ≡ cells_of (map part u.players) i) → Unused 0 n most_players cells
  numbers_rest part cells own = rest_of 0 n most_players cells (map part u.players) own (sym (length-map u.players part))

  entries-rest : (part : Entry → ℕ) (cells : List ℕ) → part no_entry ≡ 0 → ((i : ℕ) → i < entry_cells → get_or cells i 0 ≡ part (entry_of (round_in i) (player_at u (place_in i)))) → UnusedEntries n R cells
  entries-rest part cells z own i c no_one = own i c ∙ go (dec_lt (place_in i) n) (dec_lt R (round_in i))
    where
      go : Dec (place_in i < n) → Dec (R < round_in i) → part (entry_of (round_in i) (player_at u (place_in i))) ≡ 0
      go (no m) s = ap (λ (q : Player). part (entry_of (round_in i) q)) (get_or-eq_default u.players no_player {n = place_in i} (omega arith)) ∙ z
      go (yes m) (yes s) =
          ap part (get_or-eq_default (player_at u (place_in i)).entries no_entry {n = round_in i - 1} (let e = (player_at_lem (place_in i) m).entries in omega arith)) ∙ z
      go (yes m) (no s) = absurd (no_one (m, omega arith))

  -- ---- the text
  pub text_is : take (length (flat ended u.text)) t.text ≡ flat ended u.text
  unfolding content_of
  text_is = taken_is 0 (length (flat ended u.text)) most_text t.text (flat ended u.text) h.text.cells refl room.text l.text_fits

  someone : (ps : List Player) → is_empty ps ≡ false → 1 ≤ length ps
  someone [] e = clash (sym e)
  someone (p ∷ ps) e = omega arith

  good-answer : GoodAnswer (answer_of u)
  unfolding answer_of
  good-answer =
      record {
        number = refl;
        line = refl;
        round = refl;
        players_there = someone u.players l.players_there;
        players_fit = l.players_fit;
        rounds_fit = l.rounds;
        accelerations_fit = l.accelerations_fit;
        text_fits = l.text_fits;
        colour = l.colour;
        six = refl;
        small = l.scoring;
      }

  good-tables : GoodTables (answer_of u) t
  unfolding answer_of content_of
  good-tables =
      record {
        starts_rest = numbers_rest (λ p. p.start) t.starts h.starts.cells;
        points_rest = numbers_rest (λ p. p.points) t.points h.points.cells;
        ranks_rest = numbers_rest (λ p. p.rank) t.ranks h.ranks.cells;
        kept_rest = rest_of 0 (n * width kept_field) kept_cells t.kept (flat (λ (p : Player). p.kept) u.players) h.kept.cells (sym (flat-length (λ (p : Player). p.kept) (width kept_field) u.players all-wide));
        opponents_rest = entries-rest (λ e. e.id) t.opponents refl h.opponents.cells;
        colours_rest = entries-rest (λ e. e.colour) t.colours refl h.colours.cells;
        results_rest = entries-rest (λ e. e.result) t.results refl h.results.cells;
        text_rest = rest_of 0 (length (flat ended u.text)) most_text t.text (flat ended u.text) h.text.cells refl;
        accelerations_rest = rest_of no_acceleration (length u.accelerations) most_accelerations t.accelerations u.accelerations h.accelerations.cells refl;
        text = record { lines = u.text; are = text_is; good = l.text; once = l.text_once; named = l.named };
        player = good-player;
        acceleration = λ j m.
            let f = l.accelerations_fit in
            ap is_acceleration (h.accelerations.cells j (omega arith)) ∙ all-at no_acceleration is_acceleration u.accelerations l.accelerations j m;
        apart = shared-none u t l.players_fit h l.accelerations_fit l.accelerations_apart;
        laws = λ law. keep-laws u t l.players_fit h l.rounds law (l.entries law);
        sums = state-sums u t l.players_fit h l.rounds (λ p m. (player_at_lem p m).entries) l.sums;
      }

  pub good-reading : GoodReading (answer_of u) t
  good-reading = record { answer = good-answer; tables = good-tables }
