-- Two lawful tournaments have two readings: the answer and the tables, line numbers left out, tell which one was read. Assumes nothing.
use mathlib.Core.Path.{◌≡◌, refl, sym, ap, ap₂, ◌∙◌}
use mathlib.Core.Bool.{true, not}
use mathlib.Core.List.{List, [], ◌∷◌, ◌++◌, map, append_assoc}
use Prim.Native.Nat.{ℕ, ◌+◌, ◌*◌, ◌-◌, ◌≤◌, ◌<◌}
use native.Mathlib.Omega.{arith}
use lib.Dec.{eqb}
use lib.ListN.{length, get_or, get_or-map}
use lib.Seq.{ext_get_or}
use Rattle.kit.specs.Lists.{all, between, flat}
use Rattle.kit.specs.First.{AllOf}
use Rattle.kit.proofs.Bools.{and, within}
use Rattle.kit.proofs.Firsts.{all_of_at, all_of_each}
use Rattle.kit.proofs.Lists.{flat_at}
use Rattle.types.specs.declared.Answer.{Answer}
use Rattle.law.specs.Sizes.{most_players, most_accelerations, most_text}
use Rattle.law.specs.Lines.{CR, allowed}
use Rattle.law.specs.Columns.{width}
use Rattle.law.specs.Text.{ended}
use Rattle.law.specs.Scoring.{Scoring, values}
use Rattle.law.specs.Players.{kept_field}
use Rattle.law.specs.Tournament.{Entry, Player, Tournament}
use Rattle.law.specs.Entries.{no_entry, no_player, player_at, entry_of}
use Rattle.law.specs.Lawful.{KeptLine, LawfulPlayer, Lawful, no_acceleration}
use Rattle.law.specs.Tables.{Tables, kept_cells, entry_cells, cell_of, place_in, round_in, content_of, HoldAll, answer_of}

-- ---- kept lines have no CR, so their bytes tell them apart
not-cr : (c : ℕ) → allowed c ≡ true → c ≡ CR → ⊥
not-cr c h e = let k = within 32 255 c (and (between 32 255 c) (not (eqb c 127)) h).0 in let l = k.0 in omega arith

line-end : (x y r s : List ℕ) → all allowed x ≡ true → all allowed y ≡ true → x ++ (CR ∷ r) ≡ y ++ (CR ∷ s) → (x ≡ y) × (r ≡ s)
line-end [] [] r s h k e = (refl, cc)
line-end [] (c ∷ y) r s h k e = let u : c ≡ CR = cc in absurd (not-cr c (and (allowed c) (all allowed y) k).0 u)
line-end (c ∷ x) [] r s h k e = let u : c ≡ CR = cc in absurd (not-cr c (and (allowed c) (all allowed x) h).0 u)
line-end (c ∷ x) (d ∷ y) r s h k e =
    let u : c ≡ d = cc in
    let v = line-end x y r s (and (allowed c) (all allowed x) h).1 (and (allowed d) (all allowed y) k).1 (cc) in
    (ap₂ (λ (a : ℕ) (l : List ℕ). a ∷ l) u v.0, v.1)

not-nothing : (x r : List ℕ) → ◌≡◌ {A = List ℕ} [] (ended x ++ r) → ⊥
not-nothing [] r e = let z : ◌≡◌ {A = ℕ} 0 1 = cc in omega arith
not-nothing (c ∷ x) r e = let z : ◌≡◌ {A = ℕ} 0 1 = cc in omega arith

pub same_lines : (a b : List (List ℕ)) → AllOf KeptLine a → AllOf KeptLine b → flat ended a ≡ flat ended b → a ≡ b
unfolding flat
same_lines [] [] h k e = refl
same_lines [] (y ∷ b) h k e = absurd (not-nothing y (flat ended b) e)
same_lines (x ∷ a) [] h k e = absurd (not-nothing x (flat ended a) (sym e))
same_lines (x ∷ a) (y ∷ b) h k e =
    let f : x ++ (CR ∷ flat ended a) ≡ y ++ (CR ∷ flat ended b) = sym (append_assoc x (CR ∷ []) (flat ended a)) ∙ e ∙ append_assoc y (CR ∷ []) (flat ended b) in
    let v = line-end x y (flat ended a) (flat ended b) h.0.clean k.0.clean f in
    ap₂ (λ (l : List ℕ) (m : List (List ℕ)). l ∷ m) v.0 (same_lines a b h.1 k.1 v.1)

-- ---- a list from its cells
same_list : (n : ℕ) (a b : List ℕ) → length a ≡ length b → length a ≤ n → ((i : ℕ) → i < n → get_or a i 0 ≡ get_or b i 0) → a ≡ b
same_list n a b e l h = ext_get_or 0 a b e (λ i m. h i (omega arith))

same-scoring : (s v : Scoring) → values s ≡ values v → s ≡ v
same-scoring s v e = λ i.
    record {
      win = at 0 i;
      draw = at 1 i;
      loss = at 2 i;
      absent = at 3 i;
      pairing = at 4 i;
      unknown = at 5 i;
    }
  where
    at : (k : ℕ) → get_or (values s) k 0 ≡ get_or (values v) k 0
    at k = ap (λ (l : List ℕ). get_or l k 0) e

module _ (t u : Tournament) (h : Lawful t) (k : Lawful u) (same : answer_of t ≡ answer_of u) (b c after : Tables) (x : HoldAll (content_of t) b after) (y : HoldAll (content_of u) c after) where
  players-same : length t.players ≡ length u.players
  unfolding answer_of
  players-same = ap (λ (a : Answer). a.players) same

  rounds-same : t.rounds ≡ u.rounds
  unfolding answer_of
  rounds-same = ap (λ (a : Answer). a.rounds) same

  -- a part of each player, from a table of two hundred cells
  part_same : (part : Player → ℕ) → part no_player ≡ 0 → ((i : ℕ) → i < most_players → get_or (map part t.players) i 0 ≡ get_or (map part u.players) i 0)
      → (p : ℕ) → p < length t.players → part (player_at t p) ≡ part (player_at u p)
  part_same part z e p l =
      let q = h.players_fit in
      sym (get_or-map part t.players p no_player) ∙ ap (get_or (map part t.players) p) z ∙ e p (omega arith) ∙ ap (get_or (map part u.players) p) (sym z) ∙ get_or-map part u.players p no_player

  kept_same : (p : ℕ) → p < length t.players → (player_at t p).kept ≡ (player_at u p).kept
  unfolding content_of
  kept_same p l =
      let q = h.players_fit in
      let e = players-same in
      let wt = all_of_each (LawfulPlayer t.rounds) (λ (p : Player). length p.kept ≡ width kept_field) (λ p r. r.kept_wide) t.players h.players in
      let wu = all_of_each (LawfulPlayer u.rounds) (λ (p : Player). length p.kept ≡ width kept_field) (λ p r. r.kept_wide) u.players k.players in
      let lt = all_of_at (λ (p : Player). length p.kept ≡ width kept_field) no_player t.players wt p l in
      let lu = all_of_at (λ (p : Player). length p.kept ≡ width kept_field) no_player u.players wu p (omega arith) in
      ext_get_or 0 (player_at t p).kept (player_at u p).kept (lt ∙ sym lu)
      (λ j m.
      let i : p * width kept_field + j < kept_cells = omega arith in
      sym (flat_at (λ (p : Player). p.kept) (width kept_field) no_player 0 t.players wt p j l (omega arith))
      ∙ sym (x.kept.cells (p * width kept_field + j) i)
      ∙ y.kept.cells (p * width kept_field + j) i
      ∙ flat_at (λ (p : Player). p.kept) (width kept_field) no_player 0 u.players wu p j (omega arith) (omega arith))

  -- a part of each entry, from a table of entries
  entry-same : (part : Entry → ℕ) → ((i : ℕ) → i < entry_cells → part (entry_of (round_in i) (player_at t (place_in i))) ≡ part (entry_of (round_in i) (player_at u (place_in i))))
      → (p r : ℕ) → p < length t.players → r < t.rounds → part (get_or (player_at t p).entries r no_entry) ≡ part (get_or (player_at u p).entries r no_entry)
  entry-same part e p r l m =
      let q = h.players_fit in
      let n = h.rounds in
      let a : place_in (cell_of p (r + 1)) ≡ p = omega arith in
      let c : round_in (cell_of p (r + 1)) ≡ r + 1 = omega arith in
      let d : r + 1 - 1 ≡ r = omega arith in
      rw (a, c, d) at (e (cell_of p (r + 1)) (omega arith))

  entries-same : (p : ℕ) → p < length t.players → (player_at t p).entries ≡ (player_at u p).entries
  unfolding content_of
  entries-same p l =
      let e = players-same in
      let lt = (all_of_at (LawfulPlayer t.rounds) no_player t.players h.players p l).entries in
      let lu = (all_of_at (LawfulPlayer u.rounds) no_player u.players k.players p (omega arith)).entries in
      ext_get_or no_entry (player_at t p).entries (player_at u p).entries (lt ∙ rounds-same ∙ sym lu)
      (λ r m. λ i.
      record {
        id = entry-same (λ e. e.id) (λ i n. sym (x.opponents.cells i n) ∙ y.opponents.cells i n) p r l (omega arith) i;
        colour = entry-same (λ e. e.colour) (λ i n. sym (x.colours.cells i n) ∙ y.colours.cells i n) p r l (omega arith) i;
        result = entry-same (λ e. e.result) (λ i n. sym (x.results.cells i n) ∙ y.results.cells i n) p r l (omega arith) i;
      })

  all-players-same : t.players ≡ u.players
  unfolding content_of
  all-players-same = ext_get_or no_player t.players u.players players-same
      (λ p l. λ i.
      record {
        start = part_same (λ p. p.start) refl (λ i n. sym (x.starts.cells i n) ∙ y.starts.cells i n) p l i;
        kept = kept_same p l i;
        points = part_same (λ p. p.points) refl (λ i n. sym (x.points.cells i n) ∙ y.points.cells i n) p l i;
        rank = part_same (λ p. p.rank) refl (λ i n. sym (x.ranks.cells i n) ∙ y.ranks.cells i n) p l i;
        entries = entries-same p l i;
      })

  text_same : t.text ≡ u.text
  unfolding content_of answer_of
  text_same =
      let q = h.text_fits in
      same_lines t.text u.text h.text k.text
      (same_list most_text (flat ended t.text) (flat ended u.text) (ap (λ (a : Answer). a.text) same) q (λ i l. sym (x.text.cells i l) ∙ y.text.cells i l))

  accelerations-same : t.accelerations ≡ u.accelerations
  unfolding content_of answer_of
  accelerations-same =
      let q = h.accelerations_fit in
      ext_get_or no_acceleration t.accelerations u.accelerations (ap (λ (a : Answer). a.accelerations) same)
      (λ i l. let m : i < most_accelerations = omega arith in sym (x.accelerations.cells i m) ∙ y.accelerations.cells i m)

  pub one_tournament_a_reading : t ≡ u
  unfolding answer_of
  one_tournament_a_reading = λ i.
      record {
        text = text_same i;
        rounds = rounds-same i;
        colour = (same i).colour;
        scoring = same-scoring t.scoring u.scoring (ap (λ (a : Answer). a.values) same) i;
        accelerations = accelerations-same i;
        players = all-players-same i;
      }
