-- After the last line: the number of rounds, the verdict of the checks and the tables, from counts and cells, are the statement's. Assumes nothing.
use mathlib.Core.Path.{◌≡◌, refl, sym, ap, ap₂, ◌∙◌, subst}
use mathlib.Core.Bool.{Bool, true, false, cond, ◌&&◌, not}
use mathlib.Core.Option.{Option, none, some}
use mathlib.Core.List.{List, [], ◌∷◌, ◌++◌, map}
use Prim.Native.Nat.{ℕ, suc, ◌+◌, ◌*◌, ◌-◌, ◌≤◌, ◌<◌}
use native.Mathlib.Omega.{arith}
use borrow.Author.Tests.{lt-ltb, le-ltb}
use lib.Dec.{leb, ltb}
use lib.ListN.{length, get_or, take, length-map}
use lib.Seq.{length-take-le}
use Rattle.kit.specs.Lists.{any, is_empty, only_or, first, flat, from}
use Rattle.kit.specs.First.{AllOf}
use Rattle.kit.specs.Decides.{to, or_else}
use Rattle.kit.specs.Table.{Holds}
use Rattle.kit.proofs.Decided.{no_some}
use Rattle.kit.proofs.Firsts.{all_of_at, first-append}
use Rattle.law.specs.Sizes.{most_players, most_rounds, most_accelerations, most_text}
use Rattle.law.specs.Lines.{Line}
use Rattle.law.specs.Text.{is_name, ended}
use Rattle.law.specs.Scoring.{values}
use Rattle.law.specs.Accelerations.{acceleration_code}
use Rattle.law.specs.Players.{PlayerLine, player_code, Slot}
use Rattle.law.specs.Items.{Item}
use Rattle.law.specs.Tournament.{Entry, Player, Tournament, text_in, rounds_in, acceleration_in, player_in, normal, used_rounds, rounds_of, player_of, tournament_of}
use Rattle.law.specs.Entries.{no_entry, no_player, player_at, Law, bye-or-game, mutual_pairing, fitting_results, one_U}
use Rattle.law.specs.Spelling.{no_line, is_past}
use Rattle.law.specs.Tables.{kept_cells, entry_cells, line_cells, cells_of, lines_content, entry_cells_of}
use Rattle.law.specs.Refusals.{lines_of, player_seats, acceleration_seats, seats_from, FileFault, incomplete, past_142, shared, unlawful, wrong_sum_lem, file_faults, is_file_fault, Label, of_file, file_fault_number, Refusal, refusal, refusal_of, each_round, each_seat, labels_of, nowhere}
use Rattle.law.proofs.Faults.{test_label}
use Rattle.law.proofs.LinesLawful.{rounds-small}
use Rattle.law.proofs.NewAndFew.{few-fits}
use Rattle.law.proofs.Seats.{player_lines_lem, acceleration_lines, seat}
use Rattle.join.specs.Grid.{first_from}
use Rattle.join.specs.Store.{Nine, Count, State}
use Rattle.join.specs.Kept.{raw_grid}
use Rattle.join.specs.Check.{place_at, round_at, rounds_found, rounds_seen, past_cell, shared_record, closing, keeps_cell, broken_cell, wrong_sum, at_player, broken_by, verdict, Closes}
use Rattle.join.proofs.Cells.{holds_as, holds_then}
use Rattle.join.proofs.Firsts.{first_as, first-listed, first_under, first-none}
use Rattle.join.proofs.Steps.{After}
use Rattle.join.proofs.Close.{WellSlot, WellLine, the_bye, normal-colour, normal-result, NonePast, closed, closing-zero, seen_cell, rounds-seen, map_at}
use Rattle.join.proofs.Turns.{rounds-listed, places_listed}
use Rattle.join.proofs.Checks.{HoldCells, keeps_cell_lem, sum_cell, shared_is}
use Rattle.join.proofs.Whole.{well_lines, to_or_else, to-to}

to_same : {B : Type 0} (f g : ℕ → B) (o : Option ℕ) → ((k : ℕ) → o ≡ some k → f k ≡ g k) → to f o ≡ to g o
to_same f g none h = refl
to_same f g (some k) h = ap some (h k refl)

map_parts : {A : Type 0} (f : Player → A) (g : PlayerLine → A) (R : ℕ) → ((p : PlayerLine) → f (player_of R p) ≡ g p) → (l : List PlayerLine) → map f (map (player_of R) l) ≡ map g l
map_parts f g R e [] = refl
map_parts f g R e (p ∷ l) = ap₂ (λ (x : _) (m : List _). x ∷ m) (e p) (map_parts f g R e l)

flat_parts : (R : ℕ) (l : List PlayerLine) → flat (λ (p : Player). p.kept) (map (player_of R) l) ≡ flat (λ (p : PlayerLine). p.kept) l
unfolding flat
flat_parts R [] = refl
flat_parts R (p ∷ l) = ap (λ (m : List ℕ). p.kept ++ m) (flat_parts R l)

module _ (b : Nine) (ls : List Line) (s : State) (h : After b ls s) where
  abbrev is : List Item
  is = h.items

  abbrev rows : List PlayerLine
  rows = flat player_in is

  abbrev c : Count
  c = s.count

  abbrev x : Nine
  x = s.tables

  abbrev t : Tournament
  t = tournament_of is

  well : AllOf WellLine rows
  well = well_lines ls is h.good.spelled

  few : length rows ≤ most_players
  few = (few-fits is h.good.few).players

  small : rounds_of is ≤ most_rounds
  small = rounds-small ls is h.good.sound h.good.spelled

  -- ---- the number of rounds
  pub rounds_are : rounds_found c x.colours ≡ rounds_of is
  unfolding rounds_found rounds_of
  rounds_are =
      let k = h.counted in
      ap (λ (n : ℕ). cond c.stated c.rounds (rounds_seen x.colours n)) k.players
      ∙ go (flat rounds_in is) c.stated c.rounds k.stated k.rounds
    where
      go : (m : List ℕ) (v : Bool) (r : ℕ) → v ≡ not (is_empty m) → r ≡ only_or 0 m → cond v r (rounds_seen x.colours (length rows)) ≡ only_or (used_rounds rows) m
      go [] v r e f = rw e (rounds-seen rows few well b.colours x.colours h.raw.colours)
      go (n ∷ m) v r e f = rw e f

  -- ---- the tables after the closing pass; N: the length of the file, which no label of the file as a whole looks at
  module _ (N : ℕ) (y : Nine) (k : Closes c.players (rounds_found c x.colours) x y) where
    count_is : c.players ≡ length rows
    count_is = h.counted.players

    abbrev R : ℕ
    R = rounds_of is

    closes : Closes (length rows) R x y
    closes = subst (λ (n : ℕ). Closes n R x y) count_is (subst (λ (m : ℕ). Closes c.players m x y) rounds_are k)

    pass : (part : Entry → ℕ) → part no_entry ≡ 0 → ((s : Slot) → WellSlot s → part (normal s) ≡ 0 → part the_bye ≡ 0) → NonePast R rows → {u v w : List ℕ}
        → Holds 0 entry_cells (raw_grid part rows) u v → Holds 0 entry_cells (λ i. closing (length rows) R (part the_bye) i (get_or v i 0)) v w
        → Holds 0 entry_cells (entry_cells_of part t) u w
    unfolding tournament_of
    pass part z w past g m =
        holds_then (entry_cells_of part t) g
        (holds_as (entry_cells_of part t) m (λ i l. ap (closing (length rows) R (part the_bye) i) (g.cells i l) ∙ closed R rows small well past part z w i l))

    -- what the tables hold, where no entry stands past R
    pub record Held : Type 0 where
      pub starts : Holds 0 most_players (cells_of (map (λ p. p.start) t.players)) b.starts y.starts
      pub points : Holds 0 most_players (cells_of (map (λ p. p.points) t.players)) b.points y.points
      pub ranks : Holds 0 most_players (cells_of (map (λ p. p.rank) t.players)) b.ranks y.ranks
      pub kept : Holds 0 kept_cells (cells_of (flat (λ (p : Player). p.kept) t.players)) b.kept y.kept
      pub opponents : Holds 0 entry_cells (entry_cells_of (λ e. e.id) t) b.opponents y.opponents
      pub colours : Holds 0 entry_cells (entry_cells_of (λ e. e.colour) t) b.colours y.colours
      pub results : Holds 0 entry_cells (entry_cells_of (λ e. e.result) t) b.results y.results
      pub text : Holds 0 most_text (cells_of (flat ended t.text)) b.text y.text
      pub lines : Holds 0 line_cells (lines_content (lines_of player_code 0 ls) (lines_of acceleration_code 0 ls)) b.lines y.lines

    number-held : (f : Player → ℕ) (g : PlayerLine → ℕ) → ((p : PlayerLine) → f (player_of R p) ≡ g p) → {u v w : List ℕ} → w ≡ v → Holds 0 most_players (cells_of (map g rows)) u v → Holds 0 most_players (cells_of (map f t.players)) u w
    unfolding tournament_of
    number-held f g e {u} {v} {w} q m =
        subst (λ (z : List ℕ). Holds 0 most_players (cells_of (map f (map (player_of R) rows))) u z) (sym q)
        (subst (λ (l : List ℕ). Holds 0 most_players (cells_of l) u v) (sym (map_parts f g R e rows)) m)

    pub held : NonePast R rows → Held
    unfolding tournament_of
    held past =
        let r = h.raw in
        let q = closes in
        record {
          starts = number-held (λ p. p.start) (λ p. p.start) (λ p. refl) q.starts r.starts;
          points = number-held (λ p. p.points) (λ p. p.points) (λ p. refl) q.points r.points;
          ranks = number-held (λ p. p.rank) (λ p. p.rank) (λ p. refl) q.ranks r.ranks;
          kept =
              subst (λ (z : List ℕ). Holds 0 kept_cells (cells_of (flat (λ (p : Player). p.kept) (map (player_of R) rows))) b.kept z) (sym q.kept)
              (subst (λ (l : List ℕ). Holds 0 kept_cells (cells_of l) b.kept x.kept) (sym (flat_parts R rows)) r.kept);
          opponents =
              subst (λ (z : List ℕ). Holds 0 entry_cells (entry_cells_of (λ e. e.id) t) b.opponents z) (sym q.opponents)
              (holds_as (entry_cells_of (λ e. e.id) t) r.opponents (λ i l. sym (closing-zero (length rows) R i (raw_grid (λ e. e.id) rows i)) ∙ closed R rows small well past (λ e. e.id) refl (λ s w _. refl) i l));
          colours = pass (λ e. e.colour) refl (λ s w z. absurd (normal-colour s w z)) past r.colours q.colours;
          results = pass (λ e. e.result) refl (λ s w z. absurd (normal-result s w z)) past r.results q.results;
          text = subst (λ (z : List ℕ). Holds 0 most_text (cells_of (flat ended (flat text_in is))) b.text z) (sym q.text) r.text;
          lines = subst (λ (z : List ℕ). Holds 0 line_cells (lines_content (lines_of player_code 0 ls) (lines_of acceleration_code 0 ls)) b.lines z) (sym q.lines) r.lines;
        }

    -- ---- the labels, by turn
    abbrev ps : List ℕ
    ps = lines_of player_code 0 ls

    abbrev rs : List ℕ
    rs = lines_of acceleration_code 0 ls

    abbrev test : Label → Bool
    test = test_label true N (some is)

    abbrev of : FileFault → List Label
    of = labels_of (player_seats ls) (acceleration_seats ls)

    abbrev first_of : FileFault → Option Refusal
    first_of f = to refusal_of (first test (of f))

    ps_long : length ps ≡ length rows
    ps_long = player_lines_lem ls is h.good.spelled

    rs_long : length rs ≡ length (flat acceleration_in is)
    rs_long = acceleration_lines ls is h.good.spelled

    player-line_at : (p : ℕ) → p < most_players → get_or x.lines p 0 ≡ get_or ps p 0
    player-line_at p l = h.raw.lines.cells p (omega arith) ∙ rw (lt-ltb p most_players l) refl

    record_line_at : (j : ℕ) → j < most_accelerations → get_or x.lines (most_players + j) 0 ≡ get_or rs j 0
    record_line_at j l =
        let e : most_players + j - most_players ≡ j = omega arith in
        h.raw.lines.cells (most_players + j) (omega arith) ∙ rw (le-ltb (most_players + j) most_players (omega arith), e) refl

    by_turn : (f : FileFault) → of f ≡ each_round f (player_seats ls) → first_of f ≡ to (λ k. refusal (file_fault_number f) (get_or ps (place_at k) 0) (round_at k)) (first_from (λ k. is_file_fault is f (place_at k) (round_at k)) 0 (length rows * most_rounds))
    by_turn f e =
        ap (λ (l : List Label). to refusal_of (first test l)) (e ∙ rounds-listed f ps ∙ ap (λ (n : ℕ). map (λ k. of_file f (seat (place_at k) ps) (round_at k)) (from 0 (n * most_rounds))) ps_long)
        ∙ ap (to refusal_of) (first-listed test (λ k. of_file f (seat (place_at k) ps) (round_at k)) 0 (length rows * most_rounds))
        ∙ to-to refusal_of (λ k. of_file f (seat (place_at k) ps) (round_at k)) (first_from (λ k. is_file_fault is f (place_at k) (round_at k)) 0 (length rows * most_rounds))

    by_place : (f : FileFault) (ns : List ℕ) (n : ℕ) → length ns ≡ n → of f ≡ each_seat f (seats_from 0 ns) → first_of f ≡ to (λ p. refusal (file_fault_number f) (get_or ns p 0) 0) (first_from (λ p. is_file_fault is f p 0) 0 n)
    by_place f ns n m e =
        ap (λ (l : List Label). to refusal_of (first test l)) (e ∙ places_listed f ns ∙ ap (λ (k : ℕ). map (λ p. of_file f (seat p ns) 0) (from 0 k)) m)
        ∙ ap (to refusal_of) (first-listed test (λ p. of_file f (seat p ns) 0) 0 n)
        ∙ to-to refusal_of (λ p. of_file f (seat p ns) 0) (first_from (λ p. is_file_fault is f p 0) 0 n)

    -- a check by turn that tests the same gives the same
    turn_same : (f : FileFault) (g : ℕ → Bool) (lines : List ℕ) → lines ≡ x.lines → of f ≡ each_round f (player_seats ls) → ((k : ℕ) → k < length rows * most_rounds → g k ≡ is_file_fault is f (place_at k) (round_at k))
        → to (at_player (file_fault_number f) lines) (first_from g 0 (c.players * most_rounds)) ≡ first_of f
    turn_same f g lines e o m =
        let n : ℕ = length rows * most_rounds in
        ap (λ (j : ℕ). to (at_player (file_fault_number f) lines) (first_from g 0 (j * most_rounds))) count_is
        ∙ ap (to (at_player (file_fault_number f) lines)) (first_as g (λ k. is_file_fault is f (place_at k) (round_at k)) 0 n (λ k _ l. m k (omega arith)))
        ∙ to_same (at_player (file_fault_number f) lines) (λ k. refusal (file_fault_number f) (get_or ps (place_at k) 0) (round_at k)) (first_from (λ k. is_file_fault is f (place_at k) (round_at k)) 0 n)
        (λ k q.
        let u = first_under (λ k. is_file_fault is f (place_at k) (round_at k)) 0 n k q in
        let l = u.1 in
        let d = few in
        ap (λ (v : ℕ). refusal (file_fault_number f) v (round_at k)) (ap (λ (w : List ℕ). get_or w (place_at k) 0) e ∙ player-line_at (place_at k) (omega arith)))
        ∙ sym (by_turn f o)

    -- ---- 10
    complete-same : cond (get_or c.seen 0 false && ltb 0 c.players) none (some (refusal (file_fault_number incomplete) 0 0)) ≡ first_of incomplete
    unfolding is_file_fault tournament_of
    complete-same =
        let q = h.counted in
        ap₂ (λ (u : List Bool) (n : ℕ). cond (get_or u 0 false && ltb 0 n) none (some (refusal (file_fault_number incomplete) 0 0))) q.seen q.players
        ∙ ap (λ (v : Bool). cond (any is_name (flat text_in is) && v) none (some (refusal (file_fault_number incomplete) 0 0))) (there rows)
        ∙ go (any is_name (flat text_in is) && not (is_empty (map (player_of R) rows)))
      where
        there : (l : List PlayerLine) → ltb 0 (length l) ≡ not (is_empty (map (player_of R) l))
        there [] = refl
        there (p ∷ l) = lt-ltb 0 (suc (length l)) (omega arith)

        go : (v : Bool) → cond v none (some (refusal (file_fault_number incomplete) 0 0)) ≡ to refusal_of (cond (not v) (some (of_file incomplete nowhere 0)) none)
        go true = refl
        go false = refl

    -- ---- 11
    past_same : to (at_player (file_fault_number past_142) x.lines) (first_from (past_cell (rounds_found c x.colours) x.colours) 0 (c.players * most_rounds)) ≡ first_of past_142
    unfolding is_file_fault is_past past_cell
    past_same =
        turn_same past_142 (past_cell (rounds_found c x.colours) x.colours) x.lines refl refl
        (λ k l. ap₂ (λ (n : ℕ) (v : Bool). ltb n (round_at k) && v) rounds_are (seen_cell rows few well b.colours x.colours h.raw.colours k l))

    none_past_lem : first_of past_142 ≡ none → NonePast R rows
    unfolding is_file_fault is_past
    none_past_lem e p r l a d =
        let f : ℕ → Bool = λ k. is_file_fault is past_142 (place_at k) (round_at k) in
        let n : ℕ = length rows * most_rounds in
        let q : first_from f 0 n ≡ none = from-none (λ k. refusal (file_fault_number past_142) (get_or ps (place_at k) 0) (round_at k)) (first_from f 0 n) (sym (by_turn past_142 refl) ∙ e) in
        let k : ℕ = p * most_rounds + (r - 1) in
        let i : place_at k ≡ p = omega arith in
        let j : round_at k ≡ r = omega arith in
        rw (i, j, lt-ltb R r a) at (first-none f 0 n q k (omega arith) (omega arith))
      where
        from-none : {B : Type 0} (f : ℕ → B) (o : Option ℕ) → to f o ≡ none → o ≡ none
        from-none f none e = refl
        from-none f (some k) e = no_some (sym e)

    -- ---- 17
    shared_same : to (λ j. refusal (file_fault_number shared) (get_or x.lines (most_players + j) 0) 0) (first_from (shared_record c.records) 0 c.accelerations) ≡ first_of shared
    unfolding is_file_fault
    shared_same =
        let q = h.counted in
        let m : ℕ = length (flat acceleration_in is) in
        let fit = (few-fits is h.good.few).accelerations in
        let g : ℕ → Refusal = λ j. refusal (file_fault_number shared) (get_or x.lines (most_players + j) 0) 0 in
        ap (λ (n : ℕ). to g (first_from (shared_record c.records) 0 n)) q.accelerations
        ∙ ap (to g) (first_as (shared_record c.records) (λ j. is_file_fault is shared j 0) 0 m (λ j _ l. shared_is (flat acceleration_in is) c.records fit q.records.cells j (omega arith)))
        ∙ to_same g (λ j. refusal (file_fault_number shared) (get_or rs j 0) 0) (first_from (λ j. is_file_fault is shared j 0) 0 m)
        (λ j w.
        let u = first_under (λ j. is_file_fault is shared j 0) 0 m j w in
        let l = u.1 in
        ap (λ (v : ℕ). refusal (file_fault_number shared) v 0) (record_line_at j (omega arith)))
        ∙ sym (by_place shared rs m rs_long refl)

    -- ---- 12 to 16, where no entry stands past R
    module _ (past : NonePast R rows) where
      cells : HoldCells t b y
      cells = let d = held past in record { starts = d.starts; points = d.points; opponents = d.opponents; colours = d.colours; results = d.results }

      players-long : length t.players ≡ length rows
      unfolding tournament_of
      players-long = length-map rows (player_of R)

      rounds-long : t.rounds ≡ R
      unfolding tournament_of
      rounds-long = refl

      broken_same : (law : Law) → broken_by law c.players (rounds_found c x.colours) y ≡ first_of (unlawful law)
      unfolding is_file_fault broken_cell
      broken_same law =
          turn_same (unlawful law) (broken_cell law c.players (rounds_found c x.colours) y) y.lines k.lines refl
          (λ j l.
          let n = players-long in
          let d = few in
          ap₂ (λ (m : ℕ) (v : Bool). leb (round_at j) m && not v) (rounds_are ∙ sym rounds-long)
          (ap (λ (m : ℕ). keeps_cell law m y (place_at j) (round_at j)) (count_is ∙ sym n) ∙ keeps_cell_lem t b y (omega arith) cells law (place_at j) (round_at j) (omega arith) (omega arith) (omega arith)))

      entries-long : (p : ℕ) → p < length rows → length (player_at t p).entries ≡ t.rounds
      unfolding tournament_of
      entries-long p l =
          let q : PlayerLine = get_or rows p no_line in
          let w : WellLine q = all_of_at WellLine no_line rows well p l in
          let n = w.slots in
          let d = small in
          ap (λ (u : Player). length u.entries) (map_at (player_of R) no_line no_player rows p l) ∙ length-map (take R q.slots) normal ∙ length-take-le R q.slots (omega arith)

      values_same : c.values ≡ values t.scoring
      unfolding tournament_of
      values_same = h.counted.values_are

      sum_same : to (λ p. refusal (file_fault_number wrong_sum_lem) (get_or y.lines p 0) 0) (first_from (wrong_sum c.values y.points y.results (rounds_found c x.colours)) 0 c.players) ≡ first_of wrong_sum_lem
      unfolding is_file_fault
      sum_same =
          let g : ℕ → Refusal = λ p. refusal (file_fault_number wrong_sum_lem) (get_or y.lines p 0) 0 in
          let n : ℕ = length rows in
          let m = players-long in
          let d = few in
          let e = small in
          ap (λ (j : ℕ). to g (first_from (wrong_sum c.values y.points y.results (rounds_found c x.colours)) 0 j)) count_is
          ∙ ap (to g) (first_as (wrong_sum c.values y.points y.results (rounds_found c x.colours)) (λ p. is_file_fault is wrong_sum_lem p 0) 0 n
          (λ p _ l.
          ap₂ (λ (v : List ℕ) (r : ℕ). wrong_sum v y.points y.results r p) values_same (rounds_are ∙ sym rounds-long)
          ∙ sum_cell t b y (omega arith) cells p (omega arith) (entries-long p (omega arith)) (omega (arith, rounds-long))))
          ∙ to_same g (λ p. refusal (file_fault_number wrong_sum_lem) (get_or ps p 0) 0) (first_from (λ p. is_file_fault is wrong_sum_lem p 0) 0 n)
          (λ p w.
          let u = first_under (λ p. is_file_fault is wrong_sum_lem p 0) 0 n p w in
          let l = u.1 in
          ap (λ (v : ℕ). refusal (file_fault_number wrong_sum_lem) v 0) (ap (λ (z : List ℕ). get_or z p 0) k.lines ∙ player-line_at p (omega arith)))
          ∙ sym (by_place wrong_sum_lem ps n ps_long refl)

    -- ---- all of them, in order
    in_order : to refusal_of (first test (flat of file_faults))
        ≡ or_else (first_of incomplete) (or_else (first_of past_142) (or_else (first_of shared) (or_else (first_of (unlawful bye-or-game)) (or_else (first_of (unlawful mutual_pairing)) (or_else (first_of (unlawful fitting_results)) (or_else (first_of (unlawful one_U)) (first_of wrong_sum_lem)))))))
    unfolding flat
    in_order =
        next incomplete (past_142 ∷ shared ∷ unlawful bye-or-game ∷ unlawful mutual_pairing ∷ unlawful fitting_results ∷ unlawful one_U ∷ wrong_sum_lem ∷ [])
        ∙ ap (or_else (first_of incomplete))
        (next past_142 (shared ∷ unlawful bye-or-game ∷ unlawful mutual_pairing ∷ unlawful fitting_results ∷ unlawful one_U ∷ wrong_sum_lem ∷ [])
        ∙ ap (or_else (first_of past_142))
        (next shared (unlawful bye-or-game ∷ unlawful mutual_pairing ∷ unlawful fitting_results ∷ unlawful one_U ∷ wrong_sum_lem ∷ [])
        ∙ ap (or_else (first_of shared))
        (next (unlawful bye-or-game) (unlawful mutual_pairing ∷ unlawful fitting_results ∷ unlawful one_U ∷ wrong_sum_lem ∷ [])
        ∙ ap (or_else (first_of (unlawful bye-or-game)))
        (next (unlawful mutual_pairing) (unlawful fitting_results ∷ unlawful one_U ∷ wrong_sum_lem ∷ [])
        ∙ ap (or_else (first_of (unlawful mutual_pairing)))
        (next (unlawful fitting_results) (unlawful one_U ∷ wrong_sum_lem ∷ [])
        ∙ ap (or_else (first_of (unlawful fitting_results)))
        (next (unlawful one_U) (wrong_sum_lem ∷ []) ∙ ap (or_else (first_of (unlawful one_U))) (next wrong_sum_lem [] ∙ last (first_of wrong_sum_lem))))))))
      where
        next : (f : FileFault) (fs : List FileFault) → to refusal_of (first test (flat of (f ∷ fs))) ≡ or_else (first_of f) (to refusal_of (first test (flat of fs)))
        next f fs = ap (to refusal_of) (first-append test (of f) (flat of fs)) ∙ to_or_else refusal_of (first test (of f)) (first test (flat of fs))

        last : (o : Option Refusal) → or_else o none ≡ o
        last none = refl
        last (some q) = refl

    pub verdict_is : verdict c (rounds_found c x.colours) x y ≡ to refusal_of (first test (flat of file_faults))
    unfolding verdict
    verdict_is = ap₂ or_else complete-same (ap₂ or_else past_same refl) ∙ go (first_of incomplete) (first_of past_142) refl ∙ sym in_order
      where
        later : Option Refusal
        later =
            or_else (to (λ j. refusal (file_fault_number shared) (get_or x.lines (most_players + j) 0) 0) (first_from (shared_record c.records) 0 c.accelerations))
            (or_else (broken_by bye-or-game c.players (rounds_found c x.colours) y)
            (or_else (broken_by mutual_pairing c.players (rounds_found c x.colours) y)
            (or_else (broken_by fitting_results c.players (rounds_found c x.colours) y)
            (or_else (broken_by one_U c.players (rounds_found c x.colours) y)
            (to (λ p. refusal (file_fault_number wrong_sum_lem) (get_or y.lines p 0) 0) (first_from (wrong_sum c.values y.points y.results (rounds_found c x.colours)) 0 c.players))))))

        go : (a d : Option Refusal) → first_of past_142 ≡ d
            → or_else a (or_else d later)
            ≡ or_else a (or_else d (or_else (first_of shared) (or_else (first_of (unlawful bye-or-game)) (or_else (first_of (unlawful mutual_pairing)) (or_else (first_of (unlawful fitting_results)) (or_else (first_of (unlawful one_U)) (first_of wrong_sum_lem)))))))
        go (some q) d e = refl
        go none (some q) e = refl
        go none none e =
            let past = none_past_lem e in
            ap₂ or_else shared_same
            (ap₂ or_else (broken_same past bye-or-game)
            (ap₂ or_else (broken_same past mutual_pairing) (ap₂ or_else (broken_same past fitting_results) (ap₂ or_else (broken_same past one_U) (sum_same past)))))

    -- no fault: no entry past R, so the tables hold the tournament
    pub no_verdict : verdict c (rounds_found c x.colours) x y ≡ none → Held
    no_verdict e = held (none_past_lem (second (first_of incomplete) (first_of past_142) _ (sym in_order ∙ sym verdict_is ∙ e)))
      where
        second : (a d o : Option Refusal) → or_else a (or_else d o) ≡ none → d ≡ none
        second none none o e = refl
        second none (some q) o e = no_some (sym e)
        second (some q) d o e = no_some (sym e)
