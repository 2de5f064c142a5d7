-- A line stored: the state after it holds what the state before it held, and its item. Assumes nothing.
use mathlib.Core.Path.{◌≡◌, refl, sym, ap, ◌∙◌, subst}
use mathlib.Core.Bool.{Bool}
use mathlib.Core.List.{List, [], ◌∷◌, ◌++◌, map, append_assoc, append-nil}
use Prim.Native.Nat.{ℕ, suc, ◌+◌, ◌*◌, ◌≤◌, ◌<◌}
use native.Mathlib.Omega.{arith}
use lib.ListN.{length, set, length-map}
use lib.Seq.{paste}
use Rattle.kit.specs.Lists.{same, flat}
use Rattle.kit.specs.First.{AllOf}
use Rattle.kit.specs.Table.{Holds}
use Rattle.kit.proofs.Firsts.{all_of_each}
use Rattle.kit.proofs.Lists.{flat_snoc, flat-length, map-append}
use Rattle.types.specs.declared.Acceleration.{Acceleration}
use Rattle.law.specs.Sizes.{most_players, most_rounds, most_accelerations, most_text}
use Rattle.law.specs.Lines.{Line}
use Rattle.law.specs.Columns.{row_of, part, width, code_field}
use Rattle.law.specs.Text.{ended}
use Rattle.law.specs.Accelerations.{acceleration_code}
use Rattle.law.specs.Players.{PlayerLine, player_code, kept_field}
use Rattle.law.specs.Items.{Item, text, acceleration, player}
use Rattle.law.specs.Tournament.{Entry, text_in, player_in}
use Rattle.law.specs.Entries.{no_entry}
use Rattle.law.specs.Tables.{cells_of, kept_cells, entry_cells, line_cells, cell_of, place_in, round_in, lines_content}
use Rattle.law.specs.Refusals.{only_if, lines_of}
use Rattle.law.proofs.LinesLawful.{LawfulLine}
use Rattle.join.specs.Grid.{Order, put_row, entry_in}
use Rattle.join.specs.Store.{Nine, raw_cells, store_player, store_text, store_line}
use Rattle.join.specs.Kept.{raw_grid, RawHold, Long}
use Rattle.join.proofs.Cells.{holds_snoc, holds-append, first_grows, second_grows, grid_snoc}

pub by_player : Order entry_cells most_players most_rounds cell_of place_in round_in
by_player =
    record {
      within = λ p r a b c. omega arith;
      place_of = λ p r a b c. omega arith;
      round_of = λ p r a b c. omega arith;
      back = λ i a. omega arith;
      place_in_lem = λ i a. omega arith;
      round_in = λ i a. omega arith;
    }

-- ---- line numbers after one more line
pub lines_snoc : (code : List ℕ) (n : ℕ) (e : List Line) (l : Line) → lines_of code n (e ++ (l ∷ [])) ≡ lines_of code n e ++ only_if (same (part code_field (row_of l.text)) code) (n + length e + 1)
unfolding lines_of
lines_snoc code n [] l = append-nil (only_if (same (part code_field (row_of l.text)) code) (n + 1)) ∙ ap (only_if (same (part code_field (row_of l.text)) code)) (omega arith)
lines_snoc code n (k ∷ e) l =
    let m : n + 1 + length e + 1 ≡ n + suc (length e) + 1 = omega arith in
    let b : Bool = same (part code_field (row_of l.text)) code in
    let c : List ℕ = only_if (same (part code_field (row_of k.text)) code) (n + 1) in
    ap (λ (u : List ℕ). c ++ u) (lines_snoc code (n + 1) e l ∙ ap (λ (j : ℕ). lines_of code (n + 1) e ++ only_if b j) m)
    ∙ sym (append_assoc c (lines_of code (n + 1) e) (only_if b (n + suc (length e) + 1)))

-- ---- a player's line, table by table
module _ (is : List Item) (p : PlayerLine) where
  abbrev rows : List PlayerLine
  rows = flat player_in is

  rows_more : flat player_in (is ++ (player p ∷ [])) ≡ rows ++ (p ∷ [])
  rows_more = flat_snoc player_in is (player p)

  -- a number of each player
  number-kept : (f : PlayerLine → ℕ) (b x : List ℕ) → most_players ≤ length b → length rows < most_players → Holds 0 most_players (cells_of (map f rows)) b x
      → Holds 0 most_players (cells_of (map f (flat player_in (is ++ (player p ∷ []))))) b (set x (length rows) (f p))
  number-kept f b x room few h =
      let n = length-map rows f in
      let e : map f (flat player_in (is ++ (player p ∷ []))) ≡ map f rows ++ (f p ∷ []) = ap (map f) rows_more ∙ map-append f rows (p ∷ []) in
      subst (λ (l : List ℕ). Holds 0 most_players (cells_of l) b (set x (length rows) (f p))) (sym e)
      (subst (λ (k : ℕ). Holds 0 most_players (cells_of (map f rows ++ (f p ∷ []))) b (set x k (f p))) n (holds_snoc 0 most_players b room (map f rows) x (f p) h (omega arith)))

  -- a part of each entry
  entries-kept : (part : Entry → ℕ) → part no_entry ≡ 0 → (b x : List ℕ) → entry_cells ≤ length b → length rows < most_players → Holds 0 entry_cells (raw_grid part rows) b x
      → Holds 0 entry_cells (raw_grid part (flat player_in (is ++ (player p ∷ [])))) b (put_row 0 cell_of x (length rows) (map part (raw_cells p)) most_rounds)
  entries-kept part z b x room few h =
      let n = length-map rows raw_cells in
      let e : map raw_cells (flat player_in (is ++ (player p ∷ []))) ≡ map raw_cells rows ++ (raw_cells p ∷ []) = ap (map raw_cells) rows_more ∙ map-append raw_cells rows (p ∷ []) in
      subst (λ (es : List (List Entry)). Holds 0 entry_cells (λ i. entry_in part no_entry es (place_in i) (round_in i)) b (put_row 0 cell_of x (length rows) (map part (raw_cells p)) most_rounds)) (sym e)
      (subst (λ (k : ℕ). Holds 0 entry_cells (λ i. entry_in part no_entry (map raw_cells rows ++ (raw_cells p ∷ [])) (place_in i) (round_in i)) b (put_row 0 cell_of x k (map part (raw_cells p)) most_rounds)) n
      (grid_snoc by_player part no_entry z (map raw_cells rows) b x room (omega arith) (raw_cells p) h))

  kept-kept : (b x : List ℕ) → kept_cells ≤ length b → length rows < most_players → AllOf LawfulLine rows → LawfulLine p → Holds 0 kept_cells (cells_of (flat (λ (p : PlayerLine). p.kept) rows)) b x
      → Holds 0 kept_cells (cells_of (flat (λ (p : PlayerLine). p.kept) (flat player_in (is ++ (player p ∷ []))))) b (paste x (length rows * width kept_field) p.kept (width kept_field))
  kept-kept b x room few lawful q h =
      let w = all_of_each LawfulLine (λ (p : PlayerLine). length p.kept ≡ width kept_field) (λ p r. r.kept_wide) rows lawful in
      let n = flat-length (λ (p : PlayerLine). p.kept) (width kept_field) rows w in
      let k = q.kept_wide in
      let l : List ℕ = flat (λ (p : PlayerLine). p.kept) rows in
      let e : flat (λ (p : PlayerLine). p.kept) (flat player_in (is ++ (player p ∷ []))) ≡ l ++ p.kept = ap (flat (λ (p : PlayerLine). p.kept)) rows_more ∙ flat_snoc (λ (p : PlayerLine). p.kept) rows p in
      subst (λ (m : List ℕ). Holds 0 kept_cells (cells_of m) b (paste x (length rows * width kept_field) p.kept (width kept_field))) (sym e)
      (subst (λ (i : ℕ). Holds 0 kept_cells (cells_of (l ++ p.kept)) b (paste x i p.kept (width kept_field))) n
      (subst (λ (j : ℕ). Holds 0 kept_cells (cells_of (l ++ p.kept)) b (paste x (length l) p.kept j)) k (holds-append 0 kept_cells b room p.kept l x h (omega arith))))

pub player-kept : (b x : Nine) → Long b → (e : List Line) (is : List Item) → RawHold e is b x → AllOf LawfulLine (flat player_in is) → length (flat player_in is) < most_players
    → (l : Line) (p : PlayerLine) → LawfulLine p → (ln : ℕ) → length (lines_of player_code 0 e) ≡ length (flat player_in is)
    → lines_of player_code 0 (e ++ (l ∷ [])) ≡ lines_of player_code 0 e ++ (ln ∷ []) → lines_of acceleration_code 0 (e ++ (l ∷ [])) ≡ lines_of acceleration_code 0 e
    → RawHold (e ++ (l ∷ [])) (is ++ (player p ∷ [])) b (store_player p (length (flat player_in is)) ln x)
unfolding store_player
player-kept b x long e is h lawful few l p q ln count own theirs =
    record {
      starts = number-kept is p (λ p. p.start) b.starts x.starts long.starts few h.starts;
      points = number-kept is p (λ p. p.points) b.points x.points long.points few h.points;
      ranks = number-kept is p (λ p. p.rank) b.ranks x.ranks long.ranks few h.ranks;
      kept = kept-kept is p b.kept x.kept long.kept few lawful q h.kept;
      opponents = entries-kept is p (λ e. e.id) refl b.opponents x.opponents long.opponents few h.opponents;
      colours = entries-kept is p (λ e. e.colour) refl b.colours x.colours long.colours few h.colours;
      results = entries-kept is p (λ e. e.result) refl b.results x.results long.results few h.results;
      text = subst (λ (t : List (List ℕ)). Holds 0 most_text (cells_of (flat ended t)) b.text x.text) (sym (flat_snoc text_in is (player p) ∙ append-nil (flat text_in is))) h.text;
      lines =
          subst (λ (m : List ℕ). Holds 0 line_cells (lines_content m (lines_of acceleration_code 0 (e ++ (l ∷ [])))) b.lines (set x.lines (length (flat player_in is)) ln)) (sym own)
          (subst (λ (m : List ℕ). Holds 0 line_cells (lines_content (lines_of player_code 0 e ++ (ln ∷ [])) m) b.lines (set x.lines (length (flat player_in is)) ln)) (sym theirs)
          (subst (λ (k : ℕ). Holds 0 line_cells (lines_content (lines_of player_code 0 e ++ (ln ∷ [])) (lines_of acceleration_code 0 e)) b.lines (set x.lines k ln)) count
          (first_grows line_cells most_players b.lines long.lines (lines_of player_code 0 e) (lines_of acceleration_code 0 e) x.lines h.lines ln (omega arith) (omega arith))));
    }

-- ---- any other item: no player is added
abbrev NoPlayer : Item → Type 0
NoPlayer i = player_in i ≡ []

rows_same : (is : List Item) (i : Item) → NoPlayer i → flat player_in (is ++ (i ∷ [])) ≡ flat player_in is
rows_same is i n = flat_snoc player_in is i ∙ ap (λ (l : List PlayerLine). flat player_in is ++ l) n ∙ append-nil (flat player_in is)

module _ (b x : Nine) (e e' : List Line) (is : List Item) (i : Item) (h : RawHold e is b x) (n : NoPlayer i) where
  -- with a text table and line numbers of its own
  pub other_kept : (t l : List ℕ)
      → Holds 0 most_text (cells_of (flat ended (flat text_in (is ++ (i ∷ []))))) b.text t
      → Holds 0 line_cells (lines_content (lines_of player_code 0 e') (lines_of acceleration_code 0 e')) b.lines l
      → RawHold e' (is ++ (i ∷ [])) b (record { starts = x.starts; points = x.points; ranks = x.ranks; kept = x.kept; opponents = x.opponents; colours = x.colours; results = x.results; text = t; lines = l })
  other_kept t l ht hl =
      let g = sym (rows_same is i n) in
      record {
        starts = subst (λ (ps : List PlayerLine). Holds 0 most_players (cells_of (map (λ (p : PlayerLine). p.start) ps)) b.starts x.starts) g h.starts;
        points = subst (λ (ps : List PlayerLine). Holds 0 most_players (cells_of (map (λ (p : PlayerLine). p.points) ps)) b.points x.points) g h.points;
        ranks = subst (λ (ps : List PlayerLine). Holds 0 most_players (cells_of (map (λ (p : PlayerLine). p.rank) ps)) b.ranks x.ranks) g h.ranks;
        kept = subst (λ (ps : List PlayerLine). Holds 0 kept_cells (cells_of (flat (λ (p : PlayerLine). p.kept) ps)) b.kept x.kept) g h.kept;
        opponents = subst (λ (ps : List PlayerLine). Holds 0 entry_cells (raw_grid (λ e. e.id) ps) b.opponents x.opponents) g h.opponents;
        colours = subst (λ (ps : List PlayerLine). Holds 0 entry_cells (raw_grid (λ e. e.colour) ps) b.colours x.colours) g h.colours;
        results = subst (λ (ps : List PlayerLine). Holds 0 entry_cells (raw_grid (λ e. e.result) ps) b.results x.results) g h.results;
        text = ht;
        lines = hl;
      }

-- no text added
text_same : (is : List Item) (i : Item) → text_in i ≡ [] → flat text_in (is ++ (i ∷ [])) ≡ flat text_in is
text_same is i n = flat_snoc text_in is i ∙ ap (λ (l : List (List ℕ)). flat text_in is ++ l) n ∙ append-nil (flat text_in is)

module _ (b x : Nine) (long : Long b) (e : List Line) (is : List Item) (h : RawHold e is b x) (l : Line) where
  abbrev Same : List ℕ → Type 0
  Same code = lines_of code 0 (e ++ (l ∷ [])) ≡ lines_of code 0 e

  lines_same : Same player_code → Same acceleration_code → Holds 0 line_cells (lines_content (lines_of player_code 0 (e ++ (l ∷ []))) (lines_of acceleration_code 0 (e ++ (l ∷ [])))) b.lines x.lines
  lines_same p a = rw (p, a) h.lines

  -- a line that leaves all tables as they are
  pub plain_kept : (i : Item) → NoPlayer i → text_in i ≡ [] → Same player_code → Same acceleration_code → RawHold (e ++ (l ∷ [])) (is ++ (i ∷ [])) b x
  plain_kept i n t p a =
      other_kept b x e (e ++ (l ∷ [])) is i h n x.text x.lines
      (subst (λ (ts : List (List ℕ)). Holds 0 most_text (cells_of (flat ended ts)) b.text x.text) (sym (text_same is i t)) h.text)
      (lines_same p a)

  -- a kept text line
  pub text-kept : (a : List ℕ) → length (flat ended (flat text_in is)) + length (ended a) ≤ most_text → Same player_code → Same acceleration_code
      → RawHold (e ++ (l ∷ [])) (is ++ (text a ∷ [])) b (store_text a (length (flat ended (flat text_in is))) x)
  unfolding store_text
  text-kept a few p q =
      let ts : List (List ℕ) = flat text_in is in
      let g : flat ended (flat text_in (is ++ (text a ∷ []))) ≡ flat ended ts ++ ended a = ap (flat ended) (flat_snoc text_in is (text a)) ∙ flat_snoc ended ts a in
      other_kept b x e (e ++ (l ∷ [])) is (text a) h refl (paste x.text (length (flat ended ts)) (ended a) (length (ended a))) x.lines
      (subst (λ (m : List ℕ). Holds 0 most_text (cells_of m) b.text (paste x.text (length (flat ended ts)) (ended a) (length (ended a)))) (sym g) (holds-append 0 most_text b.text long.text (ended a) (flat ended ts) x.text h.text few))
      (lines_same p q)

  -- an acceleration record's line number
  pub acceleration-kept : (a : Acceleration) (ln m : ℕ) → length (lines_of acceleration_code 0 e) ≡ m → m < most_accelerations → Same player_code → lines_of acceleration_code 0 (e ++ (l ∷ [])) ≡ lines_of acceleration_code 0 e ++ (ln ∷ [])
      → RawHold (e ++ (l ∷ [])) (is ++ (acceleration a ∷ [])) b (store_line (most_players + m) ln x)
  unfolding store_line
  acceleration-kept a ln m count few p own =
      other_kept b x e (e ++ (l ∷ [])) is (acceleration a) h refl x.text (set x.lines (most_players + m) ln)
      (subst (λ (ts : List (List ℕ)). Holds 0 most_text (cells_of (flat ended ts)) b.text x.text) (sym (text_same is (acceleration a) refl)) h.text)
      (rw (p, own)
      (subst (λ (k : ℕ). Holds 0 line_cells (lines_content (lines_of player_code 0 e) (lines_of acceleration_code 0 e ++ (ln ∷ []))) b.lines (set x.lines (most_players + k) ln)) count
      (second_grows line_cells most_players b.lines long.lines (lines_of player_code 0 e) (lines_of acceleration_code 0 e) x.lines h.lines ln (omega arith))))
