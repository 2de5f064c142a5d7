-- A player's line spells that player: each entry in its round, and blanks in the rounds past the last. Assumes nothing.
use mathlib.Core.Path.{◌≡◌, refl, sym, ap, ap₂, ◌∙◌, subst}
use mathlib.Core.Logic.{inl, inr}
use mathlib.Core.Bool.{Bool, true, false, cond, ◌&&◌, ◌||◌, not}
use mathlib.Core.List.{List, [], ◌∷◌, ◌++◌, map}
use Prim.Native.Nat.{ℕ, zero, suc, ◌+◌, ◌*◌, ◌-◌, ◌≤◌, ◌<◌}
use Prim.Native.Char.{code}
use native.Mathlib.Nat.{zero-add}
use native.Mathlib.Omega.{arith}
use lib.Dec.{eqb}
use lib.ListN.{length, get_or, take, replicate}
use borrow.Author.Tests.{eqb-true, not-true}
use Rattle.kit.specs.Lists.{all, any, among, from, flat, Each}
use Rattle.kit.specs.First.{AllOf}
use Rattle.kit.proofs.Bools.{and, both, within, among-all}
use Rattle.kit.proofs.Firsts.{found_of}
use Rattle.kit.proofs.Lists.{flat_append}
use Rattle.law.specs.Sizes.{most_rounds, most_start, most_rank}
use Rattle.law.specs.Lines.{allowed}
use Rattle.law.specs.Columns.{Field, blank, is_blank, cells, col, part, width, column, else_blank, after_code, code_field}
use Rattle.law.specs.Fields.{SpellsNumber, SpellsPoints, SpellsNumberOrBlank}
use Rattle.law.specs.Players.{player_code, kept_field, Slot, id_column, id_field, entry_colour_column, result_column, round_fields, game_colours, bye_results, unknown_result, held_game_results, slot_colours, slot_results, capital, SpellsSlot, PlayerLine, start_field, points_field, rank_field, every_round, player_fields}
use Rattle.law.specs.Items.{player, kind_of, 001-record, SpellsItem}
use Rattle.law.specs.Tournament.{Entry, Player, Tournament, blank_as, normal, no_slot, player_of}
use Rattle.law.specs.Entries.{no_entry, is_bye, is_another, is_game}
use Rattle.law.specs.Lawful.{LawfulPlayer}
use Rattle.law.specs.Writing.{Piece, blanks, filled, noughts, number, points_text, id_text, result_text, entries_from, player_line}
use Rattle.law.proofs.FieldsRead.{blanks-all}
use Rattle.law.proofs.ColumnLaws.{one_width, column_cell}
use Rattle.written.proofs.Laid.{Ordered, end_of, fields_of, cells-past, Stands, pieces_stand, laid_else, laid-long, Rising, else_past, laid-all}
use Rattle.written.proofs.Numbers.{with_blanks, filled-long, blanks-long, points-text, filled-allowed, replicate-allowed, points-allowed}

-- ---- an entry that a lawful tournament has
pub record GoodEntry (e : Entry) : Type 0 where
  pub id_small : e.id ≤ most_start
  pub colour_in : among e.colour slot_colours ≡ true
  pub colour_there : is_blank e.colour ≡ false
  pub result_in : among (result_text e.result) slot_results ≡ true
  pub result_there : is_blank e.result ≡ false
  pub bye_known : e.id ≡ 0 → eqb e.result unknown_result ≡ false
  pub capital_is : capital (result_text e.result) ≡ result_text e.result
  pub colour_clean : allowed e.colour ≡ true
  pub result_clean : allowed (result_text e.result) ≡ true

-- what holds of each of these bytes holds of one of them
module _ (e : Entry) (colours results : List ℕ) (c : among e.colour colours ≡ true) (r : among e.result results ≡ true) where
  good : e.id ≤ most_start → (e.id ≡ 0 → eqb e.result unknown_result ≡ false)
      → all (λ x. among x slot_colours) colours ≡ true → all (λ x. not (is_blank x)) colours ≡ true → all allowed colours ≡ true
      → all (λ x. among (result_text x) slot_results) results ≡ true → all (λ x. not (is_blank x)) results ≡ true → all (λ x. eqb (capital (result_text x)) (result_text x)) results ≡ true
      → all (λ x. allowed (result_text x)) results ≡ true
      → GoodEntry e
  good l known c1 c2 c3 r1 r2 r3 r4 =
      record {
        id_small = l;
        colour_in = among-all (λ x. among x slot_colours) e.colour colours c c1;
        colour_there = not-true (is_blank e.colour) (among-all (λ x. not (is_blank x)) e.colour colours c c2);
        result_in = among-all (λ x. among (result_text x) slot_results) e.result results r r1;
        result_there = not-true (is_blank e.result) (among-all (λ x. not (is_blank x)) e.result results r r2);
        bye_known = known;
        capital_is = eqb-true (capital (result_text e.result)) (result_text e.result) (among-all (λ x. eqb (capital (result_text x)) (result_text x)) e.result results r r3);
        colour_clean = among-all allowed e.colour colours c c3;
        result_clean = among-all (λ x. allowed (result_text x)) e.result results r r4;
      }

bye-good : (e : Entry) → is_bye e ≡ true → GoodEntry e
unfolding is_bye
bye-good e h =
    let a = and (eqb e.id 0 && eqb e.colour (code "-")) (among e.result bye_results) h in
    let b = and (eqb e.id 0) (eqb e.colour (code "-")) a.0 in
    let i = eqb-true e.id 0 b.0 in
    good e (code "-" ∷ []) bye_results (rw b.1 refl) a.1 (omega arith) (λ _. not-true (eqb e.result unknown_result) (among-all (λ x. not (eqb x unknown_result)) e.result bye_results a.1 refl)) refl refl refl refl refl refl refl

-- an id of a player is a start number
another_start : (t : Tournament) (p : Player) (id : ℕ) → AllOf (LawfulPlayer t.rounds) t.players → is_another t p id ≡ true → (1 ≤ id) × (id ≤ most_start)
another_start t p id k h =
    let q = found_of (LawfulPlayer t.rounds) (λ q. eqb q.start id) t.players k (and (not (eqb id p.start)) (any (λ q. eqb q.start id) t.players) h).1 in
    let v = eqb-true q.0.start id q.1 in
    let w = within 1 most_start q.0.start q.2.start in
    (omega arith, omega arith)

game-good : (t : Tournament) (p : Player) (e : Entry) → AllOf (LawfulPlayer t.rounds) t.players → is_game t p e ≡ true → GoodEntry e
unfolding is_game
game-good t p e k h =
    let a = and (is_another t p e.id && among e.colour game_colours) (among e.result held_game_results) h in
    let b = and (is_another t p e.id) (among e.colour game_colours) a.0 in
    let l = another_start t p e.id k b.0 in
    good e game_colours held_game_results b.1 a.1 l.1 (λ z. absurd (omega arith)) refl refl refl refl refl refl refl

pub entry-good : (t : Tournament) (p : Player) (e : Entry) → AllOf (LawfulPlayer t.rounds) t.players → is_bye e || is_game t p e ≡ true → GoodEntry e
entry-good t p e k h = go (is_bye e) refl h
  where
    go : (b : Bool) → is_bye e ≡ b → b || is_game t p e ≡ true → GoodEntry e
    go true u h = bye-good e u
    go false u h = game-good t p e k h

-- ---- the slot that it is written as, and that this says the entry again
abbrev pub slot_for : Entry → Slot
slot_for e = record { id = e.id; colour = e.colour; result = result_text e.result; used = true }

pub normal-again : (e : Entry) → GoodEntry e → normal (slot_for e) ≡ e
unfolding normal
normal-again e g = go (eqb e.id 0) refl
  where
    known : (d : ℕ) → eqb e.result unknown_result ≡ false → blank_as d (result_text e.result) ≡ e.result
    known d u = rw (u, g.result_there)

    unknown : (v : Bool) → eqb e.result unknown_result ≡ v → blank_as unknown_result (result_text e.result) ≡ e.result
    unknown true u = rw u (sym (eqb-true e.result unknown_result u))
    unknown false u = known unknown_result u

    go : (b : Bool) → eqb e.id 0 ≡ b
        → cond b (record { id = 0; colour = blank_as (code "-") e.colour; result = blank_as (code "Z") (result_text e.result) }) (record { id = e.id; colour = e.colour; result = blank_as unknown_result (result_text e.result) }) ≡ e
    go true u =
        let z = eqb-true e.id 0 u in
        rw g.colour_there (λ i. record { id = sym z i; colour = e.colour; result = known (code "Z") (g.bye_known z) i })
    go false u = λ i. record { id = e.id; colour = e.colour; result = unknown (eqb e.result unknown_result) refl i }

-- ---- one column
column_is : (row : List ℕ) (c x : ℕ) → part (column c) row ≡ x ∷ [] → col row c ≡ x
column_is row c x e = let u : col row c ∷ [] ≡ x ∷ [] = sym (column_cell row c) ∙ e in cc

-- ---- a round that is written
id-width : (r : ℕ) → width (id_field r) ≡ 4
id-width r = omega arith

nought_field : SpellsNumber (noughts 4) 0
nought_field = record { blanks = 0; first = code "0"; others = noughts 3; text = refl; digits = refl; value = refl }

id-text : (id : ℕ) → id ≤ most_start → SpellsNumberOrBlank (id_text 4 id) id
id-text id l = go (eqb id 0) refl
  where
    go : (b : Bool) → eqb id 0 ≡ b → SpellsNumberOrBlank (cond b (noughts 4) (filled blanks 4 id)) id
    go true u = inl (subst (SpellsNumber (noughts 4)) (sym (eqb-true id 0 u)) nought_field)
    go false u = inl (with_blanks 3 id (omega arith))

id-text-long : (id : ℕ) → id ≤ most_start → length (id_text 4 id) ≡ 4
id-text-long id l = go (eqb id 0)
  where
    go : (b : Bool) → length (cond b (noughts 4) (filled blanks 4 id)) ≡ 4
    go true = refl
    go false = filled-long blanks blanks-long 3 id (omega arith)

id-text-allowed : (id : ℕ) → id ≤ most_start → all allowed (id_text 4 id) ≡ true
id-text-allowed id l = go (eqb id 0)
  where
    go : (b : Bool) → all allowed (cond b (noughts 4) (filled blanks 4 id)) ≡ true
    go true = refl
    go false = filled-allowed blanks (replicate-allowed blank refl) 3 id (omega arith)

slot_spelled : (row : List ℕ) (r : ℕ) (e : Entry) → GoodEntry e → part (id_field r) row ≡ id_text (width (id_field r)) e.id → part (column (entry_colour_column r)) row ≡ e.colour ∷ [] → part (column (result_column r)) row ≡ result_text e.result ∷ []
    → SpellsSlot row r (slot_for e)
slot_spelled row r e g i c s =
    let colour-is = column_is row (entry_colour_column r) e.colour c in
    let result-is = column_is row (result_column r) (result_text e.result) s in
    record {
      id = subst (λ (l : List ℕ). SpellsNumberOrBlank l e.id) (sym (i ∙ ap (λ (w : ℕ). id_text w e.id) (id-width r))) (id-text e.id g.id_small);
      colour = sym colour-is;
      colour_in = ap (λ (x : ℕ). among x slot_colours) colour-is ∙ g.colour_in;
      result = sym (ap capital result-is ∙ g.capital_is);
      result_in = ap (λ (x : ℕ). among x slot_results) (ap capital result-is ∙ g.capital_is) ∙ g.result_in;
      used = sym (ap not (not-all (all is_blank (part (id_field r) row)) (all is_blank (part (column (result_column r)) row) && true) (ap (all is_blank) c ∙ rw g.colour_there refl)));
    }
  where
    not-all : (a d : Bool) → all is_blank (part (column (entry_colour_column r)) row) ≡ false → a && (all is_blank (part (column (entry_colour_column r)) row) && d) ≡ false
    not-all true d h = rw h refl
    not-all false d h = refl

pub entries-spelled : (row : List ℕ) (r : ℕ) (es : List Entry) → AllOf GoodEntry es → AllOf (Stands row) (entries_from r es) → Each (SpellsSlot row) (from r (length es)) (map slot_for es)
entries-spelled row r [] g h = tt
entries-spelled row r (e ∷ es) g h = (slot_spelled row r e g.0 h.0 h.1.0 h.1.1.0, entries-spelled row (r + 1) es g.1 h.1.1.1)

-- the letter that stands for a result
entries-result : (row : List ℕ) (r : ℕ) (es : List Entry) → AllOf (Stands row) (entries_from r es) → (i : ℕ) → i < length es → col row (result_column (r + i)) ≡ result_text (get_or es i no_entry).result
entries-result row r [] h i l = absurd (omega arith)
entries-result row r (e ∷ es) h zero l =
    let here : r + 0 ≡ r = omega arith in
    ap (λ (k : ℕ). col row (result_column k)) here ∙ column_is row (result_column r) (result_text e.result) h.1.1.0
entries-result row r (e ∷ es) h (suc i) l =
    let next : r + suc i ≡ r + 1 + i = omega arith in
    ap (λ (k : ℕ). col row (result_column k)) next ∙ entries-result row (r + 1) es h.1.1.1 i (omega arith)

-- ---- a round past the end of the line
past_slot : (row : List ℕ) (r : ℕ) → length row < id_column r → SpellsSlot row r no_slot
past_slot row r l =
    let i = cells-past row (id_column r - 1) (width (id_field r)) (omega arith) in
    let c = cells-past row (entry_colour_column r - 1) (width (column (entry_colour_column r))) (omega arith) in
    let s = cells-past row (result_column r - 1) (width (column (result_column r))) (omega arith) in
    let colour-is = column_is row (entry_colour_column r) blank (c ∙ ap (λ (w : ℕ). replicate w blank) (one_width (entry_colour_column r))) in
    let result-is = column_is row (result_column r) blank (s ∙ ap (λ (w : ℕ). replicate w blank) (one_width (result_column r))) in
    record {
      id = inr (ap (all is_blank) i ∙ blanks-all (width (id_field r)), refl);
      colour = sym colour-is;
      colour_in = ap (λ (x : ℕ). among x slot_colours) colour-is;
      result = sym (ap capital result-is);
      result_in = ap (λ (x : ℕ). among (capital x) slot_results) result-is;
      used = sym (ap not (both (ap (all is_blank) i ∙ blanks-all (width (id_field r))) (both (ap (all is_blank) c ∙ blanks-all (width (column (entry_colour_column r)))) (both (ap (all is_blank) s ∙ blanks-all (width (column (result_column r)))) refl))));
    }

past-slots : (row : List ℕ) (r n : ℕ) → length row < id_column r → Each (SpellsSlot row) (from r n) (replicate n no_slot)
past-slots row r zero l = tt
past-slots row r (suc n) l = (past_slot row r l, past-slots row (r + 1) n (omega arith))

-- ---- lists of rounds
each_append : {A B : Type 0} (S : A → B → Type 0) (k k' : List A) (l l' : List B) → Each S k l → Each S k' l' → Each S (k ++ k') (l ++ l')
each_append S [] k' [] l' h h' = h'
each_append S [] k' (b ∷ l) l' h h' = absurd h
each_append S (a ∷ k) k' [] l' h h' = absurd h
each_append S (a ∷ k) k' (b ∷ l) l' h h' = (h.0, each_append S k k' l l' h.1 h')

from-append : (i m n : ℕ) → from i (m + n) ≡ from i m ++ from (i + m) n
from-append i zero n = ap₂ from (omega arith) (zero-add n)
from-append i (suc m) n =
    let e : suc m + n ≡ suc (m + n) = omega arith in
    let f : i + 1 + m ≡ i + suc m = omega arith in
    ap (from i) e ∙ ap (λ (l : List ℕ). i ∷ l) (from-append (i + 1) m n ∙ ap (λ (j : ℕ). from (i + 1) m ++ from j n) f)

every_split : (R : ℕ) → R ≤ most_rounds → every_round ≡ from 1 R ++ from (1 + R) (most_rounds - R)
every_split R l = let e : most_rounds ≡ R + (most_rounds - R) = omega arith in ap (from 1) e ∙ from-append 1 R (most_rounds - R)

-- ---- the pieces of the entries are in order and end with the last one's result
entries_ordered : (c r : ℕ) (es : List Entry) → 1 ≤ r → c ≤ id_column r → AllOf GoodEntry es → Ordered c (entries_from r es)
entries_ordered c r [] a l g = tt
entries_ordered c r (e ∷ es) a l g = (
  l,
  omega arith,
  ap (λ (w : ℕ). length (id_text w e.id)) (id-width r) ∙ id-text-long e.id g.0.id_small ∙ sym (id-width r),
  (
    omega arith,
    omega arith,
    sym (one_width (entry_colour_column r)),
    (omega arith, omega arith, sym (one_width (result_column r)), entries_ordered (suc (result_column r)) (r + 1) es (omega arith) (omega arith) g.1),
  ),
)

entries-end : (r : ℕ) (es : List Entry) → 1 ≤ r → end_of (90 + 10 * (r - 1)) (entries_from r es) ≡ 90 + 10 * (r - 1 + length es)
entries-end r [] a = omega arith
entries-end r (e ∷ es) a =
    let u : suc (result_column r) ≡ 90 + 10 * (r + 1 - 1) = omega arith in
    ap (λ (c : ℕ). end_of c (entries_from (r + 1) es)) u ∙ entries-end (r + 1) es (omega arith) ∙ omega arith

entries_fields : (r : ℕ) (es : List Entry) → fields_of (entries_from r es) ≡ flat round_fields (from r (length es))
unfolding flat
entries_fields r [] = refl
entries_fields r (e ∷ es) = ap (λ (l : List Field). id_field r ∷ column (entry_colour_column r) ∷ column (result_column r) ∷ l) (entries_fields (r + 1) es)

rising : (c r n : ℕ) → 1 ≤ r → c ≤ id_column r → Rising c (flat round_fields (from r n))
unfolding flat
rising c r zero a l = tt
rising c r (suc n) a l = (omega arith, (omega arith, (omega arith, rising (suc (result_column r)) (r + 1) n (omega arith) (omega arith))))

entries-allowed : (r : ℕ) (es : List Entry) → AllOf GoodEntry es → AllOf (λ (x : Piece). all allowed x.1 ≡ true) (entries_from r es)
entries-allowed r [] g = tt
entries-allowed r (e ∷ es) g = (
  ap (λ (w : ℕ). all allowed (id_text w e.id)) (id-width r) ∙ id-text-allowed e.id g.0.id_small,
  (both g.0.colour_clean refl, (both g.0.result_clean refl, entries-allowed (r + 1) es g.1)),
)

-- ---- the line
abbrev pieces001 : Player → List Piece
pieces001 p = number blanks start_field p.start ∷ (kept_field, p.kept) ∷ (points_field, points_text blank p.points) ∷ number blanks rank_field p.rank ∷ entries_from 1 p.entries

-- what the line spells
unfoldable pub line_of : Player → PlayerLine
line_of p = record { start = p.start; kept = p.kept; points = p.points; rank = p.rank; slots = map slot_for p.entries ++ replicate (most_rounds - length p.entries) no_slot }

module _ (R : ℕ) (p : Player) (k : LawfulPlayer R p) (small : R ≤ most_rounds) (g : AllOf GoodEntry p.entries) where
  ordered : Ordered after_code (pieces001 p)
  ordered =
      let s = (within 1 most_start p.start k.start).1 in
      let r = (within 1 most_rank p.rank k.rank).1 in (
        omega arith,
        omega arith,
        filled-long blanks blanks-long 3 p.start (omega arith),
        (
          omega arith,
          omega arith,
          k.kept_wide,
          (
            omega arith,
            omega arith,
            refl,
            (omega arith, omega arith, filled-long blanks blanks-long 3 p.rank (omega arith), entries_ordered 90 1 p.entries (omega arith) (omega arith) g),
          ),
        ),
      )

  -- "exactly 89+10R bytes for R rounds"
  pub player-long : length (player_line p) ≡ 89 + 10 * R
  player-long =
      let l = laid-long player_code after_code (pieces001 p) refl ordered in
      let e = entries-end 1 p.entries (omega arith) in
      let n = k.entries in
      omega arith

  pub player-result : (i : ℕ) → i < R → col (player_line p) (result_column (1 + i)) ≡ result_text (get_or p.entries i no_entry).result
  player-result i l =
      let n = k.entries in
      entries-result (player_line p) 1 p.entries (pieces_stand player_code after_code (pieces001 p) refl ordered).1.1.1.1 i (omega arith)

  kind : kind_of (player_line p) ≡ 001-record
  unfolding kind_of cells
  kind = refl

  slots : Each (SpellsSlot (player_line p)) every_round (line_of p).slots
  unfolding line_of
  slots =
      let n = k.entries in
      let l = player-long in
      let row : List ℕ = player_line p in
      let s = pieces_stand player_code after_code (pieces001 p) refl ordered in
      subst (λ (rs : List ℕ). Each (SpellsSlot row) rs (map slot_for p.entries ++ replicate (most_rounds - length p.entries) no_slot)) (sym (every_split (length p.entries) (omega arith)))
      (each_append (SpellsSlot row) (from 1 (length p.entries)) (from (1 + length p.entries) (most_rounds - length p.entries)) (map slot_for p.entries) (replicate (most_rounds - length p.entries) no_slot)
      (entries-spelled row 1 p.entries g s.1.1.1.1)
      (past-slots row (1 + length p.entries) (most_rounds - length p.entries) (omega arith)))

  else_blank_lem : else_blank after_code player_fields (player_line p) ≡ true
  unfolding flat
  else_blank_lem =
      let n = k.entries in
      let m : ℕ = length p.entries in
      let more : List Field = flat round_fields (from (1 + m) (most_rounds - m)) in
      let f : flat round_fields every_round ≡ fields_of (entries_from 1 p.entries) ++ more =
      ap (flat round_fields) (every_split m (omega arith)) ∙ flat_append round_fields (from 1 m) (from (1 + m) (most_rounds - m)) ∙ ap (λ (l : List Field). l ++ more) (sym (entries_fields 1 p.entries)) in
      let e : end_of after_code (pieces001 p) ≡ 90 + 10 * m = entries-end 1 p.entries (omega arith) ∙ omega arith in
      let l = player-long in
      let past : else_blank (90 + 10 * m) more (player_line p) ≡ true = else_past (player_line p) (90 + 10 * m) more (omega arith) (rising (90 + 10 * m) (1 + m) (most_rounds - m) (omega arith) (omega arith)) in
      subst (λ (fs : List Field). else_blank after_code (start_field ∷ kept_field ∷ points_field ∷ rank_field ∷ fs) (player_line p) ≡ true) (sym f)
      (laid_else player_code after_code (pieces001 p) more refl ordered (subst (λ (c : ℕ). else_blank c more (player_line p) ≡ true) (sym e) past))

  pub player-item : SpellsItem (player_line p) (player (line_of p))
  unfolding line_of
  player-item =
      let s = (within 1 most_start p.start k.start).1 in
      let r = (within 1 most_rank p.rank k.rank).1 in
      let q = k.points in
      let st = pieces_stand player_code after_code (pieces001 p) refl ordered in (
        kind,
        record {
          start = subst (λ (l : List ℕ). SpellsNumber l p.start) (sym st.0) (with_blanks 3 p.start (omega arith));
          start_in = k.start;
          kept = sym st.1.0;
          kept_is = k.kept;
          points = subst (λ (l : List ℕ). SpellsPoints l p.points) (sym st.1.1.0) (points-text blank p.points (inl refl) (omega arith));
          rank = subst (λ (l : List ℕ). SpellsNumber l p.rank) (sym st.1.1.1.0) (with_blanks 3 p.rank (omega arith));
          rank_in = k.rank;
          slots = slots;
          nothing_else = else_blank_lem;
        },
      )

  pub player-allowed : all allowed (player_line p) ≡ true
  player-allowed =
      let s = (within 1 most_start p.start k.start).1 in
      let r = (within 1 most_rank p.rank k.rank).1 in
      let b = replicate-allowed blank refl in
      laid-all allowed refl 1 ((code_field, player_code) ∷ pieces001 p) (
        refl,
        (
          filled-allowed blanks b 3 p.start (omega arith),
          (k.kept_clean, (points-allowed blank p.points refl, (filled-allowed blanks b 3 p.rank (omega arith), entries-allowed 1 p.entries g))),
        ),
      )

  -- and the line says the player again
  pub player-again : player_of R (line_of p) ≡ p
  unfolding line_of
  player-again =
      let n = k.entries in
      let e : take R (map slot_for p.entries ++ replicate (most_rounds - length p.entries) no_slot) ≡ map slot_for p.entries =
      lib.Seq.take_at (map slot_for p.entries) (replicate (most_rounds - length p.entries) no_slot) R (lib.ListN.length-map p.entries slot_for ∙ n) in
      λ i. record { start = p.start; kept = p.kept; points = p.points; rank = p.rank; entries = (ap (map normal) e ∙ normals p.entries g) i }
    where
      normals : (es : List Entry) → AllOf GoodEntry es → map normal (map slot_for es) ≡ es
      normals [] g = refl
      normals (e ∷ es) g = ap₂ (λ (x : Entry) (l : List Entry). x ∷ l) (normal-again e g.0) (normals es g.1)
