-- Line by line: what a line does to the state and the statement's first fault of that line agree. Assumes nothing.
use mathlib.Core.Path.{◌≡◌, refl, sym, ap, ap₂, ◌∙◌, subst}
use mathlib.Core.Bool.{Bool, true, false, cond, ◌&&◌, not}
use mathlib.Core.Option.{Option, none, some}
use mathlib.Core.List.{List, [], ◌∷◌, ◌++◌, append-nil}
use Prim.Native.Nat.{ℕ, ◌+◌}
use native.Mathlib.Omega.{arith}
use lib.Dec.{eqb, ltb}
use lib.ListN.{length, get_or, set, replicate, length-append, length-replicate, get_or-map}
use lib.Seq.{append_snoc}
use borrow.Author.Tests.{ltb-false, le-leb}
use Rattle.kit.specs.Lists.{all, any, among, is_one_of, is_empty, each_after, only_or, flat, first}
use Rattle.kit.specs.First.{AllOf}
use Rattle.kit.specs.Decides.{to, is_some}
use Rattle.kit.specs.Table.{Holds}
use Rattle.kit.proofs.Bools.{clash, and, both, among-all, all_append}
use Rattle.kit.proofs.Lists.{flat_snoc}
use Rattle.types.specs.declared.Acceleration.{Acceleration}
use Rattle.law.specs.Sizes.{most_line, most_players, most_accelerations, most_text}
use Rattle.law.specs.Lines.{allowed, Line, is_ended}
use Rattle.law.specs.Columns.{row_of, part, code_field}
use Rattle.law.specs.Text.{text_codes, ended, SpellsText}
use Rattle.law.specs.Heads.{initial_colours}
use Rattle.law.specs.Scoring.{values, scoring_of}
use Rattle.law.specs.Accelerations.{acceleration_code}
use Rattle.law.specs.Players.{PlayerLine, player_code}
use Rattle.law.specs.Items.{Item, passed, text, rounds, colour, scoring, acceleration, player, Kind, passed_over, kept-text, 142-record, 152-record, 162-record, 250-record, 001-record, unlisted, kind_of}
use Rattle.law.specs.Lawful.{no_acceleration}
use Rattle.law.specs.Tournament.{text_in, rounds_in, colour_in, scoring_in, acceleration_in, player_in}
use Rattle.law.specs.Spelling.{is_sound, SpellsLine, no_line}
use Rattle.law.specs.Refusals.{bad_byte, no_cr, too_long, not_listed, bad_field, again, too_many, line_faults, is_again, is_too_many, only_if, lines_of, line_fault_number}
use Rattle.law.proofs.RecordsRead.{text_of, rounds_of_row, colour_of, given_of, acceleration_of, player_of, text-line, rounds-line, colour-line, scoring-line, acceleration-line, player-line, item_as, item_of}
use Rattle.law.proofs.ColumnLaws.{cells-blanks}
use Rattle.law.proofs.Faults.{line_items, lines-spelled, is_unlisted, test_after, test_line}
use Rattle.law.proofs.LinesRead.{is_new, is_few, LinesGood, each_snoc}
use Rattle.law.proofs.LinesLawful.{fine, colours_fine, players_fine}
use Rattle.law.proofs.NewAndFew.{few-fits}
use Rattle.law.proofs.Seats.{text-listed, player_lines_lem, acceleration_lines, is001, is250, player_code_is, acceleration_code_is}
use Rattle.join.specs.Run.{Way, on, stop, Match}
use Rattle.join.specs.Store.{Nine, Count, State, state, store_player, store_text, store_line, count_player, count_text, count_rounds, count_colour, count_scoring, count_acceleration, code_place, place_of, refuse_or, step_text, step_rounds, step_colour, step_scoring, step_acceleration, step_player, step_row, step_line}
use Rattle.join.specs.Grid.{first_from}
use Rattle.join.specs.Kept.{RawHold, CountedBy, Counted, Long}
use Rattle.join.proofs.Cells.{holds_snoc}
use Rattle.join.proofs.Firsts.{first_as, first_at, some_first, to_some}
use Rattle.join.proofs.Codes.{seen_of, repeated_is, seen_more}
use Rattle.join.proofs.Keeps.{lines_snoc, player-kept, plain_kept, text-kept, acceleration-kept}

-- the state after some lines
pub record After (b : Nine) (e : List Line) (s : State) : Type 0 where
  pub items : List Item
  pub good : LinesGood [] e items
  pub line_is : s.line ≡ length e
  pub counted : Counted seen_of items s.count
  pub raw : RawHold e items b s.tables

-- ---- the number of a line's first fault
abbrev pub fault_of : List Line → Line → Option ℕ
fault_of e l = to line_fault_number (first (λ f. test_line f e l) line_faults)

abbrev item_fault : List Item → Option Item → Option ℕ
item_fault is none = some 7
item_fault is (some i) = cond (is_again is i) (some 8) (cond (is_too_many is i) (some 9) none)

abbrev row_fault : Bool → List Item → Option Item → Option ℕ
row_fault true is o = some 6
row_fault false is o = item_fault is o

-- ---- the counts after an item
module _ (is : List Item) (i : Item) (c : Count) where
  counted_as : CountedBy seen_of (flat text_in is ++ text_in i) (flat rounds_in is ++ rounds_in i) (flat colour_in is ++ colour_in i) (flat scoring_in is ++ scoring_in i) (flat acceleration_in is ++ acceleration_in i) (flat player_in is ++ player_in i) c
      → Counted seen_of (is ++ (i ∷ [])) c
  counted_as h = rw (flat_snoc text_in is i, flat_snoc rounds_in is i, flat_snoc colour_in is i, flat_snoc scoring_in is i, flat_snoc acceleration_in is i, flat_snoc player_in is i) h

-- an item and its line are good after those before them
after_snoc : (f : List Item → Item → Bool) (e is : List Item) (i : Item) → each_after f e is ≡ true → f (e ++ is) i ≡ true → each_after f e (is ++ (i ∷ [])) ≡ true
after_snoc f e [] i h k = both (rw append-nil at k) refl
after_snoc f e (x ∷ is) i h k =
    let u = and (f e x) (each_after f (e ++ (x ∷ [])) is) h in
    both u.0 (after_snoc f (e ++ (x ∷ [])) is i u.1 (rw (append_snoc e x is) k))

sound_snoc : (e : List Line) (l : Line) → all is_sound e ≡ true → is_sound l ≡ true → all is_sound (e ++ (l ∷ [])) ≡ true
sound_snoc e l h k = all_append is_sound e (l ∷ []) h (both k refl)

good_snoc : (e : List Line) (is : List Item) (l : Line) (i : Item) → LinesGood [] e is → is_sound l ≡ true → SpellsLine l i → is_again is i ≡ false → is_too_many is i ≡ false → LinesGood [] (e ++ (l ∷ [])) (is ++ (i ∷ []))
good_snoc e is l i g s h n f =
    record {
      sound = sound_snoc e l g.sound s;
      spelled = each_snoc SpellsLine e is l i g.spelled h;
      new = after_snoc is_new [] is i g.new (ap not n);
      few = after_snoc is_few [] is i g.few (ap not f);
    }

-- ---- one line after a state
module _ (b : Nine) (long : Long b) (e : List Line) (s : State) (h : After b e s) (l : Line) (sound : is_sound l ≡ true) where
  abbrev is : List Item
  is = h.items

  abbrev row : List ℕ
  row = row_of l.text

  abbrev c : Count
  c = s.count

  abbrev New : State → Type 0
  New t = After b (e ++ (l ∷ [])) t

  line_more : s.line + 1 ≡ length (e ++ (l ∷ []))
  line_more = let k = h.line_is in let m = length-append e (l ∷ []) in omega arith

  -- the line numbers
  no_player-line : is001 (kind_of row) ≡ false → lines_of player_code 0 (e ++ (l ∷ [])) ≡ lines_of player_code 0 e
  no_player-line k = lines_snoc player_code 0 e l ∙ ap (λ (v : Bool). lines_of player_code 0 e ++ only_if v (0 + length e + 1)) (player_code_is row ∙ k) ∙ append-nil (lines_of player_code 0 e)

  no_record_line : is250 (kind_of row) ≡ false → lines_of acceleration_code 0 (e ++ (l ∷ [])) ≡ lines_of acceleration_code 0 e
  no_record_line k = lines_snoc acceleration_code 0 e l ∙ ap (λ (v : Bool). lines_of acceleration_code 0 e ++ only_if v (0 + length e + 1)) (acceleration_code_is row ∙ k) ∙ append-nil (lines_of acceleration_code 0 e)

  ln_is : 0 + length e + 1 ≡ s.line + 1
  ln_is = let k = h.line_is in omega arith

  -- ---- a line passed over, and the three that say something once: all tables stay
  module _ (i : Item) (hi : SpellsLine l i) (new : is_again is i ≡ false) (few : is_too_many is i ≡ false) where
    good : LinesGood [] (e ++ (l ∷ [])) (is ++ (i ∷ []))
    good = good_snoc e is l i h.good sound hi new few

    plain : player_in i ≡ [] → text_in i ≡ [] → is001 (kind_of row) ≡ false → is250 (kind_of row) ≡ false → (c' : Count) → Counted seen_of (is ++ (i ∷ [])) c' → New (state (s.line + 1) c' s.tables)
    plain np nt k1 k2 c' k =
        record {
          items = is ++ (i ∷ []);
          good = good;
          line_is = line_more;
          counted = k;
          raw = plain_kept b s.tables long e is h.raw l i np nt (no_player-line k1) (no_record_line k2);
        }

  passed-went : SpellsLine l passed → is_again is passed ≡ false → is_too_many is passed ≡ false → New (state (s.line + 1) c s.tables)
  passed-went hi new few =
      plain passed hi new few refl refl (ap is001 hi) (ap is250 hi) c
      (counted_as is passed c (rw (append-nil (flat text_in is), append-nil (flat rounds_in is), append-nil (flat colour_in is), append-nil (flat scoring_in is), append-nil (flat acceleration_in is), append-nil (flat player_in is)) h.counted))

  rounds-went : (n : ℕ) → SpellsLine l (rounds n) → flat rounds_in is ≡ [] → is_again is (rounds n) ≡ false → is_too_many is (rounds n) ≡ false → New (state (s.line + 1) (count_rounds n c) s.tables)
  unfolding count_rounds
  rounds-went n hi z new few =
      let k = h.counted in
      plain (rounds n) hi new few refl refl (ap is001 hi.0) (ap is250 hi.0) (count_rounds n c)
      (counted_as is (rounds n) (count_rounds n c)
      (rw (append-nil (flat text_in is), z, append-nil (flat colour_in is), append-nil (flat scoring_in is), append-nil (flat acceleration_in is), append-nil (flat player_in is))
      (record { players = k.players; accelerations = k.accelerations; text = k.text; records = k.records; seen = k.seen; stated = refl; rounds = refl; colour = k.colour; scored = k.scored; values_are = k.values_are })))

  colour-went : (x : ℕ) → SpellsLine l (colour x) → flat colour_in is ≡ [] → is_again is (colour x) ≡ false → is_too_many is (colour x) ≡ false → New (state (s.line + 1) (count_colour x c) s.tables)
  unfolding count_colour
  colour-went x hi z new few =
      let k = h.counted in
      plain (colour x) hi new few refl refl (ap is001 hi.0) (ap is250 hi.0) (count_colour x c)
      (counted_as is (colour x) (count_colour x c)
      (rw (append-nil (flat text_in is), append-nil (flat rounds_in is), z, append-nil (flat scoring_in is), append-nil (flat acceleration_in is), append-nil (flat player_in is))
      (record { players = k.players; accelerations = k.accelerations; text = k.text; records = k.records; seen = k.seen; stated = k.stated; rounds = k.rounds; colour = refl; scored = k.scored; values_are = k.values_are })))

  scoring-went : (g : List (ℕ × ℕ)) → SpellsLine l (scoring g) → flat scoring_in is ≡ [] → is_again is (scoring g) ≡ false → is_too_many is (scoring g) ≡ false → New (state (s.line + 1) (count_scoring (values (scoring_of g)) c) s.tables)
  unfolding count_scoring
  scoring-went g hi z new few =
      let k = h.counted in
      plain (scoring g) hi new few refl refl (ap is001 hi.0) (ap is250 hi.0) (count_scoring (values (scoring_of g)) c)
      (counted_as is (scoring g) (count_scoring (values (scoring_of g)) c)
      (rw (append-nil (flat text_in is), append-nil (flat rounds_in is), append-nil (flat colour_in is), z, append-nil (flat acceleration_in is), append-nil (flat player_in is))
      (record { players = k.players; accelerations = k.accelerations; text = k.text; records = k.records; seen = k.seen; stated = k.stated; rounds = k.rounds; colour = k.colour; scored = refl; values_are = refl })))

  -- ---- a kept text line
  code_of_kept : (a : List ℕ) → SpellsText row a → part code_field row ≡ part code_field a
  code_of_kept a t = let k = t.kept_is in ap (part code_field) k.text ∙ cells-blanks a k.blanks 0 3

  text-went : (a : List ℕ) → SpellsLine l (text a) → is_again is (text a) ≡ false → is_too_many is (text a) ≡ false
      → New (state (s.line + 1) (count_text (code_place (part code_field row) 0 text_codes) (length (ended a)) c) (store_text a c.text s.tables))
  unfolding count_text is_too_many
  text-went a hi new few =
      let k = h.counted in
      let room = ltb-false most_text (length (flat ended (flat text_in is)) + length (ended a)) few in
      let same_code = code_of_kept a hi.1 in
      let listed : is_one_of (part code_field a) text_codes ≡ true = ap (λ (x : List ℕ). is_one_of x text_codes) (sym same_code) ∙ text-listed row hi.0 in
      record {
        items = is ++ (text a ∷ []);
        good = good_snoc e is l (text a) h.good sound hi new few;
        line_is = line_more;
        counted =
            counted_as is (text a) (count_text (code_place (part code_field row) 0 text_codes) (length (ended a)) c)
            (rw (append-nil (flat rounds_in is), append-nil (flat colour_in is), append-nil (flat scoring_in is), append-nil (flat acceleration_in is), append-nil (flat player_in is))
            (record {
              players = k.players;
              accelerations = k.accelerations;
              text = ap (λ (n : ℕ). n + length (ended a)) k.text ∙ sym (ap length (flat_snoc ended (flat text_in is) a) ∙ length-append (flat ended (flat text_in is)) (ended a));
              records = k.records;
              seen = ap₂ (λ (v : List Bool) (x : List ℕ). set v (code_place x 0 text_codes) true) k.seen same_code ∙ sym (seen_more a listed (flat text_in is));
              stated = k.stated;
              rounds = k.rounds;
              colour = k.colour;
              scored = k.scored;
              values_are = k.values_are;
            }));
        raw = subst (λ (n : ℕ). RawHold (e ++ (l ∷ [])) (is ++ (text a ∷ [])) b (store_text a n s.tables)) (sym k.text) (text-kept b s.tables long e is h.raw l a room (no_player-line (ap is001 hi.0)) (no_record_line (ap is250 hi.0)));
      }

  -- ---- an acceleration record
  acceleration-went : (a : Acceleration) → SpellsLine l (acceleration a) → is_again is (acceleration a) ≡ false → is_too_many is (acceleration a) ≡ false
      → New (state (s.line + 1) (count_acceleration a c) (store_line (most_players + c.accelerations) (s.line + 1) s.tables))
  unfolding count_acceleration is_too_many
  acceleration-went a hi new few =
      let k = h.counted in
      let room = ltb-false most_accelerations (length (flat acceleration_in is) + 1) few in
      let n = acceleration_lines e is h.good.spelled in
      let own : lines_of acceleration_code 0 (e ++ (l ∷ [])) ≡ lines_of acceleration_code 0 e ++ ((s.line + 1) ∷ []) =
      lines_snoc acceleration_code 0 e l ∙ ap (λ (v : Bool). lines_of acceleration_code 0 e ++ only_if v (0 + length e + 1)) (acceleration_code_is row ∙ ap is250 hi.0) ∙ ap (λ (m : ℕ). lines_of acceleration_code 0 e ++ (m ∷ [])) ln_is in
      record {
        items = is ++ (acceleration a ∷ []);
        good = good_snoc e is l (acceleration a) h.good sound hi new few;
        line_is = line_more;
        counted =
            counted_as is (acceleration a) (count_acceleration a c)
            (rw (append-nil (flat text_in is), append-nil (flat rounds_in is), append-nil (flat colour_in is), append-nil (flat scoring_in is), append-nil (flat player_in is))
            (record {
              players = k.players;
              accelerations = ap (λ (n : ℕ). n + 1) k.accelerations ∙ sym (length-append (flat acceleration_in is) (a ∷ []));
              text = k.text;
              records =
                  subst (λ (j : ℕ). Holds no_acceleration most_accelerations (λ i. get_or (flat acceleration_in is ++ (a ∷ [])) i no_acceleration) (replicate most_accelerations no_acceleration) (set c.records j a)) (sym k.accelerations)
                  (holds_snoc no_acceleration most_accelerations (replicate most_accelerations no_acceleration) (let z = length-replicate most_accelerations no_acceleration in omega arith) (flat acceleration_in is) c.records a k.records (omega arith));
              seen = k.seen;
              stated = k.stated;
              rounds = k.rounds;
              colour = k.colour;
              scored = k.scored;
              values_are = k.values_are;
            }));
        raw = subst (λ (m : ℕ). RawHold (e ++ (l ∷ [])) (is ++ (acceleration a ∷ [])) b (store_line (most_players + m) (s.line + 1) s.tables)) (sym k.accelerations)
            (acceleration-kept b s.tables long e is h.raw l a (s.line + 1) (length (flat acceleration_in is)) n (omega arith) (no_player-line (ap is001 hi.0)) own);
      }

  -- ---- a player
  player-went : (p : PlayerLine) → SpellsLine l (player p) → is_again is (player p) ≡ false → is_too_many is (player p) ≡ false
      → New (state (s.line + 1) (count_player c) (store_player p c.players (s.line + 1) s.tables))
  unfolding count_player is_too_many
  player-went p hi new few =
      let k = h.counted in
      let room = ltb-false most_players (length (flat player_in is) + 1) few in
      let n = player_lines_lem e is h.good.spelled in
      let own : lines_of player_code 0 (e ++ (l ∷ [])) ≡ lines_of player_code 0 e ++ ((s.line + 1) ∷ []) =
      lines_snoc player_code 0 e l ∙ ap (λ (v : Bool). lines_of player_code 0 e ++ only_if v (0 + length e + 1)) (player_code_is row ∙ ap is001 hi.0) ∙ ap (λ (m : ℕ). lines_of player_code 0 e ++ (m ∷ [])) ln_is in
      record {
        items = is ++ (player p ∷ []);
        good = good_snoc e is l (player p) h.good sound hi new few;
        line_is = line_more;
        counted =
            counted_as is (player p) (count_player c)
            (rw (append-nil (flat text_in is), append-nil (flat rounds_in is), append-nil (flat colour_in is), append-nil (flat scoring_in is), append-nil (flat acceleration_in is))
            (record {
              players = ap (λ (n : ℕ). n + 1) k.players ∙ sym (length-append (flat player_in is) (p ∷ []));
              accelerations = k.accelerations;
              text = k.text;
              records = k.records;
              seen = k.seen;
              stated = k.stated;
              rounds = k.rounds;
              colour = k.colour;
              scored = k.scored;
              values_are = k.values_are;
            }));
        raw = subst (λ (m : ℕ). RawHold (e ++ (l ∷ [])) (is ++ (player p ∷ [])) b (store_player p m (s.line + 1) s.tables)) (sym k.players)
            (player-kept b s.tables long e is h.raw (players_fine e is h.good.sound h.good.spelled) (omega arith) l p (fine l (player p) sound hi) (s.line + 1) n own (no_record_line (ap is250 hi.0)));
      }

  -- ---- 8 and 9 by counts and tables are 8 and 9 by the items before
  empty_is : {A : Type 0} (m : List A) → not (is_empty m) ≡ false → m ≡ []
  empty_is [] n = refl
  empty_is (x ∷ m) n = clash (sym n)

  colour-again : not (eqb c.colour 0) ≡ not (is_empty (flat colour_in is))
  colour-again = ap (λ (x : ℕ). not (eqb x 0)) h.counted.colour ∙ go (flat colour_in is) (colours_fine e is h.good.sound h.good.spelled)
    where
      go : (m : List ℕ) → AllOf (λ x. among x initial_colours ≡ true) m → not (eqb (only_or 0 m) 0) ≡ not (is_empty m)
      go [] f = refl
      go (x ∷ m) f = among-all (λ x. not (eqb x 0)) x initial_colours f.0 refl

  start-again : (id : ℕ) → is_some (place_of s.tables.starts c.players id) ≡ any (λ (q : PlayerLine). eqb q.start id) (flat player_in is)
  unfolding place_of
  start-again id =
      let rs : List PlayerLine = flat player_in is in
      let fit = (few-fits is h.good.few).players in
      ap (λ (n : ℕ). is_some (first_from (λ i. eqb (get_or s.tables.starts i 0) id) 0 n)) h.counted.players
      ∙ ap is_some (first_as (λ i. eqb (get_or s.tables.starts i 0) id) (λ i. eqb (get_or rs i no_line).start id) 0 (length rs)
      (λ i _ m. ap (λ (v : ℕ). eqb v id) (h.raw.starts.cells i (omega arith) ∙ get_or-map (λ (q : PlayerLine). q.start) rs i no_line)))
      ∙ sym (to_some (λ i. get_or rs i no_line) (first_from (λ i. eqb (get_or rs i no_line).start id) 0 (length rs)))
      ∙ ap is_some (sym (first_at (λ (q : PlayerLine). eqb q.start id) no_line rs))
      ∙ some_first (λ (q : PlayerLine). eqb q.start id) rs

  -- ---- each record
  abbrev Agree : Option ℕ → Way State ℕ → Type 0
  Agree = Match (After b) (e ++ (l ∷ []))

  -- refused where it stands
  halted : (k : ℕ) → Agree (some k) (stop k s)
  halted k = (refl, (e, h))

  two_tests : (v w v' w' : Bool) → v' ≡ v → w' ≡ w → (t : State) → (v ≡ false → w ≡ false → New t)
      → Agree (cond v (some 8) (cond w (some 9) none)) (refuse_or v' 8 s (refuse_or w' 9 s (on t)))
  two_tests true w v' w' p q t k = rw p (halted 8)
  two_tests false true v' w' p q t k = rw (p, q) (halted 9)
  two_tests false false v' w' p q t k = rw (p, q) (k refl refl)

  eight_test : (v v' : Bool) → v' ≡ v → (t : State) → (v ≡ false → New t) → Agree (cond v (some 8) none) (refuse_or v' 8 s (on t))
  eight_test true v' p t k = rw p (halted 8)
  eight_test false v' p t k = rw p (k refl)

  nine_test : (w w' : Bool) → w' ≡ w → (t : State) → (w ≡ false → New t) → Agree (cond w (some 9) none) (refuse_or w' 9 s (on t))
  nine_test true w' p t k = rw p (halted 9)
  nine_test false w' p t k = rw p (k refl)

  match_text : (o : Option (List ℕ)) → text_of row ≡ o → kind_of row ≡ kept-text → Agree (item_fault is (to text o)) (step_text o (code_place (part code_field row) 0 text_codes) s)
  unfolding step_text is_again is_too_many
  match_text none q k = halted 7
  match_text (some a) q k =
      let t = text-line.sound row a q in
      let same_code = code_of_kept a t in
      let listed : is_one_of (part code_field a) text_codes ≡ true = ap (λ (x : List ℕ). is_one_of x text_codes) (sym same_code) ∙ text-listed row k in
      two_tests (is_again is (text a)) (is_too_many is (text a)) _ _
      (ap₂ (λ (v : List Bool) (x : List ℕ). not (eqb (code_place x 0 text_codes) 9) && get_or v (code_place x 0 text_codes) false) h.counted.seen same_code ∙ repeated_is a listed (flat text_in is))
      (ap (λ (n : ℕ). ltb most_text (n + length (ended a))) h.counted.text)
      (state (s.line + 1) (count_text (code_place (part code_field row) 0 text_codes) (length (ended a)) c) (store_text a c.text s.tables))
      (λ x y. text-went a (k, t) x y)

  match_rounds : (o : Option ℕ) → rounds_of_row row ≡ o → kind_of row ≡ 142-record → Agree (item_fault is (to rounds o)) (step_rounds o s)
  unfolding step_rounds is_again is_too_many
  match_rounds none q k = halted 7
  match_rounds (some n) q k =
      eight_test (not (is_empty (flat rounds_in is))) c.stated h.counted.stated (state (s.line + 1) (count_rounds n c) s.tables)
      (λ x. rounds-went n (k, rounds-line.sound row n q) (empty_is (flat rounds_in is) x) x refl)

  match_colour : (o : Option ℕ) → colour_of row ≡ o → kind_of row ≡ 152-record → Agree (item_fault is (to colour o)) (step_colour o s)
  unfolding step_colour is_again is_too_many
  match_colour none q k = halted 7
  match_colour (some x) q k =
      eight_test (not (is_empty (flat colour_in is))) (not (eqb c.colour 0)) colour-again (state (s.line + 1) (count_colour x c) s.tables)
      (λ z. colour-went x (k, colour-line.sound row x q) (empty_is (flat colour_in is) z) z refl)

  match_scoring : (o : Option (List (ℕ × ℕ))) → given_of row ≡ o → kind_of row ≡ 162-record → Agree (item_fault is (to scoring o)) (step_scoring o s)
  unfolding step_scoring is_again is_too_many
  match_scoring none q k = halted 7
  match_scoring (some g) q k =
      eight_test (not (is_empty (flat scoring_in is))) c.scored h.counted.scored (state (s.line + 1) (count_scoring (values (scoring_of g)) c) s.tables)
      (λ z. scoring-went g (k, scoring-line.sound row g q) (empty_is (flat scoring_in is) z) z refl)

  match_acceleration : (o : Option Acceleration) → acceleration_of row ≡ o → kind_of row ≡ 250-record → Agree (item_fault is (to acceleration o)) (step_acceleration o s)
  unfolding step_acceleration is_again is_too_many
  match_acceleration none q k = halted 7
  match_acceleration (some a) q k =
      nine_test (ltb most_accelerations (length (flat acceleration_in is) + 1)) (ltb most_accelerations (c.accelerations + 1)) (ap (λ (n : ℕ). ltb most_accelerations (n + 1)) h.counted.accelerations)
      (state (s.line + 1) (count_acceleration a c) (store_line (most_players + c.accelerations) (s.line + 1) s.tables))
      (λ z. acceleration-went a (k, acceleration-line.sound row a q) refl z)

  match_player : (o : Option PlayerLine) → player_of row ≡ o → kind_of row ≡ 001-record → Agree (item_fault is (to player o)) (step_player o s)
  unfolding step_player is_again is_too_many
  match_player none q k = halted 7
  match_player (some p) q k =
      two_tests (is_again is (player p)) (is_too_many is (player p)) _ _ (start-again p.start) (ap (λ (n : ℕ). ltb most_players (n + 1)) h.counted.players)
      (state (s.line + 1) (count_player c) (store_player p c.players (s.line + 1) s.tables))
      (λ x y. player-went p (k, player-line.sound row p q) x y)

  -- ---- a sound line
  match_row : (k : Kind) → kind_of row ≡ k → Agree (row_fault (is_unlisted k) is (item_as k row)) (step_row k row s)
  unfolding step_row is_again is_too_many
  match_row passed_over q = passed-went q refl refl
  match_row kept-text q = match_text (text_of row) refl q
  match_row 142-record q = match_rounds (rounds_of_row row) refl q
  match_row 152-record q = match_colour (colour_of row) refl q
  match_row 162-record q = match_scoring (given_of row) refl q
  match_row 250-record q = match_acceleration (acceleration_of row) refl q
  match_row 001-record q = match_player (player_of row) refl q
  match_row unlisted q = halted 6

-- ---- any line
pub agrees : (b : Nine) → Long b → (e : List Line) (l : Line) (s : State) → After b e s → Match (After b) (e ++ (l ∷ [])) (fault_of e l) (step_line l s)
unfolding step_line item_of
agrees b long e l s h = go (all allowed l.text) (is_ended l.end) (ltb most_line (length (row_of l.text))) refl refl refl
  where
    row : List ℕ
    row = row_of l.text

    known : line_items e ≡ some h.items
    known = lines-spelled.complete e h.items h.good.spelled

    -- the first fault of a line that has none of 3, 4, 5
    row_fault_lem : (u : Bool) (o : Option Item) → to line_fault_number (cond u (some not_listed) (cond (not (is_some o)) (some bad_field) (cond (test_after is_again (some h.items) o) (some again) (cond (test_after is_too_many (some h.items) o) (some too_many) none)))) ≡ row_fault u h.items o
    row_fault_lem true o = refl
    row_fault_lem false none = refl
    row_fault_lem false (some i) = at (is_again h.items i) (is_too_many h.items i)
      where
        at : (v w : Bool) → to line_fault_number (cond v (some again) (cond w (some too_many) none)) ≡ cond v (some 8) (cond w (some 9) none)
        at true w = refl
        at false true = refl
        at false false = refl

    go : (x y z : Bool) → all allowed l.text ≡ x → is_ended l.end ≡ y → ltb most_line (length row) ≡ z
        → Match (After b) (e ++ (l ∷ []))
        (to line_fault_number (cond (not x) (some bad_byte) (cond (not y) (some no_cr) (cond z (some too_long) (cond (is_unlisted (kind_of row)) (some not_listed) (cond (not (is_some (item_as (kind_of row) row))) (some bad_field) (cond (test_after is_again (line_items e) (item_as (kind_of row) row)) (some again) (cond (test_after is_too_many (line_items e) (item_as (kind_of row) row)) (some too_many) none))))))))
        (refuse_or (not x) 3 s (refuse_or (not y) 4 s (refuse_or z 5 s (step_row (kind_of row) row s))))
    go false y z p q r = (refl, (e, h))
    go true false z p q r = (refl, (e, h))
    go true true true p q r = (refl, (e, h))
    go true true false p q r =
        rw (known, row_fault_lem (is_unlisted (kind_of row)) (item_as (kind_of row) row))
        (match_row b long e s h l (both (both p q) (le-leb (length row) most_line (ltb-false most_line (length row) r))) (kind_of row) refl)
