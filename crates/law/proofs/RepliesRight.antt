-- The answers of `Replies` are the ones that `Writes` and `Asks` permit, and they are permitted; and what the reader leaves for a file is a reading of what the
-- file's outcome says. Assumes nothing.
use mathlib.Core.Path.{◌≡◌, refl, sym, ap, ◌∙◌, subst}
use mathlib.Core.Bool.{Bool, true, false, ◌&&◌, not}
use mathlib.Core.Option.{Option, none, some}
use mathlib.Core.List.{List, [], ◌∷◌}
use Prim.Native.Nat.{ℕ, ◌≤◌}
use native.Mathlib.Omega.{arith}
use lib.Dec.{leb, ltb}
use lib.ListN.{length, get_or}
use borrow.Author.Tests.{ltb-true, ltb-false, lt-ltb, leb-true, le-leb, not-true}
use Rattle.kit.specs.Lists.{first}
use Rattle.kit.specs.First.{NoneOf}
use Rattle.kit.specs.Table.{Holds}
use Rattle.kit.specs.Decides.{Tests, is_some}
use Rattle.kit.proofs.Bools.{clash, and, both, not_so}
use Rattle.kit.proofs.Firsts.{firsts, none_found, found_none}
use Rattle.kit.proofs.Tables.{filled, filled-holds, holds_same}
use Rattle.types.specs.declared.Answer.{Answer}
use Rattle.types.specs.declared.Written.{Written}
use Rattle.types.specs.declared.Score.{Score}
use Rattle.types.specs.declared.Place.{Place}
use Rattle.law.specs.Sizes.{most_players, most_accelerations, most_text}
use Rattle.law.specs.Lines.{End}
use Rattle.law.specs.Tournament.{Tournament}
use Rattle.law.specs.Lawful.{no_acceleration}
use Rattle.law.specs.Tables.{Tables, Lent, kept_cells, entry_cells, line_cells, are_long, enough, enough_lent, Content, content_of, lines_content, zeros, HoldAll, HoldLent, answer_of}
use Rattle.law.specs.Refusals.{no_refusal, Refusal, Outcome, refused, accepted, Judged}
use Rattle.law.specs.Writing.{written, earned_before, acceleration_for}
use Rattle.law.specs.Calls.{refused_answer, Cleared, Leaves, Reads, Reading, Denial, tables-short, no_reading, out_short, no_place, denial_of, NoReading, WriterDenies, writer_denials, written_answer, Writes, write_refused, write_done, QuestionDenies, question_denials, score_answer, Asks, ask_refused, ask_done}
use Rattle.law.proofs.Judges.{outcome_of, is_judged}
use Rattle.law.proofs.ReadsOnce.{lent-enough}
use Rattle.law.proofs.Readings.{refused-not_0, reading_has, one_reading}
use Rattle.law.proofs.Replies.{is_too_long, is_outside, writer_denied, question_denied, write_of, ask_of, bytes_of, spelled_by}

-- the answer and the tables are a reading of this tournament, or of none
abbrev pub IsReadingOf : Answer → Tables → Option Tournament → Type 0
IsReadingOf answer tables none = NoReading answer tables
IsReadingOf answer tables (some t) = (file : List ℕ) × Reading answer tables file t

module _ (answer : Answer) (tables : Tables) where
  -- ---- the tests of 1, 18, 19 and 20 decide them
  unread_sound : (o : Option Tournament) → IsReadingOf answer tables o → not (is_some o) ≡ true → NoReading answer tables
  unread_sound none r e = r
  unread_sound (some t) r e = clash e

  unread_complete : (o : Option Tournament) → IsReadingOf answer tables o → NoReading answer tables → not (is_some o) ≡ true
  unread_complete none r n = refl
  unread_complete (some t) r n = absurd (n r.0 t r.1)

  -- of a reading only, whatever is asked of its tournament
  of_reading : (o : Option Tournament) → IsReadingOf answer tables o → (file : List ℕ) (t : Tournament) → Reading answer tables file t → o ≡ some t
  of_reading none r file t k = absurd (r file t k)
  of_reading (some u) r file t k = ap some (one_reading answer tables r.0 file u t r.1 k)

  writer_sound : (end : End) (o : Option Tournament) → IsReadingOf answer tables o → (room : ℕ) (d : Denial) → writer_denied end (enough tables) o room d ≡ true → WriterDenies end answer tables room d
  writer_sound end o r room tables-short e = not-true (enough tables) e
  writer_sound end o r room no_reading e = unread_sound o r e
  writer_sound end none r room out_short e = clash e
  writer_sound end (some t) r room out_short e = record { file = r.0; t = t; reading = r.1; short = ltb-true room (length (written end t)) e }
  writer_sound end o r room no_place e = clash e

  writer_complete : (end : End) (o : Option Tournament) → IsReadingOf answer tables o → (room : ℕ) (d : Denial) → WriterDenies end answer tables room d → writer_denied end (enough tables) o room d ≡ true
  writer_complete end o r room tables-short h = ap not h
  writer_complete end o r room no_reading h = unread_complete o r h
  writer_complete end o r room out_short h = ap (λ (q : Option Tournament). is_too_long end q room) (of_reading o r h.file h.t h.reading) ∙ lt-ltb room (length (written end h.t)) h.short
  writer_complete end o r room no_place h = absurd h

  question_sound : (o : Option Tournament) → IsReadingOf answer tables o → (place round : ℕ) (d : Denial) → question_denied (enough tables) o place round d ≡ true → QuestionDenies answer tables place round d
  question_sound o r place round tables-short e = not-true (enough tables) e
  question_sound o r place round no_reading e = unread_sound o r e
  question_sound o r place round out_short e = clash e
  question_sound none r place round no_place e = clash e
  question_sound (some t) r place round no_place e =
      record {
        file = r.0;
        t = t;
        reading = r.1;
        outside = λ h.
            let a = both (lt-ltb place (length t.players) h.0) (le-leb 1 round h.1) in
            clash (sym (not-true (ltb place (length t.players) && leb 1 round && leb round t.rounds) e) ∙ both a (le-leb round t.rounds h.2));
      }

  question_complete : (o : Option Tournament) → IsReadingOf answer tables o → (place round : ℕ) (d : Denial) → QuestionDenies answer tables place round d → question_denied (enough tables) o place round d ≡ true
  question_complete o r place round tables-short h = ap not h
  question_complete o r place round no_reading h = unread_complete o r h
  question_complete o r place round out_short h = absurd h
  question_complete o r place round no_place h =
      let t = h.t in
      ap (λ (q : Option Tournament). is_outside q place round) (of_reading o r h.file t h.reading)
      ∙ ap not
      (not_so (ltb place (length t.players) && leb 1 round && leb round t.rounds)
      (λ e.
      let a = and (ltb place (length t.players) && leb 1 round) (leb round t.rounds) e in
      let b = and (ltb place (length t.players)) (leb 1 round) a.0 in
      h.outside (ltb-true place (length t.players) b.0, leb-true 1 round b.1, leb-true round t.rounds a.1)))

  module _ (o : Option Tournament) (r : IsReadingOf answer tables o) where
    pub writer_tests : (end : End) (room : ℕ) → Tests (WriterDenies end answer tables room) (writer_denied end (enough tables) o room)
    writer_tests end room = record { sound = writer_sound end o r room; complete = writer_complete end o r room }

    pub question_tests : (place round : ℕ) → Tests (QuestionDenies answer tables place round) (question_denied (enough tables) o place round)
    question_tests place round = record { sound = question_sound o r place round; complete = question_complete o r place round }

    -- ---- what is permitted is what is computed
    pub writes_as : (end : End) (out : List ℕ) (w : Written) (x : List ℕ) → Writes end answer tables out w x
        → (w ≡ write_of end (enough tables) o (length out)) × Holds 0 (length (bytes_of end (enough tables) o (length out))) (λ i. get_or (bytes_of end (enough tables) o (length out)) i 0) out x
    writes_as end out w x (write_refused q) =
        rw ((firsts (writer_tests end (length out))).complete writer_denials q.denial q.first)
        (q.says, subst (λ (l : List ℕ). Holds 0 0 (λ i. 0) out l) (sym q.untouched) (record { long = refl; cells = λ i l. absurd (omega arith); rest = λ i l. refl }))
    writes_as end out w x (write_done q) =
        let e = of_reading o r q.file q.t q.reading in
        rw (found_none (writer_tests end (length out)) writer_denials q.no_denial, e) (q.says, q.bytes)

    pub asks_as : (place : Place) (round : ℕ) (s : Score) → Asks answer tables place round s → s ≡ ask_of (enough tables) o place.0 round
    asks_as place round s (ask_refused q) = rw ((firsts (question_tests place.0 round)).complete question_denials q.denial q.first) q.says
    asks_as place round s (ask_done q) =
        let e = of_reading o r q.file q.t q.reading in
        rw (found_none (question_tests place.0 round) question_denials q.no_denial, e) q.says

  -- ---- and something is permitted
  some_write : (end : End) (o : Option Tournament) → IsReadingOf answer tables o → (out : List ℕ) → NoneOf (WriterDenies end answer tables (length out)) writer_denials
      → (w : Written) × (x : List ℕ) × Writes end answer tables out w x
  some_write end none r out n = absurd (n.1.0 r)
  some_write end (some t) r out n =
      let m = length (written end t) in
      let f : ℕ → ℕ = λ i. get_or (written end t) i 0 in
      let room : m ≤ length out = ltb-false (length out) m (not_so (ltb (length out) m) (λ e. n.1.1.0 (record { file = r.0; t = t; reading = r.1; short = ltb-true (length out) m e }))) in (
        written_answer no_refusal m,
        filled 0 m f out,
        write_done (record { no_denial = n; file = r.0; t = t; reading = r.1; says = refl; bytes = filled-holds 0 m f out room }),
      )

  pub writes-some : (end : End) (o : Option Tournament) → IsReadingOf answer tables o → (out : List ℕ) → (w : Written) × (x : List ℕ) × Writes end answer tables out w x
  writes-some end o r out = go (first t writer_denials) refl
    where
      t : Denial → Bool
      t = writer_denied end (enough tables) o (length out)

      go : (q : Option Denial) → first t writer_denials ≡ q → (w : Written) × (x : List ℕ) × Writes end answer tables out w x
      go (some d) e = (written_answer (denial_of d) 0, out, write_refused (record { denial = d; first = (firsts (writer_tests o r end (length out))).sound writer_denials d e; says = refl; untouched = refl }))
      go none e = some_write end o r out (none_found (writer_tests o r end (length out)) writer_denials e)

  some_ask : (o : Option Tournament) → IsReadingOf answer tables o → (place : Place) (round : ℕ) → NoneOf (QuestionDenies answer tables place.0 round) question_denials → (s : Score) × Asks answer tables place round s
  some_ask none r place round n = absurd (n.1.0 r)
  some_ask (some t) r place round n =
      (score_answer no_refusal (earned_before t place.0 round) (acceleration_for t place.0 round), ask_done (record { no_denial = n; file = r.0; t = t; reading = r.1; says = refl }))

  pub asks_some : (o : Option Tournament) → IsReadingOf answer tables o → (place : Place) (round : ℕ) → (s : Score) × Asks answer tables place round s
  asks_some o r place round = go (first t question_denials) refl
    where
      t : Denial → Bool
      t = question_denied (enough tables) o place.0 round

      go : (q : Option Denial) → first t question_denials ≡ q → (s : Score) × Asks answer tables place round s
      go (some d) e = (score_answer (denial_of d) 0 0, ask_refused (record { denial = d; first = (firsts (question_tests o r place.0 round)).sound question_denials d e; says = refl }))
      go none e = some_ask o r place round (none_found (question_tests o r place.0 round) question_denials e)

  -- no reading has tables that are too short
  pub short_unread : enough tables ≡ false → NoReading answer tables
  short_unread e file t k = clash (sym e ∙ (reading_has answer tables file t k).1.long)

-- ---- what the reader leaves, lent again
module _ (c : Content) (before after : Tables) (h : HoldAll c before after) where
  tables-again : HoldAll c after after
  tables-again =
      record {
        starts = holds_same 0 most_players c.starts after.starts h.starts.cells;
        points = holds_same 0 most_players c.points after.points h.points.cells;
        ranks = holds_same 0 most_players c.ranks after.ranks h.ranks.cells;
        kept = holds_same 0 kept_cells c.kept after.kept h.kept.cells;
        opponents = holds_same 0 entry_cells c.opponents after.opponents h.opponents.cells;
        colours = holds_same 0 entry_cells c.colours after.colours h.colours.cells;
        results = holds_same 0 entry_cells c.results after.results h.results.cells;
        text = holds_same 0 most_text c.text after.text h.text.cells;
        accelerations = holds_same no_acceleration most_accelerations c.accelerations after.accelerations h.accelerations.cells;
      }

lent_again : (c : Content) (n : ℕ → ℕ) (before after : Lent) → HoldLent c n before after → HoldLent c n after after
lent_again c n before after h = record { tables = tables-again c before.tables after.tables h.tables; lines = holds_same 0 line_cells n after.lines h.lines.cells }

as_long : (c : Content) (n : ℕ → ℕ) (before after : Lent) → HoldLent c n before after → enough_lent after ≡ enough_lent before
unfolding enough_lent
as_long c n before after h = λ i.
    are_long
    ((line_cells, h.lines.long i) ∷ (most_players, h.tables.starts.long i) ∷ (most_players, h.tables.points.long i) ∷ (most_players, h.tables.ranks.long i) ∷ (kept_cells, h.tables.kept.long i) ∷
    (entry_cells, h.tables.opponents.long i) ∷ (entry_cells, h.tables.colours.long i) ∷ (entry_cells, h.tables.results.long i) ∷ (most_text, h.tables.text.long i) ∷
    (most_accelerations, h.tables.accelerations.long i) ∷ [])

-- it is a reading of what the outcome says, and long enough
pub left_is : (file : List ℕ) (before : Lent) → enough_lent before ≡ true → (answer : Answer) (after : Lent) → Reads file before answer after
    → IsReadingOf answer after.tables (spelled_by (outcome_of true file)) × (enough after.tables ≡ true)
unfolding refused_answer answer_of
left_is file before long answer after r =
    let j = subst (λ (b : Bool). Judged b file r.outcome) long r.judged in
    subst (λ (o : Outcome). IsReadingOf answer after.tables (spelled_by o) × (enough after.tables ≡ true)) (sym (is_judged true file r.outcome j)) (go r.outcome j r.leaves)
  where
    go : (o : Outcome) → Judged true file o → Leaves o before answer after → IsReadingOf answer after.tables (spelled_by o) × (enough after.tables ≡ true)
    go (refused x) j l = (
      λ f t k. refused-not_0 j.label (sym (ap (λ (q : Refusal). q.number) j.says) ∙ sym (ap (λ (a : Answer). a.number) l.0) ∙ k.accepts),
      (lent-enough after (as_long zeros (λ i. 0) before after (subst (λ (b : Bool). Cleared b before after) long l.1) ∙ long)).1,
    )
    go (accepted t ps rs) j l =
        let e = as_long (content_of t) (lines_content ps rs) before after l.1 ∙ long in (
          (
            file,
            record {
              lines_before = after.lines;
              lines_after = after.lines;
              reads =
                  record {
                    outcome = accepted t ps rs;
                    judged = subst (λ (b : Bool). Judged b file (accepted t ps rs)) (sym e) j;
                    leaves = (l.0, lent_again (content_of t) (lines_content ps rs) before after l.1);
                  };
              accepts = ap (λ (a : Answer). a.number) l.0;
              spells = j.spells;
            },
          ),
          (lent-enough after e).1,
        )
