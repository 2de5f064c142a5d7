-- What a sample computes holds of the statement: for every content before that is long enough, every answer and content that is permitted is the one expected, and one is
-- permitted. Assumes nothing.
use mathlib.Core.Path.{◌≡◌, refl, sym, ap, ◌∙◌, subst}
use mathlib.Core.Bool.{Bool, true, false, ◌&&◌, not}
use mathlib.Core.Option.{Option, none, some}
use mathlib.Core.List.{List, [], ◌∷◌, map}
use Prim.Native.Nat.{ℕ, ◌<◌}
use lib.Dec.{eqb, ltb}
use lib.ListN.{length, get_or, get_or-replicate}
use borrow.Author.Tests.{eqb-true, ltb-true, not-true}
use Rattle.kit.specs.Lists.{all, same}
use Rattle.kit.specs.First.{AllOf}
use Rattle.kit.specs.Table.{Holds}
use Rattle.kit.proofs.Bools.{clash, and, same_is}
use Rattle.kit.proofs.Decided.{spelled, unspelled}
use Rattle.types.specs.declared.Acceleration.{Acceleration}
use Rattle.types.specs.declared.Answer.{Answer}
use Rattle.types.specs.declared.Written.{Written}
use Rattle.types.specs.declared.Score.{Score}
use Rattle.law.specs.Scoring.{scoring_of}
use Rattle.law.specs.Items.{Item, SpellsItem, scoring}
use Rattle.law.specs.Tournament.{Tournament}
use Rattle.law.specs.Entries.{fits, earned}
use Rattle.law.specs.Tables.{Tables, Lent, enough, enough_lent, zeros, HoldLent, answer_of}
use Rattle.law.specs.Refusals.{Refusal, Outcome, refused, accepted, Judged}
use Rattle.law.specs.Calls.{refused_answer, Cleared, Leaves, end_of}
use Rattle.law.proofs.RecordsRead.{item_of, item}
use Rattle.law.proofs.Judges.{outcome_of, is_judged}
use Rattle.law.proofs.ReadsOnce.{reads-some}
use Rattle.law.proofs.Replies.{write_of, ask_of, bytes_of, spelled_by}
use Rattle.law.proofs.RepliesRight.{IsReadingOf, writes_as, asks_as, writes-some, asks_some, short_unread, left_is}
use Rattle.law.proofs.Rows.{cell_in, cells_in, cell_of_tournament, LentAs, as_left, cut_short, Counts, Refuses, Always, HoldsCells, Lends, Wrote, Replied, WritesSo, AsksSo, Fit, as_entry, parts_of, answer_in, is_refused, is_accepted, is_scored, are_stored, is_whole, reading_in, is_wrote, is_written, is_replied, is_asked, of_lent, OfLent, Output, Question, do_fit, do_not_fit, Computed}
-- the rows themselves, for those who state some
pub use Rattle.law.proofs.Rows.{Table, starts, points, ranks, kept, opponents, colours, results, text, lines, added, first-rounds, last_rounds, first-starts, last_starts, text-length, initial_colour, value, Row, refuses, accepts, answers, scores, stores, writes, asks, fitting, spells, spells_nothing}
unfoldable pub use Rattle.law.proofs.Rows.{RowHolds, test}

-- ---- what is computed holds of the relation
pub always : (file : List ℕ) (Says : Answer → Lent → Type 0) → ((before : Lent) → enough_lent before ≡ true → (a : Answer) (after : Lent) → Leaves (outcome_of true file) before a after → Says a after) → Always file Says
always file Says h = λ before long. (
  λ a after r.
      let j = subst (λ (b : Bool). Judged b file r.outcome) long r.judged in
      h before long a after (subst (λ (o : Outcome). Leaves o before a after) (sym (is_judged true file r.outcome j)) r.leaves),
  reads-some file before,
)

-- ---- the whole answer
answer_is : (o : Outcome) (before : Lent) (a : Answer) (after : Lent) → Leaves o before a after → a ≡ answer_in o
answer_is (refused x) before a after h = h.0
answer_is (accepted t ps rs) before a after h = h.0

-- ---- a refusal
cleared_cell : (x : Refusal) (before after : Lent) (a : Answer) → a ≡ refused_answer x → HoldLent zeros (λ i. 0) before after → (k : Table) (i : ℕ) → i < cells_in k → cell_in a after k i ≡ 0
unfolding zeros refused_answer
cleared_cell x before after a e h starts i l = h.tables.starts.cells i l
cleared_cell x before after a e h points i l = h.tables.points.cells i l
cleared_cell x before after a e h ranks i l = h.tables.ranks.cells i l
cleared_cell x before after a e h kept i l = h.tables.kept.cells i l
cleared_cell x before after a e h opponents i l = h.tables.opponents.cells i l
cleared_cell x before after a e h colours i l = h.tables.colours.cells i l
cleared_cell x before after a e h results i l = h.tables.results.cells i l
cleared_cell x before after a e h text i l = h.tables.text.cells i l
cleared_cell x before after a e h lines i l = h.lines.cells i l
cleared_cell x before after a e h added i l = ap (λ (x : Acceleration). x.points) (h.tables.accelerations.cells i l)
cleared_cell x before after a e h first-rounds i l = ap (λ (x : Acceleration). x.first_round) (h.tables.accelerations.cells i l)
cleared_cell x before after a e h last_rounds i l = ap (λ (x : Acceleration). x.last_round) (h.tables.accelerations.cells i l)
cleared_cell x before after a e h first-starts i l = ap (λ (x : Acceleration). x.first_start) (h.tables.accelerations.cells i l)
cleared_cell x before after a e h last_starts i l = ap (λ (x : Acceleration). x.last_start) (h.tables.accelerations.cells i l)
cleared_cell x before after a e h text-length i l = ap (λ (x : Answer). x.text) e
cleared_cell x before after a e h initial_colour i l = ap (λ (x : Answer). x.colour) e
cleared_cell x before after a e h value i l = ap (λ (x : Answer). get_or x.values i 0) e ∙ get_or-replicate 6 i 0 0 l

refused_says : (k l r : ℕ) (o : Outcome) → is_refused k l r o ≡ true → (before : Lent) → enough_lent before ≡ true → (a : Answer) (after : Lent) → Leaves o before a after → Refuses k l r a after
unfolding refused_answer
refused_says k l r (accepted t ps rs) e before long a after h = clash e
refused_says k l r (refused x) e before long a after h =
    let p = and (eqb x.number k && eqb x.line l) (eqb x.round r) e in
    let q = and (eqb x.number k) (eqb x.line l) p.0 in
    let s = h.0 in
    record {
      number_is = ap (λ (a : Answer). a.number) s ∙ eqb-true x.number k q.0;
      line_is = ap (λ (a : Answer). a.line.0) s ∙ eqb-true x.line l q.1;
      round_is = ap (λ (a : Answer). a.round) s ∙ eqb-true x.round r p.1;
      players_are = ap (λ (a : Answer). a.players) s;
      rounds_are = ap (λ (a : Answer). a.rounds) s;
      accelerations_are = ap (λ (a : Answer). a.accelerations) s;
      cleared = cleared_cell x before after a s (subst (λ (b : Bool). Cleared b before after) long h.1);
    }

-- ---- an acceptance
accepted-says : (p r n : ℕ) (o : Outcome) → is_accepted p r n o ≡ true → (before : Lent) → enough_lent before ≡ true → (a : Answer) (after : Lent) → Leaves o before a after → Counts p r n a
unfolding answer_of
accepted-says p r n (refused x) e before long a after h = clash e
accepted-says p r n (accepted t ps rs) e before long a after h =
    let j = and (eqb (length t.players) p && eqb t.rounds r) (eqb (length t.accelerations) n) e in
    let k = and (eqb (length t.players) p) (eqb t.rounds r) j.0 in
    let s = h.0 in
    record {
      number = ap (λ (a : Answer). a.number) s;
      line = ap (λ (a : Answer). a.line.0) s;
      round = ap (λ (a : Answer). a.round) s;
      players_are = ap (λ (a : Answer). a.players) s ∙ eqb-true (length t.players) p k.0;
      rounds_are = ap (λ (a : Answer). a.rounds) s ∙ eqb-true t.rounds r k.1;
      accelerations_are = ap (λ (a : Answer). a.accelerations) s ∙ eqb-true (length t.accelerations) n j.1;
    }

-- ---- cells
module _ (t : Tournament) (ps rs : List ℕ) (before after : Lent) (a : Answer) (h : Leaves (accepted t ps rs) before a after) where
  holds_cell : (k : Table) (i : ℕ) → i < cells_in k → cell_in a after k i ≡ cell_of_tournament t ps rs k i
  holds_cell starts i l = h.1.tables.starts.cells i l
  holds_cell points i l = h.1.tables.points.cells i l
  holds_cell ranks i l = h.1.tables.ranks.cells i l
  holds_cell kept i l = h.1.tables.kept.cells i l
  holds_cell opponents i l = h.1.tables.opponents.cells i l
  holds_cell colours i l = h.1.tables.colours.cells i l
  holds_cell results i l = h.1.tables.results.cells i l
  holds_cell text i l = h.1.tables.text.cells i l
  holds_cell lines i l = h.1.lines.cells i l
  holds_cell added i l = ap (λ (x : Acceleration). x.points) (h.1.tables.accelerations.cells i l)
  holds_cell first-rounds i l = ap (λ (x : Acceleration). x.first_round) (h.1.tables.accelerations.cells i l)
  holds_cell last_rounds i l = ap (λ (x : Acceleration). x.last_round) (h.1.tables.accelerations.cells i l)
  holds_cell first-starts i l = ap (λ (x : Acceleration). x.first_start) (h.1.tables.accelerations.cells i l)
  holds_cell last_starts i l = ap (λ (x : Acceleration). x.last_start) (h.1.tables.accelerations.cells i l)
  holds_cell text-length i l = ap (λ (x : Answer). x.text) h.0
  holds_cell initial_colour i l = ap (λ (x : Answer). x.colour) h.0
  holds_cell value i l = ap (λ (x : Answer). get_or x.values i 0) h.0

  holds-cells : (cells : List (Table × ℕ × ℕ)) → are_stored cells (accepted t ps rs) ≡ true → AllOf (λ (c : Table × ℕ × ℕ). cell_in a after c.0 c.1 ≡ c.2) cells
  holds-cells [] e = tt
  holds-cells (c ∷ cells) e =
      let k = and (ltb c.1 (cells_in c.0) && eqb (cell_of_tournament t ps rs c.0 c.1) c.2) (are_stored cells (accepted t ps rs)) e in
      let j = and (ltb c.1 (cells_in c.0)) (eqb (cell_of_tournament t ps rs c.0 c.1) c.2) k.0 in
      (holds_cell c.0 c.1 (ltb-true c.1 (cells_in c.0) j.0) ∙ eqb-true (cell_of_tournament t ps rs c.0 c.1) c.2 j.1, holds-cells cells k.1)

stored_says : (cells : List (Table × ℕ × ℕ)) (o : Outcome) → are_stored cells o ≡ true → (before : Lent) → enough_lent before ≡ true → (a : Answer) (after : Lent) → Leaves o before a after → HoldsCells cells a after
stored_says cells (refused x) e before long a after h = clash e
stored_says cells (accepted t ps rs) e before long a after h = holds-cells t ps rs before after a h cells e

-- ---- the writer and the question
wrote : (number : ℕ) (bytes out : List ℕ) (w u : Written) (left x : List ℕ) → w ≡ u → Holds 0 (length left) (λ i. get_or left i 0) out x → is_wrote number bytes u left ≡ true → Wrote number bytes out w x
wrote number bytes out w u left x e h t =
    let a = and (eqb u.number number && eqb u.line.0 0 && eqb u.round 0 && eqb u.length (length bytes)) (same left bytes) t in
    let b = and (eqb u.number number && eqb u.line.0 0 && eqb u.round 0) (eqb u.length (length bytes)) a.0 in
    let c = and (eqb u.number number && eqb u.line.0 0) (eqb u.round 0) b.0 in
    let d = and (eqb u.number number) (eqb u.line.0 0) c.0 in
    record {
      number_is = ap (λ (w : Written). w.number) e ∙ eqb-true u.number number d.0;
      line = ap (λ (w : Written). w.line.0) e ∙ eqb-true u.line.0 0 d.1;
      round = ap (λ (w : Written). w.round) e ∙ eqb-true u.round 0 c.1;
      length_is = ap (λ (w : Written). w.length) e ∙ eqb-true u.length (length bytes) b.1;
      leaves = subst (λ (l : List ℕ). Holds 0 (length l) (λ i. get_or l i 0) out x) (same_is left bytes a.1) h;
    }

replied : (number sum acceleration : ℕ) (s u : Score) → s ≡ u → is_replied number sum acceleration u ≡ true → Replied number sum acceleration s
replied number sum acceleration s u e t =
    let a = and (eqb u.number number && eqb u.line.0 0 && eqb u.round 0 && eqb u.points sum) (eqb u.acceleration acceleration) t in
    let b = and (eqb u.number number && eqb u.line.0 0 && eqb u.round 0) (eqb u.points sum) a.0 in
    let c = and (eqb u.number number && eqb u.line.0 0) (eqb u.round 0) b.0 in
    let d = and (eqb u.number number) (eqb u.line.0 0) c.0 in
    record {
      number_is = ap (λ (w : Score). w.number) e ∙ eqb-true u.number number d.0;
      line = ap (λ (w : Score). w.line.0) e ∙ eqb-true u.line.0 0 d.1;
      round = ap (λ (w : Score). w.round) e ∙ eqb-true u.round 0 c.1;
      points_are = ap (λ (w : Score). w.points) e ∙ eqb-true u.points sum b.1;
      acceleration_is = ap (λ (w : Score). w.acceleration) e ∙ eqb-true u.acceleration acceleration a.1;
    }

-- what is lent is a reading of what the row takes it for
lent_is : (lends : LentAs) (o : Outcome) (answer : Answer) (after : Lent) → IsReadingOf answer after.tables (spelled_by o) × (enough after.tables ≡ true) → (tables : Tables) → Lends lends after tables
    → IsReadingOf answer tables (reading_in lends o) × (enough tables ≡ is_whole lends)
lent_is as_left o answer after h tables e = subst (λ (t : Tables). IsReadingOf answer t (spelled_by o) × (enough t ≡ true)) e h
lent_is cut_short o answer after h tables e = (short_unread answer tables e, e)

module _ (answer : Answer) (tables : Tables) (long : Bool) (o : Option Tournament) (r : IsReadingOf answer tables o) (enough_is : enough tables ≡ long) where
  write_so : (q : Output) → is_written long o q ≡ true → WritesSo answer tables q
  write_so q t out n =
      let end = end_of q.0 in (
        λ w x k.
            let s = subst (λ (b : Bool). (w ≡ write_of end b o (length out)) × Holds 0 (length (bytes_of end b o (length out))) (λ i. get_or (bytes_of end b o (length out)) i 0) out x) enough_is (writes_as answer tables o r end out w x k) in
            let u = subst (λ (m : ℕ). is_wrote q.2 q.3 (write_of end long o m) (bytes_of end long o m) ≡ true) (sym n) t in
            wrote q.2 q.3 out w (write_of end long o (length out)) (bytes_of end long o (length out)) x s.0 s.1 u,
        writes-some answer tables end o r out,
      )

  ask_so : (q : Question) → is_asked long o q ≡ true → AsksSo answer tables q
  ask_so q t = (
    λ s k.
        let u = subst (λ (b : Bool). s ≡ ask_of b o q.0 q.1) enough_is (asks_as answer tables o r (record { 0 = q.0 }) q.1 s k) in
        replied q.2 q.3 q.4 s (ask_of long o q.0 q.1) u t,
    asks_some answer tables o r (record { 0 = q.0 }) q.1,
  )

of_lent_lem : {Q : Type 0} (t : Bool → Option Tournament → Q → Bool) (lends : LentAs) (qs : List Q) (o : Outcome) → of_lent t lends qs o ≡ true → all (t (is_whole lends) (reading_in lends o)) qs ≡ true
of_lent_lem t lends qs (refused x) e = e
of_lent_lem t lends qs (accepted u ps rs) e = e

-- of what the reader leaves, whatever it is
left : (file : List ℕ) (Says : Answer → Lent → Type 0)
    → ((a : Answer) (after : Lent) → IsReadingOf a after.tables (spelled_by (outcome_of true file)) × (enough after.tables ≡ true) → Says a after) → Always file Says
left file Says h = λ before long. (λ a after r. h a after (left_is file before long a after r), reads-some file before)

all_so : {Q : Type 0} (t : Q → Bool) (P : Q → Type 0) → ((q : Q) → t q ≡ true → P q) → (qs : List Q) → all t qs ≡ true → AllOf P qs
all_so t P h [] e = tt
all_so t P h (q ∷ qs) e = let k = and (t q) (all t qs) e in (h q k.0, all_so t P h qs k.1)

-- ---- results that fit
do_fit_lem : (own other : ℕ) → do_fit own other ≡ true → Fit true own other
do_fit_lem own other e = and (fits own other) (fits other own) e

do_not_fit_lem : (own other : ℕ) → do_not_fit own other ≡ true → Fit false own other
do_not_fit_lem own other e =
    let j = and (not (fits own other)) (not (fits other own)) e in
    (not-true (fits own other) j.0, not-true (fits other own) j.1)

tested : (r : Row) → test r ≡ true → RowHolds r
unfolding test RowHolds
tested (refuses file k l r) e = always file (Refuses k l r) (refused_says k l r (outcome_of true file) e)
tested (accepts file p r n) e = always file (λ a after. Counts p r n a) (accepted-says p r n (outcome_of true file) e)
tested (answers file parts) e = always file (λ a after. parts_of a ≡ parts) (λ before long a after h. ap parts_of (answer_is (outcome_of true file) before a after h) ∙ same_is (parts_of (answer_in (outcome_of true file))) parts e)
tested (scores line played n) e = go (item_of line) refl e
  where
    go : (o : Option Item) → item_of line ≡ o → is_scored played n o ≡ true → (given : List (ℕ × ℕ)) × SpellsItem line (scoring given) × (earned (scoring_of given) (map as_entry played) ≡ n)
    go none p e = clash e
    go (some Item.passed) p e = clash e
    go (some (Item.text a)) p e = clash e
    go (some (Item.rounds m)) p e = clash e
    go (some (Item.colour c)) p e = clash e
    go (some (scoring given)) p e = (given, item.sound line (scoring given) p, eqb-true (earned (scoring_of given) (map as_entry played)) n e)
    go (some (Item.acceleration a)) p e = clash e
    go (some (Item.player q)) p e = clash e
tested (stores file cells) e = always file (HoldsCells cells) (stored_says cells (outcome_of true file) e)
tested (writes lends file qs) e = left file (OfLent WritesSo lends qs)
    (λ a after h tables l.
    let k = lent_is lends (outcome_of true file) a after h tables l in
    let o = reading_in lends (outcome_of true file) in
    all_so (is_written (is_whole lends) o) (WritesSo a tables) (write_so a tables (is_whole lends) o k.0 k.1) qs (of_lent_lem is_written lends qs (outcome_of true file) e))
tested (asks lends file qs) e = left file (OfLent AsksSo lends qs)
    (λ a after h tables l.
    let k = lent_is lends (outcome_of true file) a after h tables l in
    let o = reading_in lends (outcome_of true file) in
    all_so (is_asked (is_whole lends) o) (AsksSo a tables) (ask_so a tables (is_whole lends) o k.0 k.1) qs (of_lent_lem is_asked lends qs (outcome_of true file) e))
tested (fitting own fit misfit) e = let k = and (all (do_fit own) fit) (all (do_not_fit own) misfit) e in (all_so (do_fit own) (Fit true own) (do_fit_lem own) fit k.0, all_so (do_not_fit own) (Fit false own) (do_not_fit_lem own) misfit k.1)
tested (spells line) e = (spelled item).sound line e
tested (spells_nothing line) e = (unspelled item).sound line e

pub all_hold : (l : List Row) → AllOf (λ r. test r ≡ true) l → AllOf RowHolds l
all_hold [] e = tt
all_hold (r ∷ l) e = (tested r e.0, all_hold l e.1)

pub all_tested : (l : List Row) → all test l ≡ true → AllOf RowHolds l
all_tested [] e = tt
all_tested (r ∷ l) e = let k = and (test r) (all test l) e in (tested r k.0, all_tested l k.1)

-- rows that stand with their computation
pub all_computed : (l : List Computed) → AllOf (λ (c : Computed). RowHolds c.0) l
all_computed [] = tt
all_computed (c ∷ l) = (tested c.0 c.1, all_computed l)
