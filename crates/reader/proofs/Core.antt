-- From what is left in the tables to the statement's relation, with the records filled in. Assumes nothing.
use mathlib.Core.Path.{◌≡◌, refl, sym, ap, ◌∙◌, subst}
use mathlib.Core.Bool.{Bool, true, false}
use mathlib.Core.List.{List, [], ◌∷◌, ◌++◌}
use Prim.Native.Nat.{ℕ, ◌+◌, ◌-◌, ◌≤◌, ◌<◌}
use native.Mathlib.Omega.{arith}
use borrow.Author.Tests.{lt-ltb}
use lib.ListN.{length, get_or, take, drop, replicate, length-append, length-drop, length-replicate, get_or-replicate, get_or-append}
use lib.Seq.{take-length, get_or-append-add, get_or-drop}
use Rattle.kit.specs.Table.{Holds}
use Rattle.kit.proofs.Tables.{holds_same}
use Rattle.types.specs.declared.Acceleration.{Acceleration}
use Rattle.law.specs.Sizes.{most_file, most_players, most_accelerations, most_text}
use Rattle.law.specs.Lawful.{no_acceleration}
use Rattle.law.specs.Tables.{kept_cells, entry_cells, line_cells, are_long, enough_lent, Content, zeros, content_of, lines_content, HoldLent, answer_of}
use Rattle.law.specs.Refusals.{Refusal, refusal, labels, Outcome, refused, accepted, Judged}
use Rattle.law.specs.Calls.{refused_answer, Cleared}
use Rattle.law.proofs.Judges.{outcome_of, judged}
use Rattle.law.proofs.ReadsOnce.{rooms-are, lent-enough}
use Rattle.join.specs.Store.{Nine}
use Rattle.join.specs.Kept.{Long, Zeroed}
use Rattle.join.proofs.Cells.{holds_then}
use Rattle.tables.specs.Lent.{nine}
use Rattle.lines_read.specs.declared.CoreAnswer.{CoreAnswer}
use Rattle.lines_read.specs.Core.{no_records, refused_core, HoldNine, WithinNine, LinesLeave, LinesRead}
use Rattle.reader.specs.Core.{lent_with, filled_in, CoreReads}

-- by the answer's name
pub core_as : {file : List ℕ} {b x : Nine} {n : ℕ} {r u : CoreAnswer} → r ≡ u → CoreReads file b n u x → CoreReads file b n r x
core_as {file} {b} {x} {n} e h = subst (λ (v : CoreAnswer). CoreReads file b n v x) (sym e) h

-- by the cells that the references end with
pub ended : {file : List ℕ} {b y : Nine} {n : ℕ} {r : CoreAnswer} {x0 x1 x2 x3 x4 x5 x6 x7 x8 : List ℕ} → CoreReads file b n r y
    → x0 ≡ y.starts → x1 ≡ y.points → x2 ≡ y.ranks → x3 ≡ y.kept → x4 ≡ y.opponents → x5 ≡ y.colours → x6 ≡ y.results → x7 ≡ y.text → x8 ≡ y.lines → CoreReads file b n r (nine x0 x1 x2 x3 x4 x5 x6 x7 x8)
ended h e0 e1 e2 e3 e4 e5 e6 e7 e8 = rw (e0, e1, e2, e3, e4, e5, e6, e7, e8) h

-- ---- cleared tables
pub zeroed_self : {b x : Nine} → Zeroed b x → Zeroed x x
zeroed_self {b} {x} h =
    record {
      starts = holds_same 0 most_players (λ i. 0) x.starts h.starts.cells;
      points = holds_same 0 most_players (λ i. 0) x.points h.points.cells;
      ranks = holds_same 0 most_players (λ i. 0) x.ranks h.ranks.cells;
      kept = holds_same 0 kept_cells (λ i. 0) x.kept h.kept.cells;
      opponents = holds_same 0 entry_cells (λ i. 0) x.opponents h.opponents.cells;
      colours = holds_same 0 entry_cells (λ i. 0) x.colours h.colours.cells;
      results = holds_same 0 entry_cells (λ i. 0) x.results h.results.cells;
      text = holds_same 0 most_text (λ i. 0) x.text h.text.cells;
      lines = holds_same 0 line_cells (λ i. 0) x.lines h.lines.cells;
    }

-- cleared, written into, and cleared again
pub zeroed_again : {b x y z : Nine} → Zeroed b x → WithinNine x y → Zeroed y z → Zeroed b z
zeroed_again h w k =
    record {
      starts = holds_then _ h.starts (holds_then _ w.starts k.starts);
      points = holds_then _ h.points (holds_then _ w.points k.points);
      ranks = holds_then _ h.ranks (holds_then _ w.ranks k.ranks);
      kept = holds_then _ h.kept (holds_then _ w.kept k.kept);
      opponents = holds_then _ h.opponents (holds_then _ w.opponents k.opponents);
      colours = holds_then _ h.colours (holds_then _ w.colours k.colours);
      results = holds_then _ h.results (holds_then _ w.results k.results);
      text = holds_then _ h.text (holds_then _ w.text k.text);
      lines = holds_then _ h.lines (holds_then _ w.lines k.lines);
    }

-- cleared, then filled
held-again : {c : Content} {numbers : ℕ → ℕ} {b x y : Nine} → Zeroed b x → HoldNine c numbers x y → HoldNine c numbers b y
held-again h k =
    record {
      starts = holds_then _ h.starts k.starts;
      points = holds_then _ h.points k.points;
      ranks = holds_then _ h.ranks k.ranks;
      kept = holds_then _ h.kept k.kept;
      opponents = holds_then _ h.opponents k.opponents;
      colours = holds_then _ h.colours k.colours;
      results = holds_then _ h.results k.results;
      text = holds_then _ h.text k.text;
      lines = holds_then _ h.lines k.lines;
    }

zeroed_nine : {b x : Nine} → Zeroed b x → HoldNine zeros (λ i. 0) b x
unfolding zeros
zeroed_nine h =
    record {
      starts = h.starts;
      points = h.points;
      ranks = h.ranks;
      kept = h.kept;
      opponents = h.opponents;
      colours = h.colours;
      results = h.results;
      text = h.text;
      lines = h.lines;
    }

-- ---- lengths
pub long_of : (b : Nine) (records : List Acceleration) → enough_lent (lent_with b records) ≡ true → Long b × (most_accelerations ≤ length records)
long_of b records h =
    let k = lent-enough (lent_with b records) h in
    let r = rooms-are (lent_with b records).tables k.1 in (
      record {
        starts = r.starts;
        points = r.points;
        ranks = r.ranks;
        kept = r.kept;
        opponents = r.opponents;
        colours = r.colours;
        results = r.results;
        text = r.text;
        lines = k.0;
      },
      r.accelerations,
    )

-- ---- the records, filled in
records-held : (f : ℕ → Acceleration) (all before : List Acceleration) → Holds no_acceleration most_accelerations f no_records all → most_accelerations ≤ length before
    → Holds no_acceleration most_accelerations f before (take most_accelerations all ++ drop most_accelerations before)
records-held f all before h room =
    let n : length all ≡ most_accelerations = h.long in
    let e : take most_accelerations all ≡ all = ap (λ (m : ℕ). take m all) (sym n) ∙ take-length all in
    subst (λ (l : List Acceleration). Holds no_acceleration most_accelerations f before (l ++ drop most_accelerations before)) (sym e)
    (record {
      long = length-append all (drop most_accelerations before) ∙ (let d = length-drop most_accelerations before in omega arith);
      cells = λ i l. get_or-append all (drop most_accelerations before) no_acceleration i (omega arith) ∙ h.cells i l;
      rest = λ i l.
          let j : i ≡ length all + (i - most_accelerations) = omega arith in
          let k : most_accelerations + (i - most_accelerations) ≡ i = omega arith in
          ap (λ (m : ℕ). get_or (all ++ drop most_accelerations before) m no_acceleration) j ∙ get_or-append-add all (drop most_accelerations before) (i - most_accelerations) no_acceleration
          ∙ get_or-drop most_accelerations before (i - most_accelerations) no_acceleration
          ∙ ap (λ (m : ℕ). get_or before m no_acceleration) k;
    })

no_records_lem : Holds no_acceleration most_accelerations (λ i. no_acceleration) no_records no_records
no_records_lem = holds_same no_acceleration most_accelerations (λ i. no_acceleration) no_records (λ i l. get_or-replicate most_accelerations i no_acceleration no_acceleration l)

with_records : {c : Content} {numbers : ℕ → ℕ} {b x : Nine} (all records : List Acceleration) → most_accelerations ≤ length records → HoldNine c numbers b x
    → Holds no_acceleration most_accelerations c.accelerations no_records all → HoldLent c numbers (lent_with b records) (lent_with x (take most_accelerations all ++ drop most_accelerations records))
with_records {c} all records room h k =
    record {
      tables =
          record {
            starts = h.starts;
            points = h.points;
            ranks = h.ranks;
            kept = h.kept;
            opponents = h.opponents;
            colours = h.colours;
            results = h.results;
            text = h.text;
            accelerations = records-held c.accelerations all records k room;
          };
      lines = h.lines;
    }

-- ---- 1 and 2
short-judged : (file : List ℕ) → Judged false file (refused (refusal 1 0 0))
unfolding outcome_of labels
short-judged file = judged false file

big_judged : (file : List ℕ) → most_file < length file → Judged true file (refused (refusal 2 0 0))
unfolding outcome_of labels
big_judged file l = rw (lt-ltb most_file (length file) l) at (judged true file)

-- ---- a call's parts
module _ (file : List ℕ) (b : Nine) (accelerations : ℕ) (long : Bool) (told : long ≡ are_long ((line_cells, length b.lines) ∷ (most_players, length b.starts) ∷ (most_players, length b.points) ∷ (most_players, length b.ranks) ∷ (kept_cells, length b.kept) ∷ (entry_cells, length b.opponents) ∷ (entry_cells, length b.colours) ∷ (entry_cells, length b.results) ∷ (most_text, length b.text) ∷ (most_accelerations, accelerations) ∷ [])) where
  enough_is : (records : List Acceleration) → length records ≡ accelerations → long ≡ enough_lent (lent_with b records)
  unfolding enough_lent
  enough_is records e = rw e told

  -- 1: nothing is touched
  pub short_core : long ≡ false → CoreReads file b accelerations (refused_core (refusal 1 0 0) 0) b
  short_core q =
      record {
        fits = omega arith;
        few = omega arith;
        reads = λ records e.
            let n : enough_lent (lent_with b records) ≡ false = sym (enough_is records e) ∙ q in
            record {
              outcome = refused (refusal 1 0 0);
              judged = subst (λ (v : Bool). Judged v file (refused (refusal 1 0 0))) (sym n) (short-judged file);
              leaves = (refl, subst (λ (v : Bool). Cleared v (lent_with b records) (lent_with b records)) (sym n) refl);
            };
      }

  module _ (q : long ≡ true) where
    lent_is : (records : List Acceleration) → length records ≡ accelerations → enough_lent (lent_with b records) ≡ true
    lent_is records e = sym (enough_is records e) ∙ q

    pub lent-long : Long b × (most_accelerations ≤ accelerations)
    lent-long =
        let all : List Acceleration = replicate accelerations no_acceleration in
        let e : length all ≡ accelerations = length-replicate accelerations no_acceleration in
        let k = long_of b all (lent_is all e) in
        (k.0, subst (λ (n : ℕ). most_accelerations ≤ n) e k.1)

    -- a refusal, the tables cleared
    pub cleared_core : {x : Nine} (p : Refusal) → Judged true file (refused p) → Zeroed b x → CoreReads file b accelerations (refused_core p most_accelerations) x
    unfolding zeros
    cleared_core {x} p j z =
        record {
          fits = lent-long.1;
          few = omega arith;
          reads = λ records e.
              let n = lent_is records e in
              let room = (long_of b records n).1 in
              record {
                outcome = refused p;
                judged = subst (λ (v : Bool). Judged v file (refused p)) (sym n) j;
                leaves = (refl, subst (λ (v : Bool). Cleared v (lent_with b records) (lent_with x (filled_in (refused_core p most_accelerations) records))) (sym n) (with_records no_records records room (zeroed_nine z) no_records_lem));
              };
        }

    pub big_core : {x : Nine} → most_file < length file → Zeroed b x → CoreReads file b accelerations (refused_core (refusal 2 0 0) most_accelerations) x
    big_core l z = cleared_core (refusal 2 0 0) (big_judged file l) z

    -- the lines, read into cleared tables
    module _ {x y : Nine} (z : Zeroed b x) (r : CoreAnswer) (h : LinesRead file x r y) where
      pub refused_core_lem : (r.answer.number ≡ 0 → ⊥) → {w : Nine} → Zeroed y w → CoreReads file b accelerations r w
      unfolding answer_of
      refused_core_lem n {w} k = go h.outcome h.judged h.leaves
        where
          go : (o : Outcome) → Judged true file o → LinesLeave o x r y → CoreReads file b accelerations r w
          go (refused p) j l = subst (λ (u : CoreAnswer). CoreReads file b accelerations u w) (sym l.answer) (cleared_core p j (zeroed_again z l.tables k))
          go (accepted t ps rs) j l = absurd (n (ap (λ u. u.number) l.answer))

      pub accepted_core_lem : r.answer.number ≡ 0 → CoreReads file b accelerations r y
      unfolding refused_answer
      accepted_core_lem n = go h.outcome h.judged h.leaves
        where
          go : (o : Outcome) → Judged true file o → LinesLeave o x r y → CoreReads file b accelerations r y
          go (refused p) j l = absurd (l.numbered (sym (ap (λ u. u.answer.number) l.answer) ∙ n))
          go (accepted t ps rs) j l =
              record {
                fits = let e = l.fill in let m = lent-long.1 in omega arith;
                few = let e = l.fill in omega arith;
                reads = λ records e.
                    let m = lent_is records e in
                    let room = (long_of b records m).1 in
                    record {
                      outcome = accepted t ps rs;
                      judged = subst (λ (v : Bool). Judged v file (accepted t ps rs)) (sym m) j;
                      leaves = (
                        l.answer,
                        subst (λ (f : ℕ). HoldLent (content_of t) (lines_content ps rs) (lent_with b records) (lent_with y (take f r.records ++ drop f records))) (sym l.fill)
                            (with_records r.records records room (held-again z l.tables) l.records),
                      );
                    };
              }
