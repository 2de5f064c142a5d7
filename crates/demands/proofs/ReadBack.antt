-- What the writer wrote, the reader accepts and reads back: the same answer, and the same in every listed cell, whatever tables it is lent. Said of the relations that are the
-- contracts of the two calls. Assumes nothing.
use mathlib.Core.Path.{◌≡◌, sym, ap, ◌∙◌, subst}
use mathlib.Core.Bool.{true}
use mathlib.Core.List.{List}
use Prim.Native.Nat.{ℕ, ◌≤◌, ◌<◌}
use native.Mathlib.Decide.{dec_lt}
use native.Mathlib.Omega.{arith}
use lib.ListN.{length, get_or, take}
use lib.Seq.{length-take-le, get_or-take, ext_get_or}
use Rattle.kit.specs.Table.{Holds}
use Rattle.types.specs.declared.Answer.{Answer}
use Rattle.types.specs.declared.Written.{Written}
use Rattle.law.specs.Lines.{End}
use Rattle.law.specs.Tournament.{Tournament}
use Rattle.law.specs.Lawful.{Lawful}
use Rattle.law.specs.Tables.{Tables, Lent, enough_lent, content_of, HoldAll, answer_of}
use Rattle.law.specs.Writing.{written}
use Rattle.law.specs.Calls.{Reads, Denial, tables-short, no_reading, out_short, no_place, denial_of, written_answer, WriteDone, Writes, write_refused, write_done}
use Rattle.law.proofs.ReadsOnce.{reads_lawful}
use Rattle.written.proofs.Spelled.{written-spells}
use Rattle.written.proofs.Lengths.{written-long, longest-most}
use Rattle.written.proofs.Readings.{reading_has}
use Rattle.demands.specs.Demands.{SameCells}

-- ---- what holds one tournament has the same cells
same-held : (t : Tournament) {b x c y : Tables} → HoldAll (content_of t) b x → HoldAll (content_of t) c y → SameCells x y
same-held t h k =
    record {
      starts = λ i l. h.starts.cells i l ∙ sym (k.starts.cells i l);
      points = λ i l. h.points.cells i l ∙ sym (k.points.cells i l);
      ranks = λ i l. h.ranks.cells i l ∙ sym (k.ranks.cells i l);
      kept = λ i l. h.kept.cells i l ∙ sym (k.kept.cells i l);
      opponents = λ i l. h.opponents.cells i l ∙ sym (k.opponents.cells i l);
      colours = λ i l. h.colours.cells i l ∙ sym (k.colours.cells i l);
      results = λ i l. h.results.cells i l ∙ sym (k.results.cells i l);
      text = λ i l. h.text.cells i l ∙ sym (k.text.cells i l);
      accelerations = λ i l. h.accelerations.cells i l ∙ sym (k.accelerations.cells i l);
    }

-- ---- a writing that refuses nothing has written the bytes of the tournament
pub denial-number : (d : Denial) → 1 ≤ (denial_of d).number
denial-number tables-short = omega arith
denial-number no_reading = omega arith
denial-number out_short = omega arith
denial-number no_place = omega arith

-- the first n bytes of what holds them
pub bytes-are : (bytes before after : List ℕ) → length bytes ≤ length before → Holds 0 (length bytes) (λ i. get_or bytes i 0) before after → take (length bytes) after ≡ bytes
bytes-are bytes before after room h =
    let m = h.long in
    let e : length (take (length bytes) after) ≡ length bytes = length-take-le (length bytes) after (omega arith) in
    ext_get_or 0 (take (length bytes) after) bytes e (λ i l. get_or-take (length bytes) after i 0 (omega arith) ∙ h.cells i (omega arith))

module _ (end : End) (a : Answer) (t : Tables) (before : List ℕ) (r : Written) (after : List ℕ) where
  pub record Wrote : Type 0 where
    pub u : Tournament
    pub lawful : Lawful u
    pub says : a ≡ answer_of u
    pub holds : HoldAll (content_of u) t t
    pub bytes : take r.length after ≡ written end u

  -- the bytes had room
  pub fits : (w : WriteDone end a t before r after) → length (written end w.t) ≤ length before
  fits w = go (dec_lt (length before) (length (written end w.t)))
    where
      go : Dec (length before < length (written end w.t)) → length (written end w.t) ≤ length before
      go (yes l) = absurd (w.no_denial.1.1.0 (record { file = w.file; t = w.t; reading = w.reading; short = l }))
      go (no l) = omega arith

  pub wrote : Writes end a t before r after → r.number ≡ 0 → Wrote
  unfolding written_answer
  wrote (write_refused w) e =
      let n = ap (λ (x : Written). x.number) w.says in
      let m = denial-number w.denial in
      absurd (omega arith)
  wrote (write_done w) e =
      let k = reading_has a t w.file w.t w.reading in
      let n : r.length ≡ length (written end w.t) = ap (λ (x : Written). x.length) w.says in
      record {
        u = w.t;
        lawful = k.0;
        says = k.1.says;
        holds = k.1.holds;
        bytes = ap (λ (m : ℕ). take m after) n ∙ bytes-are (written end w.t) before after (fits w) w.bytes;
      }

  -- ---- and is read back
  pub read_back : Writes end a t before r after → r.number ≡ 0 → (lent : Lent) → enough_lent lent ≡ true → (b : Answer) (x : Lent) → Reads (take r.length after) lent b x → (b.number ≡ 0) × (b ≡ a) × SameCells x.tables t
  unfolding answer_of
  read_back w e lent long b x h =
      let k = wrote w e in
      let q = subst (λ (file : List ℕ). Reads file lent b x) k.bytes h in
      let n = written-long end k.u k.lawful in
      let m = longest-most end in
      let l = reads_lawful (written end k.u) k.u lent long (omega arith) (written-spells end k.u k.lawful) k.lawful b x q in
      (ap (λ (v : Answer). v.number) l.says, l.says ∙ sym k.says, same-held k.u l.holds.tables k.holds)
