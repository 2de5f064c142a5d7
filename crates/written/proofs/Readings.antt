-- 18 over files is the same as: no lawful tournament has this reading. So `Writes` and `Asks` permit one answer and one content of every lent cell. Assumes nothing.
use mathlib.Core.Path.{◌≡◌, sym, ap, ◌∙◌, subst}
use mathlib.Core.Logic.{◌↔◌}
use mathlib.Core.Bool.{Bool, true}
use mathlib.Core.List.{List}
use Prim.Native.Nat.{ℕ}
use native.Mathlib.Omega.{arith}
use lib.ListN.{length, get_or, replicate, length-replicate}
use borrow.Author.Tests.{le-leb}
use Rattle.kit.specs.Table.{Holds}
use Rattle.kit.proofs.Bools.{both}
use Rattle.kit.proofs.Firsts.{first_unique, none_first}
use Rattle.kit.proofs.Tables.{one_content, filled, filled-holds}
use Rattle.types.specs.declared.Answer.{Answer}
use Rattle.types.specs.declared.Written.{Written}
use Rattle.types.specs.declared.Score.{Score}
use Rattle.types.specs.declared.Place.{Place}
use Rattle.law.specs.Lines.{End, cr}
use Rattle.law.specs.Tournament.{Tournament}
use Rattle.law.specs.Lawful.{Lawful}
use Rattle.law.specs.Tables.{Tables, Lent, line_cells, enough, enough_lent, lines_content, answer_of}
use Rattle.law.specs.Refusals.{no_refusal, accepted, Accepted, Judged}
use Rattle.law.specs.Writing.{written, earned_before, acceleration_for}
use Rattle.law.specs.Calls.{Reading, Denial, denial_of, NoReading, WriterDenies, written_answer, Writes, write_refused, write_done, QuestionDenies, score_answer, Asks, ask_refused, ask_done}
use Rattle.law.proofs.Judges.{lawful_accepted}
use Rattle.law.proofs.ReadsOnce.{lent-enough}
use Rattle.written.proofs.Spelled.{written-spells}
use Rattle.written.proofs.Lengths.{written-long, longest-most}
-- what needs no writer
pub use Rattle.law.proofs.Readings.{Has, Read, accepted_read, reading_has, one_reading}

-- line numbers to read into
blank-lines : List ℕ
blank-lines = replicate line_cells 0

lent-long : (tables : Tables) → enough tables ≡ true → enough_lent (record { tables = tables; lines = blank-lines }) ≡ true
unfolding enough enough_lent blank-lines
lent-long tables h = both (le-leb line_cells (length blank-lines) (let l = length-replicate {A = ℕ} line_cells 0 in omega arith)) h

-- what the writer produces is accepted, as that tournament
pub written-accepted : (e : End) (t : Tournament) → Lawful t → (ps : List ℕ) × (rs : List ℕ) × Accepted true (written e t) t ps rs
written-accepted e t h = lawful_accepted (written e t) t (let l = written-long e t h in let m = longest-most e in omega arith) (written-spells e t h) h

pub has_reading : (answer : Answer) (tables : Tables) (t : Tournament) → Lawful t → Has t answer tables → Reading answer tables (written cr t) t
unfolding answer_of
has_reading answer tables t h k =
    let q = written-accepted cr t h in
    let before : Lent = record { tables = tables; lines = blank-lines } in
    let long = lent-long tables k.long in
    let n = lines_content q.0 q.1 in
    let room = (lent-enough before long).0 in
    let after : List ℕ = filled 0 line_cells n blank-lines in
    record {
      lines_before = blank-lines;
      lines_after = after;
      reads =
          record {
            outcome = accepted t q.0 q.1;
            judged = subst (λ (b : Bool). Judged b (written cr t) (accepted t q.0 q.1)) (sym long) q.2;
            leaves = (k.says, record { tables = k.holds; lines = filled-holds 0 line_cells n blank-lines room });
          };
      accepts = ap (λ (a : Answer). a.number) k.says;
      spells = written-spells cr t h;
    }

-- "no accepted file has this reading" and "no lawful tournament has it" are one
pub no_reading : (answer : Answer) (tables : Tables) → NoReading answer tables ↔ ((t : Tournament) → Lawful t → Has t answer tables → ⊥)
no_reading answer tables = (
  λ n t h k. n (written cr t) t (has_reading answer tables t h k),
  λ n file t r. let q = reading_has answer tables file t r in n t q.0 q.1,
)

-- ---- the writer: one answer and one content of the output, whatever the lengths
pub writes-once : (end : End) (answer : Answer) (tables : Tables) (before : List ℕ) (r s : Written) (x y : List ℕ) → Writes end answer tables before r x → Writes end answer tables before s y → (r ≡ s) × (x ≡ y)
writes-once end answer tables before r s x y (write_refused a) (write_refused b) =
    let e = first_unique (WriterDenies end answer tables (length before)) a.first b.first in
    (a.says ∙ ap (λ (d : Denial). written_answer (denial_of d) 0) e ∙ sym b.says, a.untouched ∙ sym b.untouched)
writes-once end answer tables before r s x y (write_refused a) (write_done b) = absurd (none_first (WriterDenies end answer tables (length before)) b.no_denial a.first)
writes-once end answer tables before r s x y (write_done a) (write_refused b) = absurd (none_first (WriterDenies end answer tables (length before)) a.no_denial b.first)
writes-once end answer tables before r s x y (write_done a) (write_done b) =
    let e = one_reading answer tables a.file b.file a.t b.t a.reading b.reading in (
      a.says ∙ ap (λ (t : Tournament). written_answer no_refusal (length (written end t))) e ∙ sym b.says,
      one_content 0 (length (written end b.t)) (λ i. get_or (written end b.t) i 0) before x y
          (subst (λ (t : Tournament). Holds 0 (length (written end t)) (λ i. get_or (written end t) i 0) before x) e a.bytes) b.bytes,
    )

-- ---- the question: one answer
pub asks_once : (answer : Answer) (tables : Tables) (place : Place) (round : ℕ) (r s : Score) → Asks answer tables place round r → Asks answer tables place round s → r ≡ s
asks_once answer tables place round r s (ask_refused a) (ask_refused b) =
    let e = first_unique (QuestionDenies answer tables place.0 round) a.first b.first in
    a.says ∙ ap (λ (d : Denial). score_answer (denial_of d) 0 0) e ∙ sym b.says
asks_once answer tables place round r s (ask_refused a) (ask_done b) = absurd (none_first (QuestionDenies answer tables place.0 round) b.no_denial a.first)
asks_once answer tables place round r s (ask_done a) (ask_refused b) = absurd (none_first (QuestionDenies answer tables place.0 round) a.no_denial b.first)
asks_once answer tables place round r s (ask_done a) (ask_done b) =
    let e = one_reading answer tables a.file b.file a.t b.t a.reading b.reading in
    a.says ∙ ap (λ (t : Tournament). score_answer no_refusal (earned_before t place.0 round) (acceleration_for t place.0 round)) e ∙ sym b.says
