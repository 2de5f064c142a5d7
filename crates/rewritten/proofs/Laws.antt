-- What a reading and a writing promise, for printing: no more bytes than there was room for, and the number of the file's answer. Assumes nothing.
use mathlib.Core.Path.{◌≡◌, refl, sym, ap, subst}
use mathlib.Core.Bool.{Bool, true, false}
use mathlib.Core.List.{List}
use Prim.Native.Nat.{ℕ, ◌≤◌}
use native.Mathlib.Omega.{arith}
use lib.ListN.{length, take-append-drop}
use lib.Seq.{length-take-le}
use Rattle.io.specs.Counts.{IsPrefixLen}
use Rattle.types.specs.declared.Acceleration.{Acceleration}
use Rattle.types.specs.declared.Answer.{Answer}
use Rattle.types.specs.declared.Written.{Written}
use Rattle.law.specs.Sizes.{most_accelerations}
use Rattle.law.specs.Lines.{End, crlf}
use Rattle.law.specs.Tables.{Tables}
use Rattle.law.specs.Writing.{longest}
use Rattle.law.specs.Calls.{end_of, written_answer, Reads, Writes, write_refused, write_done}
use Rattle.demands.proofs.ReadBack.{fits}
use Rattle.demands.proofs.Demands.{demand_3}
use Rattle.join.specs.Store.{Nine}
use Rattle.join.specs.Kept.{Long}
use Rattle.lines_read.specs.declared.CoreAnswer.{CoreAnswer}
use Rattle.reader.specs.Core.{lent_with, CoreReads}
use Rattle.listed.specs.Printed.{Numbered}
use Rattle.listed.proofs.Laws.{enough-lent, reads-numbered}
use Rattle.listed.specs.declared.Made.{Made}
use Rattle.rewritten.specs.Rewrites.{Rewrites}

room : (end : End) (a : Answer) (t : Tables) (x : List ℕ) (r : Written) (y : List ℕ) → Writes end a t x r y → r.length ≤ length y
unfolding written_answer
room end a t x r y (write_refused h) = let e = ap (λ (w : Written). w.length) h.says in omega arith
room end a t x r y (write_done h) =
    let e = ap (λ (w : Written). w.length) h.says in
    let k = fits end a t x r y h in
    let l = h.bytes.long in
    omega arith

-- what has room for the longest file with CR LF has room for either
pub either_fits : (cr_alone : Bool) {n : ℕ} → longest crlf ≤ n → longest (end_of cr_alone) ≤ n
either_fits false l = l
either_fits true l = omega arith

-- the tables are lent with the very records that the reading answers, so that what it fills in of them changes none
pub core_rewrites : {end : End} {file : List ℕ} {b : Nine} {core : CoreAnswer} {x : Nine} {before : List ℕ} {w : Written} {after : List ℕ}
    → CoreReads file b most_accelerations core x → length core.records ≡ most_accelerations → Long b → longest end ≤ length before
    → Writes end core.answer (lent_with x core.records).tables before w after
    → IsPrefixLen w.length after × Rewrites end file before (record { answer = core.answer; length = w.length }) after
core_rewrites {end} {file} {b} {core} {x} {before} {w} {after} read e long roomy writes =
    let all : List Acceleration = core.records in
    let k = room end core.answer (lent_with x all).tables before w after writes in
    let reads =
    subst (λ (l : List Acceleration). Reads file (lent_with b all) core.answer (lent_with x l)) (take-append-drop core.fill all) (read.reads all e) in (
      (k, sym (length-take-le w.length after k)),
      record {
        lent = lent_with b all;
        left = lent_with x all;
        enough = enough-lent b all long (omega arith);
        reads = reads;
        written = w;
        writes = writes;
        whole = λ n. demand_3.read_written file (lent_with b all) core.answer (lent_with x all) reads n end before roomy w after writes;
        long = refl;
      },
    )

pub rewrites_numbered : {end : End} {file before : List ℕ} {r : Made} {after : List ℕ} → Rewrites end file before r after → Numbered file r.answer.number
rewrites_numbered h = reads-numbered h.enough h.reads
