-- What a reading promises, for listing it: the answer's counts are small, and what is listed is what the statement says of the file.
-- Assumes nothing.
use mathlib.Core.Path.{◌≡◌, refl, sym, ap, ◌∙◌, subst}
use mathlib.Core.Bool.{Bool, true}
use mathlib.Core.List.{List, []}
use Prim.Native.Nat.{ℕ, ◌≤◌}
use native.Mathlib.Omega.{arith}
use lib.ListN.{length, replicate, length-replicate}
use Rattle.types.specs.declared.Acceleration.{Acceleration}
use Rattle.types.specs.declared.Answer.{Answer}
use borrow.Author.Tests.{le-leb}
use Rattle.kit.proofs.Bools.{both}
use Rattle.law.specs.Sizes.{most_players, most_rounds, most_accelerations, most_text}
use Rattle.law.specs.Tournament.{Tournament}
use Rattle.law.specs.Lawful.{Lawful, no_acceleration}
use Rattle.law.specs.Tables.{Lent, kept_cells, entry_cells, line_cells, enough_lent, answer_of}
use Rattle.law.specs.Refusals.{Refusal, Outcome, refused, accepted, Judged}
use Rattle.law.specs.Calls.{refused_answer, Leaves, Reads}
use Rattle.law.proofs.Judges.{accepted_lawful}
use Rattle.join.specs.Store.{Nine}
use Rattle.join.specs.Kept.{Long}
use Rattle.lines_read.specs.declared.CoreAnswer.{CoreAnswer}
use Rattle.reader.specs.Core.{lent_with, CoreReads}
use Rattle.tables.specs.Lent.{eight_of}
use Rattle.tables.specs.declared.lent.Tables as lent
use Rattle.listing.specs.declared.lent.ListedTables.{ListedTables}
use Rattle.listing.specs.Put.{Put}
use Rattle.listing.specs.Lent.{six, ShowsListed}
use Rattle.listing.specs.Listing.{Six, listing}
use Rattle.listing.specs.Outcomes.{Lists}
use Rattle.listing.proofs.Told.{read_and-listed, refused-numbered}
use Rattle.listed.specs.Printed.{number_of, Numbered, IsAccepted, IsRefused}

abbrev Small : Answer → Type 0
Small a = (a.players ≤ most_players) × (a.rounds ≤ most_rounds)

of_refusal : (x : Refusal) → Small (refused_answer x)
unfolding refused_answer
of_refusal x = (omega arith, omega arith)

of_lawful : (t : Tournament) → Lawful t → Small (answer_of t)
unfolding answer_of
of_lawful t l = (l.players_fit, l.rounds)

small : (long : Bool) (file : List ℕ) (o : Outcome) (b : Lent) (a : Answer) (x : Lent) → Judged long file o → Leaves o b a x → Small a
small long file (refused q) b a x j l = subst Small (sym l.0) (of_refusal q)
small long file (accepted t ps rs) b a x j l = subst Small (sym l.0) (of_lawful t (accepted_lawful long file t ps rs j).1)

pub core_small : {file : List ℕ} {b : Nine} {n : ℕ} {r : CoreAnswer} {x : Nine} → CoreReads file b n r x → Small r.answer
core_small {file} {b} {n} {r} {x} h =
    let s = h.reads (replicate n no_acceleration) (length-replicate n no_acceleration) in small _ file s.outcome _ r.answer _ s.judged s.leaves

pub enough-lent : (b : Nine) (records : List Acceleration) → Long b → most_accelerations ≤ length records → enough_lent (lent_with b records) ≡ true
unfolding enough_lent
enough-lent b records h k =
    both (le-leb line_cells (length b.lines) h.lines)
    (both (le-leb most_players (length b.starts) h.starts)
    (both (le-leb most_players (length b.points) h.points)
    (both (le-leb most_players (length b.ranks) h.ranks)
    (both (le-leb kept_cells (length b.kept) h.kept)
    (both (le-leb entry_cells (length b.opponents) h.opponents)
    (both (le-leb entry_cells (length b.colours) h.colours)
    (both (le-leb entry_cells (length b.results) h.results)
    (both (le-leb most_text (length b.text) h.text) (both (le-leb most_accelerations (length records) k) refl)))))))))

-- ---- the number of a reading's answer
of_outcome : (o : Outcome) (b : Lent) (a : Answer) (x : Lent) → Leaves o b a x → a.number ≡ number_of o
unfolding refused_answer answer_of
of_outcome (refused q) b a x l = ap (λ (u : Answer). u.number) l.0
of_outcome (accepted t ps rs) b a x l = ap (λ (u : Answer). u.number) l.0

pub reads-numbered : {file : List ℕ} {b : Lent} {a : Answer} {x : Lent} → enough_lent b ≡ true → Reads file b a x → Numbered file a.number
reads-numbered {file} {b} {a} {x} long r =
    record {
      outcome = r.outcome;
      judged = subst (λ (v : Bool). Judged v file r.outcome) long r.judged;
      says = of_outcome r.outcome b a x r.leaves;
    }

-- the tables that are listed, of the nine
abbrev pub six_in : Nine → Six
six_in x =
    record {
      starts = x.starts;
      points = x.points;
      ranks = x.ranks;
      opponents = x.opponents;
      colours = x.colours;
      results = x.results;
    }

pub core_listed : {file : List ℕ} {b : Nine} {n : ℕ} {r : CoreAnswer} {x : Nine} (l : lent.Tables) (s : ListedTables) {t : List ℕ} {e : ℕ} {u : List ℕ} → Long b → most_accelerations ≤ n
    → CoreReads file b n r x → eight_of l ≡ record x { lines = [] } → ShowsListed s l → Put (listing r.answer (six s)) 0 t e u
    → Lists file t e u × Numbered file r.answer.number
core_listed {file} {b} {n} {r} {x} l s {t} {e} {u} long few h q w p =
    let blank : List Acceleration = replicate n no_acceleration in
    let enough : enough_lent (lent_with b blank) ≡ true = enough-lent b blank long (let z = length-replicate n no_acceleration in omega arith) in
    let reads = h.reads blank (length-replicate n no_acceleration) in
    let shown : Put (listing r.answer (six_in (eight_of l))) 0 t e u = rw (w.starts, w.points, w.ranks, w.opponents, w.colours, w.results) at p in
    (read_and-listed enough reads (subst (λ (y : Six). Put (listing r.answer y) 0 t e u) (ap six_in q) shown), reads-numbered enough reads)

pub says-accepted : {file : List ℕ} {n : ℕ} → Numbered file n → n ≡ 0 → IsAccepted file
says-accepted {file} h z = go h.outcome h.judged (sym h.says ∙ z)
  where
    go : (o : Outcome) → Judged true file o → number_of o ≡ 0 → IsAccepted file
    go (refused q) j e = absurd (refused-numbered j e)
    go (accepted t ps rs) j e = record { t = t; of_players = ps; of_accelerations = rs; judged = j }

pub says-refused : {file : List ℕ} {n : ℕ} → Numbered file n → (n ≡ 0 → ⊥) → IsRefused file
says-refused {file} {n} h f = go h.outcome h.judged h.says
  where
    go : (o : Outcome) → Judged true file o → n ≡ number_of o → IsRefused file
    go (refused q) j e = record { refusal = q; judged = j }
    go (accepted t ps rs) j e = absurd (f e)
