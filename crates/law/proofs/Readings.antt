-- What an accepted reading is: a lawful tournament that the file spells, and the answer and the listed cells are its own; so a reading is of one tournament. Assumes nothing.
use mathlib.Core.Path.{◌≡◌, sym, ap, ◌∙◌, subst}
use mathlib.Core.Bool.{true}
use mathlib.Core.List.{List}
use Prim.Native.Nat.{ℕ}
use native.Mathlib.Omega.{arith}
use Rattle.types.specs.declared.Answer.{Answer}
use Rattle.law.specs.Tournament.{Tournament}
use Rattle.law.specs.Entries.{bye-or-game, mutual_pairing, fitting_results, one_U}
use Rattle.law.specs.Lawful.{Lawful}
use Rattle.law.specs.Spelling.{SpellsFile}
use Rattle.law.specs.Tables.{Tables, Lent, enough, enough_lent, content_of, HoldAll, answer_of}
use Rattle.law.specs.Refusals.{Label, too_short, too_big, at_line_lem, of_file, incomplete, past_142, shared, unlawful, wrong_sum_lem, bad_byte, no_cr, too_long, not_listed, bad_field, again, too_many, Refusal, refusal_of, Outcome, refused, accepted, Judged}
use Rattle.law.specs.Calls.{refused_answer, Leaves, Reads, Reading}
use Rattle.law.proofs.Accepts.{one_tournament}
use Rattle.law.proofs.Judges.{accepted_lawful, accepted-long}
use Rattle.law.proofs.ReadsOnce.{lent-enough}
use Rattle.law.proofs.TwoReadings.{one_tournament_a_reading}

-- ---- a tournament has this reading: the answer and the listed cells are its own
pub record Has (t : Tournament) (answer : Answer) (tables : Tables) : Type 0 where
  pub long : enough tables ≡ true
  pub says : answer ≡ answer_of t
  pub holds : HoldAll (content_of t) tables tables

-- a refusal's number is not 0
pub refused-not_0 : (x : Label) → (refusal_of x).number ≡ 0 → ⊥
refused-not_0 too_short e = omega arith
refused-not_0 too_big e = omega arith
refused-not_0 (at_line_lem bad_byte b l) e = omega arith
refused-not_0 (at_line_lem no_cr b l) e = omega arith
refused-not_0 (at_line_lem too_long b l) e = omega arith
refused-not_0 (at_line_lem not_listed b l) e = omega arith
refused-not_0 (at_line_lem bad_field b l) e = omega arith
refused-not_0 (at_line_lem again b l) e = omega arith
refused-not_0 (at_line_lem too_many b l) e = omega arith
refused-not_0 (of_file incomplete s r) e = omega arith
refused-not_0 (of_file past_142 s r) e = omega arith
refused-not_0 (of_file shared s r) e = omega arith
refused-not_0 (of_file (unlawful bye-or-game) s r) e = omega arith
refused-not_0 (of_file (unlawful mutual_pairing) s r) e = omega arith
refused-not_0 (of_file (unlawful fitting_results) s r) e = omega arith
refused-not_0 (of_file (unlawful one_U) s r) e = omega arith
refused-not_0 (of_file wrong_sum_lem s r) e = omega arith

-- what an acceptance has read is a lawful tournament that the file spells
pub record Read (file : List ℕ) (before : Lent) (answer : Answer) (after : Lent) : Type 0 where
  pub t : Tournament
  pub spells : SpellsFile file t
  pub lawful : Lawful t
  pub long : enough_lent before ≡ true
  pub says : answer ≡ answer_of t
  pub holds : HoldAll (content_of t) before.tables after.tables

pub accepted_read : (file : List ℕ) (before : Lent) (answer : Answer) (after : Lent) → Reads file before answer after → answer.number ≡ 0 → Read file before answer after
unfolding refused_answer
accepted_read file before answer after r e = go r.outcome r.judged r.leaves
  where
    go : (o : Outcome) → Judged (enough_lent before) file o → Leaves o before answer after → Read file before answer after
    go (refused x) j l =
        let n : x.number ≡ 0 = sym (ap (λ (a : Answer). a.number) l.0) ∙ e in
        absurd (refused-not_0 j.label (sym (ap (λ (q : Refusal). q.number) j.says) ∙ n))
    go (accepted t ps rs) j l =
        let k = accepted_lawful (enough_lent before) file t ps rs j in
        record { t = t; spells = k.0; lawful = k.1; long = accepted-long (enough_lent before) file t ps rs j; says = l.0; holds = l.1.tables }

-- ---- of a reading
pub reading_has : (answer : Answer) (tables : Tables) (file : List ℕ) (t : Tournament) → Reading answer tables file t → Lawful t × Has t answer tables
reading_has answer tables file t r =
    let k = accepted_read file _ answer _ r.reads r.accepts in
    let e = one_tournament file k.t t k.spells r.spells in (
      subst Lawful e k.lawful,
      record {
        long = (lent-enough _ k.long).1;
        says = subst (λ (u : Tournament). answer ≡ answer_of u) e k.says;
        holds = subst (λ (u : Tournament). HoldAll (content_of u) tables tables) e k.holds;
      },
    )

-- a reading is of one tournament, whatever the file
pub one_reading : (answer : Answer) (tables : Tables) (f g : List ℕ) (t u : Tournament) → Reading answer tables f t → Reading answer tables g u → t ≡ u
one_reading answer tables f g t u r s =
    let a = reading_has answer tables f t r in
    let b = reading_has answer tables g u s in
    one_tournament_a_reading t u a.0 b.0 (sym a.1.says ∙ b.1.says) tables tables tables a.1.holds b.1.holds
