-- The three calls: what each leaves in the answer and in every lent cell. These relations are all that a public contract cites. A lent `&` table or file stays as it is by its type, so only what is lent as `&mut` has a before and an after.
use Rattle.std.specs.Prelude.{◌≡◌, Bool, true, false, List, [], ◌∷◌, map, ℕ, ◌<◌, ◌≤◌, length, get_or}
use Rattle.kit.specs.First.{NoneOf, FirstIn}
use Rattle.kit.specs.Table.{Holds}
use Rattle.types.specs.declared.Answer.{Answer}
use Rattle.types.specs.declared.Written.{Written}
use Rattle.types.specs.declared.Score.{Score}
use Rattle.types.specs.declared.Place.{Place}
use Rattle.law.specs.Lines.{End, cr, crlf}
use Rattle.law.specs.Tournament.{Tournament}
use Rattle.law.specs.Spelling.{SpellsFile}
use Rattle.law.specs.Tables.{Tables, Lent, enough, enough_lent, content_of, lines_content, zeros, HoldLent, answer_of}
use Rattle.law.specs.Scoring.{letters}
use Rattle.law.specs.Refusals.{too_short, Refusal, refusal, no_refusal, refusal_of, Outcome, refused, accepted, Judged}
use Rattle.law.specs.Writing.{written, earned_before, acceleration_for}

-- ---- the reader. "Every refusal [..] has zero in every part of its answer but number, line and round."
unfoldable pub refused_answer : Refusal → Answer
refused_answer x =
    record {
      number = x.number;
      line = record { 0 = x.line };
      round = x.round;
      players = 0;
      rounds = 0;
      accelerations = 0;
      text = 0;
      colour = 0;
      values = map (λ c. 0) letters;
    }

-- "1 touches no table; 2 to 17 put zero in every listed cell."
abbrev pub Cleared : Bool → Lent → Lent → Type 0
Cleared true before after = HoldLent zeros (λ i. 0) before after
Cleared false before after = after ≡ before

abbrev pub Leaves : Outcome → Lent → Answer → Lent → Type 0
Leaves (refused x) before answer after = (answer ≡ refused_answer x) × Cleared (enough_lent before) before after
Leaves (accepted t of_players of_accelerations) before answer after = (answer ≡ answer_of t) × HoldLent (content_of t) (lines_content of_players of_accelerations) before after

pub record Reads (file : List ℕ) (before : Lent) (answer : Answer) (after : Lent) : Type 0 where
  pub outcome : Outcome
  pub judged : Judged (enough_lent before) file outcome
  pub leaves : Leaves outcome before answer after

-- ---- a reading, line numbers left out: the file, read into these very tables, is accepted with this answer and leaves them as they are; it spells t
pub record Reading (answer : Answer) (tables : Tables) (file : List ℕ) (t : Tournament) : Type 0 where
  pub lines_before : List ℕ
  pub lines_after : List ℕ
  pub reads : Reads file (record { tables = tables; lines = lines_before }) answer (record { tables = tables; lines = lines_after })
  pub accepts : answer.number ≡ 0
  pub spells : SpellsFile file t

-- ---- the writer's and the question's refusals: 1, 18, 19 and 1, 18, 20
pub data Denial : Type 0 where
  tables-short no_reading out_short no_place : Denial

abbrev pub denial_of : Denial → Refusal
denial_of tables-short = refusal_of too_short
denial_of no_reading = refusal 18 0 0
denial_of out_short = refusal 19 0 0
denial_of no_place = refusal 20 0 0

-- 18: "no accepted file has this reading (tables and answer, unused cells included, line numbers left out)"
abbrev pub NoReading : Answer → Tables → Type 0
NoReading answer tables = (file : List ℕ) (t : Tournament) → Reading answer tables file t → ⊥

-- how the lines end, by whether CR alone is asked for: "The writer's default becomes CR LF"; who relied on CR alone "must now ask for that"
abbrev pub end_of : Bool → End
end_of false = crlf
end_of true = cr

-- 19: the bytes of a reading's tournament do not fit in the room
pub record OutShort (end : End) (answer : Answer) (tables : Tables) (room : ℕ) : Type 0 where
  pub file : List ℕ
  pub t : Tournament
  pub reading : Reading answer tables file t
  pub short : room < length (written end t)

abbrev pub WriterDenies : End → Answer → Tables → ℕ → Denial → Type 0
WriterDenies end answer tables room tables-short = enough tables ≡ false
WriterDenies end answer tables room no_reading = NoReading answer tables
WriterDenies end answer tables room out_short = OutShort end answer tables room
WriterDenies end answer tables room no_place = ⊥

abbrev pub writer_denials : List Denial
writer_denials = tables-short ∷ no_reading ∷ out_short ∷ []

unfoldable pub written_answer : Refusal → ℕ → Written
written_answer x n = record { number = x.number; line = record { 0 = x.line }; round = x.round; length = n }

-- "The writer tests 1, 18, 19 and changes no byte if it refuses."
pub record WriteRefused (end : End) (answer : Answer) (tables : Tables) (before : List ℕ) (r : Written) (after : List ℕ) : Type 0 where
  pub denial : Denial
  pub first : FirstIn (WriterDenies end answer tables (length before)) writer_denials denial
  pub says : r ≡ written_answer (denial_of denial) 0
  pub untouched : after ≡ before

-- "The bytes after the writer's last one stay as they were. The answer gives the length."
pub record WriteDone (end : End) (answer : Answer) (tables : Tables) (before : List ℕ) (r : Written) (after : List ℕ) : Type 0 where
  pub no_denial : NoneOf (WriterDenies end answer tables (length before)) writer_denials
  pub file : List ℕ
  pub t : Tournament
  pub reading : Reading answer tables file t
  pub says : r ≡ written_answer no_refusal (length (written end t))
  pub bytes : Holds 0 (length (written end t)) (λ i. get_or (written end t) i 0) before after

pub data Writes (end : End) (answer : Answer) (tables : Tables) (before : List ℕ) (r : Written) (after : List ℕ) : Type 0 where
  write_refused : WriteRefused end answer tables before r after → Writes end answer tables before r after
  write_done : WriteDone end answer tables before r after → Writes end answer tables before r after

-- ---- the question. 20: "no such place or round"; "a place in the table and a round from 1 to R"
pub record NoPlace (answer : Answer) (tables : Tables) (place round : ℕ) : Type 0 where
  pub file : List ℕ
  pub t : Tournament
  pub reading : Reading answer tables file t
  pub outside : (place < length t.players) × (1 ≤ round) × (round ≤ t.rounds) → ⊥

abbrev pub QuestionDenies : Answer → Tables → ℕ → ℕ → Denial → Type 0
QuestionDenies answer tables place round tables-short = enough tables ≡ false
QuestionDenies answer tables place round no_reading = NoReading answer tables
QuestionDenies answer tables place round out_short = ⊥
QuestionDenies answer tables place round no_place = NoPlace answer tables place round

abbrev pub question_denials : List Denial
question_denials = tables-short ∷ no_reading ∷ no_place ∷ []

unfoldable pub score_answer : Refusal → ℕ → ℕ → Score
score_answer x points acceleration = record { number = x.number; line = record { 0 = x.line }; round = x.round; points = points; acceleration = acceleration }

pub record AskRefused (answer : Answer) (tables : Tables) (place round : ℕ) (r : Score) : Type 0 where
  pub denial : Denial
  pub first : FirstIn (QuestionDenies answer tables place round) question_denials denial
  pub says : r ≡ score_answer (denial_of denial) 0 0

pub record AskDone (answer : Answer) (tables : Tables) (place round : ℕ) (r : Score) : Type 0 where
  pub no_denial : NoneOf (QuestionDenies answer tables place round) question_denials
  pub file : List ℕ
  pub t : Tournament
  pub reading : Reading answer tables file t
  pub says : r ≡ score_answer no_refusal (earned_before t place round) (acceleration_for t place round)

pub data Asks (answer : Answer) (tables : Tables) (place : Place) (round : ℕ) (r : Score) : Type 0 where
  ask_refused : AskRefused answer tables place.0 round r → Asks answer tables place round r
  ask_done : AskDone answer tables place.0 round r → Asks answer tables place round r
