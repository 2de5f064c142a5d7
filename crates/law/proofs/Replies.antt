-- What writer and question answer, computed from what a reading is of: the tests of their refusals, and the answer by the first that holds.
use mathlib.Core.Bool.{Bool, false, ◌&&◌, not}
use mathlib.Core.Option.{Option, none, some}
use mathlib.Core.List.{List, []}
use Prim.Native.Nat.{ℕ}
use lib.Dec.{leb, ltb}
use lib.ListN.{length}
use Rattle.kit.specs.Lists.{first}
use Rattle.kit.specs.Decides.{is_some}
use Rattle.types.specs.declared.Written.{Written}
use Rattle.types.specs.declared.Score.{Score}
use Rattle.law.specs.Lines.{End}
use Rattle.law.specs.Tournament.{Tournament}
use Rattle.law.specs.Writing.{written, earned_before, acceleration_for}
use Rattle.law.specs.Refusals.{no_refusal, Outcome, refused, accepted}
use Rattle.law.specs.Calls.{Denial, tables-short, no_reading, out_short, no_place, denial_of, writer_denials, written_answer, question_denials, score_answer}

-- o: the tournament of which the answer and the tables are a reading, if there is one; long: no lent table is too short; end: how the writer ends the lines
abbrev pub is_too_long : End → Option Tournament → ℕ → Bool
is_too_long end none room = false
is_too_long end (some t) room = ltb room (length (written end t))

abbrev pub is_outside : Option Tournament → ℕ → ℕ → Bool
is_outside none place round = false
is_outside (some t) place round = not (ltb place (length t.players) && leb 1 round && leb round t.rounds)

abbrev pub writer_denied : End → Bool → Option Tournament → ℕ → Denial → Bool
writer_denied end long o room tables-short = not long
writer_denied end long o room no_reading = not (is_some o)
writer_denied end long o room out_short = is_too_long end o room
writer_denied end long o room no_place = false

abbrev pub question_denied : Bool → Option Tournament → ℕ → ℕ → Denial → Bool
question_denied long o place round tables-short = not long
question_denied long o place round no_reading = not (is_some o)
question_denied long o place round out_short = false
question_denied long o place round no_place = is_outside o place round

abbrev pub write_by : End → Option Tournament → Option Denial → Written
write_by end o (some d) = written_answer (denial_of d) 0
write_by end none none = written_answer no_refusal 0
write_by end (some t) none = written_answer no_refusal (length (written end t))

abbrev pub write_of : End → Bool → Option Tournament → ℕ → Written
write_of end long o room = write_by end o (first (writer_denied end long o room) writer_denials)

abbrev pub ask_by : Option Tournament → ℕ → ℕ → Option Denial → Score
ask_by o place round (some d) = score_answer (denial_of d) 0 0
ask_by none place round none = score_answer no_refusal 0 0
ask_by (some t) place round none = score_answer no_refusal (earned_before t place round) (acceleration_for t place round)

abbrev pub ask_of : Bool → Option Tournament → ℕ → ℕ → Score
ask_of long o place round = ask_by o place round (first (question_denied long o place round) question_denials)

-- the bytes that the writer leaves from the first on: none after a refusal
abbrev pub bytes_by : End → Option Tournament → Option Denial → List ℕ
bytes_by end o (some d) = []
bytes_by end none none = []
bytes_by end (some t) none = written end t

abbrev pub bytes_of : End → Bool → Option Tournament → ℕ → List ℕ
bytes_of end long o room = bytes_by end o (first (writer_denied end long o room) writer_denials)

-- the tournament of an outcome
abbrev pub spelled_by : Outcome → Option Tournament
spelled_by (refused x) = none
spelled_by (accepted t ps rs) = some t
