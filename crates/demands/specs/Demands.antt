-- The three demands, sentence by sentence, as what the three calls promise: the module to read first. Above each field stands its sentence. `Reads`, `Writes` and `Asks` are
-- all that the contracts of `trf_read`, `trf_write` and `trf_ask` say (`crates/face/src/lib.rt`); these and the other words below are defined in `crates/law/specs`, the
-- marked rows in `crates/law/proofs/Marked`. Definitions alone: `proofs/Demands` proves each demand, as one theorem.
use Rattle.std.specs.Prelude.{◌≡◌, ◌↔◌, true, false, ◌&&◌, List, [], ◌∷◌, ◌++◌, map, ℕ, ◌+◌, ◌*◌, ◌≤◌, ◌<◌, length, get_or, take, drop}
use Prim.Native.Char.{code}
use Rattle.kit.specs.Ascii.{ascii}
use Rattle.kit.specs.Lists.{among, is_one_of, flat, only_or, Each}
use Rattle.kit.specs.First.{AllOf, FirstIn}
use Rattle.types.specs.declared.Answer.{Answer}
use Rattle.types.specs.declared.Written.{Written}
use Rattle.types.specs.declared.Score.{Score}
use Rattle.types.specs.declared.Place.{Place}
use Rattle.law.specs.Sizes.{most_file, most_players, most_accelerations, most_text}
use Rattle.law.specs.Lines.{End, Line, Lines}
use Rattle.law.specs.Columns.{col}
use Rattle.law.specs.Scoring.{Scoring, letters_of}
use Rattle.law.specs.Accelerations.{acceleration_code}
use Rattle.law.specs.Players.{player_code, Slot}
use Rattle.law.specs.Items.{Item}
use Rattle.law.specs.Tournament.{Player, Tournament, normal, scoring_in, tournament_of}
use Rattle.law.specs.Entries.{player_at, entry_of, is_another, is_game, fits, worth}
use Rattle.law.specs.Lawful.{Lawful, no_acceleration}
use Rattle.law.specs.Spelling.{SpellsLine, SpellsFile}
use Rattle.law.specs.Tables.{Tables, Lent, kept_cells, entry_cells, enough, enough_lent, content_of, lines_content, zeros, HoldAll, HoldLent, answer_of}
use Rattle.law.specs.Refusals.{lines_of, Refusal, refusal, no_refusal, Refused}
use Rattle.law.specs.Writing.{player_line, written_lines, written, longest, earned_before, acceleration_for}
use Rattle.law.specs.Calls.{refused_answer, Reads, Reading, Denial, denial_of, end_of, WriterDenies, writer_denials, written_answer, Writes, QuestionDenies, question_denials, score_answer, Asks}
use Rattle.law.proofs.Rows.{RowHolds}
use Rattle.law.proofs.Marked.{rows}

-- ---- of every call, whatever it is given: any file, any answer, tables and output of any length and content, either terminator; and of all that it may then answer and leave
abbrev pub EveryReading : (List ℕ → Lent → Answer → Lent → Type 0) → Type 0
EveryReading Says = (file : List ℕ) (before : Lent) (a : Answer) (after : Lent) → Reads file before a after → Says file before a after

abbrev pub EveryWriting : (End → Answer → Tables → List ℕ → Written → List ℕ → Type 0) → Type 0
EveryWriting Says = (end : End) (a : Answer) (tables : Tables) (before : List ℕ) (w : Written) (after : List ℕ) → Writes end a tables before w after → Says end a tables before w after

abbrev pub EveryQuestion : (Answer → Tables → Place → ℕ → Score → Type 0) → Type 0
EveryQuestion Says = (a : Answer) (tables : Tables) (place : Place) (round : ℕ) (s : Score) → Asks a tables place round s → Says a tables place round s

pub record Demand1 : Type 0 where
  -- "Every byte string gets an answer": there is one, and one only, with one content of every lent cell. "No call trusts that its caller looked first": nothing is asked
  -- of file, answer, tables, terminator, output, place and round, here or by a `requires` of the three calls
  pub reading_answered : (file : List ℕ) (before : Lent) → (a : Answer) × (after : Lent) × Reads file before a after
  pub writing_answered : (end : End) (a : Answer) (tables : Tables) (before : List ℕ) → (w : Written) × (after : List ℕ) × Writes end a tables before w after
  pub question_answered : (a : Answer) (tables : Tables) (place : Place) (round : ℕ) → (s : Score) × Asks a tables place round s
  pub reading_once : EveryReading (λ file before a after. (b : Answer) (x : Lent) → Reads file before b x → (a ≡ b) × (after ≡ x))
  pub writing_once : EveryWriting (λ end a tables before w after. (v : Written) (x : List ℕ) → Writes end a tables before v x → (w ≡ v) × (after ≡ x))
  pub question_once : EveryQuestion (λ a tables place round s. (v : Score) → Asks a tables place round v → s ≡ v)
  -- "Bad input or bad tables get one of the numbered refusals": 0 is an acceptance
  pub reading_numbers : EveryReading (λ file before a after. a.number ≤ 17)
  pub writing_numbers : EveryWriting (λ end a tables before w after. among w.number (0 ∷ 1 ∷ 18 ∷ 19 ∷ []) ≡ true)
  pub question_numbers : EveryQuestion (λ a tables place round s. among s.number (0 ∷ 1 ∷ 18 ∷ 20 ∷ []) ≡ true)
  -- "with line and round, by a fixed order": those of the first fault, in the order of `labels` (`Refused`), `writer_denials` and `question_denials`
  pub reading_first : EveryReading (λ file before a after. 1 ≤ a.number → (x : Refusal) × Refused (enough_lent before) file x × (a ≡ refused_answer x))
  pub writing_first : EveryWriting (λ end a tables before w after. 1 ≤ w.number → (d : Denial) × FirstIn (WriterDenies end a tables (length before)) writer_denials d × (w ≡ written_answer (denial_of d) 0))
  pub question_first : EveryQuestion (λ a tables place round s. 1 ≤ s.number → (d : Denial) × FirstIn (QuestionDenies a tables place.0 round) question_denials d × (s ≡ score_answer (denial_of d) 0 0))
  -- "A refused reading clears the lent tables": every listed cell is zero, the others are as they were
  pub refused_clears : EveryReading (λ file before a after. 1 ≤ a.number → enough_lent before ≡ true → HoldLent zeros (λ i. 0) before after)
  -- "a refused writing leaves the output untouched"
  pub refused_untouched : EveryWriting (λ end a tables before w after. 1 ≤ w.number → after ≡ before)
  -- "If any lent table is too short, none is touched." Writer and question never change a table: they are lent no table to write
  pub reading_short : EveryReading (λ file before a after. enough_lent before ≡ false → (a ≡ refused_answer (refusal 1 0 0)) × (after ≡ before))
  pub writing_short : EveryWriting (λ end a tables before w after. enough tables ≡ false → (w ≡ written_answer (refusal 1 0 0) 0) × (after ≡ before))
  pub question_short : EveryQuestion (λ a tables place round s. enough tables ≡ false → s ≡ score_answer (refusal 1 0 0) 0 0)

-- ---- a letter that is "not given in 162": no slot of a 162 among the items has it
abbrev pub NotGiven : ℕ → List Item → Type 0
NotGiven letter items = among letter (letters_of (only_or [] (flat scoring_in items))) ≡ false

-- ---- all ways in which results fit, the player's own first; the last four by document 02: "0 with 0 now fits, and = with 0 either way round", and an unknown result "fits only
-- another unknown"
abbrev pub fitting_ways : List (List ℕ)
fitting_ways = ascii "10" ∷ ascii "01" ∷ ascii "==" ∷ ascii "WL" ∷ ascii "LW" ∷ ascii "DD" ∷ ascii "+-" ∷ ascii "-+" ∷ ascii "--" ∷ ascii "00" ∷ ascii "=0" ∷ ascii "0=" ∷ ascii "??" ∷ []

pub record Demand2 : Type 0 where
  -- "Reading [..] follow[s] document 01: every column": an accepted file's lines spell items, column by column (`SpellsItem`), and the answer and every cell, line numbers
  -- too, are those of what the items say together
  pub columns : EveryReading (λ file before a after. a.number ≡ 0 → (lines : List Line) × (items : List Item) × Lines file lines × Each SpellsLine lines items
      × (a ≡ answer_of (tournament_of items)) × HoldLent (content_of (tournament_of items)) (lines_content (lines_of player_code 0 lines) (lines_of acceleration_code 0 lines)) before after)
  -- "every result code's worth", by which 16 tests the points (`states_sum`) and a question is answered (`values`); document 02: an unknown result "earns X"
  pub worths : (s : Scoring) → map (worth s) (ascii "1W+F=DH0L-ZU?")
      ≡ s.win ∷ s.win ∷ s.win ∷ s.win ∷ s.draw ∷ s.draw ∷ s.draw ∷ s.loss ∷ s.loss ∷ s.absent ∷ s.absent ∷ s.pairing ∷ s.unknown ∷ []
  -- "A letter that is not given keeps its default: W 1.0, D 0.5, L 0.0, A 0.0", in what the items say together (`columns`)
  pub default_values : (items : List Item) → (NotGiven (code "W") items → (tournament_of items).scoring.win ≡ 10) × (NotGiven (code "D") items → (tournament_of items).scoring.draw ≡ 5)
      × (NotGiven (code "L") items → (tournament_of items).scoring.loss ≡ 0) × (NotGiven (code "A") items → (tournament_of items).scoring.absent ≡ 0)
  -- and document 02: "a P or X not given in 162 takes the event's own W or D, given or default"
  pub own_pairing : (items : List Item) → NotGiven (code "P") items → (tournament_of items).scoring.pairing ≡ (tournament_of items).scoring.win
  pub own_unknown : (items : List Item) → NotGiven (code "X") items → (tournament_of items).scoring.unknown ≡ (tournament_of items).scoring.draw
  -- "Results that fit", by which 14 is given: of all bytes these, and no others
  pub results_fit : (own theirs : ℕ) → fits own theirs ≡ is_one_of (own ∷ theirs ∷ []) fitting_ways
  -- document 02: "An entry with an opponent, a colour `w` or `b` and a blank result is an unknown result. [..] The tables hold `?` there": a blank beside any id but 0 is held as `?`, and
  -- the entry is a game exactly when the id is another player's and the colour is `w` or `b`
  pub unknown_held : (t : Tournament) (p : Player) (s : Slot) → 1 ≤ s.id → s.result ≡ code " "
      → (normal s ≡ record { id = s.id; colour = s.colour; result = code "?" }) × (is_game t p (normal s) ≡ is_another t p s.id && among s.colour (ascii "wb"))
  -- "the writer puts a blank", at the result's column of round r, and the line has "exactly 89+10R bytes" with it
  pub unknown_written : (t : Tournament) → Lawful t → (place r : ℕ) → place < length t.players → 1 ≤ r → r ≤ t.rounds → (entry_of r (player_at t place)).result ≡ code "?"
      → (col (player_line (player_at t place)) (89 + 10 * r) ≡ code " ") × (length (player_line (player_at t place)) ≡ 89 + 10 * t.rounds)
  -- "every refusal with its place": given exactly when it is the first fault
  pub reading_refusals : EveryReading (λ file before a after. (x : Refusal) → (a ≡ refused_answer x) ↔ Refused (enough_lent before) file x)
  pub writing_refusals : EveryWriting (λ end a tables before w after. (d : Denial) → (w ≡ written_answer (denial_of d) 0) ↔ FirstIn (WriterDenies end a tables (length before)) writer_denials d)
  pub question_refusals : EveryQuestion (λ a tables place round s. (d : Denial) → (s ≡ score_answer (denial_of d) 0 0) ↔ FirstIn (QuestionDenies a tables place.0 round) question_denials d)
  -- "every byte that the writer puts out": those of the tournament that was read, which `held_no_other` says is one, and after them the output as it was
  pub bytes : EveryWriting (λ end a tables before w after. w.number ≡ 0 → (file : List ℕ) × (t : Tournament) × Reading a tables file t
      × (w ≡ written_answer no_refusal (length (written end t))) × (after ≡ written end t ++ drop (length (written end t)) before))
  -- document 02: "The writer's default becomes CR LF"; who wants CR alone asks for it, by `true` in the call
  pub line_ends : (t : Tournament) → (written (end_of false) t ≡ flat (λ line. line ++ (13 ∷ 10 ∷ [])) (written_lines t)) × (written (end_of true) t ≡ flat (λ line. line ++ (13 ∷ [])) (written_lines t))
  -- and the question's two values
  pub values : EveryQuestion (λ a tables place round s. s.number ≡ 0 → (file : List ℕ) × (t : Tournament) × Reading a tables file t
      × (s ≡ score_answer no_refusal (earned_before t place.0 round) (acceleration_for t place.0 round)))
  -- the twelve rows that document 01 marks for proof
  pub marked_rows : AllOf RowHolds rows

-- ---- two tables with the same listed cells
abbrev pub Same : {A : Type 0} → A → ℕ → List A → List A → Type 0
Same d n x y = (i : ℕ) → i < n → get_or x i d ≡ get_or y i d

pub record SameCells (x y : Tables) : Type 0 where
  pub starts : Same 0 most_players x.starts y.starts
  pub points : Same 0 most_players x.points y.points
  pub ranks : Same 0 most_players x.ranks y.ranks
  pub kept : Same 0 kept_cells x.kept y.kept
  pub opponents : Same 0 entry_cells x.opponents y.opponents
  pub colours : Same 0 entry_cells x.colours y.colours
  pub results : Same 0 entry_cells x.results y.results
  pub text : Same 0 most_text x.text y.text
  pub accelerations : Same no_acceleration most_accelerations x.accelerations y.accelerations

-- "Said once, without any reader in it: what a lawful tournament is, and which byte strings spell one": `Lawful t` and `SpellsFile file t`
pub record Demand3 : Type 0 where
  -- "Given tables that are long enough, a file of at most 65,535 bytes is accepted exactly when it spells a lawful tournament."
  pub accepted_exactly : EveryReading (λ file before a after. enough_lent before ≡ true → length file ≤ most_file → (a.number ≡ 0) ↔ ((t : Tournament) × SpellsFile file t × Lawful t))
  -- "It spells no other"
  pub spells_no_other : (file : List ℕ) (t u : Tournament) → SpellsFile file t → SpellsFile file u → t ≡ u
  -- "and that one is what the tables and the answer then hold": its answer, its content of the tables, and so its reading, as writer and question take it
  pub held : EveryReading (λ file before a after. a.number ≡ 0 → (t : Tournament) → SpellsFile file t → (a ≡ answer_of t) × HoldAll (content_of t) before.tables after.tables × Reading a after.tables file t)
  -- and of no other: two files with one reading spell one tournament
  pub held_no_other : (a : Answer) (tables : Tables) (f g : List ℕ) (t u : Tournament) → Reading a tables f t → Reading a tables g u → t ≡ u
  -- "For each lawful tournament": each has a spelling of a size that the box carries, and so a reading, into any tables that are long enough
  pub each_spelled : (t : Tournament) → Lawful t → (file : List ℕ) × (length file ≤ most_file) × SpellsFile file t
  pub each_read : (t : Tournament) → Lawful t → (before : Lent) → enough_lent before ≡ true → (file : List ℕ) × (a : Answer) × (after : Lent) × Reads file before a after × Reading a after.tables file t
  -- "what the writer produces, given room, is one of its spellings"; document 02: "either output is a spelling of the tournament". Room for at most `longest` bytes
  pub writer_spells : EveryWriting (λ end a tables before w after. (file : List ℕ) (t : Tournament) → Reading a tables file t → length (written end t) ≤ length before
      → (w.number ≡ 0) × SpellsFile (take w.length after) t)
  pub longest_written : (end : End) (t : Tournament) → Lawful t → length (written end t) ≤ longest end
  pub longest_reached : (end : End) → (t : Tournament) × Lawful t × (length (written end t) ≡ longest end)
  -- so that, given room for the longest, what was read is written
  pub read_written : EveryReading (λ file before a after. a.number ≡ 0 → (end : End) (out : List ℕ) → longest end ≤ length out → (w : Written) (x : List ℕ) → Writes end a after.tables out w x → w.number ≡ 0)
  -- and is accepted and read back: the same answer, and the same in every listed cell
  pub read_back : EveryWriting (λ end a tables before w after. w.number ≡ 0 → (lent : Lent) → enough_lent lent ≡ true → (b : Answer) (x : Lent) → Reads (take w.length after) lent b x
      → (b.number ≡ 0) × (b ≡ a) × SameCells x.tables tables)
