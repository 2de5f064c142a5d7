-- The kinds of sample: what each says, over every content before that is long enough and every answer that the statement permits, and how it is computed. Definitions alone.
use mathlib.Core.Path.{◌≡◌}
use mathlib.Core.Bool.{Bool, true, false, ◌&&◌, not}
use mathlib.Core.Option.{Option, none, some}
use mathlib.Core.List.{List, ◌∷◌, map}
use Prim.Native.Nat.{ℕ, ◌<◌}
use Prim.Native.Char.{code}
use lib.Dec.{eqb, ltb}
use lib.ListN.{length, get_or}
use Rattle.kit.specs.Lists.{all, same}
use Rattle.kit.specs.First.{AllOf}
use Rattle.kit.specs.Decides.{is_some, when}
use Rattle.kit.specs.Table.{Holds}
use Rattle.types.specs.declared.Answer.{Answer}
use Rattle.types.specs.declared.Written.{Written}
use Rattle.types.specs.declared.Score.{Score}
use Rattle.law.specs.Sizes.{most_players, most_accelerations, most_text}
use Rattle.law.specs.Scoring.{scoring_of}
use Rattle.law.specs.Items.{Item, SpellsItem, scoring}
use Rattle.law.specs.Tournament.{Entry, Tournament}
use Rattle.law.specs.Entries.{fits, earned}
use Rattle.law.specs.Lawful.{no_acceleration}
use Rattle.law.specs.Tables.{Tables, Lent, enough, enough_lent, kept_cells, entry_cells, line_cells, content_of, lines_content, answer_of}
use Rattle.law.specs.Refusals.{Outcome, refused, accepted}
use Rattle.law.specs.Calls.{refused_answer, Reads, end_of, Writes, Asks}
use Rattle.law.proofs.RecordsRead.{item_of}
use Rattle.law.proofs.Judges.{outcome_of}
use Rattle.law.proofs.Replies.{write_of, ask_of, bytes_of, spelled_by}

-- ---- rows
pub data Table : Type 0 where
  starts points ranks kept opponents colours results text lines : Table
  -- parts of the acceleration records
  added first-rounds last_rounds first-starts last_starts : Table
  -- parts of the answer, whatever the index
  text-length initial_colour value : Table

abbrev pub cell_in : Answer → Lent → Table → ℕ → ℕ
cell_in a x starts i = get_or x.tables.starts i 0
cell_in a x points i = get_or x.tables.points i 0
cell_in a x ranks i = get_or x.tables.ranks i 0
cell_in a x kept i = get_or x.tables.kept i 0
cell_in a x opponents i = get_or x.tables.opponents i 0
cell_in a x colours i = get_or x.tables.colours i 0
cell_in a x results i = get_or x.tables.results i 0
cell_in a x text i = get_or x.tables.text i 0
cell_in a x lines i = get_or x.lines i 0
cell_in a x added i = (get_or x.tables.accelerations i no_acceleration).points
cell_in a x first-rounds i = (get_or x.tables.accelerations i no_acceleration).first_round
cell_in a x last_rounds i = (get_or x.tables.accelerations i no_acceleration).last_round
cell_in a x first-starts i = (get_or x.tables.accelerations i no_acceleration).first_start
cell_in a x last_starts i = (get_or x.tables.accelerations i no_acceleration).last_start
cell_in a x text-length i = a.text
cell_in a x initial_colour i = a.colour
cell_in a x value i = get_or a.values i 0

-- how many listed cells a table has
abbrev pub cells_in : Table → ℕ
cells_in starts = most_players
cells_in points = most_players
cells_in ranks = most_players
cells_in kept = kept_cells
cells_in opponents = entry_cells
cells_in colours = entry_cells
cells_in results = entry_cells
cells_in text = most_text
cells_in lines = line_cells
cells_in added = most_accelerations
cells_in first-rounds = most_accelerations
cells_in last_rounds = most_accelerations
cells_in first-starts = most_accelerations
cells_in last_starts = most_accelerations
cells_in text-length = 1
cells_in initial_colour = 1
cells_in value = 6

-- what the statement says that it holds
abbrev pub cell_of_tournament : Tournament → List ℕ → List ℕ → Table → ℕ → ℕ
cell_of_tournament t ps rs starts i = (content_of t).starts i
cell_of_tournament t ps rs points i = (content_of t).points i
cell_of_tournament t ps rs ranks i = (content_of t).ranks i
cell_of_tournament t ps rs kept i = (content_of t).kept i
cell_of_tournament t ps rs opponents i = (content_of t).opponents i
cell_of_tournament t ps rs colours i = (content_of t).colours i
cell_of_tournament t ps rs results i = (content_of t).results i
cell_of_tournament t ps rs text i = (content_of t).text i
cell_of_tournament t ps rs lines i = lines_content ps rs i
cell_of_tournament t ps rs added i = ((content_of t).accelerations i).points
cell_of_tournament t ps rs first-rounds i = ((content_of t).accelerations i).first_round
cell_of_tournament t ps rs last_rounds i = ((content_of t).accelerations i).last_round
cell_of_tournament t ps rs first-starts i = ((content_of t).accelerations i).first_start
cell_of_tournament t ps rs last_starts i = ((content_of t).accelerations i).last_start
cell_of_tournament t ps rs text-length i = (answer_of t).text
cell_of_tournament t ps rs initial_colour i = (answer_of t).colour
cell_of_tournament t ps rs value i = get_or (answer_of t).values i 0

-- what writer and question are lent: what the reader left, or tables that are too short beside its answer
pub data LentAs : Type 0 where
  as_left cut_short : LentAs

-- whether CR alone is asked for, bytes of room, number, bytes left
abbrev pub Output : Type 0
Output = Bool × ℕ × ℕ × List ℕ

-- how an output asks for its line ends
abbrev pub cr-lf : Bool
cr-lf = false

abbrev pub cr_alone : Bool
cr_alone = true

-- place, round, number, sum, acceleration
abbrev pub Question : Type 0
Question = ℕ × ℕ × ℕ × ℕ × ℕ

pub data Row : Type 0 where
  -- the file is refused with number, line, round
  refuses : List ℕ → ℕ → ℕ → ℕ → Row
  -- the file is accepted, with so many players, rounds and acceleration records
  accepts : List ℕ → ℕ → ℕ → ℕ → Row
  -- the file's answer has these parts: number, line, round, players, rounds, acceleration records, text length, colour, six values
  answers : List ℕ → List ℕ → Row
  -- results under the scoring that a line spells are worth so many tenths
  scores : List ℕ → List ℕ → ℕ → Row
  -- the file is accepted, and these cells then hold these numbers
  stores : List ℕ → List (Table × ℕ × ℕ) → Row
  -- the writer, lent what the reader left for the file, or tables that are too short: for each output, by its line ends and its room, the number, and the bytes that then stand first
  writes : LentAs → List ℕ → List Output → Row
  -- the question, lent the same: for each place and round its number, sum and acceleration
  asks : LentAs → List ℕ → List Question → Row
  -- a result fits these, both ways, and not those
  fitting : ℕ → List ℕ → List ℕ → Row
  -- the line spells something, or nothing
  spells : List ℕ → Row
  spells_nothing : List ℕ → Row

-- what a permitted answer to an accepted file has
pub record Counts (players rounds accelerations : ℕ) (a : Answer) : Type 0 where
  pub number : a.number ≡ 0
  pub line : a.line.0 ≡ 0
  pub round : a.round ≡ 0
  pub players_are : a.players ≡ players
  pub rounds_are : a.rounds ≡ rounds
  pub accelerations_are : a.accelerations ≡ accelerations

-- and to a refused file: number, line and round, and zero in every other part and in every listed cell
pub record Refuses (number line round : ℕ) (a : Answer) (after : Lent) : Type 0 where
  pub number_is : a.number ≡ number
  pub line_is : a.line.0 ≡ line
  pub round_is : a.round ≡ round
  pub players_are : a.players ≡ 0
  pub rounds_are : a.rounds ≡ 0
  pub accelerations_are : a.accelerations ≡ 0
  pub cleared : (k : Table) (i : ℕ) → i < cells_in k → cell_in a after k i ≡ 0

-- for every content before that is long enough: what every permitted answer and content is, and that one is permitted
abbrev pub Always : List ℕ → (Answer → Lent → Type 0) → Type 0
Always file Says = (before : Lent) → enough_lent before ≡ true → ((a : Answer) (after : Lent) → Reads file before a after → Says a after) × ((a : Answer) × (after : Lent) × Reads file before a after)

-- each cell as listed
abbrev pub HoldsCells : List (Table × ℕ × ℕ) → Answer → Lent → Type 0
HoldsCells cells a after = AllOf (λ (c : Table × ℕ × ℕ). cell_in a after c.0 c.1 ≡ c.2) cells

-- what writer and question are lent beside the answer
abbrev pub Lends : LentAs → Lent → Tables → Type 0
Lends as_left after tables = after.tables ≡ tables
Lends cut_short after tables = enough tables ≡ false

-- a permitted answer of the writer: number, the length of these bytes, which stand first in the output; the others are as before, all of them after a refusal
pub record Wrote (number : ℕ) (bytes out : List ℕ) (w : Written) (x : List ℕ) : Type 0 where
  pub number_is : w.number ≡ number
  pub line : w.line.0 ≡ 0
  pub round : w.round ≡ 0
  pub length_is : w.length ≡ length bytes
  pub leaves : Holds 0 (length bytes) (λ i. get_or bytes i 0) out x

-- of the question
pub record Replied (number sum acceleration : ℕ) (s : Score) : Type 0 where
  pub number_is : s.number ≡ number
  pub line : s.line.0 ≡ 0
  pub round : s.round ≡ 0
  pub points_are : s.points ≡ sum
  pub acceleration_is : s.acceleration ≡ acceleration

-- whatever is lent so: what every permitted answer is, and that one is permitted
abbrev pub WritesSo : Answer → Tables → Output → Type 0
WritesSo a tables q = (out : List ℕ) → length out ≡ q.1
    → ((w : Written) (x : List ℕ) → Writes (end_of q.0) a tables out w x → Wrote q.2 q.3 out w x) × ((w : Written) × (x : List ℕ) × Writes (end_of q.0) a tables out w x)

abbrev pub AsksSo : Answer → Tables → Question → Type 0
AsksSo a tables q =
    ((s : Score) → Asks a tables (record { 0 = q.0 }) q.1 s → Replied q.2 q.3 q.4 s) × ((s : Score) × Asks a tables (record { 0 = q.0 }) q.1 s)

abbrev pub OfLent : {Q : Type 0} → (Answer → Tables → Q → Type 0) → LentAs → List Q → Answer → Lent → Type 0
OfLent Says lends qs a after = (tables : Tables) → Lends lends after tables → AllOf (Says a tables) qs

-- two results fit, asked from either side; or do not
abbrev pub Fit : Bool → ℕ → ℕ → Type 0
Fit b own other = (fits own other ≡ b) × (fits other own ≡ b)

abbrev pub parts_of : Answer → List ℕ
parts_of a = a.number ∷ a.line.0 ∷ a.round ∷ a.players ∷ a.rounds ∷ a.accelerations ∷ a.text ∷ a.colour ∷ a.values

abbrev pub as_entry : ℕ → Entry
as_entry result = record { id = 0; colour = code "-"; result = result }

unfoldable pub RowHolds : Row → Type 0
RowHolds (refuses file k l r) = Always file (Refuses k l r)
RowHolds (accepts file p r n) = Always file (λ a after. Counts p r n a)
RowHolds (answers file parts) = Always file (λ a after. parts_of a ≡ parts)
RowHolds (scores line played n) = (given : List (ℕ × ℕ)) × SpellsItem line (scoring given) × (earned (scoring_of given) (map as_entry played) ≡ n)
RowHolds (stores file cells) = Always file (HoldsCells cells)
RowHolds (writes lends file qs) = Always file (OfLent WritesSo lends qs)
RowHolds (asks lends file qs) = Always file (OfLent AsksSo lends qs)
RowHolds (fitting own fit misfit) = AllOf (Fit true own) fit × AllOf (Fit false own) misfit
RowHolds (spells line) = (i : Item) × SpellsItem line i
RowHolds (spells_nothing line) = (i : Item) → SpellsItem line i → ⊥

-- ---- the computation
abbrev pub is_refused : ℕ → ℕ → ℕ → Outcome → Bool
is_refused k l r (refused x) = eqb x.number k && eqb x.line l && eqb x.round r
is_refused k l r (accepted t ps rs) = false

abbrev pub is_accepted : ℕ → ℕ → ℕ → Outcome → Bool
is_accepted p r n (refused x) = false
is_accepted p r n (accepted t ps rs) = eqb (length t.players) p && eqb t.rounds r && eqb (length t.accelerations) n

abbrev pub answer_in : Outcome → Answer
answer_in (refused x) = refused_answer x
answer_in (accepted t ps rs) = answer_of t

abbrev pub is_scored : List ℕ → ℕ → Option Item → Bool
is_scored played n none = false
is_scored played n (some Item.passed) = false
is_scored played n (some (Item.text a)) = false
is_scored played n (some (Item.rounds m)) = false
is_scored played n (some (Item.colour c)) = false
is_scored played n (some (scoring given)) = eqb (earned (scoring_of given) (map as_entry played)) n
is_scored played n (some (Item.acceleration a)) = false
is_scored played n (some (Item.player p)) = false

abbrev pub are_stored : List (Table × ℕ × ℕ) → Outcome → Bool
are_stored cells (refused x) = false
are_stored cells (accepted t ps rs) = all (λ (c : Table × ℕ × ℕ). ltb c.1 (cells_in c.0) && eqb (cell_of_tournament t ps rs c.0 c.1) c.2) cells

abbrev pub is_whole : LentAs → Bool
is_whole as_left = true
is_whole cut_short = false

-- no reading has tables that are too short
abbrev pub reading_in : LentAs → Outcome → Option Tournament
reading_in lends o = when (is_whole lends) (spelled_by o)

abbrev pub is_wrote : ℕ → List ℕ → Written → List ℕ → Bool
is_wrote number bytes w left = eqb w.number number && eqb w.line.0 0 && eqb w.round 0 && eqb w.length (length bytes) && same left bytes

abbrev pub is_written : Bool → Option Tournament → Output → Bool
is_written long o q = is_wrote q.2 q.3 (write_of (end_of q.0) long o q.1) (bytes_of (end_of q.0) long o q.1)

abbrev pub is_replied : ℕ → ℕ → ℕ → Score → Bool
is_replied number sum acceleration s = eqb s.number number && eqb s.line.0 0 && eqb s.round 0 && eqb s.points sum && eqb s.acceleration acceleration

abbrev pub is_asked : Bool → Option Tournament → Question → Bool
is_asked long o q = is_replied q.2 q.3 q.4 (ask_of long o q.0 q.1)

-- each of what is asked, of what the row lends
abbrev pub of_lent : {Q : Type 0} → (Bool → Option Tournament → Q → Bool) → LentAs → List Q → Outcome → Bool
of_lent t lends qs (refused x) = all (t (is_whole lends) (reading_in lends (refused x))) qs
of_lent t lends qs (accepted u ps rs) = all (t (is_whole lends) (reading_in lends (accepted u ps rs))) qs

abbrev pub do_fit : ℕ → ℕ → Bool
do_fit own other = fits own other && fits other own

abbrev pub do_not_fit : ℕ → ℕ → Bool
do_not_fit own other = not (fits own other) && not (fits other own)

unfoldable pub test : Row → Bool
test (refuses file k l r) = is_refused k l r (outcome_of true file)
test (accepts file p r n) = is_accepted p r n (outcome_of true file)
test (answers file parts) = same (parts_of (answer_in (outcome_of true file))) parts
test (scores line played n) = is_scored played n (item_of line)
test (stores file cells) = are_stored cells (outcome_of true file)
test (writes lends file qs) = of_lent is_written lends qs (outcome_of true file)
test (asks lends file qs) = of_lent is_asked lends qs (outcome_of true file)
test (fitting own fit misfit) = all (do_fit own) fit && all (do_not_fit own) misfit
test (spells line) = is_some (item_of line)
test (spells_nothing line) = not (is_some (item_of line))

-- a row with its computation
abbrev pub Computed : Type 0
Computed = (r : Row) × (test r ≡ true)
