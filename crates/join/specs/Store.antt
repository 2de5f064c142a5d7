-- What the reader keeps, and what each line does to it. Means: no part of the statement.
use Rattle.std.specs.Prelude.{Bool, true, false, cond, ◌&&◌, not, List, [], ◌∷◌, map, ℕ, ◌+◌, ◌*◌, eqb, ltb, length, get_or, set, replicate}
use Rattle.std.proofs.Math.Option.{Option, none, some}
use Rattle.std.proofs.Math.Seq.{paste}
use Rattle.kit.specs.Lists.{all, same}
use Rattle.kit.specs.Decides.{is_some}
use Rattle.types.specs.declared.Acceleration.{Acceleration}
use Rattle.law.specs.Sizes.{most_line, most_players, most_accelerations, most_text}
use Rattle.law.specs.Lines.{allowed, Line, is_ended}
use Rattle.law.specs.Columns.{row_of, part, width, code_field}
use Rattle.law.specs.Text.{text_codes, ended}
use Rattle.law.specs.Scoring.{values, scoring_of}
use Rattle.law.specs.Players.{Slot, PlayerLine, kept_field}
use Rattle.law.specs.Items.{Kind, passed_over, kept-text, 142-record, 152-record, 162-record, 250-record, 001-record, unlisted, kind_of}
use Rattle.law.specs.Tournament.{Entry, normal}
use Rattle.law.specs.Entries.{no_entry}
use Rattle.law.specs.Lawful.{no_acceleration}
use Rattle.law.specs.Tables.{cell_of}
use Rattle.law.proofs.RecordsRead.{text_of, rounds_of_row, colour_of, given_of, acceleration_of, player_of}
use Rattle.join.specs.Run.{Way, on, stop}
use Rattle.join.specs.Grid.{first_from, put_row}

-- the nine lent tables of numbers
pub record Nine : Type 0 where
  pub starts : List ℕ
  pub points : List ℕ
  pub ranks : List ℕ
  pub kept : List ℕ
  pub opponents : List ℕ
  pub colours : List ℕ
  pub results : List ℕ
  pub text : List ℕ
  pub lines : List ℕ

-- what is kept beside them: players, acceleration records and bytes of text so far, the records, which text codes stood, and what 142, 152 and 162 said
pub record Count : Type 0 where
  pub players : ℕ
  pub accelerations : ℕ
  pub text : ℕ
  pub records : List Acceleration
  pub seen : List Bool
  pub stated : Bool
  pub rounds : ℕ
  pub colour : ℕ
  pub scored : Bool
  pub values : List ℕ

pub record State : Type 0 where
  pub line : ℕ
  pub count : Count
  pub tables : Nine

abbrev pub no_count : Count
no_count =
    record {
      players = 0;
      accelerations = 0;
      text = 0;
      records = replicate most_accelerations no_acceleration;
      seen = replicate 16 false;
      stated = false;
      rounds = 0;
      colour = 0;
      scored = false;
      values = values (scoring_of []);
    }

-- ---- what is stored of a slot: three zero cells where it is wholly blank
abbrev pub raw_cell : Slot → Entry
raw_cell s = cond s.used (normal s) no_entry

abbrev pub raw_cells : PlayerLine → List Entry
raw_cells p = map raw_cell p.slots

unfoldable pub store_player : PlayerLine → ℕ → ℕ → Nine → Nine
store_player p n ln t =
    record {
      starts = set t.starts n p.start;
      points = set t.points n p.points;
      ranks = set t.ranks n p.rank;
      kept = paste t.kept (n * width kept_field) p.kept (width kept_field);
      opponents = put_row 0 cell_of t.opponents n (map (λ e. e.id) (raw_cells p)) 20;
      colours = put_row 0 cell_of t.colours n (map (λ e. e.colour) (raw_cells p)) 20;
      results = put_row 0 cell_of t.results n (map (λ e. e.result) (raw_cells p)) 20;
      text = t.text;
      lines = set t.lines n ln;
    }

unfoldable pub store_text : List ℕ → ℕ → Nine → Nine
store_text a len t =
    record {
      starts = t.starts;
      points = t.points;
      ranks = t.ranks;
      kept = t.kept;
      opponents = t.opponents;
      colours = t.colours;
      results = t.results;
      text = paste t.text len (ended a) (length (ended a));
      lines = t.lines;
    }

unfoldable pub store_line : ℕ → ℕ → Nine → Nine
store_line i ln t =
    record {
      starts = t.starts;
      points = t.points;
      ranks = t.ranks;
      kept = t.kept;
      opponents = t.opponents;
      colours = t.colours;
      results = t.results;
      text = t.text;
      lines = set t.lines i ln;
    }

-- ---- the counts after a record
unfoldable pub count_player : Count → Count
count_player c = record { players = c.players + 1; accelerations = c.accelerations; text = c.text; records = c.records; seen = c.seen; stated = c.stated; rounds = c.rounds; colour = c.colour; scored = c.scored; values = c.values }

unfoldable pub count_text : ℕ → ℕ → Count → Count
count_text k n c = record { players = c.players; accelerations = c.accelerations; text = c.text + n; records = c.records; seen = set c.seen k true; stated = c.stated; rounds = c.rounds; colour = c.colour; scored = c.scored; values = c.values }

unfoldable pub count_rounds : ℕ → Count → Count
count_rounds n c = record { players = c.players; accelerations = c.accelerations; text = c.text; records = c.records; seen = c.seen; stated = true; rounds = n; colour = c.colour; scored = c.scored; values = c.values }

unfoldable pub count_colour : ℕ → Count → Count
count_colour x c = record { players = c.players; accelerations = c.accelerations; text = c.text; records = c.records; seen = c.seen; stated = c.stated; rounds = c.rounds; colour = x; scored = c.scored; values = c.values }

unfoldable pub count_scoring : List ℕ → Count → Count
count_scoring v c = record { players = c.players; accelerations = c.accelerations; text = c.text; records = c.records; seen = c.seen; stated = c.stated; rounds = c.rounds; colour = c.colour; scored = true; values = v }

unfoldable pub count_acceleration : Acceleration → Count → Count
count_acceleration a c = record { players = c.players; accelerations = c.accelerations + 1; text = c.text; records = set c.records c.accelerations a; seen = c.seen; stated = c.stated; rounds = c.rounds; colour = c.colour; scored = c.scored; values = c.values }

-- ---- a line: 3 to 9 by the counts and the tables
abbrev pub state : ℕ → Count → Nine → State
state ln c t = record { line = ln; count = c; tables = t }

-- the place of a code among the sixteen
unfoldable pub code_place : List ℕ → ℕ → List (List ℕ) → ℕ
code_place code i [] = i
code_place code i (c ∷ cs) = cond (same code c) i (code_place code (i + 1) cs)

-- the place of the player with a start number
unfoldable pub place_of : List ℕ → ℕ → ℕ → Option ℕ
place_of starts n id = first_from (λ i. eqb (get_or starts i 0) id) 0 n

abbrev pub refuse_or : Bool → ℕ → State → Way State ℕ → Way State ℕ
refuse_or true k s w = stop k s
refuse_or false k s w = w

unfoldable pub step_text : Option (List ℕ) → ℕ → State → Way State ℕ
step_text none k s = stop 7 s
step_text (some a) k s =
    refuse_or (not (eqb k 9) && get_or s.count.seen k false) 8 s
    (refuse_or (ltb most_text (s.count.text + length (ended a))) 9 s
    (on (state (s.line + 1) (count_text k (length (ended a)) s.count) (store_text a s.count.text s.tables))))

unfoldable pub step_rounds : Option ℕ → State → Way State ℕ
step_rounds none s = stop 7 s
step_rounds (some n) s = refuse_or s.count.stated 8 s (on (state (s.line + 1) (count_rounds n s.count) s.tables))

unfoldable pub step_colour : Option ℕ → State → Way State ℕ
step_colour none s = stop 7 s
step_colour (some c) s = refuse_or (not (eqb s.count.colour 0)) 8 s (on (state (s.line + 1) (count_colour c s.count) s.tables))

unfoldable pub step_scoring : Option (List (ℕ × ℕ)) → State → Way State ℕ
step_scoring none s = stop 7 s
step_scoring (some g) s = refuse_or s.count.scored 8 s (on (state (s.line + 1) (count_scoring (values (scoring_of g)) s.count) s.tables))

unfoldable pub step_acceleration : Option Acceleration → State → Way State ℕ
step_acceleration none s = stop 7 s
step_acceleration (some a) s =
    refuse_or (ltb most_accelerations (s.count.accelerations + 1)) 9 s
    (on (state (s.line + 1) (count_acceleration a s.count) (store_line (most_players + s.count.accelerations) (s.line + 1) s.tables)))

unfoldable pub step_player : Option PlayerLine → State → Way State ℕ
step_player none s = stop 7 s
step_player (some p) s =
    refuse_or (is_some (place_of s.tables.starts s.count.players p.start)) 8 s
    (refuse_or (ltb most_players (s.count.players + 1)) 9 s
    (on (state (s.line + 1) (count_player s.count) (store_player p s.count.players (s.line + 1) s.tables))))

unfoldable pub step_row : Kind → List ℕ → State → Way State ℕ
step_row passed_over row s = on (state (s.line + 1) s.count s.tables)
step_row kept-text row s = step_text (text_of row) (code_place (part code_field row) 0 text_codes) s
step_row 142-record row s = step_rounds (rounds_of_row row) s
step_row 152-record row s = step_colour (colour_of row) s
step_row 162-record row s = step_scoring (given_of row) s
step_row 250-record row s = step_acceleration (acceleration_of row) s
step_row 001-record row s = step_player (player_of row) s
step_row unlisted row s = stop 6 s

unfoldable pub step_line : Line → State → Way State ℕ
step_line l s =
    refuse_or (not (all allowed l.text)) 3 s
    (refuse_or (not (is_ended l.end)) 4 s
    (refuse_or (ltb most_line (length (row_of l.text))) 5 s (step_row (kind_of (row_of l.text)) (row_of l.text) s)))
