-- What the state holds after some lines: the counts of the items that they spell, and their raw cells.
use Rattle.std.specs.Prelude.{◌≡◌, Bool, not, List, [], map, ℕ, ◌≤◌, length, get_or, replicate}
use Rattle.kit.specs.Lists.{is_empty, flat, only_or}
use Rattle.kit.specs.Table.{Holds}
use Rattle.types.specs.declared.Acceleration.{Acceleration}
use Rattle.law.specs.Sizes.{most_players, most_accelerations, most_text}
use Rattle.law.specs.Lines.{Line}
use Rattle.law.specs.Text.{ended}
use Rattle.law.specs.Scoring.{values, scoring_of}
use Rattle.law.specs.Accelerations.{acceleration_code}
use Rattle.law.specs.Players.{PlayerLine, player_code}
use Rattle.law.specs.Items.{Item}
use Rattle.law.specs.Tournament.{Entry, text_in, rounds_in, colour_in, scoring_in, acceleration_in, player_in}
use Rattle.law.specs.Entries.{no_entry}
use Rattle.law.specs.Lawful.{no_acceleration}
use Rattle.law.specs.Tables.{kept_cells, entry_cells, line_cells, cells_of, place_in, round_in, lines_content}
use Rattle.law.specs.Refusals.{lines_of}
use Rattle.join.specs.Grid.{entry_in}
use Rattle.join.specs.Store.{Nine, Count, raw_cells}

abbrev pub raw_grid : (Entry → ℕ) → List PlayerLine → ℕ → ℕ
raw_grid part rows i = entry_in part no_entry (map raw_cells rows) (place_in i) (round_in i)

-- every table has its cells
pub record Long (t : Nine) : Type 0 where
  pub starts : most_players ≤ length t.starts
  pub points : most_players ≤ length t.points
  pub ranks : most_players ≤ length t.ranks
  pub kept : kept_cells ≤ length t.kept
  pub opponents : entry_cells ≤ length t.opponents
  pub colours : entry_cells ≤ length t.colours
  pub results : entry_cells ≤ length t.results
  pub text : most_text ≤ length t.text
  pub lines : line_cells ≤ length t.lines

-- the tables when nothing is read yet
pub record Zeroed (b x : Nine) : Type 0 where
  pub starts : Holds 0 most_players (λ i. 0) b.starts x.starts
  pub points : Holds 0 most_players (λ i. 0) b.points x.points
  pub ranks : Holds 0 most_players (λ i. 0) b.ranks x.ranks
  pub kept : Holds 0 kept_cells (λ i. 0) b.kept x.kept
  pub opponents : Holds 0 entry_cells (λ i. 0) b.opponents x.opponents
  pub colours : Holds 0 entry_cells (λ i. 0) b.colours x.colours
  pub results : Holds 0 entry_cells (λ i. 0) b.results x.results
  pub text : Holds 0 most_text (λ i. 0) b.text x.text
  pub lines : Holds 0 line_cells (λ i. 0) b.lines x.lines

-- the tables before the closing pass, of the lines e and the items that they spell
pub record RawHold (e : List Line) (is : List Item) (b x : Nine) : Type 0 where
  pub starts : Holds 0 most_players (cells_of (map (λ (p : PlayerLine). p.start) (flat player_in is))) b.starts x.starts
  pub points : Holds 0 most_players (cells_of (map (λ (p : PlayerLine). p.points) (flat player_in is))) b.points x.points
  pub ranks : Holds 0 most_players (cells_of (map (λ (p : PlayerLine). p.rank) (flat player_in is))) b.ranks x.ranks
  pub kept : Holds 0 kept_cells (cells_of (flat (λ (p : PlayerLine). p.kept) (flat player_in is))) b.kept x.kept
  pub opponents : Holds 0 entry_cells (raw_grid (λ e. e.id) (flat player_in is)) b.opponents x.opponents
  pub colours : Holds 0 entry_cells (raw_grid (λ e. e.colour) (flat player_in is)) b.colours x.colours
  pub results : Holds 0 entry_cells (raw_grid (λ e. e.result) (flat player_in is)) b.results x.results
  pub text : Holds 0 most_text (cells_of (flat ended (flat text_in is))) b.text x.text
  pub lines : Holds 0 line_cells (lines_content (lines_of player_code 0 e) (lines_of acceleration_code 0 e)) b.lines x.lines

-- the counts, by what the items say: text lines, 142, 152, 162, 250 and the number of players. seen_of: which of the sixteen codes stand among text lines
pub record CountedBy (seen_of : List (List ℕ) → List Bool) (texts : List (List ℕ)) (rounds' colours' : List ℕ) (given : List (List (ℕ × ℕ))) (records' : List Acceleration) (rows : List PlayerLine) (c : Count) : Type 0 where
  pub players : c.players ≡ length rows
  pub accelerations : c.accelerations ≡ length records'
  pub text : c.text ≡ length (flat ended texts)
  pub records : Holds no_acceleration most_accelerations (λ i. get_or records' i no_acceleration) (replicate most_accelerations no_acceleration) c.records
  pub seen : c.seen ≡ seen_of texts
  pub stated : c.stated ≡ not (is_empty rounds')
  pub rounds : c.rounds ≡ only_or 0 rounds'
  pub colour : c.colour ≡ only_or 0 colours'
  pub scored : c.scored ≡ not (is_empty given)
  pub values_are : c.values ≡ values (scoring_of (only_or [] given))

abbrev pub Counted : (List (List ℕ) → List Bool) → List Item → Count → Type 0
Counted seen_of is c = CountedBy seen_of (flat text_in is) (flat rounds_in is) (flat colour_in is) (flat scoring_in is) (flat acceleration_in is) (flat player_in is) c
