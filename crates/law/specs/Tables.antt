-- What is handed back: the tables, the answer, and what they hold of a tournament or after a refusal.
use Rattle.std.specs.Prelude.{Bool, cond, List, [], ◌∷◌, map, ℕ, ◌+◌, ◌*◌, ◌-◌, ◌/◌, ◌%◌, leb, ltb, length, get_or}
use Rattle.kit.specs.Lists.{all, flat}
use Rattle.kit.specs.Table.{Holds}
use Rattle.types.specs.declared.Acceleration.{Acceleration}
use Rattle.types.specs.declared.Answer.{Answer}
use Rattle.law.specs.Sizes.{most_players, most_rounds, most_accelerations, most_text}
use Rattle.law.specs.Columns.{width}
use Rattle.law.specs.Text.{ended}
use Rattle.law.specs.Scoring.{values}
use Rattle.law.specs.Players.{kept_field}
use Rattle.law.specs.Tournament.{Entry, Player, Tournament}
use Rattle.law.specs.Entries.{player_at, entry_of}
use Rattle.law.specs.Lawful.{no_acceleration}

-- the tables that writer and question are lent
pub record Tables : Type 0 where
  pub starts : List ℕ
  pub points : List ℕ
  pub ranks : List ℕ
  pub kept : List ℕ
  pub opponents : List ℕ
  pub colours : List ℕ
  pub results : List ℕ
  pub text : List ℕ
  pub accelerations : List Acceleration

-- the reader is lent the line numbers too
pub record Lent : Type 0 where
  pub tables : Tables
  pub lines : List ℕ

-- ---- sizes: "start numbers, points and ranks (200 each), kept columns (14,000 bytes), opponents, colours and results (4,000 each, player by
-- player), text (2,048), acceleration (32), and a list of line numbers (200 players, then 32 acceleration records)"
abbrev pub kept_cells : ℕ
kept_cells = most_players * width kept_field

abbrev pub entry_cells : ℕ
entry_cells = most_players * most_rounds

abbrev pub line_cells : ℕ
line_cells = most_players + most_accelerations

-- each table's size and the length that is lent
abbrev pub rooms : Tables → List (ℕ × ℕ)
rooms t =
    (most_players, length t.starts) ∷ (most_players, length t.points) ∷ (most_players, length t.ranks) ∷ (kept_cells, length t.kept) ∷
    (entry_cells, length t.opponents) ∷ (entry_cells, length t.colours) ∷ (entry_cells, length t.results) ∷ (most_text, length t.text) ∷
    (most_accelerations, length t.accelerations) ∷ []

abbrev pub are_long : List (ℕ × ℕ) → Bool
are_long rooms = all (λ (x : ℕ × ℕ). leb x.0 x.1) rooms

unfoldable pub enough : Tables → Bool
enough t = are_long (rooms t)

unfoldable pub enough_lent : Lent → Bool
enough_lent t = are_long ((line_cells, length t.lines) ∷ rooms t.tables)

-- ---- what the listed cells hold
pub record Content : Type 0 where
  pub starts : ℕ → ℕ
  pub points : ℕ → ℕ
  pub ranks : ℕ → ℕ
  pub kept : ℕ → ℕ
  pub opponents : ℕ → ℕ
  pub colours : ℕ → ℕ
  pub results : ℕ → ℕ
  pub text : ℕ → ℕ
  pub accelerations : ℕ → Acceleration

-- "Used cells come first [..]; unused ones hold zero."
abbrev pub cells_of : List ℕ → ℕ → ℕ
cells_of l i = get_or l i 0

-- "In the three entry tables each player has twenty cells, the r-th for round r." The order of the cells is said in these three and nowhere else: the place
-- and the round of a cell, and the cell of a place and a round
abbrev pub cell_of : ℕ → ℕ → ℕ
cell_of place r = place * most_rounds + (r - 1)

abbrev pub place_in : ℕ → ℕ
place_in i = i / most_rounds

abbrev pub round_in : ℕ → ℕ
round_in i = i % most_rounds + 1

abbrev pub entry_cells_of : (Entry → ℕ) → Tournament → ℕ → ℕ
entry_cells_of part t i = part (entry_of (round_in i) (player_at t (place_in i)))

unfoldable pub content_of : Tournament → Content
content_of t =
    record {
      starts = cells_of (map (λ p. p.start) t.players);
      points = cells_of (map (λ p. p.points) t.players);
      ranks = cells_of (map (λ p. p.rank) t.players);
      kept = cells_of (flat (λ (p : Player). p.kept) t.players);
      opponents = entry_cells_of (λ e. e.id) t;
      colours = entry_cells_of (λ e. e.colour) t;
      results = entry_cells_of (λ e. e.result) t;
      text = cells_of (flat ended t.text);
      accelerations = λ i. get_or t.accelerations i no_acceleration;
    }

-- the line numbers: of the players from cell 0, of the acceleration records from cell 200
abbrev pub lines_content : List ℕ → List ℕ → ℕ → ℕ
lines_content of_players of_accelerations i = cond (ltb i most_players) (get_or of_players i 0) (get_or of_accelerations (i - most_players) 0)

-- "put zero in every listed cell"
unfoldable pub zeros : Content
zeros =
    record {
      starts = λ i. 0;
      points = λ i. 0;
      ranks = λ i. 0;
      kept = λ i. 0;
      opponents = λ i. 0;
      colours = λ i. 0;
      results = λ i. 0;
      text = λ i. 0;
      accelerations = λ i. no_acceleration;
    }

-- "Cells past these sizes are never written."
pub record HoldAll (c : Content) (before after : Tables) : Type 0 where
  pub starts : Holds 0 most_players c.starts before.starts after.starts
  pub points : Holds 0 most_players c.points before.points after.points
  pub ranks : Holds 0 most_players c.ranks before.ranks after.ranks
  pub kept : Holds 0 kept_cells c.kept before.kept after.kept
  pub opponents : Holds 0 entry_cells c.opponents before.opponents after.opponents
  pub colours : Holds 0 entry_cells c.colours before.colours after.colours
  pub results : Holds 0 entry_cells c.results before.results after.results
  pub text : Holds 0 most_text c.text before.text after.text
  pub accelerations : Holds no_acceleration most_accelerations c.accelerations before.accelerations after.accelerations

pub record HoldLent (c : Content) (numbers : ℕ → ℕ) (before after : Lent) : Type 0 where
  pub tables : HoldAll c before.tables after.tables
  pub lines : Holds 0 line_cells numbers before.lines after.lines

-- ---- the answer: "the number of players, of rounds, of acceleration records, the text length, the initial colour (zero if none), and the six scoring
-- values"; an acceptance has zero in number, line and round
unfoldable pub answer_of : Tournament → Answer
answer_of t =
    record {
      number = 0;
      line = record { 0 = 0 };
      round = 0;
      players = length t.players;
      rounds = t.rounds;
      accelerations = length t.accelerations;
      text = length (flat ended t.text);
      colour = t.colour;
      values = values t.scoring;
    }
