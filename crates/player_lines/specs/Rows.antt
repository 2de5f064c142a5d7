-- The players that the cells of the tables say, and the seven tables that say them. Means: no part of the statement.
use Rattle.std.specs.Prelude.{List, map, ℕ, ◌*◌, get_or, take, drop}
use Rattle.kit.specs.Lists.{from}
use Rattle.law.specs.Columns.{width}
use Rattle.law.specs.Players.{kept_field}
use Rattle.law.specs.Tournament.{Entry, Player}
use Rattle.law.specs.Tables.{Tables, cell_of}
use Rattle.tables.specs.declared.lent.PlayerTables.{PlayerTables}
use Rattle.player_lines.specs.Lines.{entry}

pub record Seven : Type 0 where
  pub starts : List ℕ
  pub points : List ℕ
  pub ranks : List ℕ
  pub kept : List ℕ
  pub opponents : List ℕ
  pub colours : List ℕ
  pub results : List ℕ

abbrev pub seven : List ℕ → List ℕ → List ℕ → List ℕ → List ℕ → List ℕ → List ℕ → Seven
seven starts points ranks kept opponents colours results = record { starts = starts; points = points; ranks = ranks; kept = kept; opponents = opponents; colours = colours; results = results }

-- those of the tables that the writer is lent, as the statement has them and as the struct does
abbrev pub seven_of : Tables → Seven
seven_of t = seven t.starts t.points t.ranks t.kept t.opponents t.colours t.results

abbrev pub seven_in : PlayerTables → Seven
seven_in t = seven t.starts.now t.points.now t.ranks.now t.kept.now t.opponents.now t.colours.now t.results.now

-- a player's entry in round r, and those of the first rounds
abbrev pub entry_at : List ℕ → List ℕ → List ℕ → ℕ → ℕ → Entry
entry_at opponents colours results place r = entry (get_or opponents (cell_of place r) 0) (get_or colours (cell_of place r) 0) (get_or results (cell_of place r) 0)

unfoldable pub entries_in : List ℕ → List ℕ → List ℕ → ℕ → ℕ → List Entry
entries_in opponents colours results place rounds = map (entry_at opponents colours results place) (from 1 rounds)

-- the player in a place
unfoldable pub player_in : Seven → ℕ → ℕ → Player
player_in t rounds place =
    record {
      start = get_or t.starts place 0;
      kept = take (width kept_field) (drop (place * width kept_field) t.kept);
      points = get_or t.points place 0;
      rank = get_or t.ranks place 0;
      entries = entries_in t.opponents t.colours t.results place rounds;
    }

-- the first players
unfoldable pub players_in : Seven → ℕ → ℕ → List Player
players_in t rounds players = map (player_in t rounds) (from 0 players)
