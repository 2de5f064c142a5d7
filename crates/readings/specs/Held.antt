-- The tournament that an answer and tables hold: the lines of its text, and every other part as its cells say. Means: no part of the statement.
use Rattle.std.specs.Prelude.{List, map, ℕ, get_or, take}
use Rattle.kit.specs.Lists.{from}
use Rattle.types.specs.declared.Answer.{Answer}
use Rattle.law.specs.Scoring.{Scoring}
use Rattle.law.specs.Tournament.{Entry, Player, Tournament}
use Rattle.law.specs.Tables.{Tables}
use Rattle.join.specs.Check.{entry_cell}
use Rattle.readings.specs.Good.{kept_at, nine_of}

-- the six values, in the order W D L A P X
abbrev pub scoring_by : List ℕ → Scoring
scoring_by v = record { win = get_or v 0 0; draw = get_or v 1 0; loss = get_or v 2 0; absent = get_or v 3 0; pairing = get_or v 4 0; unknown = get_or v 5 0 }

-- the entries of rounds 1 to R
abbrev pub held_entries : ℕ → Tables → ℕ → List Entry
held_entries R t p = map (entry_cell (nine_of t) p) (from 1 R)

abbrev pub held_player : ℕ → Tables → ℕ → Player
held_player R t p =
    record { start = get_or t.starts p 0; kept = kept_at t.kept p; points = get_or t.points p 0; rank = get_or t.ranks p 0; entries = held_entries R t p }

unfoldable pub held : Answer → Tables → List (List ℕ) → Tournament
held a t lines =
    record {
      text = lines;
      rounds = a.rounds;
      colour = a.colour;
      scoring = scoring_by a.values;
      accelerations = take a.accelerations t.accelerations;
      players = map (held_player a.rounds t) (from 0 a.players);
    }
