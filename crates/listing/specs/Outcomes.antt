-- The listing of a file, by the statement alone: of the tournament that an accepted file spells, or of the refusal.
use Rattle.std.specs.Prelude.{true, List, ◌++◌, ℕ, length}
use Rattle.kit.specs.Ascii.{ascii}
use Rattle.kit.specs.Lists.{flat}
use Rattle.law.specs.Tournament.{Entry, Player}
use Rattle.law.specs.Tables.{Tables}
use Rattle.law.specs.Refusals.{Outcome, refused, accepted, Judged}
use Rattle.listing.specs.Put.{Put}
use Rattle.listing.specs.Listing.{Six, lf, entry_field, standing, answer_line}

abbrev pub entry_text : Entry → List ℕ
entry_text e = entry_field e.id e.colour e.result

unfoldable pub player_text : Player → List ℕ
player_text p = standing p.start p.points p.rank ++ flat entry_text p.entries ++ lf

unfoldable pub outcome_listing : Outcome → List ℕ
outcome_listing (refused q) = answer_line (ascii "refused") q.number q.line q.round
outcome_listing (accepted t of_players of_accelerations) =
    answer_line (ascii "accepted") (length t.players) t.rounds (length t.accelerations) ++ flat player_text t.players

-- the tables that are listed, of those that a reading leaves
abbrev pub six_of : Tables → Six
six_of t =
    record {
      starts = t.starts;
      points = t.points;
      ranks = t.ranks;
      opponents = t.opponents;
      colours = t.colours;
      results = t.results;
    }

-- a file, listed from the first byte of a lent room on: no table is too short, so the file alone decides
pub record Lists (file before : List ℕ) (end : ℕ) (after : List ℕ) : Type 0 where
  pub outcome : Outcome
  pub judged : Judged true file outcome
  pub bytes : Put (outcome_listing outcome) 0 before end after
