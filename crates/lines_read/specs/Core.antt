-- What the lines of a file leave in cleared tables, and the answer with the acceleration records by value and how many of them are to be filled in.
use Rattle.std.specs.Prelude.{◌≡◌, true, List, ℕ, replicate, get_or}
use Rattle.kit.specs.Table.{Holds}
use Rattle.types.specs.declared.Acceleration.{Acceleration}
use Rattle.law.specs.Sizes.{most_players, most_accelerations, most_text}
use Rattle.law.specs.Tournament.{Tournament}
use Rattle.law.specs.Lawful.{no_acceleration}
use Rattle.law.specs.Tables.{Content, kept_cells, entry_cells, line_cells, content_of, lines_content, answer_of}
use Rattle.law.specs.Refusals.{Refusal, Outcome, refused, accepted, Judged}
use Rattle.law.specs.Calls.{refused_answer}
use Rattle.join.specs.Store.{Nine, Count}
use Rattle.lines_read.specs.declared.CoreAnswer.{CoreAnswer}

abbrev pub no_records : List Acceleration
no_records = replicate most_accelerations no_acceleration

-- ---- the answer
abbrev pub refused_core : Refusal → ℕ → CoreAnswer
refused_core q fill = record { answer = refused_answer q; records = no_records; fill = fill }

abbrev pub accepted_core : Count → ℕ → CoreAnswer
accepted_core c rounds =
    record {
      answer =
          record {
            number = 0;
            line = record { 0 = 0 };
            round = 0;
            players = c.players;
            rounds = rounds;
            accelerations = c.accelerations;
            text = c.text;
            colour = c.colour;
            values = c.values;
          };
      records = c.records;
      fill = most_accelerations;
    }

-- ---- the nine tables
pub record HoldNine (c : Content) (numbers : ℕ → ℕ) (b x : Nine) : Type 0 where
  pub starts : Holds 0 most_players c.starts b.starts x.starts
  pub points : Holds 0 most_players c.points b.points x.points
  pub ranks : Holds 0 most_players c.ranks b.ranks x.ranks
  pub kept : Holds 0 kept_cells c.kept b.kept x.kept
  pub opponents : Holds 0 entry_cells c.opponents b.opponents x.opponents
  pub colours : Holds 0 entry_cells c.colours b.colours x.colours
  pub results : Holds 0 entry_cells c.results b.results x.results
  pub text : Holds 0 most_text c.text b.text x.text
  pub lines : Holds 0 line_cells numbers b.lines x.lines

-- only listed cells were written
abbrev pub Within : ℕ → List ℕ → List ℕ → Type 0
Within n b x = Holds 0 n (λ i. get_or x i 0) b x

pub record WithinNine (b x : Nine) : Type 0 where
  pub starts : Within most_players b.starts x.starts
  pub points : Within most_players b.points x.points
  pub ranks : Within most_players b.ranks x.ranks
  pub kept : Within kept_cells b.kept x.kept
  pub opponents : Within entry_cells b.opponents x.opponents
  pub colours : Within entry_cells b.colours x.colours
  pub results : Within entry_cells b.results x.results
  pub text : Within most_text b.text x.text
  pub lines : Within line_cells b.lines x.lines

-- ---- what the lines leave in cleared tables
pub record LinesAccepted (t : Tournament) (of_players of_accelerations : List ℕ) (b : Nine) (r : CoreAnswer) (x : Nine) : Type 0 where
  pub answer : r.answer ≡ answer_of t
  pub fill : r.fill ≡ most_accelerations
  pub records : Holds no_acceleration most_accelerations (content_of t).accelerations no_records r.records
  pub tables : HoldNine (content_of t) (lines_content of_players of_accelerations) b x

pub record LinesRefused (q : Refusal) (b : Nine) (r : CoreAnswer) (x : Nine) : Type 0 where
  pub answer : r ≡ refused_core q most_accelerations
  pub numbered : q.number ≡ 0 → ⊥
  pub tables : WithinNine b x

abbrev pub LinesLeave : Outcome → Nine → CoreAnswer → Nine → Type 0
LinesLeave (refused q) b r x = LinesRefused q b r x
LinesLeave (accepted t of_players of_accelerations) b r x = LinesAccepted t of_players of_accelerations b r x

pub record LinesRead (file : List ℕ) (b : Nine) (r : CoreAnswer) (x : Nine) : Type 0 where
  pub outcome : Outcome
  pub judged : Judged true file outcome
  pub leaves : LinesLeave outcome b r x
