-- A lawful tournament: each part within its rules, and all of it together. No file is in it.
use Rattle.std.specs.Prelude.{◌≡◌, Bool, true, false, ◌||◌, not, List, [], ℕ, ◌≤◌, ◌<◌, eqb, leb, length, get_or, take}
use Rattle.kit.specs.Lists.{all, any, among, is_empty, each_after, flat}
use Rattle.kit.specs.First.{AllOf}
use Rattle.types.specs.declared.Acceleration.{Acceleration}
use Rattle.law.specs.Sizes.{most_line, most_players, most_rounds, most_accelerations, most_text, most_points, is_start, is_rank}
use Rattle.law.specs.Lines.{allowed}
use Rattle.law.specs.Columns.{width}
use Rattle.law.specs.Text.{SpellsText, is_name, ended, is_repeated}
use Rattle.law.specs.Heads.{initial_colours}
use Rattle.law.specs.Scoring.{values}
use Rattle.law.specs.Accelerations.{is_acceleration, shares}
use Rattle.law.specs.Players.{SpellsKept, kept_field}
use Rattle.law.specs.Items.{kind_of, kept-text}
use Rattle.law.specs.Tournament.{Player, Tournament}
use Rattle.law.specs.Entries.{Law, keeps, states_sum}

-- a kept text line: a line of one of the sixteen records that is kept as it stands
pub record KeptLine (line : List ℕ) : Type 0 where
  pub listed : kind_of line ≡ kept-text
  pub itself : SpellsText line line
  pub clean : all allowed line ≡ true
  pub short : length line ≤ most_line

-- a player by itself, in an event of R rounds
pub record LawfulPlayer (R : ℕ) (p : Player) : Type 0 where
  pub start : is_start p.start ≡ true
  pub points : p.points ≤ most_points
  pub rank : is_rank p.rank ≡ true
  pub kept_wide : length p.kept ≡ width kept_field
  pub kept_clean : all allowed p.kept ≡ true
  pub kept : SpellsKept p.kept
  pub entries : length p.entries ≡ R

-- the player in a place has an entry in round r
pub record Sits (t : Tournament) (place r : ℕ) : Type 0 where
  pub place_in_lem : place < length t.players
  pub round_low : 1 ≤ r
  pub round_high : r ≤ t.rounds

-- a player whose start number an earlier one has
abbrev pub is_taken : List Player → Player → Bool
is_taken before p = any (λ q. eqb q.start p.start) before

abbrev pub no_acceleration : Acceleration
no_acceleration = record { points = 0; first_round = 0; last_round = 0; first_start = 0; last_start = 0 }

-- a record that shares a round and a start number with an earlier one
abbrev pub shares_earlier : List Acceleration → ℕ → Bool
shares_earlier records j = any (shares (get_or records j no_acceleration)) (take j records)

pub record Lawful (t : Tournament) : Type 0 where
  pub text : AllOf KeptLine t.text
  pub text_once : each_after (λ before line. not (is_repeated before line)) [] t.text ≡ true
  pub text_fits : length (flat ended t.text) ≤ most_text
  pub named : any is_name t.text ≡ true
  pub rounds : t.rounds ≤ most_rounds
  pub colour : eqb t.colour 0 || among t.colour initial_colours ≡ true
  pub scoring : all (λ v. leb v most_points) (values t.scoring) ≡ true
  pub accelerations : all is_acceleration t.accelerations ≡ true
  pub accelerations_fit : length t.accelerations ≤ most_accelerations
  pub accelerations_apart : (j : ℕ) → j < length t.accelerations → shares_earlier t.accelerations j ≡ false
  pub players : AllOf (LawfulPlayer t.rounds) t.players
  pub players_there : is_empty t.players ≡ false
  pub players_fit : length t.players ≤ most_players
  pub players_differ : each_after (λ before p. not (is_taken before p)) [] t.players ≡ true
  pub entries : (law : Law) (place r : ℕ) → Sits t place r → keeps t law place r ≡ true
  pub sums : (place : ℕ) → place < length t.players → states_sum t place ≡ true
