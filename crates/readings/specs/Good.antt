-- What the test behind 18 looks at: the answer, used cells and unused ones, each as the tables hold it. Means: no part of the statement.
use Rattle.std.specs.Prelude.{◌≡◌, true, ◌||◌, List, [], ℕ, ◌*◌, ◌≤◌, ◌<◌, eqb, leb, length, get_or, take, drop}
use Rattle.std.proofs.Math.Option.{none}
use Rattle.kit.specs.Lists.{all, among}
use Rattle.types.specs.declared.Answer.{Answer}
use Rattle.law.specs.Sizes.{most_players, most_rounds, most_accelerations, most_text, most_points, is_start, is_rank}
use Rattle.law.specs.Lines.{allowed}
use Rattle.law.specs.Columns.{width}
use Rattle.law.specs.Heads.{initial_colours}
use Rattle.law.specs.Scoring.{letters}
use Rattle.law.specs.Accelerations.{is_acceleration}
use Rattle.law.specs.Players.{SpellsKept, kept_field}
use Rattle.law.specs.Entries.{Law}
use Rattle.law.specs.Lawful.{no_acceleration}
use Rattle.law.specs.Tables.{Tables, kept_cells, entry_cells, place_in, round_in}
use Rattle.join.specs.Grid.{first_from}
use Rattle.join.specs.Store.{Nine, place_of}
use Rattle.join.specs.Check.{broken_cell, wrong_sum, shared_record}
use Rattle.texts.specs.Kept.{KeptText}

-- the answer
pub record GoodAnswer (a : Answer) : Type 0 where
  pub number : a.number ≡ 0
  pub line : a.line.0 ≡ 0
  pub round : a.round ≡ 0
  pub players_there : 1 ≤ a.players
  pub players_fit : a.players ≤ most_players
  pub rounds_fit : a.rounds ≤ most_rounds
  pub accelerations_fit : a.accelerations ≤ most_accelerations
  pub text_fits : a.text ≤ most_text
  pub colour : eqb a.colour 0 || among a.colour initial_colours ≡ true
  pub six : length a.values ≡ length letters
  pub small : all (λ v. leb v most_points) a.values ≡ true

-- cells from n up to m hold zero
abbrev pub Unused : {A : Type 0} → A → ℕ → ℕ → List A → Type 0
Unused d n m cells = (i : ℕ) → n ≤ i → i < m → get_or cells i d ≡ d

-- cells of an entry table that no player has up to round R hold zero, d; in the tables that is 0
abbrev pub UnusedCells : {A : Type 0} → A → ℕ → ℕ → List A → Type 0
UnusedCells d n R cells = (i : ℕ) → i < entry_cells → ((place_in i < n) × (round_in i ≤ R) → ⊥) → get_or cells i d ≡ d

abbrev pub UnusedEntries : ℕ → ℕ → List ℕ → Type 0
UnusedEntries n R cells = UnusedCells 0 n R cells

-- a player's kept columns
abbrev pub kept_at : List ℕ → ℕ → List ℕ
kept_at kept p = take (width kept_field) (drop (p * width kept_field) kept)

pub record GoodPlayer (t : Tables) (p : ℕ) : Type 0 where
  pub start : is_start (get_or t.starts p 0) ≡ true
  pub points : get_or t.points p 0 ≤ most_points
  pub rank : is_rank (get_or t.ranks p 0) ≡ true
  pub clean : all allowed (kept_at t.kept p) ≡ true
  pub kept : SpellsKept (kept_at t.kept p)
  pub new : place_of t.starts p (get_or t.starts p 0) ≡ none

-- the tables that the checks look at
abbrev pub nine_of : Tables → Nine
nine_of t =
    record { starts = t.starts; points = t.points; ranks = t.ranks; kept = t.kept; opponents = t.opponents; colours = t.colours; results = t.results; text = t.text; lines = [] }

pub record GoodTables (a : Answer) (t : Tables) : Type 0 where
  pub starts_rest : Unused 0 a.players most_players t.starts
  pub points_rest : Unused 0 a.players most_players t.points
  pub ranks_rest : Unused 0 a.players most_players t.ranks
  pub kept_rest : Unused 0 (a.players * width kept_field) kept_cells t.kept
  pub opponents_rest : UnusedEntries a.players a.rounds t.opponents
  pub colours_rest : UnusedEntries a.players a.rounds t.colours
  pub results_rest : UnusedEntries a.players a.rounds t.results
  pub text_rest : Unused 0 a.text most_text t.text
  pub accelerations_rest : Unused no_acceleration a.accelerations most_accelerations t.accelerations
  pub text : KeptText (take a.text t.text)
  pub player : (p : ℕ) → p < a.players → GoodPlayer t p
  pub acceleration : (j : ℕ) → j < a.accelerations → is_acceleration (get_or t.accelerations j no_acceleration) ≡ true
  pub apart : first_from (shared_record t.accelerations) 0 a.accelerations ≡ none
  pub laws : (law : Law) → first_from (broken_cell law a.players a.rounds (nine_of t)) 0 (a.players * most_rounds) ≡ none
  pub sums : first_from (wrong_sum a.values t.points t.results a.rounds) 0 a.players ≡ none

pub record GoodReading (a : Answer) (t : Tables) : Type 0 where
  pub answer : GoodAnswer a
  pub tables : GoodTables a t
