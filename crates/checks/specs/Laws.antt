-- The four laws that each entry keeps, and the tables in which a search looks for one that does not.
use Rattle.std.specs.Prelude.{◌≡◌, Bool, ℕ, ◌≤◌, ◌<◌, List, []}
use Rattle.types.specs.declared.Fault.{Fault}
use Rattle.types.specs.declared.Fault.TheVariants as fault
use Rattle.types.specs.declared.Place.{Place}
use Rattle.law.specs.Sizes.{most_players, most_rounds}
use Rattle.law.specs.Entries.{Law, bye-or-game, mutual_pairing, fitting_results, one_U}
use Rattle.join.specs.Store.{Nine}
use Rattle.join.specs.Check.{keeps_cell}
use Rattle.index.specs.declared.Entries.{Entries}
use Rattle.checks.specs.declared.LawKind.{LawKind}
use Rattle.checks.specs.declared.LawKind.TheVariants.{ByeOrGame, Mutual, Fitting, OneU}

abbrev pub as_law : LawKind → Law
as_law ByeOrGame = bye-or-game
as_law Mutual = mutual_pairing
as_law Fitting = fitting_results
as_law OneU = one_U

-- why an entry that breaks it is refused
abbrev pub fault_of : LawKind → Fault
fault_of ByeOrGame = fault.NoEntry
fault_of Mutual = fault.NotMutual
fault_of Fitting = fault.Misfit
fault_of OneU = fault.SecondU

-- the four tables that these laws read
abbrev pub four : List ℕ → List ℕ → List ℕ → List ℕ → Nine
four starts opponents colours results =
    record { starts = starts; points = []; ranks = []; kept = []; opponents = opponents; colours = colours; results = results; text = []; lines = [] }

abbrev pub four_of : Entries → Nine
four_of e = four e.starts.now e.opponents.now e.colours.now e.results.now

-- a look may be had at each place and round
abbrev pub Anywhere : (Place → ℕ → Type 0) → Type 0
Anywhere pre = (place : Place) (round : ℕ) → place.0 < most_players → 1 ≤ round → round ≤ most_rounds → pre place round

-- what a look says: whether the entry there keeps the law
abbrev pub Tells : (Place → ℕ → Bool → Type 0) → Law → ℕ → Nine → Type 0
Tells post law n t = (place : Place) (round : ℕ) (kept : Bool) → post place round kept → kept ≡ keeps_cell law n t place.0 round
