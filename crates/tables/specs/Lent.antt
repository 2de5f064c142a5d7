-- The nine lent tables as a clause names them: in a `requires`, and at entry and at exit in an `ensures`; and as the structs that hold them.
use Rattle.std.specs.Prelude.{◌≡◌, List, [], ℕ}
use Rattle.std.specs.Borrow.{MutBor}
use denote.Triple.Both.{Both}
use Rattle.join.specs.Store.{Nine}
use Rattle.tables.specs.declared.lent.Tables.{Tables}
use Rattle.tables.specs.declared.lent.PlayerTables.{PlayerTables}
use Rattle.tables.specs.declared.lent.Settled.{Settled}
use Rattle.tables.specs.declared.lent.SettledMut.{SettledMut}
use Rattle.tables.specs.declared.lent.Closing.{Closing}
use Rattle.tables.specs.declared.lent.ClosingMut.{ClosingMut}
use Rattle.tables.specs.declared.lent.ColumnsMut.{ColumnsMut}

abbrev Cells : Type 0
Cells = MutBor (List ℕ)

abbrev Lent : Type 0
Lent = Both Cells Cells

abbrev pub nine : List ℕ → List ℕ → List ℕ → List ℕ → List ℕ → List ℕ → List ℕ → List ℕ → List ℕ → Nine
nine starts points ranks kept opponents colours results text lines =
    record { starts = starts; points = points; ranks = ranks; kept = kept; opponents = opponents; colours = colours; results = results; text = text; lines = lines }

abbrev pub lent : Cells → Cells → Cells → Cells → Cells → Cells → Cells → Cells → Cells → Nine
lent t0 t1 t2 t3 t4 t5 t6 t7 t8 = nine t0.now t1.now t2.now t3.now t4.now t5.now t6.now t7.now t8.now

abbrev pub before : Lent → Lent → Lent → Lent → Lent → Lent → Lent → Lent → Lent → Nine
before t0 t1 t2 t3 t4 t5 t6 t7 t8 = lent t0.entry t1.entry t2.entry t3.entry t4.entry t5.entry t6.entry t7.entry t8.entry

abbrev pub after : Lent → Lent → Lent → Lent → Lent → Lent → Lent → Lent → Lent → Nine
after t0 t1 t2 t3 t4 t5 t6 t7 t8 = lent t0.exit t1.exit t2.exit t3.exit t4.exit t5.exit t6.exit t7.exit t8.exit

-- all that a reading fills
abbrev pub nine_of : SettledMut → ClosingMut → ColumnsMut → List ℕ → Nine
nine_of settled closing columns text =
    nine settled.starts.now settled.points.now columns.ranks.now columns.kept.now settled.opponents.now closing.colours.now closing.results.now text settled.lines.now

-- the tables that are read; no line numbers are among them
abbrev pub eight_of : Tables → Nine
eight_of t = nine t.starts.now t.points.now t.ranks.now t.kept.now t.opponents.now t.colours.now t.results.now t.text.now []

-- a function that is lent them hands back the same references
pub record SameSettled (a b : SettledMut) : Type 0 where
  pub starts : b.starts.ghost_name ≡ a.starts.ghost_name
  pub points : b.points.ghost_name ≡ a.points.ghost_name
  pub opponents : b.opponents.ghost_name ≡ a.opponents.ghost_name
  pub lines : b.lines.ghost_name ≡ a.lines.ghost_name

pub record SameClosing (a b : ClosingMut) : Type 0 where
  pub colours : b.colours.ghost_name ≡ a.colours.ghost_name
  pub results : b.results.ghost_name ≡ a.results.ghost_name

pub record SameColumns (a b : ColumnsMut) : Type 0 where
  pub ranks : b.ranks.ghost_name ≡ a.ranks.ghost_name
  pub kept : b.kept.ghost_name ≡ a.kept.ghost_name

-- tables to be read show what those hold that are to be filled
pub record ShowsSettled (s : Settled) (t : SettledMut) : Type 0 where
  pub starts : s.starts.now ≡ t.starts.now
  pub points : s.points.now ≡ t.points.now
  pub opponents : s.opponents.now ≡ t.opponents.now
  pub lines : s.lines.numbers.now ≡ t.lines.now

pub record ShowsClosing (s : Closing) (t : ClosingMut) : Type 0 where
  pub colours : s.colours.now ≡ t.colours.now
  pub results : s.results.now ≡ t.results.now

-- and of those that are read, what the players' lines are written from
pub record ShowsPlayers (p : PlayerTables) (t : Tables) : Type 0 where
  pub starts : p.starts.now ≡ t.starts.now
  pub points : p.points.now ≡ t.points.now
  pub ranks : p.ranks.now ≡ t.ranks.now
  pub kept : p.kept.now ≡ t.kept.now
  pub opponents : p.opponents.now ≡ t.opponents.now
  pub colours : p.colours.now ≡ t.colours.now
  pub results : p.results.now ≡ t.results.now
