-- The tables that are listed, as lists; and of all that a call is lent.
use Rattle.std.specs.Prelude.{◌≡◌}
use Rattle.tables.specs.declared.lent.Tables.{Tables}
use Rattle.listing.specs.declared.lent.ListedTables.{ListedTables}
use Rattle.listing.specs.Listing.{Six}

abbrev pub six : ListedTables → Six
six t =
    record {
      starts = t.starts.now;
      points = t.points.now;
      ranks = t.ranks.now;
      opponents = t.opponents.now;
      colours = t.colours.now;
      results = t.results.now;
    }

-- they show what those of the same name hold
pub record ShowsListed (l : ListedTables) (t : Tables) : Type 0 where
  pub starts : l.starts.now ≡ t.starts.now
  pub points : l.points.now ≡ t.points.now
  pub ranks : l.ranks.now ≡ t.ranks.now
  pub opponents : l.opponents.now ≡ t.opponents.now
  pub colours : l.colours.now ≡ t.colours.now
  pub results : l.results.now ≡ t.results.now
