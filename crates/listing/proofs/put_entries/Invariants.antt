-- `listing::put_entries` meets its contract. The loop's invariant: the fields of the first rounds are put. Assumes nothing.
use Rattle.std.proofs.Common.{◌+◌, ◌*◌, ◌≤◌}
use Rattle.listing.specs.Listing.{entry_fields}
use Rattle.listing.specs.Put.{Put}
use Rattle.listing.proofs.put_entries.Given as goal

abbrev pub invariant-loop-done : goal.invariant-loop-done
invariant-loop-done l = Put (entry_fields l.tables.opponents.now l.tables.colours.now l.tables.results.now l.place.0 l.done) l.at l.initial.out l.end l.out × (l.end ≤ l.at + 13 * l.done)
