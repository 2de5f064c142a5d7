-- `listing::put_entry` meets its contract. Assumes nothing.
use Rattle.std.proofs.Common.{append_assoc}
use Rattle.listing.specs.Listing.{entry_field}
use Rattle.listing.proofs.Puts.{put_then}
use Rattle.listing.proofs.put_entry.Goals as goal

pub returns-clause-put : goal.returns-clause-put
unfolding entry_field
returns-clause-put c = rw append_assoc (put_then c.put_field-of_id.ensures.put c.put.ensures)
