-- `listing::put_standing` meets its contract. Assumes nothing.
use Rattle.listing.specs.Listing.{standing}
use Rattle.listing.proofs.Puts.{put_then}
use Rattle.listing.proofs.put_standing.Goals as goal

pub returns-clause-put : goal.returns-clause-put
unfolding standing
returns-clause-put c = put_then (put_then c.put_number-of_start.ensures.put c.put_field-of_points.ensures.put) c.put_field.ensures.put
