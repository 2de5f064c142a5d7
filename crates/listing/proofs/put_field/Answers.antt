-- `listing::put_field` meets its contract. Assumes nothing.
use Rattle.listing.specs.Listing.{field}
use Rattle.listing.proofs.Puts.{put_then}
use Rattle.listing.proofs.put_field.Goals as goal

pub returns-clause-put : goal.returns-clause-put
unfolding field
returns-clause-put c = put_then c.put-end.ensures c.put_number.ensures.put
