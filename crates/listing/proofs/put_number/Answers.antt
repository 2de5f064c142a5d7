-- `listing::put_number` meets its contract. Assumes nothing.
use Rattle.listing.specs.Listing.{decimal}
use Rattle.listing.proofs.put_number.Goals as goal

pub returns-clause-put : goal.returns-clause-put
unfolding decimal
returns-clause-put c = c.put_digits.ensures.put
