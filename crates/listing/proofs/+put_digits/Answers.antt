use Rattle.listing.proofs.Digits.{digits_more}
use Rattle.listing.proofs.+put_digits.Goals as goal

pub returns-clause-put : goal.returns-clause-put
returns-clause-put t c = digits_more _ _ _ c.if-most-eq0.false c.if-n-eq0.false c.digit-2.ensures c.put_digits-end.ensures.put c.put-2.ensures
