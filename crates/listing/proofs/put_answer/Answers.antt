-- `listing::put_answer` meets its contract. Assumes nothing.
use Rattle.listing.specs.Listing.{answer_line}
use Rattle.listing.proofs.Puts.{put_then}
use Rattle.listing.proofs.put_answer.Goals as goal

pub returns-clause-put : goal.returns-clause-put
unfolding answer_line
returns-clause-put c = put_then (put_then (put_then (put_then c.put-of_word.ensures c.put_field-of_first.ensures.put) c.put_field-of_second.ensures.put) c.put_field-of_third.ensures.put) c.put.ensures
