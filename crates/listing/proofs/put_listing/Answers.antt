-- `listing::put_listing` meets its contract. Assumes nothing.
use Rattle.listing.specs.Lent.{six}
use Rattle.listing.proofs.Lines.{listing-refused, listing-accepted}
use Rattle.listing.proofs.Puts.{put_then}
use Rattle.listing.proofs.put_listing.Goals as goal

pub returns-then-answer-ne0-clause-put : goal.returns-then-answer-ne0-clause-put
returns-then-answer-ne0-clause-put c = listing-refused c.args.answer (six c.args.tables.now) c.if-answer-ne0.true c.put_refused.ensures.put

pub returns-clause-put : goal.returns-clause-put
returns-clause-put c = listing-accepted c.args.answer (six c.args.tables.now) c.if-answer-ne0.false (put_then c.put_answer-end.ensures.put c.put_players.ensures.put)
