-- The proof of the cycle of calls {put_digits}. The measure is how many digits there may be. Assumes nothing.
use Rattle.listing.proofs.+put_digits.Given as goal

abbrev pub decreases-put_digits : goal.decreases-put_digits
decreases-put_digits l = l.most
