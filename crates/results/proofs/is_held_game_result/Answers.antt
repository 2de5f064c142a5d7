-- `results::is_held_game_result` meets its contract: the tests one by one are the tests of the list. Assumes nothing.
use mathlib.Core.Bool.{or_assoc, or-false}
use Rattle.results.proofs.is_held_game_result.Goals as goal

pub returns : goal.returns
returns c = simp (or_assoc, or-false)
