-- `checks::player_of` meets its contract: whom the index names is one of the players, who are few enough. Assumes nothing.
use Rattle.checks.proofs.Kept.{placed_below}
use Rattle.checks.proofs.player_of.Goals as goal

pub returns-clause-place : goal.returns-clause-place
returns-clause-place c = let x = c.args.entries.now.indexed in placed_below _ _ _ (c.place_of.ensures _ _ x.says x.low) x.few
