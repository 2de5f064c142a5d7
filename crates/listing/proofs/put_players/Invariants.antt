-- `listing::put_players` meets its contract. The loop's invariant: the lines of the first players are put. Assumes nothing.
use Rattle.std.proofs.Common.{◌+◌, ◌*◌, ◌≤◌}
use Rattle.listing.specs.Lent.{six}
use Rattle.listing.specs.Listing.{player_lines, most_player_line}
use Rattle.listing.specs.Put.{Put}
use Rattle.listing.proofs.put_players.Given as goal

abbrev pub invariant-loop-place : goal.invariant-loop-place
invariant-loop-place l = Put (player_lines (six l.tables) l.rounds l.place) l.at l.initial.out l.end l.out × (l.end ≤ l.at + most_player_line * l.place)
