-- `player_lines::put_player` meets its contract. Assumes nothing.
use Prim.Native.Nat.{◌*◌}
use Rattle.puts.proofs.Puts.{room-left}
use Rattle.player_lines.specs.Lines.{entry_wide}
use Rattle.player_lines.specs.Rows.{seven_in}
use Rattle.player_lines.proofs.Rows.{head_room, player_put}
use Rattle.player_lines.proofs.put_player.Goals as goal

pub put_head-at-requires : goal.put_head-at-requires
put_head-at-requires c = head_room c.args.at c.args.rounds c.requires.room

pub put_entries-requires : goal.put_entries-requires
put_entries-requires c =
    record { place = c.requires.place; rounds = c.requires.rounds; room = room-left c.put_head-at.ensures (c.args.rounds * entry_wide) c.requires.room }

pub returns : goal.returns
returns c =
    let a = c.args in
    player_put (seven_in a.tables.now) a.rounds a.place.0 c.start_at-start.ensures c.points_at-points.ensures c.rank_at-rank.ensures c.kept_at-kept.ensures c.put_head-at.ensures c.put_entries.ensures

pub shape_of-out : goal.shape_of-out
shape_of-out c = (returns c).long
