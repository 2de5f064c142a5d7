use mathlib.Core.Path.{refl}
use native.Mathlib.Nat.{lt_of_lt_of_le}
use Rattle.puts.specs.Ends.{end_wide}
use Rattle.puts.proofs.Puts.{room-left}
use Rattle.puts.proofs.Lined.{lined_none, lined_room, lined_front}
use Rattle.player_lines.specs.Lines.{player_wide}
use Rattle.player_lines.specs.Rows.{seven_in}
use Rattle.player_lines.proofs.Rows.{player-next, players_put}
use Rattle.player_lines.proofs.put_players.Goals as goal

pub loop-i-init : goal.loop-i-init
loop-i-init c = lined_none c.requires.room

pub put_player-ended-requires : goal.put_player-ended-requires
put_player-ended-requires c =
    let p = c.requires in
    let t = c.loop-i-test.true in
    record { place = lt_of_lt_of_le t p.players; rounds = p.rounds; room = lined_front (player_wide c.args.rounds) (end_wide c.args.end) refl c.loop-i.invariant t p.room }

pub put_end-next-requires : goal.put_end-next-requires
put_end-next-requires c =
    room-left c.put_player-ended.ensures (end_wide c.args.end) (lined_room c.loop-i.invariant c.loop-i-test.true c.requires.room)

pub loop-i-preserved : goal.loop-i-preserved
loop-i-preserved c =
    let a = c.args in
    player-next (seven_in a.tables.now) a.rounds a.end a.players c.loop-i.invariant c.loop-i-test.true c.put_player-ended.ensures c.put_end-next.ensures

pub shape_of-out : goal.shape_of-out
shape_of-out c = c.loop-i.invariant.put.long

pub returns : goal.returns
returns c =
    let a = c.args in
    players_put (seven_in a.tables.now) a.rounds a.end a.players c.loop-i.invariant c.loop-i-test.false
