-- `writer::put_report` meets its contract. Assumes nothing.
use Prim.Native.Nat.{◌+◌, ◌≤◌}
use borrow.Author.Rules.{rules}
use lib.ListN.{length}
use lib.Seq.{length-take-le}
use Rattle.puts.proofs.Puts.{puts_then, room-left, room_next}
use Rattle.writer.specs.Report.{heads_wide, report_text, text_wide}
use Rattle.writer.proofs.Wide.{records_wide, players_wide, room_whole, room_front}
use Rattle.writer.proofs.put_report.Goals as goal

pub put_text-at-requires : goal.put_text-at-requires
put_text-at-requires c =
    let a = c.args.answer in
    room_front (text_wide a c.args.tables.now.text.now c.args.end) (heads_wide a.rounds a.colour c.args.end + (records_wide a c.args.end + players_wide a c.args.end)) c.requires.room

pub put_heads-at-requires : goal.put_heads-at-requires
put_heads-at-requires c =
    let a = c.args.answer in
    (c.requires.fit.rounds, room_next c.put_text-at.ensures (heads_wide a.rounds a.colour c.args.end) (records_wide a c.args.end + players_wide a c.args.end) (room_whole c.requires.room))

pub put_accelerations-at-requires : goal.put_accelerations-at-requires
put_accelerations-at-requires c =
    let a = c.args.answer in
    let room : a.accelerations ≤ length c.args.records.now = search rules in
    let r = room-left c.put_text-at.ensures (heads_wide a.rounds a.colour c.args.end + (records_wide a c.args.end + players_wide a c.args.end)) (room_whole c.requires.room) in
    rw (length-take-le a.accelerations c.args.records.now room) (room_next c.put_heads-at.ensures (records_wide a c.args.end) (players_wide a c.args.end) r)

pub put_players-requires : goal.put_players-requires
put_players-requires c =
    let a = c.args.answer in
    let room : a.accelerations ≤ length c.args.records.now = search rules in
    let r1 = room-left c.put_text-at.ensures (heads_wide a.rounds a.colour c.args.end + (records_wide a c.args.end + players_wide a c.args.end)) (room_whole c.requires.room) in
    let r2 = room-left c.put_heads-at.ensures (records_wide a c.args.end + players_wide a c.args.end) r1 in
    record {
      players = c.requires.fit.players;
      rounds = c.requires.fit.rounds;
      room = room-left (rw (length-take-le a.accelerations c.args.records.now room) at c.put_accelerations-at.ensures) (players_wide a c.args.end) r2;
    }

pub returns : goal.returns
unfolding report_text
returns c =
    let a = c.args.answer in
    let room : a.accelerations ≤ length c.args.records.now = search rules in
    let shown = c.of_players-rows.ensures in
    puts_then c.put_text-at.ensures (puts_then c.put_heads-at.ensures (puts_then (rw (length-take-le a.accelerations c.args.records.now room) at c.put_accelerations-at.ensures)
    (rw (shown.starts, shown.points, shown.ranks, shown.kept, shown.opponents, shown.colours, shown.results) at c.put_players.ensures)))

pub shape_of-out : goal.shape_of-out
shape_of-out c = (returns c).long
