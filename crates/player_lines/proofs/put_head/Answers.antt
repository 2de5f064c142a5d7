-- `player_lines::put_head` meets its contract. Assumes nothing.
use mathlib.Core.Path.{◌≡◌, refl}
use borrow.Author.Rules.{rules}
use lib.ListN.{length}
use Rattle.puts.proofs.Puts.{puts_as, puts_then, puts_last, room-left, room_next, a_column}
use Rattle.player_lines.proofs.put_head.Goals as goal

pub put_blanks-at-requires : goal.put_blanks-at-requires
put_blanks-at-requires c =
    room_next c.put_code-at.ensures 1 85 c.requires

pub put_number-at-requires : goal.put_number-at-requires
put_number-at-requires c =
    let r1 = room-left c.put_code-at.ensures 86 c.requires in
    (a_column 3, room_next c.put_blanks-at.ensures 4 81 r1)

pub put_blanks-at-requires-2 : goal.put_blanks-at-requires-2
put_blanks-at-requires-2 c =
    let r1 = room-left c.put_code-at.ensures 86 c.requires in
    let r2 = room-left c.put_blanks-at.ensures 85 r1 in
    room_next c.put_number-at.ensures 1 80 r2

pub put-at-requires : goal.put-at-requires
put-at-requires c =
    let long : length c.args.kept ≡ 70 = search rules in
    let r1 = room-left c.put_code-at.ensures 86 c.requires in
    let r2 = room-left c.put_blanks-at.ensures 85 r1 in
    let r3 = room-left c.put_number-at.ensures 81 r2 in
    rw long (room_next c.put_blanks-at-2.ensures 70 10 r3)

pub put_blanks-at-requires-3 : goal.put_blanks-at-requires-3
put_blanks-at-requires-3 c =
    let long : length c.args.kept ≡ 70 = search rules in
    let r1 = room-left c.put_code-at.ensures 86 c.requires in
    let r2 = room-left c.put_blanks-at.ensures 85 r1 in
    let r3 = room-left c.put_number-at.ensures 81 r2 in
    let r4 = room-left c.put_blanks-at-2.ensures 80 r3 in
    room_next (puts_as refl long refl c.put-at.ensures) 1 9 r4

pub put_points-at-requires : goal.put_points-at-requires
put_points-at-requires c =
    let long : length c.args.kept ≡ 70 = search rules in
    let r1 = room-left c.put_code-at.ensures 86 c.requires in
    let r2 = room-left c.put_blanks-at.ensures 85 r1 in
    let r3 = room-left c.put_number-at.ensures 81 r2 in
    let r4 = room-left c.put_blanks-at-2.ensures 80 r3 in
    let r5 = room-left (puts_as refl long refl c.put-at.ensures) 10 r4 in
    room_next c.put_blanks-at-3.ensures 4 5 r5

pub put_blanks-at-requires-4 : goal.put_blanks-at-requires-4
put_blanks-at-requires-4 c =
    let long : length c.args.kept ≡ 70 = search rules in
    let r1 = room-left c.put_code-at.ensures 86 c.requires in
    let r2 = room-left c.put_blanks-at.ensures 85 r1 in
    let r3 = room-left c.put_number-at.ensures 81 r2 in
    let r4 = room-left c.put_blanks-at-2.ensures 80 r3 in
    let r5 = room-left (puts_as refl long refl c.put-at.ensures) 10 r4 in
    let r6 = room-left c.put_blanks-at-3.ensures 9 r5 in
    room_next c.put_points-at.ensures 1 4 r6

pub put_number-requires : goal.put_number-requires
put_number-requires c =
    let long : length c.args.kept ≡ 70 = search rules in
    let r1 = room-left c.put_code-at.ensures 86 c.requires in
    let r2 = room-left c.put_blanks-at.ensures 85 r1 in
    let r3 = room-left c.put_number-at.ensures 81 r2 in
    let r4 = room-left c.put_blanks-at-2.ensures 80 r3 in
    let r5 = room-left (puts_as refl long refl c.put-at.ensures) 10 r4 in
    let r6 = room-left c.put_blanks-at-3.ensures 9 r5 in
    let r7 = room-left c.put_points-at.ensures 5 r6 in
    (a_column 3, room_next c.put_blanks-at-4.ensures 4 0 r7)

pub returns : goal.returns
returns c =
    let long : length c.args.kept ≡ 70 = search rules in
    puts_then c.put_code-at.ensures (puts_then c.put_blanks-at.ensures (puts_then c.put_number-at.ensures (puts_then c.put_blanks-at-2.ensures (puts_then (puts_as refl long refl c.put-at.ensures) (puts_then c.put_blanks-at-3.ensures (puts_then c.put_points-at.ensures (puts_then c.put_blanks-at-4.ensures (puts_last c.put_number.ensures))))))))

pub shape_of-out : goal.shape_of-out
shape_of-out c = (returns c).long
