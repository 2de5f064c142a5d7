-- `player_lines::put_entry` meets its contract. Assumes nothing.
use mathlib.Core.Path.{◌∙◌}
use Rattle.puts.proofs.Puts.{puts_then, room-left, room_next}
use Rattle.player_lines.proofs.put_entry.Goals as goal

pub put_id-at-requires : goal.put_id-at-requires
put_id-at-requires c =
    room_next c.put_blanks-at.ensures 4 4 c.requires

pub put_letter-at-requires : goal.put_letter-at-requires
put_letter-at-requires c =
    let r1 = room-left c.put_blanks-at.ensures 8 c.requires in
    room_next c.put_id-at.ensures 2 2 r1

pub put_result-requires : goal.put_result-requires
put_result-requires c =
    let r1 = room-left c.put_blanks-at.ensures 8 c.requires in
    let r2 = room-left c.put_id-at.ensures 4 r1 in
    room_next c.put_letter-at.ensures 2 0 r2

pub returns : goal.returns
returns c =
    puts_then c.put_blanks-at.ensures (puts_then c.put_id-at.ensures (puts_then c.put_letter-at.ensures c.put_result.ensures))

pub shape_of-out : goal.shape_of-out
shape_of-out c = c.put_result.ensures.long ∙ c.put_letter-at.ensures.long ∙ c.put_id-at.ensures.long ∙ c.put_blanks-at.ensures.long
