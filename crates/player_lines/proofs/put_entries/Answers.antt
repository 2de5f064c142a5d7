use mathlib.Core.Path.{refl, sym}
use Rattle.puts.proofs.Lined.{lined_none, lined_room}
use Rattle.player_lines.proofs.Rows.{round-next, rounds_put}
use Rattle.player_lines.proofs.put_entries.Goals as goal

pub loop-done-init : goal.loop-done-init
loop-done-init c = lined_none c.requires.room

pub put_entry-next-requires : goal.put_entry-next-requires
put_entry-next-requires c = lined_room c.loop-done.invariant c.loop-done-test.true c.requires.room

pub loop-done-preserved : goal.loop-done-preserved
loop-done-preserved c =
    let a = c.args in
    round-next a.tables.now.opponents.now a.tables.now.colours.now a.tables.now.results.now a.place.0 a.rounds c.loop-done.invariant c.loop-done-test.true refl
    (rw (sym c.opponent_at-id.ensures, sym c.letter_at-colour.ensures, sym c.letter_at-res.ensures) c.put_entry-next.ensures)

pub shape_of-out : goal.shape_of-out
shape_of-out c = c.loop-done.invariant.put.long

pub returns : goal.returns
returns c =
    let a = c.args in
    rounds_put a.tables.now.opponents.now a.tables.now.colours.now a.tables.now.results.now a.place.0 a.rounds c.loop-done.invariant c.loop-done-test.false
