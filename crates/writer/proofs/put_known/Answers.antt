-- `writer::put_known` meets its contract. Assumes nothing.
use mathlib.Core.Path.{refl, sym, ap}
use native.Mathlib.Omega.{arith}
use lib.ListN.{length}
use Rattle.puts.proofs.Puts.{puts_as, puts_none, puts_then}
use Rattle.writer.proofs.Wide.{colour-none, colour_known, known_wide}
use Rattle.writer.proofs.put_known.Goals as goal

pub returns-then-colour-eq0 : goal.returns-then-colour-eq0
returns-then-colour-eq0 c =
    let e = sym (colour-none c.args.colour c.args.end c.if-colour-eq0.true) in
    puts_as e (ap length e) refl (puts_none (let p = c.requires in omega arith))

pub put_colour-at-requires : goal.put_colour-at-requires
put_colour-at-requires c =
    let w = known_wide c.args.colour c.args.end c.if-colour-eq0.false in
    let p = c.requires in
    omega arith

pub put_end-requires : goal.put_end-requires
put_end-requires c =
    let w = known_wide c.args.colour c.args.end c.if-colour-eq0.false in
    let p = c.requires in
    let e = c.put_colour-at.ensures in
    omega arith

pub returns : goal.returns
returns c =
    let n = c.if-colour-eq0.false in
    puts_as (sym (colour_known c.args.colour c.args.end n)) (sym (known_wide c.args.colour c.args.end n)) refl (puts_then c.put_colour-at.ensures c.put_end.ensures)

pub shape_of-out : goal.shape_of-out
shape_of-out c = (returns c).long
