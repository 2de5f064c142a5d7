use mathlib.Core.Path.{sym}
use native.Mathlib.Omega.{arith}
use Rattle.listing.proofs.Lines.{fields_none, fields_next}
use Rattle.listing.proofs.put_entries.Goals as goal

pub loop-done-init : goal.loop-done-init
loop-done-init c = let t = c.args.tables.now in (fields_none t.opponents.now t.colours.now t.results.now c.args.place.0 (omega arith), omega arith)

pub loop-done-preserved : goal.loop-done-preserved
loop-done-preserved c =
    let t = c.args.tables.now in (
      fields_next t.opponents.now t.colours.now t.results.now c.args.place.0 _ c.loop-done.invariant.0
          (rw (sym c.opponent_at-id.ensures, sym c.letter_at-colour.ensures, sym c.letter_at-res.ensures) c.put_entry-end.ensures.put),
      omega arith,
    )
