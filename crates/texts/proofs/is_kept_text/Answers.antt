-- `texts::is_kept_text` meets its contract. Assumes nothing.
use mathlib.Core.Path.{sym}
use lib.Seq.{length-take-le}
use Rattle.texts.proofs.is_kept_text.Goals as goal

pub slice_bounds-is_whole_text-end : goal.slice_bounds-is_whole_text-end
slice_bounds-is_whole_text-end c = sym (length-take-le c.args.n c.args.text.now c.requires.0)
