-- `lawful::is_reading` meets its contract. Assumes nothing.
use Rattle.texts.proofs.Told.{told_as}
use Rattle.lawful.proofs.Parts.{parts-reading, reading-parts}
use Rattle.lawful.proofs.is_reading.Goals as goal

pub returns-then-is_accepted : goal.returns-then-is_accepted
returns-then-is_accepted c = let g = c.is_accepted.ensures.sound c.if-is_accepted.true in told_as (parts-reading g) reading-parts c.holds.ensures
