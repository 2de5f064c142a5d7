-- `texts::is_whole` meets its contract. Assumes nothing.
use Rattle.texts.proofs.KeptLines.{whole-told, whole_not}
use Rattle.texts.proofs.is_whole.Goals as goal

pub returns-in-Ok : goal.returns-in-Ok
returns-in-Ok c = whole-told c.args.line.now _ c.in-Ok.ensures

pub returns-in-Err : goal.returns-in-Err
returns-in-Err c = whole_not c.args.line.now c.in-Err.ensures
