-- `player_lines::put_id` meets its contract. Assumes nothing.
use mathlib.Core.Path.{refl}
use Rattle.puts.proofs.Puts.{puts_as}
use Rattle.player_lines.proofs.Ids.{id-none, id-some}
use Rattle.player_lines.proofs.put_id.Goals as goal

pub returns-then-id-eq0 : goal.returns-then-id-eq0
returns-then-id-eq0 c =
    puts_as (id-none 3 c.args.id.0 c.if-id-eq0.true) refl refl c.put_number.ensures

pub returns : goal.returns
returns c =
    puts_as (id-some 4 c.args.id.0 c.if-id-eq0.false) refl refl c.put_number-2.ensures
