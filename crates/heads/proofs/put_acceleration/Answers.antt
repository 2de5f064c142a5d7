-- `heads::put_acceleration` meets its contract. Assumes nothing.
use mathlib.Core.Path.{refl}
use mathlib.Core.List.{List, [], ◌++◌}
use Prim.Native.Nat.{ℕ}
use Rattle.law.specs.Writing.{blanks, noughts, filled}
use Rattle.puts.proofs.Puts.{puts_as, puts_then, puts_last}
use Rattle.heads.proofs.Lines.{span_before}
use Rattle.heads.proofs.put_acceleration.Goals as goal

pub returns : goal.returns
returns c =
    let a = c.args.a in
    let starts : List ℕ = filled noughts 4 a.first_start ++ (blanks 1 ++ (filled noughts 4 a.last_start ++ [])) in
    puts_then c.put_code-at.ensures (puts_then c.put_blanks-at.ensures (puts_then c.put_points-at.ensures (puts_then c.put_blanks-at-2.ensures
    (puts_as (span_before 3 a.first_round a.last_round (blanks 1 ++ starts)) refl refl (puts_then c.put_round_span-at.ensures
    (puts_then c.put_blanks-at-3.ensures (puts_as (span_before 4 a.first_start a.last_start []) refl refl (puts_last c.put_start_span.ensures))))))))
