-- `lawful::own_are` meets its contract. Assumes nothing.
use Rattle.std.proofs.Common.{rules}
use Rattle.lawful.proofs.own_are.Goals as goal

pub returns-then-ranks_are : goal.returns-then-ranks_are
returns-then-ranks_are c =
    record {
      sound = λ e. record { started = search rules; stated = search rules; ranked = search rules; columns = c.kept_are.ensures.sound e };
      complete = λ h. c.kept_are.ensures.complete h.columns;
    }
