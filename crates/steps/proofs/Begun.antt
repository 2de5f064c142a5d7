-- Before the first line the counts have room. Assumes nothing.
use mathlib.Core.Path.{◌≡◌, ap}
use native.Mathlib.Omega.{arith}
use Rattle.join.specs.Store.{Count, no_count}
use Rattle.steps.specs.declared.counts.Counts.{Counts}
use Rattle.steps.specs.Counts.{as_count, Small}

pub none-small : (c : Counts) → as_count c ≡ no_count → Small c
none-small c e =
    record {
      accelerations = let n : c.accelerations ≡ 0 = ap (λ (d : Count). d.accelerations) e in omega arith;
      text = let n : c.text ≡ 0 = ap (λ (d : Count). d.text) e in omega arith;
    }
