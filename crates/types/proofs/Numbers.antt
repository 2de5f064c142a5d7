-- Each refusal has a number that is not an acceptance's. Assumes nothing.
use mathlib.Core.Path.{◌≡◌}
use Prim.Native.Nat.{ℕ}
use native.Mathlib.Omega.{arith}
use Rattle.types.specs.declared.Fault.{Fault}
use Rattle.types.specs.declared.Fault.TheVariants as fault
use Rattle.types.specs.Faults.{number_of}

pub some_number : (f : Fault) → number_of f ≡ 0 → ⊥
some_number fault.TableShort e = omega (arith, e)
some_number fault.FileBig e = omega (arith, e)
some_number fault.BadByte e = omega (arith, e)
some_number fault.NoCr e = omega (arith, e)
some_number fault.LineLong e = omega (arith, e)
some_number fault.Unlisted e = omega (arith, e)
some_number fault.BadField e = omega (arith, e)
some_number fault.Again e = omega (arith, e)
some_number fault.TooMany e = omega (arith, e)
some_number fault.Incomplete e = omega (arith, e)
some_number fault.PastRounds e = omega (arith, e)
some_number fault.NoEntry e = omega (arith, e)
some_number fault.NotMutual e = omega (arith, e)
some_number fault.Misfit e = omega (arith, e)
some_number fault.SecondU e = omega (arith, e)
some_number fault.WrongSum e = omega (arith, e)
some_number fault.Overlap e = omega (arith, e)
some_number fault.NoReading e = omega (arith, e)
some_number fault.OutShort e = omega (arith, e)
some_number fault.NoPlace e = omega (arith, e)
