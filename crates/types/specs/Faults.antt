-- Document 01's number of each refusal, and a refusal with no line and no round.
use Rattle.std.specs.Prelude.{ℕ}
use Rattle.types.specs.declared.Fault.{Fault}
use Rattle.types.specs.declared.Fault.TheVariants as fault
use Rattle.types.specs.declared.Refusal.{Refusal}

abbrev pub number_of : Fault → ℕ
number_of fault.TableShort = 1
number_of fault.FileBig = 2
number_of fault.BadByte = 3
number_of fault.NoCr = 4
number_of fault.LineLong = 5
number_of fault.Unlisted = 6
number_of fault.BadField = 7
number_of fault.Again = 8
number_of fault.TooMany = 9
number_of fault.Incomplete = 10
number_of fault.PastRounds = 11
number_of fault.NoEntry = 12
number_of fault.NotMutual = 13
number_of fault.Misfit = 14
number_of fault.SecondU = 15
number_of fault.WrongSum = 16
number_of fault.Overlap = 17
number_of fault.NoReading = 18
number_of fault.OutShort = 19
number_of fault.NoPlace = 20

abbrev pub nowhere : Fault → Refusal
nowhere f = record { fault = f; line = record { 0 = 0 }; round = 0 }
