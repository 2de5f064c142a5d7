-- What a check answers, by what join's verdict says: number, line and round of a refusal, or none.
use Rattle.std.specs.Prelude.{◌≡◌, ℕ, ◌<◌, Option, Some, Result, Ok, Err}
use Rattle.std.proofs.Math.Option as maybe
use Rattle.kit.specs.Decides.{or_else}
use Rattle.types.specs.declared.Refusal.{Refusal}
use Rattle.types.specs.Faults.{number_of}
use Rattle.law.specs.Entries.{bye-or-game, mutual_pairing, fitting_results, one_U}
use Rattle.law.specs.Refusals as law
use Rattle.join.specs.Store.{Nine}
use Rattle.join.specs.Check.{broken_by}
use Rattle.turns.specs.declared.Turn.{Turn}

-- a refusal in the statement's terms, and the one in an answer, if it is one
abbrev pub stated : Refusal → law.Refusal
stated r = law.refusal (number_of r.fault) r.line.0 r.round

abbrev pub refusal_in : {A : Type 0} → Result A Refusal → maybe.Option law.Refusal
refusal_in (Ok a) = maybe.none
refusal_in (Err r) = maybe.some (stated r)

-- 12 to 15, in their order
abbrev pub unlawful_in : ℕ → ℕ → Nine → maybe.Option law.Refusal
unlawful_in n R y = or_else (broken_by bye-or-game n R y) (or_else (broken_by mutual_pairing n R y) (or_else (broken_by fitting_results n R y) (broken_by one_U n R y)))

-- the turn that was found is below n
abbrev pub FoundUnder : Option Turn → ℕ → Type 0
FoundUnder found n = (turn : Turn) → found ≡ Some turn → turn.0 < n
