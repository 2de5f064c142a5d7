-- What the answer of a search says where its case is known: what a caller has in each arm of its `match`. Assumes nothing.
use mathlib.Core.Path.{◌≡◌, refl, sym, ap, ◌∙◌}
use mathlib.Core.Bool.{Bool}
use mathlib.Core.Option.{Option, none, some}
use Prim.Native.Nat.{ℕ, ◌<◌}
use native.Mathlib.Omega.{arith}
use Rattle.join.specs.Grid.{first_from}
use Rattle.join.proofs.Firsts.{first_under}
use Rattle.std.specs.Prelude.{Some, None}
use Rattle.std.specs.Prelude as program
use Rattle.turns.specs.declared.Turn.{Turn}
use Rattle.turns.specs.declared.RecordNumber.{RecordNumber}
use Rattle.turns.specs.Found.{as_found_turn, as_found_record}

-- `tell` makes the answer of what a search gives, `hear` takes it out again
told : {A : Type 0} (tell : Option ℕ → A) (hear : A → Option ℕ) → ((o : Option ℕ) → hear (tell o) ≡ o) → (o : Option ℕ) {answer case : A} → answer ≡ tell o → answer ≡ case → o ≡ hear case
told tell hear same o a e = sym (same o) ∙ ap hear (sym a ∙ e)

abbrev pub turn_in : program.Option Turn → Option ℕ
turn_in (Some k) = some k.0
turn_in None = none

abbrev pub record_in : program.Option RecordNumber → Option ℕ
record_in (Some j) = some j.0
record_in None = none

pub told_turn : (o : Option ℕ) {answer case : program.Option Turn} → answer ≡ as_found_turn o → answer ≡ case → o ≡ turn_in case
told_turn = told as_found_turn turn_in same
  where
    same : (o : Option ℕ) → turn_in (as_found_turn o) ≡ o
    same none = refl
    same (some k) = refl

pub told_record : (o : Option ℕ) {answer case : program.Option RecordNumber} → answer ≡ as_found_record o → answer ≡ case → o ≡ record_in case
told_record = told as_found_record record_in same
  where
    same : (o : Option ℕ) → record_in (as_found_record o) ≡ o
    same none = refl
    same (some j) = refl

-- what was found is one of those that were looked at
pub told_under : (f : ℕ → Bool) (n : ℕ) {k : ℕ} → first_from f 0 n ≡ some k → k < n
told_under f n {k} e = omega (arith, (first_under f 0 n k e).1)
