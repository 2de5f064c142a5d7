-- From what a reader says back to what was decided: what a caller has at a value, and at a fault. Assumes nothing.
use mathlib.Core.Path.{◌≡◌, refl, sym, ap, ◌∙◌}
use mathlib.Core.Option.{Option, none, some}
use Prim.Native.Nat.{ℕ}
use native.Mathlib.Omega.{arith}
use Rattle.std.specs.Prelude.{Result, Ok, Err}
use Rattle.std.specs.Result.{IsErrAnd}
use Rattle.law.proofs.FieldsRead as law
use Rattle.types.specs.declared.Fault.{Fault}
use Rattle.types.specs.Faults.{number_of}
use Rattle.fields.specs.Said.{Said, says, refuses, said, or_bad_field}
use Rattle.fields.specs.Fields.{or_blank}

module _ {A : Type 0} where
  pub never : {B : Type 0} {a : A} {k : ℕ} → says a ≡ refuses k → B
  never e = absurd (let z : ◌≡◌ {A = ℕ} 0 1 = cc in omega arith)

  pub value-said : (o : Option A) (a : A) → or_bad_field o ≡ says a → o ≡ some a
  value-said (some b) a e = let u : b ≡ a = cc in ap some u
  value-said none a e = never (sym e)

  pub none_said : {k : ℕ} (o : Option A) → or_bad_field o ≡ refuses k → o ≡ none
  none_said (some a) e = never e
  none_said none e = refl

blanks_no_number : {A : Type 0} {n : ℕ} → ◌≡◌ {A = Said (Option ℕ)} (says none) (says (some n)) → A
blanks_no_number e = absurd (let z : ◌≡◌ {A = ℕ} 0 1 = cc in omega arith)

-- ---- a number field that may be blank: what each answer shows
pub is_value : (o : law.Number) (n : ℕ) → or_blank o ≡ says (some n) → o ≡ law.value n
is_value (law.value m) n e = let u : m ≡ n = cc in ap law.value u
is_value law.none-there n e = blanks_no_number e
is_value law.bad n e = never (sym e)

pub is_blank_lem : (o : law.Number) → or_blank o ≡ says none → o ≡ law.none-there
is_blank_lem (law.value n) e = blanks_no_number (sym e)
is_blank_lem law.none-there e = refl
is_blank_lem law.bad e = never (sym e)

pub is_bad : {k : ℕ} (o : law.Number) → or_blank o ≡ refuses k → o ≡ law.bad
is_bad (law.value n) e = never e
is_bad law.none-there e = never e
is_bad law.bad e = refl

-- ---- the exit of a `?`: the fault is handed on, where no value of the field is no value of what is decided from it
pub handed_on : {A B : Type 0} (r : Result B Fault) (e : Fault) → IsErrAnd r (λ d. d ≡ e) → (o : Option A) (p : Option B) → refuses (number_of e) ≡ or_bad_field o → (o ≡ none → p ≡ none)
    → said r ≡ or_bad_field p
handed_on (Ok b) e h o p q f = absurd h
handed_on (Err d) e h (some a) p q f = never (sym q)
handed_on (Err d) e h none p q f = let u : number_of d ≡ 7 = ap number_of h ∙ cc in rw (f refl) (ap (λ (k : ℕ). refuses k) u)
