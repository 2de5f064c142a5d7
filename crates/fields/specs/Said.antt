-- What a reader says of some columns or of a line: a value, or one of document 01's refusals by its number. A contract equates what a reader's answer says
-- with what the statement's function decides.
use Rattle.std.specs.Prelude.{◌≡◌, ℕ, Result, Ok, Err}
use Rattle.std.proofs.Math.Option.{Option, none, some}
use Rattle.law.specs.Refusals.{line_fault_number, bad_field}
use Rattle.types.specs.declared.Fault.{Fault}
use Rattle.types.specs.Faults.{number_of}

pub data Said (A : Type 0) : Type 0 where
  says : A → Said A
  refuses : ℕ → Said A

-- what an answer says: its value, or its fault's number
abbrev pub said : {A : Type 0} → Result A Fault → Said A
said (Ok a) = says a
said (Err e) = refuses (number_of e)

-- what was decided: where nothing is spelled, "a field or column against its rule"
abbrev pub or_bad_field : {A : Type 0} → Option A → Said A
or_bad_field (some a) = says a
or_bad_field none = refuses (line_fault_number bad_field)

-- in the statement's terms: the value is spelled, or nothing is, and then it is 7
abbrev pub Means : {X A : Type 0} → (X → A → Type 0) → X → Said A → Type 0
Means S x (says a) = S x a
Means {A = A} S x (refuses k) = (k ≡ 7) × ((a : A) → S x a → ⊥)
