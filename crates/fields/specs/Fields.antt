-- What a number field says that may be blank: a number, or that there is none.
use Rattle.std.specs.Prelude.{◌≡◌, true, List, ℕ, Option as Opt, Some, None, Result, Ok, Err}
use Rattle.std.proofs.Math.Option.{Option, none, some}
use Rattle.kit.specs.Lists.{all}
use Rattle.law.specs.Columns.{is_blank}
use Rattle.law.specs.Fields.{SpellsNumber}
use Rattle.law.specs.Refusals.{line_fault_number, bad_field}
use Rattle.law.proofs.FieldsRead as law
use Rattle.types.specs.declared.Fault.{Fault}
use Rattle.types.specs.Faults.{number_of}
use Rattle.fields.specs.Said.{Said, says, refuses}

-- a number, or blanks
abbrev pub number_says : Result (Opt ℕ) Fault → Said (Option ℕ)
number_says (Ok (Some n)) = says (some n)
number_says (Ok None) = says none
number_says (Err e) = refuses (number_of e)

-- what the statement's function decides of a number field
abbrev pub or_blank : law.Number → Said (Option ℕ)
or_blank (law.value n) = says (some n)
or_blank law.none-there = says none
or_blank law.bad = refuses (line_fault_number bad_field)

-- ---- a number field in the statement's terms
abbrev pub SpellsNumberOrBlanks : List ℕ → Option ℕ → Type 0
SpellsNumberOrBlanks field (some n) = SpellsNumber field n
SpellsNumberOrBlanks field none = all is_blank field ≡ true
