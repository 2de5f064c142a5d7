-- What is said of a line's kind, and the fields of a record that two of them make.
use Rattle.std.specs.Prelude.{List, ℕ, ◌+◌, Result, Ok, Err}
use Rattle.std.proofs.Math.Option.{Option}
use Rattle.kit.specs.Decides.{pair}
use Rattle.law.specs.Columns.{cells}
use Rattle.law.specs.Items as law
use Rattle.law.specs.Refusals.{line_fault_number, not_listed}
use Rattle.law.proofs.FieldsRead.{number_of, the_number}
use Rattle.types.specs.declared.Fault.{Fault}
use Rattle.types.specs.declared.StartNumber.{StartNumber}
use Rattle.types.specs.Faults as fault
use Rattle.fields.specs.Said.{Said, says, refuses}
use Rattle.records.specs.declared.Kind.{Kind}
use Rattle.records.specs.declared.Kind.TheVariants as kind

-- the statement's kind for each of ours
abbrev pub as_kind : Kind → law.Kind
as_kind kind.PassedOver = law.passed_over
as_kind kind.KeptText = law.kept-text
as_kind kind.Rounds = law.142-record
as_kind kind.Colour = law.152-record
as_kind kind.Scoring = law.162-record
as_kind kind.Acceleration = law.250-record
as_kind kind.Player = law.001-record

-- what an answer says: the kind, or its fault's number
abbrev pub kind_says : Result Kind Fault → Said law.Kind
kind_says (Ok k) = says (as_kind k)
kind_says (Err e) = refuses (fault.number_of e)

-- what the statement's function decides of a line's kind: "record not listed" is 6
abbrev pub or_not_listed : law.Kind → Said law.Kind
or_not_listed law.passed_over = says law.passed_over
or_not_listed law.kept-text = says law.kept-text
or_not_listed law.142-record = says law.142-record
or_not_listed law.152-record = says law.152-record
or_not_listed law.162-record = says law.162-record
or_not_listed law.250-record = says law.250-record
or_not_listed law.001-record = says law.001-record
or_not_listed law.unlisted = refuses (line_fault_number not_listed)

-- two number fields of one width with a column between them
abbrev pub span_in : List ℕ → ℕ → ℕ → Option (ℕ × ℕ)
span_in row i w = pair (the_number (number_of (cells row i w))) (the_number (number_of (cells row (i + w + 1) w)))

-- what an answer says: first and last start number, or its fault's number
abbrev pub start_span_says : Result (StartNumber × StartNumber) Fault → Said (ℕ × ℕ)
start_span_says (Ok (first, last)) = says (first.0, last.0)
start_span_says (Err e) = refuses (fault.number_of e)
