-- From what is said of a line's kind back to its kind. Assumes nothing.
use mathlib.Core.Path.{◌≡◌, refl}
use Rattle.law.specs.Items.{Kind, passed_over, kept-text, 142-record, 152-record, 162-record, 250-record, 001-record, unlisted}
use Rattle.fields.specs.Said.{Said, says, refuses}
use Rattle.records.specs.Records.{or_not_listed}

abbrev pub kind_said : Said Kind → Kind
kind_said (says k) = k
kind_said (refuses n) = unlisted

pub said_is : (k : Kind) → kind_said (or_not_listed k) ≡ k
said_is passed_over = refl
said_is kept-text = refl
said_is 142-record = refl
said_is 152-record = refl
said_is 162-record = refl
said_is 250-record = refl
said_is 001-record = refl
said_is unlisted = refl
