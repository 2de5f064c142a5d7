-- What the statement answers for a file, by its number, and what each case of `Printed` says of the file.
use Rattle.std.specs.Prelude.{◌≡◌, true, List, ℕ}
use Rattle.law.specs.Tournament.{Tournament}
use Rattle.law.specs.Refusals.{Refusal, Outcome, refused, accepted, Judged}
use Rattle.listed.specs.declared.Printed.{Printed}
use Rattle.listed.specs.declared.Printed.TheVariants.{Accepted, Refused}

abbrev pub number_of : Outcome → ℕ
number_of (refused q) = q.number
number_of (accepted t of_players of_accelerations) = 0

-- no table is too short, so the file alone decides
pub record Numbered (file : List ℕ) (number : ℕ) : Type 0 where
  pub outcome : Outcome
  pub judged : Judged true file outcome
  pub says : number ≡ number_of outcome

pub record IsAccepted (file : List ℕ) : Type 0 where
  pub t : Tournament
  pub of_players : List ℕ
  pub of_accelerations : List ℕ
  pub judged : Judged true file (accepted t of_players of_accelerations)

pub record IsRefused (file : List ℕ) : Type 0 where
  pub refusal : Refusal
  pub judged : Judged true file (refused refusal)

abbrev pub Says : Printed → List ℕ → Type 0
Says Accepted file = IsAccepted file
Says Refused file = IsRefused file
