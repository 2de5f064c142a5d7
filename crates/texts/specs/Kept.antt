-- Kept text, as the tables hold it: lawful text lines, each ended by one CR.
use Rattle.std.specs.Prelude.{◌≡◌, Bool, true, not, List, [], ℕ}
use Rattle.kit.specs.Lists.{any, each_after, flat}
use Rattle.kit.specs.First.{AllOf}
use Rattle.law.specs.Text.{is_name, ended, is_repeated}
use Rattle.law.specs.Lawful.{KeptLine}

pub record KeptText (bytes : List ℕ) : Type 0 where
  pub lines : List (List ℕ)
  pub are : bytes ≡ flat ended lines
  pub good : AllOf KeptLine lines
  pub once : each_after (λ before line. not (is_repeated before line)) [] lines ≡ true
  pub named : any is_name lines ≡ true

-- a test that tells whether it is so
pub record Told (P : Type 0) (b : Bool) : Type 0 where
  pub sound : b ≡ true → P
  pub complete : P → b ≡ true
