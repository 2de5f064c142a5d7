-- What a line that stands after others says: whether it may stand there, and which codes have stood then.
use Rattle.std.specs.Prelude.{◌≡◌, Bool, true, false, List, [], ◌∷◌, ◌++◌, ℕ}
use Rattle.law.specs.Text.{is_repeated}
use Rattle.law.specs.Lawful.{KeptLine}
use Rattle.join.proofs.Codes.{seen_of}
use Rattle.texts.specs.Kept.{Told}

pub record StandsAfter (before : List (List ℕ)) (line : List ℕ) (good : Bool) (seen : List Bool) : Type 0 where
  pub told : Told (KeptLine line × (is_repeated before line ≡ false)) good
  pub seen_is : good ≡ true → seen ≡ seen_of (before ++ (line ∷ []))
