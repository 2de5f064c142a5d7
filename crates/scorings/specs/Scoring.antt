-- What the readers of a 162 line answer, from the letters and values that its filled slots give.
use Rattle.std.specs.Prelude.{Bool, cond, List, [], ◌∷◌, map, ℕ, eqb, Option, Some, None}
use Rattle.std.proofs.Math.Option as decided
use Rattle.kit.specs.Lists.{among, place_among}
use Rattle.kit.specs.Decides.{to, keep}
use Rattle.law.specs.Columns.{part}
use Rattle.law.specs.Scoring as law
use Rattle.law.proofs.RecordsRead.{filled_first}
use Rattle.fields.specs.Said.{Said, or_bad_field}
use Rattle.scorings.specs.declared.Given.{Given}
use Rattle.scorings.specs.declared.Scoring.{Scoring}

-- the place of a letter among W D L A P X; 6 for any other byte
unfoldable pub letter_place : ℕ → ℕ
letter_place c = place_among c law.letters

-- a slot that was read, with the place of its letter
abbrev pub placed : ℕ × ℕ → ℕ × ℕ
placed v = (letter_place v.0, v.1)

-- ---- slots, of which the first are filled and the letters differ
abbrev pub differing : List (List ℕ) → decided.Option (List (ℕ × ℕ))
differing slots = keep law.letters_differ (filled_first slots)

abbrev pub slots_in : List ℕ → List (List ℕ)
slots_in row = map (λ f. part f row) law.slot_fields

unfoldable pub seen_in : List (ℕ × ℕ) → List Bool
seen_in given = map (λ c. among c (law.letters_of given)) law.letters

unfoldable pub values_of : List (ℕ × ℕ) → List ℕ
values_of given = law.values (law.scoring_of given)

abbrev pub scored : List (ℕ × ℕ) → Scoring
scored given = record { values = values_of given }

-- the place of P for that of W, of X for that of D, and any other itself
abbrev pub follower_of : ℕ → ℕ
follower_of place = cond (eqb place 0) 4 (cond (eqb place 1) 5 place)

abbrev pub given_by : List (ℕ × ℕ) → Given
given_by given = record { seen = seen_in given; scoring = scored given }

-- nothing where no slot is filled
abbrev pub if_filled : List (ℕ × ℕ) → Option Given
if_filled [] = None
if_filled (v ∷ given) = Some (given_by (v ∷ given))

-- what is to be said of some slots
abbrev pub slots_give : List (List ℕ) → Said (Option Given)
slots_give slots = or_bad_field (to if_filled (differing slots))
