-- The twelve rows that document 01 marks for proof, as one statement over a list. Assumes nothing.
use mathlib.Core.Path.{◌≡◌, refl}
use mathlib.Core.Bool.{true}
use mathlib.Core.List.{List, [], ◌∷◌, ◌++◌}
use Prim.Native.Nat.{ℕ}
use Prim.Native.String.{String}
use Rattle.kit.specs.Ascii.{ascii}
use Rattle.kit.specs.Lists.{flat, top}
use Rattle.kit.specs.First.{AllOf}
use Rattle.law.specs.Columns.{cells}
use Rattle.law.specs.Scoring.{scoring_of}
use Rattle.law.specs.Accelerations.{shares}
use Rattle.law.specs.Items.{kind_of}
use Rattle.law.specs.Tournament.{normal, used_rounds, rounds_of, tournament_of}
use Rattle.law.specs.Entries.{is_bye, is_game, fits, keeps, worth, earned}
use Rattle.law.specs.Spelling.{is_past}
use Rattle.law.specs.Refusals.{is_again, is_too_many, lines_of, is_file_fault, labels}
use Rattle.law.proofs.RecordsRead.{item_of}
use Rattle.law.proofs.Judges.{outcome_of}
use Rattle.law.proofs.Samples.{Row, refuses, accepts, scores, RowHolds, test, all_hold}

-- ---- sample T
unfoldable pub line : String → List ℕ
line text = ascii text ++ (13 ∷ [])

unfoldable pub cup : List ℕ
cup = line "012 Cup"

-- the two players' lines, with points and the first round's entry
unfoldable pub roe : String → String → List ℕ
roe points entry = ascii "001    1      Roe                                                               " ++ (ascii points ++ (ascii "    1  " ++ line entry))

unfoldable pub poe : String → String → List ℕ
poe points entry = ascii "001    2      Poe                                                               " ++ (ascii points ++ (ascii "    2  " ++ line entry))

unfoldable pub sample_t : List ℕ
sample_t = cup ++ (roe " 1.0" "   2 w 1" ++ poe " 0.0" "   1 b 0")

-- its last line without its CR
unfoldable pub broken_t : List ℕ
broken_t = cup ++ (roe " 1.0" "   2 w 1" ++ ascii "001    2      Poe                                                                0.0    2     1 b 0")

-- ---- the rows
unfoldable pub rows : List Row
rows =
    accepts sample_t 2 1 0 ∷
    refuses (cup ++ (roe " 1.0" "   2 w 1" ++ poe " 0.0" "   1 b =")) 14 2 1 ∷
    refuses (cup ++ (roe " 1.0" "   2 w 1" ++ poe " 0.0" "   1 w 0")) 13 2 1 ∷
    refuses (cup ++ (roe " 1.0" "   1 w 1" ++ poe " 0.0" "   1 b 0")) 12 2 1 ∷
    refuses (cup ++ (roe " 0.5" "   2 w 1" ++ poe " 0.0" "   1 b 0")) 16 2 0 ∷
    refuses (cup ++ (roe " 1.0" "0000 - U" ++ poe " 1.0" "0000 - U")) 15 3 1 ∷
    refuses [] 10 0 0 ∷
    refuses broken_t 4 3 0 ∷
    refuses (sample_t ++ line "142 0") 11 2 1 ∷
    accepts (cup ++ (roe " 1.0" "   2 w +" ++ poe " 0.0" "   1 b -")) 2 1 0 ∷
    accepts (cup ++ (roe " 0.0" "   2 w -" ++ poe " 0.0" "   1 b -")) 2 1 0 ∷
    scores (ascii "162  W 3.0    D 1.0") (ascii "11111==00") 170 ∷ []

-- one computation a row
computed : AllOf (λ r. test r ≡ true) rows
unfolding rows line cup roe poe sample_t broken_t test cells flat top scoring_of shares kind_of normal used_rounds rounds_of tournament_of is_bye is_game fits keeps worth earned is_past is_again is_too_many lines_of is_file_fault labels item_of outcome_of
computed = (refl, (refl, (refl, (refl, (refl, (refl, (refl, (refl, (refl, (refl, (refl, (refl, tt))))))))))))

pub marked : AllOf RowHolds rows
marked = all_hold rows computed
