-- What a line spells: one item, by its record's code.
use Rattle.std.specs.Prelude.{◌≡◌, Bool, cond, ◌||◌, List, ℕ}
use Rattle.kit.specs.Ascii.{ascii}
use Rattle.kit.specs.Lists.{all, same, is_one_of}
use Rattle.types.specs.declared.Acceleration.{Acceleration}
use Rattle.law.specs.Columns.{is_blank, part, code_field}
use Rattle.law.specs.Text.{text_codes, SpellsText}
use Rattle.law.specs.Heads.{rounds_code, SpellsRounds, colour_code, SpellsColour}
use Rattle.law.specs.Scoring.{scoring_code, SpellsScoring}
use Rattle.law.specs.Accelerations.{acceleration_code, SpellsAcceleration}
use Rattle.law.specs.Players.{player_code, PlayerLine, SpellsPlayer}

pub data Item : Type 0 where
  passed : Item
  text : List ℕ → Item
  rounds : ℕ → Item
  colour : ℕ → Item
  scoring : List (ℕ × ℕ) → Item
  acceleration : Acceleration → Item
  player : PlayerLine → Item

-- "A line that begins with `###` is a comment; comments and lines with nothing but blanks are passed over"
abbrev pub is_passed : List ℕ → Bool
is_passed row = all is_blank row || same (part code_field row) (ascii "###")

pub data Kind : Type 0 where
  passed_over kept-text 142-record 152-record 162-record 250-record 001-record unlisted : Kind

-- "everything else not named below": unlisted
unfoldable pub kind_of : List ℕ → Kind
kind_of row =
    cond (is_passed row) passed_over
    (cond (is_one_of (part code_field row) text_codes) kept-text
    (cond (same (part code_field row) rounds_code) 142-record
    (cond (same (part code_field row) colour_code) 152-record
    (cond (same (part code_field row) scoring_code) 162-record
    (cond (same (part code_field row) acceleration_code) 250-record
    (cond (same (part code_field row) player_code) 001-record unlisted))))))

abbrev pub SpellsItem : List ℕ → Item → Type 0
SpellsItem row passed = kind_of row ≡ passed_over
SpellsItem row (text kept) = (kind_of row ≡ kept-text) × SpellsText row kept
SpellsItem row (rounds n) = (kind_of row ≡ 142-record) × SpellsRounds row n
SpellsItem row (colour c) = (kind_of row ≡ 152-record) × SpellsColour row c
SpellsItem row (scoring given) = (kind_of row ≡ 162-record) × SpellsScoring row given
SpellsItem row (acceleration a) = (kind_of row ≡ 250-record) × SpellsAcceleration row a
SpellsItem row (player p) = (kind_of row ≡ 001-record) × SpellsPlayer row p
