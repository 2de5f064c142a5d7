-- Which byte strings spell which tournament: lines, each of which spells an item, and what the items say together. 142 may stand anywhere, or be missing.
use Rattle.std.specs.Prelude.{◌≡◌, Bool, true, false, ◌&&◌, List, [], ℕ, ◌<◌, ◌≤◌, leb, ltb, length, get_or}
use Rattle.kit.specs.Lists.{all, at_most_one, flat, Each}
use Rattle.law.specs.Sizes.{most_line, most_rounds}
use Rattle.law.specs.Lines.{allowed, Line, Lines, is_ended}
use Rattle.law.specs.Columns.{row_of}
use Rattle.law.specs.Players.{PlayerLine}
use Rattle.law.specs.Items.{Item, SpellsItem}
use Rattle.law.specs.Tournament.{Tournament, rounds_in, colour_in, scoring_in, player_in, slot_at, rounds_of, tournament_of}

-- a line with allowed bytes, a terminator and at most 512 columns
abbrev pub is_sound : Line → Bool
is_sound l = all allowed l.text && is_ended l.end && leb (length (row_of l.text)) most_line

abbrev pub SpellsLine : Line → Item → Type 0
SpellsLine l i = SpellsItem (row_of l.text) i

abbrev pub no_line : PlayerLine
no_line = record { start = 0; kept = []; points = 0; rank = 0; slots = [] }

-- a round's entry that is not blank, in a round past R
unfoldable pub is_past : List Item → ℕ → ℕ → Bool
is_past items place r = ltb (rounds_of items) r && (slot_at r (get_or (flat player_in items) place no_line)).used

pub record SpellsFile (file : List ℕ) (t : Tournament) : Type 0 where
  pub lines : List Line
  pub are : Lines file lines
  pub sound : all is_sound lines ≡ true
  pub items : List Item
  pub spelled : Each SpellsLine lines items
  -- "142, 152 and 162 stand at most once each"
  pub once : at_most_one (flat rounds_in items) && at_most_one (flat colour_in items) && at_most_one (flat scoring_in items) ≡ true
  -- no entry stands in a round past 142
  pub none_past_lem : (place r : ℕ) → place < length (flat player_in items) → 1 ≤ r → r ≤ most_rounds → is_past items place r ≡ false
  pub tournament : t ≡ tournament_of items
