-- A line that is no player's leaves the number of players. Assumes nothing.
use mathlib.Core.Path.{◌≡◌, refl, sym, subst}
use mathlib.Core.Bool.{Bool, true, false, not, ◌&&◌}
use mathlib.Core.Option.{Option, none, some}
use mathlib.Core.List.{List}
use Prim.Native.Nat.{ℕ, ◌+◌}
use lib.Dec.{eqb, ltb}
use lib.ListN.{length, get_or}
use Rattle.std.specs.Prelude.{Result, Ok, Err}
use Rattle.types.specs.declared.Acceleration.{Acceleration}
use Rattle.types.specs.declared.Fault.{Fault}
use Rattle.kit.proofs.Bools.{clash}
use Rattle.law.specs.Sizes.{most_accelerations, most_text}
use Rattle.law.specs.Columns.{part, code_field}
use Rattle.law.specs.Text.{text_codes, ended}
use Rattle.law.specs.Items.{Kind, passed_over, kept-text, 142-record, 152-record, 162-record, 250-record, 001-record, unlisted}
use Rattle.law.proofs.RecordsRead.{text_of, rounds_of_row, colour_of, given_of, acceleration_of}
use Rattle.join.specs.Run.{Way, on, stop}
use Rattle.join.specs.Store.{Nine, Count, State, state, refuse_or, code_place, count_text, count_rounds, count_colour, count_scoring, count_acceleration, step_text, step_rounds, step_colour, step_scoring, step_acceleration, step_row}
use Rattle.index.specs.Index.{Indexed}
use Rattle.steps.specs.declared.counts.Counts.{Counts}
use Rattle.steps.specs.Counts.{went}

abbrev WayHas : ℕ → Way State ℕ → Type 0
WayHas n (on s) = s.count.players ≡ n
WayHas n (stop k s) = s.count.players ≡ n

or_same : (v : Bool) (k : ℕ) (s : State) (w : Way State ℕ) → WayHas s.count.players w → WayHas s.count.players (refuse_or v k s w)
or_same true k s w h = refl
or_same false k s w h = h

abbrev is_player : Kind → Bool
is_player passed_over = false
is_player kept-text = false
is_player 142-record = false
is_player 152-record = false
is_player 162-record = false
is_player 250-record = false
is_player 001-record = true
is_player unlisted = false

module _ (s : State) where
  has_text : (o : Option (List ℕ)) (k : ℕ) → WayHas s.count.players (step_text o k s)
  unfolding step_text count_text
  has_text none k = refl
  has_text (some a) k = or_same (not (eqb k 9) && get_or s.count.seen k false) 8 s _ (or_same (ltb most_text (s.count.text + length (ended a))) 9 s _ refl)

  has_rounds : (o : Option ℕ) → WayHas s.count.players (step_rounds o s)
  unfolding step_rounds count_rounds
  has_rounds none = refl
  has_rounds (some n) = or_same s.count.stated 8 s _ refl

  has_colour : (o : Option ℕ) → WayHas s.count.players (step_colour o s)
  unfolding step_colour count_colour
  has_colour none = refl
  has_colour (some c) = or_same (not (eqb s.count.colour 0)) 8 s _ refl

  has_scoring : (o : Option (List (ℕ × ℕ))) → WayHas s.count.players (step_scoring o s)
  unfolding step_scoring count_scoring
  has_scoring none = refl
  has_scoring (some g) = or_same s.count.scored 8 s _ refl

  has_acceleration : (o : Option Acceleration) → WayHas s.count.players (step_acceleration o s)
  unfolding step_acceleration count_acceleration
  has_acceleration none = refl
  has_acceleration (some a) = or_same (ltb most_accelerations (s.count.accelerations + 1)) 9 s _ refl

  has_row : (k : Kind) (row : List ℕ) → is_player k ≡ false → WayHas s.count.players (step_row k row s)
  unfolding step_row
  has_row passed_over row e = refl
  has_row kept-text row e = has_text (text_of row) (code_place (part code_field row) 0 text_codes)
  has_row 142-record row e = has_rounds (rounds_of_row row)
  has_row 152-record row e = has_colour (colour_of row)
  has_row 162-record row e = has_scoring (given_of row)
  has_row 250-record row e = has_acceleration (acceleration_of row)
  has_row 001-record row e = clash (sym e)
  has_row unlisted row e = refl

pub still_indexed : {A : Type 0} (starts index : List ℕ) (ln : ℕ) (c : Count) (t : Nine) (row : List ℕ) (k : Kind) → is_player k ≡ false → (r : Result A Fault) (d : Counts) (x : Nine)
    → went ln r d x ≡ step_row k row (state ln c t) → Indexed starts c.players index → Indexed starts d.players index
still_indexed {A = A} starts index ln c t row k other r d x e h = subst (λ (n : ℕ). Indexed starts n index) (sym (go r (subst (WayHas c.players) (sym e) (has_row (state ln c t) k row other)))) h
  where
    go : (r : Result A Fault) → WayHas c.players (went ln r d x) → d.players ≡ c.players
    go (Ok a) q = q
    go (Err f) q = q
