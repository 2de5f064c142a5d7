-- The limits of document 01 by their numerals, where a row would be too long to compute. Assumes nothing.
use mathlib.Core.Path.{◌≡◌, refl, sym, ap, subst}
use mathlib.Core.Bool.{Bool, true, false}
use mathlib.Core.List.{List, [], ◌∷◌, map}
use Prim.Native.Nat.{ℕ, ◌+◌, ◌≤◌}
use native.Mathlib.Omega.{arith}
use lib.ListN.{length}
use borrow.Author.Tests.{lt-ltb, le-ltb}
use Rattle.kit.specs.Lists.{flat}
use Rattle.kit.proofs.Bools.{clash}
use Rattle.types.specs.declared.Acceleration.{Acceleration}
use Rattle.law.specs.Text.{text_codes, ended}
use Rattle.law.specs.Heads.{initial_colours}
use Rattle.law.specs.Scoring.{letters}
use Rattle.law.specs.Players.{sexes, titles, game_colours, game_results, bye_results, held_game_results, PlayerLine}
use Rattle.law.specs.Items.{Item, text, acceleration, player}
use Rattle.law.specs.Tournament.{text_in, acceleration_in, player_in}
use Rattle.law.specs.Entries.{fitting_pairs}
use Rattle.types.specs.declared.Answer.{Answer}
use Rattle.law.specs.Tables.{Tables, Lent, rooms, line_cells, enough_lent}
use Rattle.law.specs.Refusals.{is_too_many, too_short, too_big, labels, IsFault, refusal, Outcome, refused, Judged}
use Rattle.law.specs.Calls.{refused_answer, Cleared, Leaves, Reads}
use Rattle.law.proofs.Cut.{cut, lines_are}
use Rattle.law.proofs.Judges.{one_outcome}

-- "200 each", "14,000 bytes", "4,000 each", "2,048", "32"; "200 players, then 32 acceleration records"
pub sizes : (t : Tables) → map (λ (x : ℕ × ℕ). x.0) (rooms t) ≡ 200 ∷ 200 ∷ 200 ∷ 14000 ∷ 4000 ∷ 4000 ∷ 4000 ∷ 2048 ∷ 32 ∷ []
sizes t = refl

pub line-cells : line_cells ≡ 232
line-cells = refl

-- as many as each sentence lists, so that none is too many: the rows accept every one of them. Kept text, initial colours, letters, sexes, titles, game
-- colours, game results, bye results, a game's results as they are held, pairs that fit
pub as_many : length text_codes ∷ length initial_colours ∷ length letters ∷ length sexes ∷ length titles ∷ length game_colours ∷ length game_results ∷ length bye_results ∷ length held_game_results ∷ length fitting_pairs ∷ []
    ≡ 16 ∷ 2 ∷ 6 ∷ 3 ∷ 9 ∷ 2 ∷ 8 ∷ 4 ∷ 9 ∷ 9 ∷ []
as_many = refl

-- 2 for every file over 65,535 bytes, whatever is in it
pub too_big_refused : (file : List ℕ) → 65536 ≤ length file → Judged true file (refused (refusal 2 0 0))
unfolding labels
too_big_refused file l =
    record {
      lines = cut false file;
      are = lines_are file;
      label = too_big;
      first = record { before = too_short ∷ []; after = _; stands = refl; none_before = (λ e. clash (sym e), tt); holds = l };
      says = refl;
    }

-- and for no other
pub small-not_too_big : (file : List ℕ) → length file ≤ 65535 → (lines : List _) → IsFault true file lines too_big → ⊥
small-not_too_big file l lines h = omega arith

-- 9: the 201st player and not the 200th, the 33rd record and not the 32nd, text of 2,049 bytes and not of 2,048
module _ (before : List Item) where
  pub players_full : (p : PlayerLine) → length (flat player_in before) ≡ 200 → is_too_many before (player p) ≡ true
  unfolding is_too_many
  players_full p e = lt-ltb 200 (length (flat player_in before) + 1) (omega arith)

  pub players-room : (p : PlayerLine) → length (flat player_in before) ≡ 199 → is_too_many before (player p) ≡ false
  unfolding is_too_many
  players-room p e = le-ltb 200 (length (flat player_in before) + 1) (omega arith)

  pub accelerations_full : (a : Acceleration) → length (flat acceleration_in before) ≡ 32 → is_too_many before (acceleration a) ≡ true
  unfolding is_too_many
  accelerations_full a e = lt-ltb 32 (length (flat acceleration_in before) + 1) (omega arith)

  pub accelerations-room : (a : Acceleration) → length (flat acceleration_in before) ≡ 31 → is_too_many before (acceleration a) ≡ false
  unfolding is_too_many
  accelerations-room a e = le-ltb 32 (length (flat acceleration_in before) + 1) (omega arith)

  pub text_full : (line : List ℕ) → length (flat ended (flat text_in before)) + length (ended line) ≡ 2049 → is_too_many before (text line) ≡ true
  unfolding is_too_many
  text_full line e = lt-ltb 2048 (length (flat ended (flat text_in before)) + length (ended line)) (omega arith)

  pub text-room : (line : List ℕ) → length (flat ended (flat text_in before)) + length (ended line) ≡ 2048 → is_too_many before (text line) ≡ false
  unfolding is_too_many
  text-room line e = le-ltb 2048 (length (flat ended (flat text_in before)) + length (ended line)) (omega arith)

too_short-refused : (file : List ℕ) → Judged false file (refused (refusal 1 0 0))
unfolding labels
too_short-refused file =
    record {
      lines = cut false file;
      are = lines_are file;
      label = too_short;
      first = record { before = []; after = _; stands = refl; none_before = tt; holds = refl };
      says = refl;
    }

-- 1: with a lent table that is too short every file gets it, and no table is touched
pub short-untouched : (file : List ℕ) (before : Lent) → enough_lent before ≡ false → (a : Answer) (after : Lent) → Reads file before a after
    → (a.number ≡ 1) × (a.line.0 ≡ 0) × (a.round ≡ 0) × (after ≡ before)
unfolding refused_answer
short-untouched file before short a after r =
    let j = subst (λ (b : Bool). Judged b file r.outcome) short r.judged in
    let e = one_outcome false file r.outcome (refused (refusal 1 0 0)) j (too_short-refused file) in
    let l = subst (λ (o : Outcome). Leaves o before a after) e r.leaves in
    let s = l.0 in
    (ap (λ (a : Answer). a.number) s, ap (λ (a : Answer). a.line.0) s, ap (λ (a : Answer). a.round) s, subst (λ (b : Bool). Cleared b before after) short l.1)
