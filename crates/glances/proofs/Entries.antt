-- What the tests of one entry say of 12, 13 and 14: over plain values, as the code has them. Assumes nothing.
use mathlib.Core.Path.{◌≡◌, refl, sym, ◌∙◌}
use mathlib.Core.Bool.{Bool, true, not, or-true}
use Prim.Native.Nat.{ℕ}
use borrow.Author.Tests.{eq-eqb, eqb-true}
use lib.Dec.{eqb}
use lib.ListN.{get_or}
use Rattle.std.specs.Prelude as program
use Rattle.std.specs.Prelude.{Some, None}
use Rattle.types.specs.declared.Place.{Place}
use Rattle.law.specs.Entries.{is_bye, fits}
use Rattle.law.specs.Tables.{cell_of}
use Rattle.join.specs.Store.{Nine, place_of}
use Rattle.join.specs.Check.{entry_cell, is_game_by, answers_by, keeps_cell}
use Rattle.index.specs.Index.{as_placed}
use Rattle.index.proofs.Told.{told-place, told_nobody}
use Rattle.results.proofs.Ordered.{fits_own}
use Rattle.checks.specs.Results.{entry}
use Rattle.glances.specs.Glance.{Opposite, KeepsEntry}

-- ---- two colours
pub opposite : (a b : ℕ) → Opposite a b → (colour theirs : ℕ) → colour ≡ a → eqb theirs b ≡ true → Opposite colour theirs
opposite a b h colour theirs e f = rw (e, eqb-true theirs b f) h

-- ---- the entry of place p and a round
module _ (n : ℕ) (t : Nine) (p round : ℕ) {id colour result : ℕ} (of_id : id ≡ get_or t.opponents (cell_of p round) 0) (of_colour : colour ≡ get_or t.colours (cell_of p round) 0)
    (of_result : result ≡ get_or t.results (cell_of p round) 0) {named : program.Option Place} (told : named ≡ as_placed (place_of t.starts n id)) where
  pub bye-keeps : named ≡ None → {v : Bool} → v ≡ is_bye (entry id colour result) → v ≡ true → KeepsEntry n t p round
  unfolding keeps_cell entry_cell
  bye-keeps nobody e h =
      let alone = rw of_id at (told_nobody (place_of t.starts n id) told nobody) in
      record { game = rw (rw (of_id, of_colour, of_result) at (sym e ∙ h)) refl; answers = rw alone refl; fitted = rw alone refl }

  -- a game is kept whether or not it were a bye
  pub game-keeps : {other : Place} → named ≡ Some other → {start back theirs their_result : ℕ}
      → back ≡ get_or t.opponents (cell_of other.0 round) 0 → theirs ≡ get_or t.colours (cell_of other.0 round) 0 → their_result ≡ get_or t.results (cell_of other.0 round) 0
      → get_or t.starts p 0 ≡ start → not (eqb id start) ≡ true → back ≡ start → Opposite colour theirs → fits result their_result ≡ true
      → KeepsEntry n t p round
  unfolding keeps_cell entry_cell answers_by is_game_by
  game-keeps {other} at {start} {back} {theirs} {their_result} of_back of_theirs of_their_result own another answer opposed fit =
      let someone = rw of_id at (told-place (place_of t.starts n id) told at) in
      record {
        game =
            rw (own, someone, rw of_id at another, rw of_colour at opposed.0, rw of_result at (fits_own result their_result fit))
            (or-true (is_bye (entry (get_or t.opponents (cell_of p round) 0) (get_or t.colours (cell_of p round) 0) (get_or t.results (cell_of p round) 0))));
        answers = rw (someone, eq-eqb (get_or t.opponents (cell_of other.0 round) 0) (get_or t.starts p 0) (sym of_back ∙ answer ∙ sym own), rw (of_theirs, of_colour) at opposed.1) refl;
        fitted = rw someone (rw (of_result, of_their_result) at fit);
      }
