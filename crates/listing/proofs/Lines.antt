-- The loops over rounds and players: one more field, one more line. The two kinds of listing.
-- Assumes nothing.
use mathlib.Core.Path.{◌≡◌, sym, ap, subst}
use mathlib.Core.Bool.{Bool, cond}
use mathlib.Core.List.{List, [], ◌∷◌}
use Prim.Native.Nat.{ℕ, ◌+◌, ◌≤◌}
use native.Mathlib.Numerals.{add-one}
use lib.ListN.{length, get_or}
use borrow.Author.Tests.{eq-eqb, ne_eqb}
use Rattle.types.specs.declared.Answer.{Answer}
use Rattle.law.specs.Tables.{cell_of}
use Rattle.listing.specs.Put.{Put}
use Rattle.listing.specs.Listing.{Six, entry_field, entry_fields, standing, player_line, player_lines, accepted_listing, refused_listing, listing}
use Rattle.listing.proofs.Puts.{put_none, put_then}

-- ---- a player's fields
module _ (opponents colours results : List ℕ) (place : ℕ) {at : ℕ} {t : List ℕ} where
  pub fields_none : at ≤ length t → Put (entry_fields opponents colours results place 0) at t at t
  unfolding entry_fields
  fields_none h = put_none at t h

  pub fields_next : (n : ℕ) {e : ℕ} {u : List ℕ} {e' : ℕ} {u' : List ℕ} → Put (entry_fields opponents colours results place n) at t e u
      → Put (entry_field (get_or opponents (cell_of place (n + 1)) 0) (get_or colours (cell_of place (n + 1)) 0) (get_or results (cell_of place (n + 1)) 0)) e u e' u'
      → Put (entry_fields opponents colours results place (n + 1)) at t e' u'
  unfolding entry_fields
  fields_next n p o = rw add-one (put_then p (rw add-one at o))

-- ---- a player's line, of the numbers that stand in the player's cells
pub player-line : (x : Six) (rounds place : ℕ) {start points rank at : ℕ} {t : List ℕ} {e : ℕ} {u : List ℕ} {e' : ℕ} {u' : List ℕ} {e'' : ℕ} {u'' : List ℕ}
    → start ≡ get_or x.starts place 0 → points ≡ get_or x.points place 0 → rank ≡ get_or x.ranks place 0 → Put (standing start points rank) at t e u
    → Put (entry_fields x.opponents x.colours x.results place rounds) e u e' u' → Put (10 ∷ []) e' u' e'' u'' → Put (player_line x rounds place) at t e'' u''
unfolding player_line
player-line x rounds place of-start of-points of-rank p f l = put_then (put_then (rw (of-start, of-points, of-rank) at p) f) l

-- ---- the players' lines
module _ (x : Six) (rounds : ℕ) {at : ℕ} {t : List ℕ} where
  pub lines_none : at ≤ length t → Put (player_lines x rounds 0) at t at t
  unfolding player_lines
  lines_none h = put_none at t h

  pub lines_next : (n : ℕ) {e : ℕ} {u : List ℕ} {e' : ℕ} {u' : List ℕ} → Put (player_lines x rounds n) at t e u → Put (player_line x rounds n) e u e' u'
      → Put (player_lines x rounds (n + 1)) at t e' u'
  unfolding player_lines
  lines_next n p o = rw add-one (put_then p o)

-- ---- which of the two
pub listing-refused : (a : Answer) (x : Six) {t : List ℕ} {e : ℕ} {u : List ℕ} → ((a.number ≡ 0) → ⊥) → Put (refused_listing a) 0 t e u → Put (listing a x) 0 t e u
unfolding listing
listing-refused a x {t} {e} {u} f p =
    subst (λ (l : List ℕ). Put l 0 t e u) (sym (ap (λ (b : Bool). cond b (accepted_listing a x) (refused_listing a)) (ne_eqb a.number 0 f))) p

pub listing-accepted : (a : Answer) (x : Six) {t : List ℕ} {e : ℕ} {u : List ℕ} → a.number ≡ 0 → Put (accepted_listing a x) 0 t e u → Put (listing a x) 0 t e u
unfolding listing
listing-accepted a x {t} {e} {u} q p =
    subst (λ (l : List ℕ). Put l 0 t e u) (sym (ap (λ (b : Bool). cond b (accepted_listing a x) (refused_listing a)) (eq-eqb a.number 0 q))) p
