-- The unused cells of an entry table, place by place: each place and round has its cell, and each cell its place and round. Assumes nothing.
use mathlib.Core.Path.{◌≡◌, refl, sym, ap, ◌∙◌, subst}
use mathlib.Core.Bool.{Bool}
use mathlib.Core.List.{List}
use Prim.Native.Nat.{ℕ, ◌+◌, ◌-◌, ◌≤◌, ◌<◌}
use native.Mathlib.Decide.{dec_lt}
use native.Mathlib.Omega.{arith}
use borrow.Author.Tests.{lt-ltb, le-ltb}
use lib.ListN.{get_or}
use Rattle.law.specs.Sizes.{most_players, most_rounds}
use Rattle.law.specs.Tables.{cell_of, place_in, round_in}
use Rattle.join.proofs.Keeps.{by_player}
use Rattle.texts.specs.Kept.{Told}
use Rattle.readings.specs.Good.{UnusedCells}
use Rattle.held.specs.Rows.{unused_from, UnusedRow}
use Rattle.texts.proofs.Told.{told_as}

-- as far as a round is used
pub used-from : (n R place : ℕ) → place < n → R ≡ unused_from n R place
used-from n R place l = rw (lt-ltb place n l) refl

pub unused_all : (n R place : ℕ) → n ≤ place → 0 ≡ unused_from n R place
unused_all n R place l = rw (le-ltb place n l) refl

module _ {A : Type 0} (d : A) (n R : ℕ) (cells : List A) where
  abbrev pub Row : ℕ → Type 0
  Row place = UnusedRow d cells place (unused_from n R place)

  by_cell : ((place : ℕ) → place < most_players → Row place) → UnusedCells d n R cells
  by_cell h i l unused =
      let r = by_player.round_in i l in
      let j : ℕ = round_in i - 1 in
      let e : j + 1 ≡ round_in i = omega (arith, r.0) in
      ap (λ (c : ℕ). get_or cells c d) (sym (ap (cell_of (place_in i)) e ∙ by_player.back i l))
      ∙ h (place_in i) (by_player.place_in_lem i l) j (go (dec_lt (place_in i) n)) (omega (arith, r.0, r.1))
    where
      go : Dec (place_in i < n) → unused_from n R (place_in i) ≤ round_in i - 1
      go (yes a) = subst (λ (x : ℕ). x ≤ round_in i - 1) (used-from n R (place_in i) a) (past (dec_lt R (round_in i)))
        where
          past : Dec (R < round_in i) → R ≤ round_in i - 1
          past (yes b) = omega arith
          past (no b) = let z : R < round_in i → ⊥ = b in absurd (unused (a, omega arith))
      go (no a) = let z : place_in i < n → ⊥ = a in subst (λ (x : ℕ). x ≤ round_in i - 1) (unused_all n R (place_in i) (omega arith)) (omega arith)

  by_row : UnusedCells d n R cells → (place : ℕ) → place < most_players → Row place
  by_row h place p j from high =
      let low : 1 ≤ j + 1 = omega arith in
      let top : j + 1 ≤ most_rounds = omega arith in
      let a : place_in (cell_of place (j + 1)) ≡ place = by_player.place_of place (j + 1) p low top in
      let b : round_in (cell_of place (j + 1)) ≡ j + 1 = by_player.round_of place (j + 1) p low top in
      h (cell_of place (j + 1)) (by_player.within place (j + 1) p low top)
      (λ u. not_used (subst (λ (x : ℕ). x < n) a u.0) (subst (λ (x : ℕ). x ≤ R) b u.1))
    where
      not_used : place < n → j + 1 ≤ R → ⊥
      not_used s t = let z = used-from n R place s in omega (arith, z, from)

  pub entries-told : {good : Bool} → Told ((place : ℕ) → place < most_players → Row place) good → Told (UnusedCells d n R cells) good
  entries-told t = told_as by_cell by_row t

  pub row_told : (place : ℕ) {from : ℕ} → from ≡ unused_from n R place → {good : Bool} → Told (UnusedRow d cells place from) good → Told (Row place) good
  row_told place e {good} t = subst (λ (x : ℕ). Told (UnusedRow d cells place x) good) e t
