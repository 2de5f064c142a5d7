-- The flags of U: a player's rounds one by one, and player by player. Assumes nothing.
use mathlib.Core.Path.{◌≡◌, refl, ◌∙◌}
use mathlib.Core.Bool.{Bool, true, false, ◌&&◌, ◌||◌}
use mathlib.Core.List.{List}
use Prim.Native.Nat.{ℕ, ◌+◌, ◌≤◌, ◌<◌}
use Prim.Native.Char.{code}
use native.Mathlib.Decide.{ℕ_discrete}
use native.Mathlib.Numerals.{add-one}
use native.Mathlib.Omega.{arith}
use lib.Dec.{eqb}
use lib.ListN.{length, get_or, set, replicate, length-set, length-replicate, get_or-replicate}
use lib.Seq.{get_or-set_same, get_or-set_other}
use Rattle.law.specs.Sizes.{most_rounds}
use Rattle.law.specs.Tables.{cell_of}
use Rattle.join.specs.Grid.{some_below}
use Rattle.join.specs.Check.{has_uat}
use Rattle.glances.specs.Glance.{Noted, OnceU}

or_no : (a b : Bool) → a || b ≡ false → (a ≡ false) × (b ≡ false)
or_no true b e = (e, let z : ◌≡◌ {A = ℕ} 0 1 = cc in absurd (omega arith))
or_no false b e = (refl, e)

pub u_is : (results : List ℕ) (place round : ℕ) {v : ℕ} → v ≡ get_or results (cell_of place round) 0 → eqb v (code "U") ≡ has_uat results place round
unfolding has_uat
u_is results place round e = rw e refl

-- ---- the first j rounds of a player
pub record Noting (results : List ℕ) (place : ℕ) (before seen : List Bool) (j : ℕ) (again : Bool) : Type 0 where
  pub long : length seen ≡ most_rounds
  pub done : (r : ℕ) → r < j → get_or seen r false ≡ get_or before r false || has_uat results place (r + 1)
  pub left : (r : ℕ) → j ≤ r → get_or seen r false ≡ get_or before r false
  pub once : again ≡ false → (r : ℕ) → r < j → has_uat results place (r + 1) && get_or before r false ≡ false

pub note_none : (results : List ℕ) (place : ℕ) (before : List Bool) → length before ≡ most_rounds → Noting results place before before 0 false
note_none results place before l = record { long = l; done = λ r m. absurd (omega arith); left = λ r m. refl; once = λ _ r m. absurd (omega arith) }

module _ {results : List ℕ} {place : ℕ} {before seen : List Bool} {j : ℕ} {again : Bool} (s : Noting results place before seen j again) where
  pub note_more : j < most_rounds → {here : Bool} → here ≡ has_uat results place (j + 1)
      → Noting results place before (set seen j (get_or seen j false || here)) (j + 1) (again || (here && get_or seen j false))
  note_more l {here} e =
      record {
        long = length-set seen j (get_or seen j false || here) ∙ s.long;
        done = λ r m. done r m (ℕ_discrete r j);
        left = λ r m. get_or-set_other seen j r (get_or seen j false || here) false (λ q. omega arith) ∙ s.left r (omega arith);
        once = λ q r m. let k = or_no again (here && get_or seen j false) q in once k.0 k.1 r m (ℕ_discrete r j);
      }
    where
      done : (r : ℕ) → r < j + 1 → Dec (r ≡ j) → get_or (set seen j (get_or seen j false || here)) r false ≡ get_or before r false || has_uat results place (r + 1)
      done r m (yes q) =
          rw q (get_or-set_same seen j (get_or seen j false || here) false (let z = s.long in omega arith) ∙ rw (s.left j (omega arith), e) refl)
      done r m (no q) = let z : r ≡ j → ⊥ = q in get_or-set_other seen j r (get_or seen j false || here) false q ∙ s.done r (omega arith)

      once : again ≡ false → here && get_or seen j false ≡ false → (r : ℕ) → r < j + 1 → Dec (r ≡ j) → has_uat results place (r + 1) && get_or before r false ≡ false
      once a b r m (yes q) = rw q (rw (s.left j (omega arith), e) at b)
      once a b r m (no q) = let z : r ≡ j → ⊥ = q in s.once a r (omega arith)

  pub note_end : most_rounds ≤ j → Noted results place before seen again
  note_end l = record { long = s.long; flags = λ r m. s.done r (omega arith); once = λ q r m. s.once q r (omega arith) }

-- ---- the first p players
pub record Onced (results : List ℕ) (p : ℕ) (seen : List Bool) : Type 0 where
  pub long : length seen ≡ most_rounds
  pub flags : (j : ℕ) → j < most_rounds → get_or seen j false ≡ some_below (λ q. has_uat results q (j + 1)) p
  pub once : OnceU results p

pub once-none : (results : List ℕ) → Onced results 0 (replicate most_rounds false)
unfolding some_below
once-none results = record { long = length-replicate {A = Bool} most_rounds false; flags = λ j l. get_or-replicate {A = Bool} most_rounds j false false l; once = λ q l. absurd (omega arith) }

pub once_more : {results : List ℕ} {p : ℕ} {before after : List Bool} {again : Bool} → Onced results p before → Noted results p before after again → again ≡ false → Onced results (p + 1) after
unfolding some_below
once_more {results} {p} {before} {after} s t e =
    record { long = t.long; flags = λ j l. rw (add-one p) (t.flags j l ∙ rw (s.flags j l) refl); once = λ q m. go q m (ℕ_discrete q p) }
  where
    go : (q : ℕ) → q < p + 1 → Dec (q ≡ p) → (j : ℕ) → j < most_rounds → has_uat results q (j + 1) && some_below (λ k. has_uat results k (j + 1)) q ≡ false
    go q m (yes h) j l = rw h (rw (s.flags j l) at (t.once e j l))
    go q m (no h) j l = let z : q ≡ p → ⊥ = h in s.once q (omega arith) j l
