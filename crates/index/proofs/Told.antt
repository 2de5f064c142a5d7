-- What the answer of a look-up says where its case is known: what a caller has in each arm of its `match`. Assumes nothing.
use mathlib.Core.Path.{◌≡◌, refl, ap}
use mathlib.Core.Option.{Option, none, some}
use mathlib.Core.List.{List}
use Prim.Native.Nat.{ℕ, ◌<◌}
use native.Mathlib.Omega.{arith}
use lib.Dec.{eqb}
use lib.ListN.{get_or}
use Rattle.types.specs.declared.Place.{Place}
use Rattle.join.specs.Store.{place_of}
use Rattle.join.proofs.Firsts.{first_under}
use Rattle.std.specs.Prelude as program
use Rattle.std.specs.Prelude.{Some, None}
use Rattle.index.specs.Index.{as_placed}

module _ (o : Option ℕ) {answer : program.Option Place} (told : answer ≡ as_placed o) where
  pub told-place : {place : Place} → answer ≡ Some place → o ≡ some place.0
  told-place {place} e = go o told
    where
      go : (o : Option ℕ) → answer ≡ as_placed o → o ≡ some place.0
      go none a = let z : ◌≡◌ {A = ℕ} 0 1 = cc in absurd (omega arith)
      go (some q) a = let e : record { 0 = q } ≡ place = cc in ap some (ap (λ (x : Place). x.0) e)

  pub told_nobody : answer ≡ None → o ≡ none
  told_nobody e = go o told
    where
      go : (o : Option ℕ) → answer ≡ as_placed o → o ≡ none
      go none a = refl
      go (some q) a = let z : ◌≡◌ {A = ℕ} 0 1 = cc in absurd (omega arith)

-- the player is one of the first n
pub told-player : (starts : List ℕ) (n id : ℕ) {answer : program.Option Place} {place : Place} → answer ≡ as_placed (place_of starts n id) → answer ≡ Some place → place.0 < n
unfolding place_of
told-player starts n id {answer} {place} a e =
    omega (arith, (first_under (λ i. eqb (get_or starts i 0) id) 0 n place.0 (told-place (place_of starts n id) a e)).1)
