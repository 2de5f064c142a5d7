-- What the lengths that a core was told, and the array of the first records, say of the tables that are lent. Assumes nothing.
use mathlib.Core.Path.{◌≡◌, sym, ap, ap₂, ◌∙◌}
use mathlib.Core.Bool.{Bool, true, false, ◌&&◌}
use mathlib.Core.List.{List, [], ◌∷◌, ◌++◌}
use Prim.Native.Nat.{ℕ, ◌≤◌}
use native.Mathlib.Omega.{arith}
use borrow.Author.Tests.{le-leb}
use lib.Dec.{leb}
use lib.ListN.{length, take}
use lib.Seq.{take-take}
use Rattle.kit.proofs.Bools.{and, clash}
use Rattle.types.specs.declared.Acceleration.{Acceleration}
use Rattle.types.specs.declared.Answer.{Answer}
use Rattle.law.specs.Sizes.{most_accelerations}
use Rattle.law.specs.Tables.{Tables, are_long, enough}
use Rattle.law.proofs.ReadsOnce.{rooms-are}
use Rattle.texts.specs.Kept.{Told}
use Rattle.readings.specs.Good.{GoodReading}
use Rattle.lawful.specs.Given.{Given, over, eight_rooms, rooms_by}
use Rattle.lawful.proofs.Transfer.{given-good, good-given}

-- a longer last table is long too
last_long : (l : List (ℕ × ℕ)) (m n k : ℕ) → m ≤ k → are_long (l ++ ((m, n) ∷ [])) ≡ true → are_long (l ++ ((m, k) ∷ [])) ≡ true
last_long [] m n k h e = ap (λ (b : Bool). b && true) (le-leb m k h)
last_long (x ∷ l) m n k h e = let q = and (leb x.0 x.1) (are_long (l ++ ((m, n) ∷ []))) e in ap₂ ◌&&◌ q.0 (last_long l m n k h q.1)

-- the array has its 32
pub all-long : (t : Tables) (n : ℕ) → are_long (rooms_by t n) ≡ true → most_accelerations ≤ length t.accelerations → enough t ≡ true
unfolding enough
all-long t n e l = last_long (eight_rooms t) most_accelerations n (length t.accelerations) l e

module _ (t : Tables) (n : ℕ) (records : List Acceleration) (given : Given n t.accelerations records) where
  lent-enough : enough (over t records) ≡ are_long (rooms_by t n)
  unfolding enough
  lent-enough = ap (λ (k : ℕ). are_long (rooms_by t k)) given.long

  pub lent-short : are_long (rooms_by t n) ≡ false → enough (over t records) ≡ false
  lent-short e = lent-enough ∙ e

  module _ (e : are_long (rooms_by t n) ≡ true) where
    pub lent-long : enough (over t records) ≡ true
    lent-long = lent-enough ∙ e

    many : most_accelerations ≤ n
    many = let r = (rooms-are (over t records) lent-long).accelerations in let m = given.long in omega arith

    -- the first k records are the same in the array and in the list
    pub first-records : (k : ℕ) → k ≤ most_accelerations → take k t.accelerations ≡ take k records
    first-records k l = ap (take k) (given.firsts many) ∙ take-take k most_accelerations records l

    -- what the test told of the array holds of the list
    module _ {a : Answer} {b : Bool} (told : Told (GoodReading a t) b) where
      pub lent-good : b ≡ true → GoodReading a (over t records)
      lent-good h = given-good given many (told.sound h)

      pub lent_bad : b ≡ false → GoodReading a (over t records) → ⊥
      lent_bad f g = clash (sym f ∙ told.complete (good-given given many g))
