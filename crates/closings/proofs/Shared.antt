-- The first of the first n records that shares with an earlier one is that of a list of these n alone. Assumes nothing.
use mathlib.Core.Path.{◌≡◌, ap₂}
use mathlib.Core.List.{List}
use Prim.Native.Nat.{ℕ, ◌≤◌, ◌<◌}
use native.Mathlib.Omega.{arith}
use lib.ListN.{length, take}
use lib.Seq.{get_or-take, length-take-le}
use Rattle.types.specs.declared.Acceleration.{Acceleration}
use Rattle.law.specs.Accelerations.{shares}
use Rattle.law.specs.Lawful.{no_acceleration}
use Rattle.join.specs.Grid.{first_from}
use Rattle.join.specs.Check.{shared_record}
use Rattle.join.proofs.Firsts.{first_as, some_as}

module _ (records : List Acceleration) (n : ℕ) where
  same_record : (j : ℕ) → j < n → shared_record (take n records) j ≡ shared_record records j
  unfolding shared_record
  same_record j l =
      some_as _ _ j (λ i m. ap₂ shares (get_or-take n records j no_acceleration l) (get_or-take n records i no_acceleration (omega arith)))

  pub shared_front : n ≤ length records → first_from (shared_record (take n records)) 0 (length (take n records)) ≡ first_from (shared_record records) 0 n
  shared_front h = rw (length-take-le n records h) (first_as (shared_record (take n records)) (shared_record records) 0 n (λ k a b. same_record k (omega arith)))
