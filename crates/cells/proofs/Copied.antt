-- The loop that copies cells: how it begins, one turn, how it ends. Assumes nothing.
use mathlib.Core.Path.{◌≡◌, refl, ap, ◌∙◌}
use mathlib.Core.List.{List}
use Prim.Native.Nat.{ℕ, ◌+◌, ◌≤◌, ◌<◌}
use native.Mathlib.Numerals.{add-one}
use native.Mathlib.Omega.{arith}
use lib.ListN.{length, get_or, set, length-set}
use lib.Seq.{paste, paste-zero, paste-suc}

-- x is b with the first i of s from cell at on
pub record Copied {A : Type 0} (b : List A) (at : ℕ) (s x : List A) (i : ℕ) : Type 0 where
  pub long : length x ≡ length b
  pub holds : x ≡ paste b at s i

module _ {A : Type 0} {b : List A} {at : ℕ} {s : List A} where
  pub copied_none : Copied b at s b 0
  copied_none = record { long = refl; holds = paste-zero b at s }

  -- at + length s ≤ length b: what is asked of the copy. v: the cell that is read
  pub copied_next : {x : List A} {i : ℕ} {v : A} → Copied b at s x i → i < length s → at + length s ≤ length b → v ≡ get_or s i v → Copied b at s (set x (at + i) v) (i + 1)
  copied_next {x} {i} {v} h l room read =
      record {
        long = length-set x (at + i) v ∙ h.long;
        holds = ap (set x (at + i)) read ∙ rw (h.holds, add-one i) (paste-suc b at s i v (omega arith) (omega arith));
      }
