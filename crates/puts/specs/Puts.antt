-- Bytes put into a lent output from a position on: those are there, every other is as before, and the next position stands after the last of them. Means:
-- no part of the statement.
use Rattle.std.specs.Prelude.{◌≡◌, List, ℕ, ◌+◌, ◌≤◌, length, replicate}
use Rattle.std.proofs.Math.Seq.{paste}

-- n: how many bytes there are. They fit, so that the output keeps its length
pub record Puts (bytes : List ℕ) (n at : ℕ) (before after : List ℕ) (next : ℕ) : Type 0 where
  pub wide : length bytes ≡ n
  pub room : at + n ≤ length before
  pub long : length after ≡ length before
  pub ends : next ≡ at + n
  pub written : after ≡ paste before at bytes n

-- what fills a number: one byte in all columns that are left. `blanks` and `noughts` of the statement are the runs of a blank and of `0`
abbrev pub run : ℕ → ℕ → List ℕ
run c k = replicate k c
