-- A number in its columns, of which some are left, in the statement's own words. Means: no part of the statement.
use Rattle.std.specs.Prelude.{cond, List, ℕ, eqb}
use Rattle.law.specs.Writing.{filled, nothing}

-- what stands in the k columns before some digits of a number, where n is what is left of it
abbrev pub rest : (ℕ → List ℕ) → ℕ → ℕ → List ℕ
rest fill k n = cond (eqb n 0) (fill k) (filled fill k n)

-- a number with no filling, of up to three digits
abbrev pub leading : ℕ → List ℕ
leading n = filled nothing 3 n
