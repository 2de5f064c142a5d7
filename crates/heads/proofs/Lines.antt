-- The parts of 142 and 250: their widths, and that the parts are the statement's line. Assumes nothing.
use mathlib.Core.Path.{◌≡◌, ap, ◌∙◌}
use mathlib.Core.List.{List, ◌++◌, append_assoc, append-nil}
use Prim.Native.Nat.{ℕ, suc, ◌+◌}
use native.Mathlib.Omega.{arith}
use lib.ListN.{length}
use Rattle.law.specs.Writing.{blanks, noughts, filled, rounds_line}
use Rattle.puts.specs.Numbers.{leading}
use Rattle.heads.specs.Lines.{span_text}

pub rounds-wide : (n : ℕ) → length (rounds_line n) ≡ 4 + length (leading n)
rounds-wide n = ap (λ (l : List ℕ). suc (suc (suc (suc (length l))))) (append-nil (leading n)) ∙ omega arith

-- a span with something after it
pub span_before : (w a b : ℕ) (l : List ℕ) → span_text w a b ++ l ≡ filled noughts w a ++ (blanks 1 ++ (filled noughts w b ++ l))
span_before w a b l = append_assoc (filled noughts w a) (blanks 1 ++ filled noughts w b) l
