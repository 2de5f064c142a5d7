-- The terminator that the code is told, as the statement's, and a line with it. Means: no part of the statement.
use Rattle.std.proofs.Math.Option.{some}
use Rattle.std.specs.Prelude.{cond, List, [], ◌∷◌, ◌++◌, ℕ, eqb, length}
use Rattle.law.specs.Lines.{CR, End, cr, crlf, end_bytes}
use Rattle.puts.specs.declared.Terminator.{Terminator}
use Rattle.puts.specs.declared.Terminator.TheVariants as terminator

abbrev pub as_end : Terminator → End
as_end terminator.CrLf = crlf
as_end terminator.Cr = cr

-- the bytes of a terminator
abbrev pub end_text : Terminator → List ℕ
end_text end = end_bytes (some (as_end end))

abbrev pub end_wide : Terminator → ℕ
end_wide end = length (end_text end)

-- a line with its terminator, as `written` lays the lines one after the other
abbrev pub ended_by : Terminator → List ℕ → List ℕ
ended_by end line = line ++ end_text end

-- a byte of the kept text, whose table has a CR after each line: a terminator where it is CR
abbrev pub kept_text : Terminator → ℕ → List ℕ
kept_text end c = cond (eqb c CR) (end_text end) (c ∷ [])

-- the kept text with its terminators
unfoldable pub relined : Terminator → List ℕ → List ℕ
relined end [] = []
relined end (c ∷ l) = kept_text end c ++ relined end l
