-- A file rewritten, with a terminator: read into tables of which none is too short, and what the reading left written, as the statement says of the two calls.
-- What was read is written.
use Rattle.std.specs.Prelude.{◌≡◌, true, List, ℕ}
use Rattle.types.specs.declared.Written.{Written}
use Rattle.law.specs.Lines.{End}
use Rattle.law.specs.Tables.{Lent, enough_lent}
use Rattle.law.specs.Calls.{Reads, Writes}
use Rattle.listed.specs.declared.Made.{Made}

pub record Rewrites (end : End) (file before : List ℕ) (r : Made) (after : List ℕ) : Type 0 where
  pub lent : Lent
  pub left : Lent
  pub enough : enough_lent lent ≡ true
  pub reads : Reads file lent r.answer left
  pub written : Written
  pub writes : Writes end r.answer left.tables before written after
  pub whole : r.answer.number ≡ 0 → written.number ≡ 0
  pub long : r.length ≡ written.length
