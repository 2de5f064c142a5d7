-- The lent tables as the public contracts name them: all ten that the reader is lent, at entry and at exit.
use Rattle.std.specs.Prelude.{List, ℕ}
use Rattle.std.specs.Borrow.{Bor, MutBor}
use denote.Triple.Both.{Both}
use Rattle.types.specs.declared.Acceleration.{Acceleration}
use Rattle.law.specs.Tables.{Tables, Lent}
use Rattle.lawful.specs.Given.{tables_of}

abbrev pub lent_of : List ℕ → List ℕ → List ℕ → List ℕ → List ℕ → List ℕ → List ℕ → List ℕ → List Acceleration → List ℕ → Lent
lent_of starts points ranks kept opponents colours results text accelerations lines =
    record { tables = tables_of starts points ranks kept opponents colours results text accelerations; lines = lines }

-- a list of numbers, and the list of records, that may be written to, and that are only read
abbrev Numbers : Type 0
Numbers = Both (MutBor (List ℕ)) (MutBor (List ℕ))

abbrev Records : Type 0
Records = Both (MutBor (List Acceleration)) (MutBor (List Acceleration))

abbrev NumbersRead : Type 0
NumbersRead = Both (Bor (List ℕ)) (Bor (List ℕ))

abbrev RecordsRead : Type 0
RecordsRead = Both (Bor (List Acceleration)) (Bor (List Acceleration))

abbrev pub before : Numbers → Numbers → Numbers → Numbers → Numbers → Numbers → Numbers → Numbers → Records → Numbers → Lent
before t0 t1 t2 t3 t4 t5 t6 t7 t8 t9 =
    lent_of t0.entry.now t1.entry.now t2.entry.now t3.entry.now t4.entry.now t5.entry.now t6.entry.now t7.entry.now t8.entry.now t9.entry.now

abbrev pub after : Numbers → Numbers → Numbers → Numbers → Numbers → Numbers → Numbers → Numbers → Records → Numbers → Lent
after t0 t1 t2 t3 t4 t5 t6 t7 t8 t9 = lent_of t0.exit.now t1.exit.now t2.exit.now t3.exit.now t4.exit.now t5.exit.now t6.exit.now t7.exit.now t8.exit.now t9.exit.now

-- the nine that writer and question are lent: they stay as they are
abbrev pub given : NumbersRead → NumbersRead → NumbersRead → NumbersRead → NumbersRead → NumbersRead → NumbersRead → NumbersRead → RecordsRead → Tables
given t0 t1 t2 t3 t4 t5 t6 t7 t8 =
    tables_of t0.entry.now t1.entry.now t2.entry.now t3.entry.now t4.entry.now t5.entry.now t6.entry.now t7.entry.now t8.entry.now
