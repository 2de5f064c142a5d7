-- What the box carries: the most of each thing. Each of these numbers of document 01 stands here and nowhere else.
use Rattle.std.specs.Prelude.{Bool, ℕ}
use Rattle.kit.specs.Lists.{between}

-- bytes of a file
abbrev pub most_file : ℕ
most_file = 65535

-- columns of a line, terminator not counted
abbrev pub most_line : ℕ
most_line = 512

abbrev pub most_players : ℕ
most_players = 200

abbrev pub most_rounds : ℕ
most_rounds = 20

-- acceleration records
abbrev pub most_accelerations : ℕ
most_accelerations = 32

-- bytes of the kept text lines together, each with its CR
abbrev pub most_text : ℕ
most_text = 2048

-- points are whole tenths, 0 to 999
abbrev pub most_points : ℕ
most_points = 999

-- start numbers are 1 to 9999
abbrev pub most_start : ℕ
most_start = 9999

abbrev pub is_start : ℕ → Bool
is_start n = between 1 most_start n

-- ranks are 1 to 9999
abbrev pub most_rank : ℕ
most_rank = 9999

abbrev pub is_rank : ℕ → Bool
is_rank n = between 1 most_rank n
