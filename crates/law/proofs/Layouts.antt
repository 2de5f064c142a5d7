-- Report files and lines of our own, laid out by hand, apart from the statement's own columns: what the rows of `Watched`, and of the crate `guards`, are about. Definitions alone.
use mathlib.Core.Bool.{cond}
use mathlib.Core.List.{List, [], ◌∷◌, ◌++◌}
use Prim.Native.Nat.{ℕ, ◌+◌, ◌-◌}
use Prim.Native.String.{String}
use lib.Dec.{eqb}
use lib.ListN.{length, replicate}
use Rattle.kit.specs.Ascii.{ascii}
use Rattle.law.proofs.Marked.{line, cup}

-- ---- texts at their columns, from column c on
unfoldable pub put : ℕ → List (ℕ × String) → List ℕ
put c [] = []
put c (x ∷ l) = replicate (x.0 - c) 32 ++ (ascii x.1 ++ put (x.0 + length (ascii x.1)) l)

-- a 001 line: start number, points, rank, and more texts from column 90 on
unfoldable pub person : String → String → String → List (ℕ × String) → List ℕ
person start stated rank more = put 1 ((1, "001") ∷ (5, start) ∷ (81, stated) ∷ (86, rank) ∷ more) ++ (13 ∷ [])

-- the same with one kept text at its column
unfoldable pub kept_row : ℕ → String → List ℕ
kept_row c s = put 1 ((1, "001") ∷ (5, "   1") ∷ (c, s) ∷ (81, " 0.0") ∷ (86, "   1") ∷ [])

-- a 001 row alone
unfoldable pub row_with : List (ℕ × String) → List ℕ
row_with more = put 1 ((1, "001") ∷ (5, "   1") ∷ (81, " 0.0") ∷ (86, "   1") ∷ more)

-- a 001 row of its texts from column 5 on
unfoldable pub row_of_texts : List (ℕ × String) → List ℕ
row_of_texts texts = put 1 ((1, "001") ∷ texts)

unfoldable pub crlf-line : String → List ℕ
crlf-line s = ascii s ++ (13 ∷ 10 ∷ [])

-- a file whose lines end with CR alone, with an LF after each CR
unfoldable pub with_lf : List ℕ → List ℕ
with_lf [] = []
with_lf (c ∷ l) = cond (eqb c 13) (13 ∷ 10 ∷ []) (c ∷ []) ++ with_lf l

-- one player, no rounds
unfoldable pub alone : List ℕ
alone = person "   1" " 0.0" "   1" []

-- two players with an entry each in round 1, points each
unfoldable pub two : String → String → String → String → List ℕ
two p e q f = cup ++ (person "   1" p "   1" ((92, e) ∷ []) ++ person "   2" q "   2" ((92, f) ∷ []))

-- the same with an entry each at a column
unfoldable pub two_at : ℕ → String → String → String → String → List ℕ
two_at c p e q f = cup ++ (person "   1" p "   1" ((c, e) ∷ []) ++ person "   2" q "   2" ((c, f) ∷ []))

-- one player after some lines
unfoldable pub after : List ℕ → List ℕ
after before = cup ++ (before ++ alone)

-- ---- texts of 2,048 bytes together: 8 + 3 * 513 + 501
unfoldable pub note : ℕ → List ℕ
note n = ascii "112 " ++ (replicate n 120 ++ (13 ∷ []))

unfoldable pub full_text : List ℕ
full_text = cup ++ (note 508 ++ (note 508 ++ (note 508 ++ note 496)))

-- ---- a scoring in which all six values differ
unfoldable pub scoring : String
scoring = "162  X 0.7    P 2.0    A 0.1    L 0.2    D 1.0    W 3.0"

-- ---- three points for a win, one for a draw; and a file of one player with a U: its 162, and the points that it states
unfoldable pub three_points : String
three_points = "162  W 3.0    D 1.0"

unfoldable pub alone_with_u : String → String → List ℕ
alone_with_u scored stated = cup ++ (line scored ++ person "   1" stated "   1" ((92, "0000 - U") ∷ []))

-- ---- an event with most records
unfoldable pub roe_line : String → List ℕ
roe_line entries = put 1 ((1, "001") ∷ (5, "  12") ∷ (10, "mGM") ∷ (15, "Roe") ∷ (49, "2401") ∷ (54, "GER") ∷ (58, "12345678901") ∷ (70, "1990/01/02") ∷ (81, "20.0") ∷ (86, "   3") ∷ (92, entries) ∷ []) ++ (13 ∷ [])

unfoldable pub event : List ℕ
event =
    line "### first" ++ (line "012 Cup  " ++ (line "250      00.5 001 002 0007 9999" ++ (roe_line "   7 w 1         U" ++ (10 ∷ (line "022 x" ++ (line "250       1.0   3   3    1    1" ++
    (person "   7" " 0.0" "   1" ((92, "  12 b 0     0") ∷ []) ++ (line "162  W10.0    D 1.5" ++ (line "152 B" ++ line "142 3")))))))))

-- and what the writer makes of it, with CR alone
unfoldable pub event_written : List ℕ
event_written =
    line "012 Cup" ++ (line "022 x" ++ (line "142 3" ++ (line "152 B" ++ (line "162  W10.0    D 1.5    L 0.0    A 0.0    P10.0    X 1.5" ++
    (line "250      00.5 001 002 0007 9999" ++ (line "250      01.0 003 003 0001 0001" ++ (roe_line "   7 w 1  0000 - U  0000 - Z" ++ person "   7" " 0.0" "   1" ((92, "  12 b 0  0000 - Z  0000 - Z") ∷ []))))))))

-- the highest numbers that lines state
unfoldable pub highest : List ℕ
highest = cup ++ (line "142 1" ++ (line "162  W99.9    D10.5    L20.0    A30.1    P40.2    X50.3" ++ (line "250      99.9 020 020 9999 9999" ++ (line "250      10.5 001 010 1005 1050" ++ person "9999" "99.9" "9999" ((92, "0000 - F") ∷ [])))))

-- points for rounds 2 and 3 and start numbers 5 to 9, and players at and beside these
unfoldable pub accelerated : List ℕ
accelerated =
    cup ++ (line "142 4" ++ (line "250      12.5 002 003 0005 0009" ++
    (person "   4" " 0.0" "   1" [] ++ (person "   5" " 0.0" "   2" [] ++ (person "   9" " 0.0" "   3" [] ++ person "  10" " 0.0" "   4" [])))))

-- as the writer puts it: three games set by the arbiter, lost by both, drawn by White alone and by Black alone; then a round without games
unfoldable pub set_by_arbiter : List ℕ
set_by_arbiter =
    cup ++ (line "142 4" ++ (line "162  W 1.0    D 0.5    L 0.0    A 0.0    P 1.0    X 0.5" ++
    (person "   1" " 1.0" "   1" ((92, "   2 w 0     2 w =     2 b =  0000 - Z") ∷ []) ++ person "   2" " 0.0" "   2" ((92, "   1 b 0     1 b 0     1 w 0  0000 - Z") ∷ []))))

-- a game of the second of three rounds is still being played, 0.7 for each of the two; one of its lines ends before its blank
unfoldable pub being_played : List ℕ
being_played =
    cup ++ (line "142 3" ++ (line "162  X 0.7" ++
    (person "   1" " 1.7" "   1" ((92, "   2 w 1     3 b") ∷ []) ++ (person "   2" " 0.0" "   4" ((92, "   1 b 0     4 w 0") ∷ []) ++
    (person "   3" " 1.2" "   3" ((92, "   4 w =     1 w  ") ∷ []) ++ person "   4" " 1.5" "   2" ((92, "   3 b =     2 b 1") ∷ []))))))

-- and what the writer makes of it, with CR alone
unfoldable pub being_played_written : List ℕ
being_played_written =
    cup ++ (line "142 3" ++ (line "162  W 1.0    D 0.5    L 0.0    A 0.0    P 1.0    X 0.7" ++
    (person "   1" " 1.7" "   1" ((92, "   2 w 1     3 b    0000 - Z") ∷ []) ++ (person "   2" " 0.0" "   4" ((92, "   1 b 0     4 w 0  0000 - Z") ∷ []) ++
    (person "   3" " 1.2" "   3" ((92, "   4 w =     1 w    0000 - Z") ∷ []) ++ person "   4" " 1.5" "   2" ((92, "   3 b =     2 b 1  0000 - Z") ∷ []))))))

-- refused: a wrong sum
unfoldable pub wrong_sum : List ℕ
wrong_sum = two " 0.5" "   2 w 1" " 0.0" "   1 b 0"
