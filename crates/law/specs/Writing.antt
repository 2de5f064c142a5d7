-- The writer's bytes for a tournament and a terminator, and the question's two values.
use Rattle.std.specs.Prelude.{cond, List, [], ◌∷◌, ◌++◌, map, ℕ, zero, suc, ◌+◌, ◌-◌, ◌/◌, ◌%◌, eqb, replicate, take}
use Rattle.std.proofs.Math.Option.{Option, none, some}
use Prim.Native.Char.{code}
use Rattle.kit.specs.Lists.{first, flat}
use Rattle.types.specs.declared.Acceleration.{Acceleration}
use Rattle.law.specs.Lines.{End, cr, crlf, end_bytes}
use Rattle.law.specs.Columns.{Field, blank, width, column, code_field}
use Rattle.law.specs.Heads.{rounds_code, rounds_field, colour_code, colour_column}
use Rattle.law.specs.Scoring.{Scoring, stated, scoring_code, slot_fields}
use Rattle.law.specs.Accelerations.{acceleration_code, added_field, first_round_field, last_round_field, first_start_field, last_start_field, covers}
use Rattle.law.specs.Players.{player_code, unknown_result, kept_field, start_field, points_field, rank_field, id_field, entry_colour_column, result_column}
use Rattle.law.specs.Tournament.{Entry, Player, Tournament}
use Rattle.law.specs.Entries.{player_at, earned}

-- ---- a line laid out: what stands in each of its fields, in order, with blanks between
abbrev pub Piece : Type 0
Piece = Field × List ℕ

abbrev pub blanks : ℕ → List ℕ
blanks n = replicate n blank

-- from column c on
abbrev pub laid : ℕ → List Piece → List ℕ
laid c [] = []
laid c (x ∷ pieces) = blanks (x.0.0 - c) ++ (x.1 ++ laid (suc x.0.1) pieces)

-- ---- numbers: the digits, and before them what `fill` gives for the columns that are left
abbrev pub digit : ℕ → ℕ
digit n = code "0" + n % 10

abbrev pub filled : (ℕ → List ℕ) → ℕ → ℕ → List ℕ
filled fill zero n = []
filled fill (suc w) n = cond (eqb (n / 10) 0) (fill w) (filled fill w (n / 10)) ++ (digit n ∷ [])

abbrev pub nothing : ℕ → List ℕ
nothing n = []

abbrev pub noughts : ℕ → List ℕ
noughts n = replicate n (code "0")

abbrev pub number : (ℕ → List ℕ) → Field → ℕ → Piece
number fill f n = (f, filled fill (width f) n)

-- points, `fill` for a zero tens digit
abbrev pub points_text : ℕ → ℕ → List ℕ
points_text fill p = cond (eqb (p / 100) 0) fill (digit (p / 100)) ∷ digit (p / 10) ∷ code "." ∷ digit p ∷ []

-- ---- the lines. "142's number starts at column 5 with no filling."
abbrev pub rounds_line : ℕ → List ℕ
rounds_line n = laid 1 ((code_field, rounds_code) ∷ number nothing rounds_field n ∷ [])

abbrev pub colour_line : ℕ → List ℕ
colour_line c = laid 1 ((code_field, colour_code) ∷ (column colour_column, c ∷ []) ∷ [])

-- "162 with six slots in the order W D L A P X"; "Points have a blank for a zero tens digit"
abbrev pub slot_pieces : List Field → List (ℕ × ℕ) → List Piece
slot_pieces [] vs = []
slot_pieces (f ∷ fs) [] = []
slot_pieces (f ∷ fs) (v ∷ vs) = (f, v.0 ∷ points_text blank v.1) ∷ slot_pieces fs vs

abbrev pub scoring_line : Scoring → List ℕ
scoring_line s = laid 1 ((code_field, scoring_code) ∷ slot_pieces slot_fields (stated s))

-- "in 250 all numbers are filled with zeros"
abbrev pub acceleration_line : Acceleration → List ℕ
acceleration_line a =
    laid 1
    ((code_field, acceleration_code) ∷ (added_field, points_text (code "0") a.points) ∷ number noughts first_round_field a.first_round ∷
    number noughts last_round_field a.last_round ∷ number noughts first_start_field a.first_start ∷ number noughts last_start_field a.last_start ∷ [])

-- "Other numbers are filled with blanks; a bye is `0000 - ` and its letter."
abbrev pub id_text : ℕ → ℕ → List ℕ
id_text w id = cond (eqb id 0) (noughts w) (filled blanks w id)

-- of an unknown result "the writer puts a blank"
abbrev pub result_text : ℕ → ℕ
result_text result = cond (eqb result unknown_result) blank result

abbrev pub entry_pieces : ℕ → Entry → List Piece
entry_pieces r e = (id_field r, id_text (width (id_field r)) e.id) ∷ (column (entry_colour_column r), e.colour ∷ []) ∷ (column (result_column r), result_text e.result ∷ []) ∷ []

-- the entries from round r on
abbrev pub entries_from : ℕ → List Entry → List Piece
entries_from r [] = []
entries_from r (e ∷ es) = entry_pieces r e ++ entries_from (r + 1) es

-- "A 001 line has exactly 89+10R bytes for R rounds": it ends with its last round's result
abbrev pub player_line : Player → List ℕ
player_line p =
    laid 1
    ((code_field, player_code) ∷ number blanks start_field p.start ∷ (kept_field, p.kept) ∷ (points_field, points_text blank p.points) ∷
    number blanks rank_field p.rank ∷ entries_from 1 p.entries)

-- "152 if known"
abbrev pub colour_lines : ℕ → List (List ℕ)
colour_lines c = cond (eqb c 0) [] (colour_line c ∷ [])

-- "Order: text lines, 142, 152 if known, 162 [..], the 250 lines, the 001 lines."
unfoldable pub written_lines : Tournament → List (List ℕ)
written_lines t =
    t.text ++ (rounds_line t.rounds ∷ (colour_lines t.colour ++ (scoring_line t.scoring ∷ (map acceleration_line t.accelerations ++ map player_line t.players))))

unfoldable pub written : End → Tournament → List ℕ
written end t = flat (λ line. line ++ end_bytes (some end)) (written_lines t)

-- "The longest file that the writer can produce is 58,000 + 2,048 + 1,024 + 69 = 61,141 bytes", with CR alone; with CR LF "the longest output is then 61,887 bytes"
abbrev pub longest : End → ℕ
longest cr = 61141
longest crlf = 61887

-- ---- the question: "the sum earned in earlier rounds and the acceleration for that round, 0 if no record covers it"
unfoldable pub earned_before : Tournament → ℕ → ℕ → ℕ
earned_before t place round = earned t.scoring (take (round - 1) (player_at t place).entries)

abbrev pub points_or0 : Option Acceleration → ℕ
points_or0 none = 0
points_or0 (some a) = a.points

unfoldable pub acceleration_for : Tournament → ℕ → ℕ → ℕ
acceleration_for t place round = points_or0 (first (covers (player_at t place).start round) t.accelerations)
