-- Rows of our own, each with its computation beside it, so that a row that fails is named by its text: each guards a rule of the statement. `Watched` of `law`
-- has some more. Assumes nothing.
use mathlib.Core.Path.{refl}
use mathlib.Core.List.{List, [], ◌∷◌, ◌++◌}
use Prim.Native.Nat.{ℕ}
use Prim.Native.Char.{code}
use Prim.Native.String.{String}
use lib.ListN.{replicate}
use Rattle.kit.specs.Ascii.{ascii}
use Rattle.kit.specs.Lists.{flat, top}
use Rattle.kit.specs.First.{AllOf}
use Rattle.law.specs.Columns.{cells}
use Rattle.law.specs.Scoring.{scoring_of}
use Rattle.law.specs.Accelerations.{shares, covers}
use Rattle.law.specs.Items.{kind_of}
use Rattle.law.specs.Tournament.{normal, used_rounds, rounds_of, tournament_of}
use Rattle.law.specs.Entries.{is_bye, is_game, fits, keeps, worth, earned}
use Rattle.law.specs.Spelling.{is_past}
use Rattle.law.specs.Tables.{content_of, answer_of}
use Rattle.law.specs.Refusals.{is_again, is_too_many, lines_of, is_file_fault, labels}
use Rattle.law.specs.Writing.{written_lines, written, earned_before, acceleration_for}
use Rattle.law.specs.Calls.{refused_answer, written_answer, score_answer}
use Rattle.law.proofs.RecordsRead.{item_of}
use Rattle.law.proofs.Judges.{outcome_of}
use Rattle.law.proofs.Rows.{starts, points, ranks, opponents, colours, results, added, first-rounds, last_rounds, first-starts, last_starts, initial_colour, value, as_left, cut_short, cr-lf, cr_alone, Row, refuses, accepts, answers, scores, stores, writes, asks, fitting, spells, spells_nothing, RowHolds, test, Computed}
use Rattle.law.proofs.Samples.{all_computed}
use Rattle.law.proofs.Marked.{line, cup, roe, poe, sample_t}
use Rattle.law.proofs.Layouts.{put, person, kept_row, row_with, row_of_texts, crlf-line, with_lf, alone, two, two_at, after, note, full_text, scoring, three_points, alone_with_u, roe_line, event, event_written, highest, accelerated, set_by_arbiter, being_played, being_played_written, wrong_sum}

-- one line, or a 001 line with one kept text, spells an item or none
abbrev pub right : String → Row
right s = spells (ascii s)

abbrev pub wrong : String → Row
wrong s = spells_nothing (ascii s)

abbrev pub right_kept : ℕ → String → Row
right_kept c s = spells (kept_row c s)

abbrev pub wrong_kept : ℕ → String → Row
wrong_kept c s = spells_nothing (kept_row c s)

-- the values of W D L A P X in a file with this 162
abbrev pub values : String → ℕ → ℕ → ℕ → ℕ → ℕ → ℕ → Row
values s w d l a p x = stores (after (line s)) ((value, 0, w) ∷ (value, 1, d) ∷ (value, 2, l) ∷ (value, 3, a) ∷ (value, 4, p) ∷ (value, 5, x) ∷ [])

-- ---- the rows
unfoldable pub guard_rows : List Computed
unfolding put person kept_row row_with row_of_texts crlf-line with_lf alone two two_at after note full_text scoring three_points alone_with_u roe_line event event_written highest accelerated wrong_sum line cup roe poe sample_t test cells flat top scoring_of shares covers kind_of normal used_rounds rounds_of tournament_of is_bye is_game fits keeps worth earned is_past content_of answer_of is_again is_too_many lines_of is_file_fault labels written_lines written earned_before acceleration_for refused_answer written_answer score_answer item_of outcome_of
guard_rows =
    -- ---- lines that spell an item
    (right "", refl) ∷ (right "   ", refl) ∷ (right "### any", refl) ∷ (right "162  W 3.0    D 1.0", refl) ∷ (right "162  X10.5   ", refl) ∷
    (right "162  W 1.0    D 0.5    L 0.0    A 0.0    P 1.0    X 0.5    ", refl) ∷ (right "250       1.0   1  20    1 9999", refl) ∷
    (right "250      01.0 003 003 0090 0090  ", refl) ∷ (right "250      99.9 020 020 9999 9999", refl) ∷ (right "142 0", refl) ∷ (right "142 007  ", refl) ∷
    (right "142 20", refl) ∷ (right "152 W", refl) ∷ (right "152 B   ", refl) ∷ (right "012 Cup", refl) ∷ (right "012 C", refl) ∷ (right "022", refl) ∷ (right "022    ", refl) ∷
    (right "022 x", refl) ∷ (right "032 x", refl) ∷ (right "042 x", refl) ∷ (right "052 x", refl) ∷ (right "062 x", refl) ∷ (right "072 x", refl) ∷ (right "092 x", refl) ∷
    (right "102 x", refl) ∷ (right "112 x", refl) ∷ (right "122 x", refl) ∷ (right "132 x", refl) ∷ (right "192 x", refl) ∷ (right "202 x", refl) ∷ (right "212 x", refl) ∷
    (right "222 x", refl) ∷ (right "162  D99.9    L10.0", refl) ∷ (right "162  A 0.0    P 0.0    X 0.0", refl) ∷ (right "112", refl) ∷
    -- ---- lines that spell none
    (wrong "162", refl) ∷ (wrong "162  W 1.0    W 1.0", refl) ∷ (wrong "162           D 0.5", refl) ∷ (wrong "162  W 1.0             L 0.0", refl) ∷
    (wrong "162  W 1.0 x", refl) ∷ (wrong "162  w 1.0", refl) ∷ (wrong "162 W 1.0", refl) ∷ (wrong "162 xW 1.0", refl) ∷ (wrong "162x W 1.0", refl) ∷
    (wrong "162  W  .5", refl) ∷ (wrong "162  W 1,0", refl) ∷ (wrong "162  Y 1.0", refl) ∷ (wrong "162  W 1.0    D 0.5    L 0.0    A 0.0    P 1.0    X 0.5    W 1.0", refl) ∷
    (wrong "162  W 1.0    D 0.5    L 0.0    A 0.0    P 1.0    X 0.5x", refl) ∷ (wrong "250      00.0 001 003 0001 0090", refl) ∷
    (wrong "250      01.0 004 003 0001 0090", refl) ∷ (wrong "250      01.0 001 021 0001 0090", refl) ∷ (wrong "250      01.0 021 021 0001 0090", refl) ∷
    (wrong "250      01.0 000 003 0001 0090", refl) ∷ (wrong "250      01.0 001 003 0091 0090", refl) ∷ (wrong "250      01.0 001 003 0000 0090", refl) ∷
    (wrong "250 0001 01.0 001 003 0001 0090", refl) ∷ (wrong "250x     01.0 001 003 0001 0090", refl) ∷ (wrong "250      01.0 001 003 0001 0090 x", refl) ∷
    (wrong "250      01.0 001 003 0001     ", refl) ∷ (wrong "250      01.0x001 003 0001 0090", refl) ∷ (wrong "250      01.0 001x003 0001 0090", refl) ∷
    (wrong "250      01.0 001 003x0001 0090", refl) ∷ (wrong "250      01.0 001 003 0001x0090", refl) ∷ (wrong "250     x01.0 001 003 0001 0090", refl) ∷
    (wrong "250      01.0 1   003 0001 0090", refl) ∷ (wrong "142 ", refl) ∷ (wrong "142 21", refl) ∷ (wrong "142  3", refl) ∷ (wrong "142 0003", refl) ∷
    (wrong "142 3 4", refl) ∷ (wrong "142x3", refl) ∷ (wrong "142 x", refl) ∷ (wrong "152 w", refl) ∷ (wrong "152  W", refl) ∷ (wrong "152 WB", refl) ∷ (wrong "152xW", refl) ∷
    (wrong "152", refl) ∷ (wrong "012", refl) ∷ (wrong "012   ", refl) ∷ (wrong "012xCup", refl) ∷ (wrong "022x", refl) ∷ (wrong "013 Team", refl) ∷ (wrong "01", refl) ∷
    (wrong "082 x", refl) ∷ (wrong "172 x", refl) ∷ (wrong "352 x", refl) ∷ (wrong "362 x", refl) ∷ (wrong "142", refl) ∷ (wrong "162  W 1. ", refl) ∷
    (wrong "162  Wx1.0", refl) ∷ (wrong "162  W 1.0    Dx", refl) ∷ (wrong "162  W  1.0", refl) ∷ (wrong "162  A 1.0    A 1.0", refl) ∷ (wrong "162  W 1:0", refl) ∷
    (wrong "250      01.0 001 003 0001 0000", refl) ∷ (wrong "250         0 001 003 0001 0090", refl) ∷ (wrong "250      01.0     003 0001 0090", refl) ∷
    (wrong "250      01.0 001     0001 0090", refl) ∷ (wrong "250      01.0 001 003      0090", refl) ∷ (wrong "142 1x", refl) ∷ (wrong "142 /", refl) ∷
    (wrong "142 :", refl) ∷ (wrong "152 X", refl) ∷ (wrong "152 b", refl) ∷ (wrong "152 W x", refl) ∷ (wrong "## 4", refl) ∷ (wrong "    x", refl) ∷ (wrong "001", refl) ∷
    -- ---- 001 lines
    (spells (row_with []), refl) ∷ (spells (row_with ((92, "9999 b -") ∷ [])), refl) ∷ (spells (row_with ((282, "0000 - z") ∷ [])), refl) ∷ (right_kept 10 "m", refl) ∷
    (right_kept 10 "w", refl) ∷ (wrong_kept 10 "M", refl) ∷ (wrong_kept 10 "f", refl) ∷ (right_kept 11 "GM", refl) ∷ (right_kept 11 "IM", refl) ∷ (right_kept 11 "WGM", refl) ∷
    (right_kept 11 "FM", refl) ∷ (right_kept 11 "WIM", refl) ∷ (right_kept 11 "CM", refl) ∷ (right_kept 11 "WFM", refl) ∷ (right_kept 11 "WCM", refl) ∷ (wrong_kept 12 "GM", refl) ∷
    (wrong_kept 11 "gm", refl) ∷ (wrong_kept 11 "KM", refl) ∷ (right_kept 15 "012345678901234567890123456789012", refl) ∷
    (wrong_kept 15 "0123456789012345678901234567890123", refl) ∷ (wrong_kept 14 "x", refl) ∷ (right_kept 49 "   0", refl) ∷ (right_kept 49 "0000", refl) ∷
    (right_kept 52 "7", refl) ∷ (wrong_kept 49 "24 1", refl) ∷ (wrong_kept 49 "240 ", refl) ∷ (wrong_kept 53 "x", refl) ∷ (right_kept 54 "xyz", refl) ∷ (wrong_kept 57 "x", refl) ∷
    (right_kept 58 "x y z x y z", refl) ∷ (wrong_kept 69 "x", refl) ∷ (right_kept 70 "0000/99/00", refl) ∷ (wrong_kept 70 "1990-01-01", refl) ∷ (wrong_kept 70 "1990/1/01 ", refl) ∷
    (wrong_kept 70 "1990", refl) ∷ (wrong_kept 80 "x", refl) ∷ (spells_nothing (row_of_texts ((5, "   0") ∷ (81, " 0.0") ∷ (86, "   1") ∷ [])), refl) ∷
    (spells (row_of_texts ((5, "9999") ∷ (81, "99.9") ∷ (86, "9999") ∷ [])), refl) ∷ (spells_nothing (row_of_texts ((5, "   1") ∷ (81, " 0.0") ∷ (86, "   0") ∷ [])), refl) ∷
    (spells_nothing (row_of_texts ((5, "   1") ∷ (81, " 0.0") ∷ [])), refl) ∷ (spells_nothing (row_of_texts ((5, "   1") ∷ (86, "   1") ∷ [])), refl) ∷
    (spells_nothing (row_of_texts ((81, " 0.0") ∷ (86, "   1") ∷ [])), refl) ∷ (spells_nothing (put 1 ((1, "001x") ∷ (5, "   1") ∷ (81, " 0.0") ∷ (86, "   1") ∷ [])), refl) ∷
    (spells_nothing (row_of_texts ((5, "   1") ∷ (9, "x") ∷ (81, " 0.0") ∷ (86, "   1") ∷ [])), refl) ∷
    (spells_nothing (row_of_texts ((5, "   1") ∷ (81, " 0.0") ∷ (85, "x") ∷ (86, "   1") ∷ [])), refl) ∷ (spells_nothing (row_with ((90, "x") ∷ [])), refl) ∷
    (spells_nothing (row_with ((91, "x") ∷ [])), refl) ∷ (spells_nothing (row_with ((96, "x") ∷ [])), refl) ∷ (spells_nothing (row_with ((98, "x") ∷ [])), refl) ∷
    (spells_nothing (row_with ((100, "x") ∷ [])), refl) ∷ (spells_nothing (row_with ((281, "x") ∷ [])), refl) ∷ (spells_nothing (row_with ((288, "x") ∷ [])), refl) ∷
    (spells_nothing (row_with ((290, "x") ∷ [])), refl) ∷ (spells_nothing (row_with ((299, "x") ∷ [])), refl) ∷ (spells_nothing (row_with ((92, " x  ") ∷ [])), refl) ∷
    (spells_nothing (row_with ((97, "W") ∷ [])), refl) ∷ (spells_nothing (row_with ((97, "B") ∷ [])), refl) ∷ (spells_nothing (row_with ((97, "x") ∷ [])), refl) ∷ (spells_nothing (row_with ((99, "?") ∷ [])), refl) ∷
    (spells_nothing (row_with ((99, "A") ∷ [])), refl) ∷ (spells_nothing (row_with ((289, "2") ∷ [])), refl) ∷ (wrong_kept 11 "NM", refl) ∷ (wrong_kept 11 "WNM", refl) ∷
    (wrong_kept 11 "G", refl) ∷ (wrong_kept 11 "wgm", refl) ∷ (wrong_kept 11 "MG", refl) ∷
    -- nine blanks and a byte; and each place of a date
    (wrong_kept 79 "x", refl) ∷ (wrong_kept 79 "1", refl) ∷ (wrong_kept 70 "x", refl) ∷ (wrong_kept 70 "x990/01/02", refl) ∷ (wrong_kept 70 "1x90/01/02", refl) ∷
    (wrong_kept 70 "19x0/01/02", refl) ∷ (wrong_kept 70 "199x/01/02", refl) ∷ (wrong_kept 70 "1990x01/02", refl) ∷ (wrong_kept 70 "1990/x1/02", refl) ∷
    (wrong_kept 70 "1990/0x/02", refl) ∷ (wrong_kept 70 "1990/01x02", refl) ∷ (wrong_kept 70 "1990/01/x2", refl) ∷ (wrong_kept 70 "1990/01/0x", refl) ∷
    (right_kept 70 "9999/99/99", refl) ∷
    -- digits end at 0 and 9; points and numbers in every column
    (wrong_kept 49 "240/", refl) ∷ (wrong_kept 49 "240:", refl) ∷ (wrong_kept 49 "x401", refl) ∷
    (spells_nothing (row_of_texts ((5, "1   ") ∷ (81, " 0.0") ∷ (86, "   1") ∷ [])), refl) ∷
    (spells_nothing (row_of_texts ((5, "  1x") ∷ (81, " 0.0") ∷ (86, "   1") ∷ [])), refl) ∷
    (spells_nothing (row_of_texts ((5, "   1") ∷ (81, "x0.0") ∷ (86, "   1") ∷ [])), refl) ∷
    (spells_nothing (row_of_texts ((5, "   1") ∷ (81, " 0. ") ∷ (86, "   1") ∷ [])), refl) ∷
    (spells_nothing (row_of_texts ((5, "   1") ∷ (81, "  .0") ∷ (86, "   1") ∷ [])), refl) ∷
    (spells_nothing (row_of_texts ((5, "   1") ∷ (81, " 0,0") ∷ (86, "   1") ∷ [])), refl) ∷
    (spells_nothing (row_of_texts ((5, "   1") ∷ (81, " 0.0") ∷ (86, "1   ") ∷ [])), refl) ∷
    (spells_nothing (row_of_texts ((5, "   1") ∷ (81, " 0.0") ∷ (86, "   :") ∷ [])), refl) ∷
    -- every colour and result, capital and small, is a byte of a round
    (spells (row_with ((92, "0000 w 1  0000 b =  0000 - 0  0000   W  0000   D  0000   L  0000   +  0000   -  0000   H  0000   F  0000   U  0000   Z  0000   w  0000   d  0000   l  0000   h  0000   f  0000   u  0000   z") ∷ [])), refl) ∷
    -- ---- which results fit, from either side
    (fitting (code "1") (ascii "0") (ascii "1=WDL+-HFUZ?"), refl) ∷ (fitting (code "=") (ascii "=0") (ascii "1WDL+-HFUZ?"), refl) ∷
    (fitting (code "0") (ascii "1=0") (ascii "WDL+-HFUZ?"), refl) ∷ (fitting (code "W") (ascii "L") (ascii "1=0WD+-HFUZ?"), refl) ∷
    (fitting (code "D") (ascii "D") (ascii "1=0WL+-HFUZ?"), refl) ∷ (fitting (code "L") (ascii "W") (ascii "1=0DL+-HFUZ?"), refl) ∷
    (fitting (code "+") (ascii "-") (ascii "1=0WDL+HFUZ?"), refl) ∷ (fitting (code "-") (ascii "+-") (ascii "1=0WDLHFUZ?"), refl) ∷
    (fitting (code "?") (ascii "?") (ascii "1=0WDL+-HFUZ "), refl) ∷
    -- ---- refused answers: 18, with room and without, at any place; tables that are too short: 1, whatever else is wrong
    (writes as_left [] ((cr-lf, 700, 18, []) ∷ (cr_alone, 0, 18, []) ∷ []), refl) ∷
    (asks as_left wrong_sum ((0, 1, 18, 0, 0) ∷ (2, 0, 18, 0, 0) ∷ []), refl) ∷ (asks as_left [] ((0, 1, 18, 0, 0) ∷ (0, 0, 18, 0, 0) ∷ []), refl) ∷
    (writes cut_short sample_t ((cr-lf, 700, 1, []) ∷ (cr_alone, 700, 1, []) ∷ (cr-lf, 0, 1, []) ∷ []), refl) ∷ (writes cut_short wrong_sum ((cr-lf, 700, 1, []) ∷ (cr_alone, 0, 1, []) ∷ []), refl) ∷
    (asks cut_short sample_t ((0, 1, 1, 0, 0) ∷ (2, 0, 1, 0, 0) ∷ []), refl) ∷ (asks cut_short wrong_sum ((0, 1, 1, 0, 0) ∷ (2, 0, 1, 0, 0) ∷ []), refl) ∷
    -- ---- the question
    (asks as_left accelerated ((0, 2, 0, 0, 0) ∷ (1, 1, 0, 0, 0) ∷ (1, 2, 0, 0, 125) ∷ (1, 3, 0, 0, 125) ∷ (1, 4, 0, 0, 0) ∷ (2, 3, 0, 0, 125) ∷ (3, 2, 0, 0, 0) ∷ (3, 5, 20, 0, 0) ∷ (4, 4, 20, 0, 0) ∷ []), refl) ∷
    (asks as_left (after []) ((0, 1, 20, 0, 0) ∷ []), refl) ∷
    -- ---- the writer: twenty rounds, and the highest numbers
    (
      writes as_left (two " 1.0" "   2 w +" " 0.0" "   1 b -" ++ line "142 020")
          ((
            cr_alone,
            700,
            0,
            cup ++ (line "142 20" ++ (line "162  W 1.0    D 0.5    L 0.0    A 0.0    P 1.0    X 0.5" ++
                (person "   1" " 1.0" "   1" ((92, "   2 w +  0000 - Z  0000 - Z  0000 - Z  0000 - Z  0000 - Z  0000 - Z  0000 - Z  0000 - Z  0000 - Z  0000 - Z  0000 - Z  0000 - Z  0000 - Z  0000 - Z  0000 - Z  0000 - Z  0000 - Z  0000 - Z  0000 - Z") ∷ []) ++
                person "   2" " 0.0" "   2" ((92, "   1 b -  0000 - Z  0000 - Z  0000 - Z  0000 - Z  0000 - Z  0000 - Z  0000 - Z  0000 - Z  0000 - Z  0000 - Z  0000 - Z  0000 - Z  0000 - Z  0000 - Z  0000 - Z  0000 - Z  0000 - Z  0000 - Z  0000 - Z") ∷ [])))),
          ) ∷ []),
      refl,
    ) ∷
    (writes as_left highest ((cr_alone, 234, 0, highest) ∷ (cr-lf, 240, 0, with_lf highest) ∷ (cr-lf, 239, 19, []) ∷ []), refl) ∷
    -- with CR LF, spelled out: every line has its LF, the text's too, though the text's table has none and the file had none
    (
      writes as_left (line "022 x" ++ (cup ++ alone))
          ((
            cr-lf,
            171,
            0,
            crlf-line "022 x" ++ (crlf-line "012 Cup" ++ (crlf-line "142 0" ++ (crlf-line "162  W 1.0    D 0.5    L 0.0    A 0.0    P 1.0    X 0.5" ++
                (put 1 ((1, "001") ∷ (5, "   1") ∷ (81, " 0.0") ∷ (86, "   1") ∷ []) ++ (13 ∷ 10 ∷ []))))),
          ) ∷ (cr-lf, 170, 19, []) ∷ []),
      refl,
    ) ∷
    -- and with CR alone none has, though the file's had
    (
      writes as_left (with_lf (cup ++ alone))
          ((cr_alone, 160, 0, cup ++ (line "142 0" ++ (line "162  W 1.0    D 0.5    L 0.0    A 0.0    P 1.0    X 0.5" ++ alone))) ∷ (cr_alone, 159, 19, []) ∷ []),
      refl,
    ) ∷
    -- six slots, whichever were given; P and X of any size
    (
      writes as_left (alone_with_u three_points " 3.0")
          ((cr_alone, 170, 0, cup ++ (line "142 1" ++ (line "162  W 3.0    D 1.0    L 0.0    A 0.0    P 3.0    X 1.0" ++ person "   1" " 3.0" "   1" ((92, "0000 - U") ∷ [])))) ∷ (cr_alone, 169, 19, []) ∷ []),
      refl,
    ) ∷ (
      writes as_left (alone_with_u "162  P 0.4    X 0.6" " 0.4")
          ((cr_alone, 170, 0, cup ++ (line "142 1" ++ (line "162  W 1.0    D 0.5    L 0.0    A 0.0    P 0.4    X 0.6" ++ person "   1" " 0.4" "   1" ((92, "0000 - U") ∷ [])))) ∷ []),
      refl,
    ) ∷
    -- ---- the tables and the answer
    (stores (cup ++ (line scoring ++ alone)) ((initial_colour, 0, 0) ∷ (value, 0, 30) ∷ (value, 1, 10) ∷ (value, 2, 2) ∷ (value, 3, 1) ∷ (value, 4, 20) ∷ (value, 5, 7) ∷ []), refl) ∷
    (accepts event 2 3 2, refl) ∷ (answers event (0 ∷ 0 ∷ 0 ∷ 2 ∷ 3 ∷ 2 ∷ 14 ∷ code "B" ∷ 100 ∷ 15 ∷ 0 ∷ 0 ∷ 100 ∷ 15 ∷ []), refl) ∷
    (answers (after []) (0 ∷ 0 ∷ 0 ∷ 1 ∷ 0 ∷ 0 ∷ 8 ∷ 0 ∷ 10 ∷ 5 ∷ 0 ∷ 0 ∷ 10 ∷ 5 ∷ []), refl) ∷
    (answers (two " 1.0" "   2 w 1" " 0.0" "   1 w 0") (13 ∷ 2 ∷ 1 ∷ 0 ∷ 0 ∷ 0 ∷ 0 ∷ 0 ∷ 0 ∷ 0 ∷ 0 ∷ 0 ∷ 0 ∷ 0 ∷ []), refl) ∷ (
      stores highest ((starts, 0, 9999) ∷ (points, 0, 999) ∷ (ranks, 0, 9999) ∷ (added, 0, 999) ∷ (first-rounds, 0, 20) ∷ (last_rounds, 0, 20) ∷ (first-starts, 0, 9999) ∷ (added, 1, 105) ∷ (last_rounds, 1, 10) ∷ (first-starts, 1, 1005) ∷ (last_starts, 1, 1050) ∷
          (value, 0, 999) ∷ (value, 1, 105) ∷ (value, 2, 200) ∷ (value, 3, 301) ∷ (value, 4, 402) ∷ (value, 5, 503) ∷ []),
      refl,
    ) ∷
    -- a P or X that is not given takes the event's own W or D, given or default, wherever these stand; one that is given stands, as 0.0 and as its default too; no other letter follows
    (values "162  W 3.0" 30 5 0 0 30 5, refl) ∷ (values "162  D 0.7" 10 7 0 0 10 7, refl) ∷ (values "162  L 0.2" 10 5 2 0 10 5, refl) ∷ (values "162  A 0.1" 10 5 0 1 10 5, refl) ∷
    (values "162  P 0.4" 10 5 0 0 4 5, refl) ∷ (values "162  P 2.0" 10 5 0 0 20 5, refl) ∷ (values "162  X 0.7" 10 5 0 0 10 7, refl) ∷ (values "162  X 0.2" 10 5 0 0 10 2, refl) ∷
    (values "162  P 0.4    X 0.6" 10 5 0 0 4 6, refl) ∷ (values "162  P 2.0    W 3.0" 30 5 0 0 20 5, refl) ∷ (values "162  X 0.7    D 1.0" 10 10 0 0 10 7, refl) ∷
    (values "162  X 0.7    A 0.1    L 0.2    D 1.0    W 3.0" 30 10 2 1 30 7, refl) ∷ (values "162  P 2.0    A 0.1    L 0.2    W 3.0    D 1.0" 30 10 2 1 20 10, refl) ∷
    (values "162  L 0.2    W 3.0    A 0.1    D 1.0" 30 10 2 1 30 10, refl) ∷ (values "162  D 0.0    W 0.0" 0 0 0 0 0 0, refl) ∷
    (values "162  P 0.0    X 0.0    D 1.0    W 3.0" 30 10 0 0 0 0, refl) ∷ (values "162  W 3.0    D 1.0    P 1.0    X 0.5" 30 10 0 0 10 5, refl) ∷ (values "162  W99.9    D99.8" 999 998 0 0 999 998, refl) ∷
    (stores (cup ++ (line "152 W" ++ alone)) ((initial_colour, 0, code "W") ∷ (value, 0, 10) ∷ (value, 1, 5) ∷ (value, 2, 0) ∷ (value, 3, 0) ∷ (value, 4, 10) ∷ (value, 5, 5) ∷ []), refl) ∷
    -- ---- what a result earns, over rounds and scorings
    (accepts (two " 1.0" "   2 w +" " 0.0" "   1 b -") 2 1 0, refl) ∷
    (accepts (cup ++ (line scoring ++ person "   1" " 6.2" "   1" ((92, "0000 - F  0000 - H  0000 - U  0000 - Z         Z") ∷ []))) 1 5 0, refl) ∷
    (accepts (line scoring ++ two " 3.0" "   2 w W" " 0.2" "   1 b L") 2 1 0, refl) ∷ (accepts (line scoring ++ two " 3.0" "   2 w +" " 0.1" "   1 b -") 2 1 0, refl) ∷
    (accepts (line scoring ++ two " 1.0" "   2 w =" " 1.0" "   1 b =") 2 1 0, refl) ∷ (accepts (line scoring ++ two " 1.0" "   2 w D" " 1.0" "   1 b D") 2 1 0, refl) ∷
    (accepts (line scoring ++ two " 0.2" "   2 w 0" " 3.0" "   1 b 1") 2 1 0, refl) ∷
    (accepts (cup ++ person "   1" " 2.5" "   1" ((92, "0000 - F  0000 - H  0000 - U  0000 - Z") ∷ [])) 1 4 0, refl) ∷
    (refuses (cup ++ (line "162  W50.0" ++ person "   1" " 0.0" "   1" ((92, "0000 - F  0000 - F") ∷ []))) 16 3 0, refl) ∷
    (refuses (two " 1.0" "   2 w 1" " 0.5" "   1 b 0") 16 3 0, refl) ∷
    -- U in an event of three points for a win: 3.0, not 1.0; P given as its default, P alone, P before W, D alone, P and X alone
    (refuses (alone_with_u three_points " 1.0") 16 3 0, refl) ∷ (accepts (alone_with_u "162  W 3.0    D 1.0    P 1.0" " 1.0") 1 1 0, refl) ∷ (accepts (alone_with_u "162  P 2.0" " 2.0") 1 1 0, refl) ∷ (accepts (alone_with_u "162  P 2.0    W 3.0" " 2.0") 1 1 0, refl) ∷ (refuses (alone_with_u "162  P 2.0    W 3.0" " 3.0") 16 3 0, refl) ∷
    (accepts (alone_with_u "162  D 0.7" " 1.0") 1 1 0, refl) ∷ (accepts (alone_with_u "162  P 0.4    X 0.6" " 0.4") 1 1 0, refl) ∷ (scores (ascii three_points) (ascii "HFUZ") 70, refl) ∷
    (accepts (cup ++ (line "250      05.0 001 001 0001 0001" ++ person "   1" " 0.0" "   1" ((92, "0000 - Z") ∷ []))) 1 1 1, refl) ∷
    (scores (ascii scoring) (ascii "1") 30, refl) ∷ (scores (ascii scoring) (ascii "W") 30, refl) ∷ (scores (ascii scoring) (ascii "+") 30, refl) ∷
    (scores (ascii scoring) (ascii "F") 30, refl) ∷ (scores (ascii scoring) (ascii "=") 10, refl) ∷ (scores (ascii scoring) (ascii "D") 10, refl) ∷
    (scores (ascii scoring) (ascii "H") 10, refl) ∷ (scores (ascii scoring) (ascii "0") 2, refl) ∷ (scores (ascii scoring) (ascii "L") 2, refl) ∷
    (scores (ascii scoring) (ascii "-") 1, refl) ∷ (scores (ascii scoring) (ascii "Z") 1, refl) ∷ (scores (ascii scoring) (ascii "U") 20, refl) ∷
    (scores (ascii "162  X 0.7") (ascii "1W+F=DH0L-ZU?") 72, refl) ∷ (scores (ascii scoring) (ascii "1W+F=DH0L-ZU?") 183, refl) ∷
    (refuses (cup ++ (alone ++ (person "   2" " 0.0" "   2" [] ++ person "   3" "10.0" "   3" []))) 16 4 0, refl) ∷
    -- ---- lines and terminators
    (accepts (cup ++ (13 ∷ 13 ∷ 10 ∷ alone)) 1 0 0, refl) ∷
    (refuses (crlf-line "012 Cup" ++ (10 ∷ alone)) 3 2 0, refl) ∷ (refuses (ascii "012 Cup\n") 3 1 0, refl) ∷ (refuses (ascii "012 Cup") 4 1 0, refl) ∷
    (refuses (cup ++ ascii "  ") 4 2 0, refl) ∷ (refuses (cup ++ line "013\t") 3 2 0, refl) ∷ (refuses (cup ++ (ascii "022 " ++ (31 ∷ 13 ∷ []))) 3 2 0, refl) ∷
    (refuses (cup ++ (ascii "022 " ++ (127 ∷ 13 ∷ []))) 3 2 0, refl) ∷ (refuses (cup ++ (ascii "022 " ++ (256 ∷ 13 ∷ []))) 3 2 0, refl) ∷
    (accepts (cup ++ (ascii "022 " ++ (126 ∷ 128 ∷ 255 ∷ 13 ∷ alone))) 1 0 0, refl) ∷ (refuses (replicate 512 32 ++ (13 ∷ [])) 10 0 0, refl) ∷
    (refuses (cup ++ (replicate 513 32 ++ (13 ∷ []))) 5 2 0, refl) ∷ (refuses (ascii "###" ++ (replicate 510 120 ++ (13 ∷ []))) 5 1 0, refl) ∷
    (refuses (ascii "013" ++ (replicate 510 120 ++ (13 ∷ []))) 5 1 0, refl) ∷ (refuses (ascii "012" ++ replicate 510 120) 4 1 0, refl) ∷
    (refuses (line "013 x" ++ line "\t") 6 1 0, refl) ∷ (refuses (line "###x" ++ (cup ++ line " ###")) 6 3 0, refl) ∷ (refuses (line "01") 6 1 0, refl) ∷
    (refuses (line "013x") 6 1 0, refl) ∷ (refuses (line "012x") 7 1 0, refl) ∷ (refuses (line "082 1") 6 1 0, refl) ∷ (refuses (cup ++ line "352 WBWB") 6 2 0, refl) ∷
    -- ---- once only, and the order of 7, 8, 10, 17, 12
    (refuses (line "022 a" ++ line "022 b") 8 2 0, refl) ∷ (accepts (cup ++ (line "112 a" ++ (line "112 a" ++ alone))) 1 0 0, refl) ∷
    (refuses (cup ++ line "012") 7 2 0, refl) ∷ (refuses (line "142 1" ++ line "142 1") 8 2 0, refl) ∷ (refuses (line "152 W" ++ line "152 B") 8 2 0, refl) ∷
    (refuses (line "162  W 1.0" ++ line "162  D 1.0") 8 2 0, refl) ∷ (refuses (person "   7" " 0.0" "   1" [] ++ person "0007" " 0.0" "   2" []) 8 2 0, refl) ∷
    (refuses cup 10 0 0, refl) ∷ (refuses alone 10 0 0, refl) ∷ (refuses (line "142 0" ++ person "   1" " 0.0" "   1" ((99, "Z") ∷ [])) 10 0 0, refl) ∷
    (refuses (cup ++ (line "250      01.0 001 002 0001 0001" ++ (line "250      01.0 002 002 0001 0001" ++ person "   1" " 0.0" "   1" ((92, "   9") ∷ [])))) 17 3 0, refl) ∷
    (accepts (cup ++ (line "250      01.0 001 002 0001 0001" ++ (line "250      01.0 002 002 0002 0003" ++ (line "250      01.0 003 004 0001 0001" ++ alone)))) 1 0 3, refl) ∷
    (accepts (cup ++ (line "250      01.0 003 004 0005 0009" ++ (line "250      01.0 001 002 0005 0009" ++ (line "250      01.0 003 004 0001 0004" ++ alone)))) 1 0 3, refl) ∷
    (refuses (cup ++ (line "142 1" ++ person "   1" " 0.0" "   1" ((92, "0000 - Z  0000 - Z") ∷ []))) 11 3 2, refl) ∷
    (refuses (cup ++ (line "142 0" ++ person "   1" " 0.0" "   1" ((109, "Z") ∷ (119, "Z") ∷ []))) 11 3 2, refl) ∷
    (refuses (line "022 a" ++ (line "032 b" ++ line "022 c")) 8 3 0, refl) ∷
    (refuses (person "   7" " 0.0" "   1" [] ++ (person "   8" " 0.0" "   2" [] ++ person "   7" " 0.0" "   3" [])) 8 3 0, refl) ∷
    -- 11: the first player in file order counts, then the lowest round
    (refuses (cup ++ (line "142 2" ++ (person "   1" " 0.0" "   1" ((109, "Z") ∷ []) ++ person "   2" " 0.0" "   2" ((112, "0000") ∷ [])))) 11 4 3, refl) ∷
    (refuses (cup ++ (line "142 19" ++ person "   1" " 0.0" "   1" ((287, "-") ∷ []))) 11 3 20, refl) ∷
    -- 17: one round and one start number in common, from either side; the first record that shares with an earlier one
    (refuses (after (line "250      01.0 002 003 0005 0009" ++ line "250      01.0 001 002 0001 0005")) 17 3 0, refl) ∷
    (refuses (after (line "250      01.0 001 002 0001 0005" ++ line "250      01.0 002 003 0005 0009")) 17 3 0, refl) ∷
    (refuses (after (line "250      01.0 001 009 0001 0009" ++ line "250      01.0 004 004 0004 0004")) 17 3 0, refl) ∷
    (refuses (after (line "250      01.0 001 001 0001 0001" ++ (line "250      01.0 002 002 0001 0001" ++ (line "250      01.0 001 001 0001 0001" ++ line "250      01.0 002 002 0001 0001")))) 17 4 0, refl) ∷
    -- ---- text up to 2,048 bytes
    (refuses full_text 10 0 0, refl) ∷ (refuses (full_text ++ line "112") 9 6 0, refl) ∷ []

pub guarded : AllOf (λ (c : Computed). RowHolds c.0) guard_rows
guarded = all_computed guard_rows

-- apart, since one list of all would take more steps than the checker allows a declaration
unfoldable pub entry_rows : List Computed
unfolding put person alone two two_at set_by_arbiter with_lf scoring line cup test cells flat top scoring_of shares covers kind_of normal used_rounds rounds_of tournament_of is_bye is_game fits keeps worth earned is_past content_of answer_of is_again is_too_many lines_of is_file_fault labels written_lines written earned_before acceleration_for refused_answer written_answer score_answer item_of outcome_of
entry_rows =
    -- ---- a round's entry
    -- byes in every spelling, small letters, an id of 0
    (accepts (cup ++ person "   1" " 1.5" "   1" ((92, "   0 - h     0   F") ∷ (117, "-") ∷ [])) 1 3 0, refl) ∷
    (accepts (cup ++ person "   1" " 0.0" "   1" ((219, "z") ∷ [])) 1 13 0, refl) ∷ (accepts (cup ++ person "   1" " 0.0" "   1" ((289, "Z") ∷ [])) 1 20 0, refl) ∷
    (accepts (two " 1.0" "   2 b w" " 0.0" "   1 w L") 2 1 0, refl) ∷ (accepts (two " 0.0" "   2 b 0" " 1.0" "   1 w 1") 2 1 0, refl) ∷
    (accepts (two " 0.5" "   2 b d" " 0.5" "   1 w D") 2 1 0, refl) ∷ (accepts (two " 0.5" "   2 b =" " 0.5" "   1 w =") 2 1 0, refl) ∷
    -- an entry names a start number, not a rank
    (accepts (cup ++ (person "   1" " 1.0" "   2" ((92, "   2 w 1") ∷ []) ++ person "   2" " 0.0" "   1" ((92, "   1 b 0") ∷ []))) 2 1 0, refl) ∷
    -- neither bye nor game
    (refuses (two " 0.0" "   2   1" " 0.0" "   1 b 0") 12 2 1, refl) ∷
    (refuses (two " 0.0" "   2 - 1" " 0.0" "   1 b 0") 12 2 1, refl) ∷ (refuses (two " 0.0" "   2 - Z" " 0.0" "0000 - Z") 12 2 1, refl) ∷ (refuses (two " 0.0" "   2 w H" " 0.0" "   1 b 0") 12 2 1, refl) ∷
    (refuses (two " 0.0" "   3 w 1" " 0.0" "   1 b 0") 12 2 1, refl) ∷ (refuses (two " 0.0" "0000 w Z" " 0.0" "0000 - Z") 12 2 1, refl) ∷
    (refuses (two " 0.0" "0000 - -" " 0.0" "0000 - Z") 12 2 1, refl) ∷ (refuses (two " 0.0" "0000 - 1" " 0.0" "0000 - Z") 12 2 1, refl) ∷
    (refuses (two " 0.0" "     w  " " 0.0" "        ") 12 2 1, refl) ∷
    -- 12 over the whole file before 13, 13 before 14, 14 before 15, 15 before 16
    (refuses (two " 1.0" "   2 w 1" " 0.0" "   9 b 0") 12 3 1, refl) ∷
    (refuses (cup ++ (person "   1" " 1.0" "   1" ((92, "   2 w 1     2 w 1") ∷ []) ++ person "   2" " 0.0" "   2" ((92, "   1 b =  0000 - Z") ∷ []))) 13 2 2, refl) ∷
    (refuses (cup ++ (person "   1" " 9.0" "   1" ((92, "   2 w 1  0000 - U") ∷ []) ++ person "   2" " 0.0" "   2" ((92, "   1 b 1  0000 - U") ∷ []))) 14 2 1, refl) ∷
    (refuses (two " 9.0" "0000 - U" " 1.0" "0000 - U") 15 3 1, refl) ∷
    -- not mutual, seen from the higher number
    (refuses (two " 0.0" "0000 - Z" " 1.0" "   1 b 1") 13 3 1, refl) ∷
    -- set by the arbiter: lost by both, and drawn by one and lost by the other, either way round, with what each earns
    (accepts (two " 0.0" "   2 b 0" " 0.0" "   1 w 0") 2 1 0, refl) ∷ (accepts (two " 0.5" "   2 w =" " 0.0" "   1 b 0") 2 1 0, refl) ∷ (accepts (two " 0.0" "   2 w 0" " 0.5" "   1 b =") 2 1 0, refl) ∷
    (refuses (two " 1.0" "   2 w 0" " 0.0" "   1 b 0") 16 2 0, refl) ∷ (refuses (two " 0.5" "   2 w =" " 0.5" "   1 b 0") 16 3 0, refl) ∷ (refuses (two " 0.0" "   2 w 0" " 1.0" "   1 b =") 16 3 0, refl) ∷
    (accepts (line scoring ++ two " 0.2" "   2 b 0" " 0.2" "   1 w 0") 2 1 0, refl) ∷ (accepts (line scoring ++ two " 1.0" "   2 b =" " 0.2" "   1 w 0") 2 1 0, refl) ∷ (accepts (line scoring ++ two " 0.2" "   2 w 0" " 1.0" "   1 b =") 2 1 0, refl) ∷
    -- nothing else: not of games of less than a move or not played, and no other of games that were played
    (refuses (two " 0.0" "   2 w L" " 0.0" "   1 b L") 14 2 1, refl) ∷ (refuses (two " 0.5" "   2 w D" " 0.0" "   1 b L") 14 2 1, refl) ∷ (refuses (two " 0.0" "   2 w L" " 0.5" "   1 b D") 14 2 1, refl) ∷
    (refuses (two " 0.5" "   2 w =" " 0.0" "   1 b L") 14 2 1, refl) ∷ (refuses (two " 0.0" "   2 w 0" " 0.0" "   1 b L") 14 2 1, refl) ∷ (refuses (two " 0.5" "   2 w =" " 0.0" "   1 b -") 14 2 1, refl) ∷
    (refuses (two " 1.0" "   2 w 1" " 1.0" "   1 b 1") 14 2 1, refl) ∷ (refuses (two " 1.0" "   2 w +" " 0.0" "   1 b 0") 14 2 1, refl) ∷ (refuses (two " 0.5" "   2 w D" " 0.0" "   1 b 0") 14 2 1, refl) ∷
    (refuses (two " 1.0" "   2 w 1" " 0.5" "   1 b =") 14 2 1, refl) ∷ (refuses (two " 0.0" "   2 w 0" " 0.0" "   1 b -") 14 2 1, refl) ∷
    (refuses (two " 0.0" "   2 w +" " 0.0" "   1 b +") 14 2 1, refl) ∷ (refuses (two " 0.0" "   2 w 1" " 0.0" "   1 b L") 14 2 1, refl) ∷ (refuses (two " 0.0" "   2 w D" " 0.0" "   1 b =") 14 2 1, refl) ∷
    -- such games are held, written and asked for as they stand
    (stores set_by_arbiter ((results, 0, code "0") ∷ (results, 1, code "=") ∷ (results, 2, code "=") ∷ (results, 20, code "0") ∷ (results, 21, code "0") ∷ (results, 22, code "0") ∷ (points, 0, 10) ∷ (points, 1, 0) ∷ []), refl) ∷
    (writes as_left set_by_arbiter ((cr_alone, 700, 0, set_by_arbiter) ∷ (cr-lf, 700, 0, with_lf set_by_arbiter) ∷ []), refl) ∷
    (asks as_left set_by_arbiter ((0, 2, 0, 0, 0) ∷ (0, 3, 0, 5, 0) ∷ (0, 4, 0, 10, 0) ∷ (1, 4, 0, 0, 0) ∷ []), refl) ∷
    -- the first player with a fault, then the lowest round
    (refuses (cup ++ (person "   1" " 0.0" "   1" ((92, "0000 - U  0000 - U") ∷ []) ++ (person "   2" " 0.0" "   2" ((102, "0000 - U") ∷ []) ++ person "   3" " 0.0" "   3" ((92, "0000 - U") ∷ [])))) 15 3 2, refl) ∷
    (refuses (cup ++ person "   1" " 0.0" "   1" ((92, "0000 - Z     1 w 1     1 w 1") ∷ [])) 12 2 2, refl) ∷
    -- not mutual: the opponent's entry of another round; from the third line, in the last round
    (refuses (cup ++ (person "   1" " 1.0" "   1" ((92, "   2 w 1") ∷ []) ++ person "   2" " 0.0" "   2" ((102, "   1 b 0") ∷ []))) 13 2 1, refl) ∷
    (refuses (cup ++ (person "   1" " 0.0" "   1" [] ++ (person "   2" " 0.0" "   2" [] ++ person "   3" " 0.0" "   3" ((282, "   1 w 1") ∷ [])))) 13 4 20, refl) ∷
    -- in later rounds
    (accepts (two_at 282 " 1.0" "   2 w 1" " 0.0" "   1 b 0") 2 20 0, refl) ∷ (refuses (two_at 282 " 1.0" "   2 w 1" " 0.0" "   9 b 0") 12 3 20, refl) ∷
    (refuses (two_at 282 " 1.0" "   2 w 1" " 0.0" "   1 w 0") 13 2 20, refl) ∷ (refuses (two_at 112 " 1.0" "   2 w +" " 0.0" "   1 b 0") 14 2 3, refl) ∷
    (refuses (two_at 112 " 1.0" "0000 - U" " 1.0" "0000 - U") 15 3 3, refl) ∷ (refuses (two_at 282 " 1.0" "0000 - u" " 1.0" "0000 - U") 15 3 20, refl) ∷
    (refuses (cup ++ (alone ++ (person "   2" " 1.0" "   2" ((92, "0000 - U") ∷ []) ++ person "   3" " 1.0" "   3" ((92, "0000 - U") ∷ [])))) 15 4 1, refl) ∷
    (accepts (cup ++ (person "   1" " 1.0" "   1" ((92, "0000 - U") ∷ []) ++ person "   2" " 1.0" "   2" ((102, "0000 - U") ∷ []))) 2 2 0, refl) ∷
    -- the number of rounds with no 142: by id, colour or result alone, of any player
    (accepts (cup ++ (person "   1" " 0.0" "   1" ((92, "0000 - Z") ∷ []) ++ person "   2" " 0.0" "   2" ((112, "0000") ∷ []))) 2 3 0, refl) ∷
    (accepts (cup ++ (person "   1" " 0.0" "   1" ((187, "-") ∷ []) ++ person "   2" " 0.0" "   2" ((92, "0000 - Z") ∷ []))) 2 10 0, refl) ∷ []

pub entries_guarded : AllOf (λ (c : Computed). RowHolds c.0) entry_rows
entries_guarded = all_computed entry_rows

-- apart for the same reason
unfoldable pub unknown_rows : List Computed
unfolding put person two two_at being_played being_played_written with_lf scoring three_points line cup test cells flat top scoring_of shares covers kind_of normal used_rounds rounds_of tournament_of is_bye is_game fits keeps worth earned is_past content_of answer_of is_again is_too_many lines_of is_file_fault labels written_lines written earned_before acceleration_for refused_answer written_answer score_answer item_of outcome_of
unknown_rows =
    -- ---- results that are not known yet
    -- another player, a colour and a blank, in any round; the line may end before its blank
    (accepts (two " 0.5" "   2 w  " " 0.5" "   1 b  ") 2 1 0, refl) ∷ (accepts (two " 0.5" "   2 b" " 0.5" "0001 w ") 2 1 0, refl) ∷ (accepts (two_at 282 " 0.5" "   2 w" " 0.5" "   1 b  ") 2 20 0, refl) ∷
    -- in each round of a player, several in a round, beside known results and a U, before a result that is known
    (
      accepts (cup ++ (person "   1" " 2.0" "   1" ((92, "   2 w       3 b 1     4 w") ∷ []) ++ (person "   2" " 1.5" "   4" ((92, "   1 b       5 w       3 b") ∷ []) ++ (person "   3" " 1.0" "   5" ((92, "   4 w       1 w 0     2 w") ∷ []) ++
          (person "   4" " 2.0" "   2" ((92, "   3 b    0000 - U     1 b") ∷ []) ++ person "   5" " 2.5" "   3" ((92, "0000 - U     2 b    0000 - U") ∷ [])))))) 5 3 0,
      refl,
    ) ∷
    -- no colour of a game, nobody's id, the player's own id, no id: neither bye nor game
    (refuses (two " 0.5" "   2    " " 0.5" "   1 b  ") 12 2 1, refl) ∷ (refuses (two " 0.5" "   2 -  " " 0.5" "   1 b  ") 12 2 1, refl) ∷ (refuses (two " 0.5" "   2" " 0.5" "   1") 12 2 1, refl) ∷
    (refuses (two " 0.5" "   2 -" " 0.5" "   1 -") 12 2 1, refl) ∷ (refuses (two " 0.5" "   2 w  " " 0.5" "   1") 12 3 1, refl) ∷ (refuses (two " 0.5" "   2 w  " " 0.5" "   1 -") 12 3 1, refl) ∷
    (refuses (two " 0.5" "   3 w  " " 0.5" "   1 b  ") 12 2 1, refl) ∷ (refuses (two " 0.5" "   1 w  " " 0.5" "   1 b  ") 12 2 1, refl) ∷ (refuses (two " 0.5" "   2 w  " " 0.5" "   2 b  ") 12 3 1, refl) ∷
    (refuses (two " 0.5" "0000 w  " " 0.0" "0000 - Z") 12 2 1, refl) ∷ (refuses (two_at 282 " 0.5" "   2" " 0.5" "   1 b") 12 2 20, refl) ∷
    -- against a result that is known: 14, at the first of the two in the file, whichever it is
    (refuses (two " 0.5" "   2 w  " " 0.0" "   1 b 1") 14 2 1, refl) ∷ (refuses (two " 0.5" "   2 w  " " 0.5" "   1 b =") 14 2 1, refl) ∷ (refuses (two " 0.5" "   2 w  " " 0.0" "   1 b 0") 14 2 1, refl) ∷
    (refuses (two " 0.5" "   2 w  " " 0.5" "   1 b D") 14 2 1, refl) ∷ (refuses (two " 0.5" "   2 w  " " 0.0" "   1 b -") 14 2 1, refl) ∷ (refuses (two " 1.0" "   2 w +" " 0.5" "   1 b  ") 14 2 1, refl) ∷
    (refuses (two " 0.0" "   2 w 0" " 0.5" "   1 b") 14 2 1, refl) ∷ (refuses (two_at 112 " 0.0" "   2 w L" " 0.5" "   1 b") 14 2 3, refl) ∷
    (refuses (cup ++ (person "   9" " 0.5" "   2" ((92, "   4 b") ∷ []) ++ person "   4" " 1.0" "   1" ((92, "   9 w 1") ∷ []))) 14 2 1, refl) ∷
    -- against a bye, another's entry, the same colour: 13, over the whole file before 14
    (refuses (two " 0.5" "   2 w  " " 0.0" "0000 - Z") 13 2 1, refl) ∷ (refuses (two " 0.0" "0000 - Z" " 0.5" "   1 b  ") 13 3 1, refl) ∷ (refuses (two " 0.5" "   2 w" " 0.0" "        ") 13 2 1, refl) ∷
    (refuses (two " 0.5" "   2 w  " " 0.5" "   1 w  ") 13 2 1, refl) ∷ (refuses (two " 0.5" "   2 b  " " 0.5" "   1 b  ") 13 2 1, refl) ∷
    (refuses (cup ++ (person "   1" " 0.5" "   1" ((92, "   2 w  ") ∷ []) ++ (person "   2" " 0.5" "   2" ((92, "   1 b  ") ∷ []) ++ person "   3" " 0.5" "   3" ((92, "   1 b  ") ∷ [])))) 13 4 1, refl) ∷
    (refuses (cup ++ (person "   1" " 1.0" "   1" ((92, "   2 w =     2 w") ∷ []) ++ person "   2" " 1.0" "   2" ((92, "   1 b       1 w") ∷ []))) 13 2 2, refl) ∷
    -- past the rounds of 142: 11; with no 142 it makes its round a used one
    (refuses (two " 0.5" "   2 w  " " 0.5" "   1 b  " ++ line "142 0") 11 2 1, refl) ∷ (refuses (two_at 132 " 0.5" "   2 w" " 0.5" "   1 b" ++ line "142 4") 11 2 5, refl) ∷
    (accepts (two_at 132 " 0.5" "   2 w" " 0.5" "   1 b") 2 5 0, refl) ∷
    -- it earns X: given, by the event's own D, by default
    (scores (ascii scoring) (ascii "?") 7, refl) ∷ (scores (ascii three_points) (ascii "?") 10, refl) ∷ (scores (ascii "162  D 0.3") (ascii "??") 6, refl) ∷ (scores (ascii "162  W 3.0") (ascii "???") 15, refl) ∷
    (accepts (line scoring ++ two " 0.7" "   2 w" " 0.7" "   1 b") 2 1 0, refl) ∷ (accepts (line "162  D 0.3" ++ two " 0.3" "   2 w" " 0.3" "   1 b") 2 1 0, refl) ∷
    (accepts (line "162  X 0.0" ++ two " 0.0" "   2 w" " 0.0" "   1 b") 2 1 0, refl) ∷ (refuses (line scoring ++ two " 0.7" "   2 w" " 1.0" "   1 b") 16 4 0, refl) ∷
    (refuses (line three_points ++ two " 0.5" "   2 w" " 1.0" "   1 b") 16 3 0, refl) ∷ (refuses (two " 0.0" "   2 w" " 0.0" "   1 b") 16 2 0, refl) ∷
    -- on a line `?` is no result
    (refuses (two " 0.5" "   2 w ?" " 0.5" "   1 b ?") 7 2 0, refl) ∷ (refuses (two " 0.5" "   2 w  " " 0.5" "   1 b ?") 7 3 0, refl) ∷ (refuses (two " 0.0" "0000 - ?" " 0.0" "0000 - Z") 7 2 0, refl) ∷
    -- an event in the middle of a round is read, written and asked for
    (
      stores being_played
          ((opponents, 1, 3) ∷ (colours, 1, code "b") ∷ (results, 0, code "1") ∷ (results, 1, code "?") ∷ (results, 2, code "Z") ∷ (results, 21, code "0") ∷ (opponents, 41, 1) ∷ (colours, 41, code "w") ∷ (results, 41, code "?") ∷ (results, 61, code "1") ∷
          (points, 0, 17) ∷ (points, 2, 12) ∷ (value, 1, 5) ∷ (value, 5, 7) ∷ []),
      refl,
    ) ∷
    (writes as_left being_played ((cr_alone, 550, 0, being_played_written) ∷ (cr_alone, 549, 19, []) ∷ (cr-lf, 557, 0, with_lf being_played_written) ∷ (cr-lf, 556, 19, []) ∷ []), refl) ∷
    (asks as_left being_played ((0, 2, 0, 10, 0) ∷ (0, 3, 0, 17, 0) ∷ (1, 3, 0, 0, 0) ∷ (2, 2, 0, 5, 0) ∷ (2, 3, 0, 12, 0) ∷ (3, 3, 0, 15, 0) ∷ []), refl) ∷ []

pub unknown_guarded : AllOf (λ (c : Computed). RowHolds c.0) unknown_rows
unknown_guarded = all_computed unknown_rows
