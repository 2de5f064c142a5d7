-- The rows at which the must-fail edits of this crate fail, each with its computation beside it, so that a row that fails is named by its text. Each edit proves
-- this crate again, so only these stand here and the others in the crate `guards`. Assumes nothing.
use mathlib.Core.Path.{refl}
use mathlib.Core.List.{List, [], ◌∷◌, ◌++◌}
use Prim.Native.Char.{code}
use Rattle.kit.specs.Lists.{flat, top}
use Rattle.kit.specs.First.{AllOf}
use Rattle.law.specs.Columns.{cells}
use Rattle.law.specs.Scoring.{scoring_of}
use Rattle.law.specs.Accelerations.{shares, covers}
use Rattle.law.specs.Items.{kind_of}
use Rattle.law.specs.Tournament.{normal, used_rounds, rounds_of, tournament_of}
use Rattle.law.specs.Entries.{is_bye, is_game, fits, keeps, worth, earned}
use Rattle.law.specs.Spelling.{is_past}
use Rattle.law.specs.Tables.{content_of, answer_of}
use Rattle.law.specs.Refusals.{is_again, is_too_many, lines_of, is_file_fault, labels}
use Rattle.law.specs.Writing.{written_lines, written, earned_before, acceleration_for}
use Rattle.law.specs.Calls.{refused_answer, written_answer, score_answer}
use Rattle.law.proofs.RecordsRead.{item_of}
use Rattle.law.proofs.Judges.{outcome_of}
use Rattle.law.proofs.Rows.{starts, points, ranks, kept, opponents, colours, results, text, lines, added, first-rounds, last_rounds, first-starts, last_starts, text-length, initial_colour, value, as_left, refuses, accepts, stores, writes, asks, RowHolds, cr-lf, cr_alone, test, Computed}
use Rattle.law.proofs.Samples.{all_computed}
use Rattle.law.proofs.Marked.{line, cup}
use Rattle.law.proofs.Layouts.{put, person, crlf-line, with_lf, alone, two, note, full_text, three_points, alone_with_u, roe_line, event, event_written, wrong_sum}

unfoldable pub watched_rows : List Computed
unfolding put person crlf-line with_lf alone two note full_text three_points alone_with_u roe_line event event_written wrong_sum line cup test cells flat top scoring_of shares covers kind_of normal used_rounds rounds_of tournament_of is_bye is_game fits keeps worth earned is_past content_of answer_of is_again is_too_many lines_of is_file_fault labels written_lines written earned_before acceleration_for refused_answer written_answer score_answer item_of outcome_of
watched_rows =
    (accepts (alone_with_u three_points " 3.0") 1 1 0, refl) ∷
    (stores (alone_with_u three_points " 3.0") ((value, 0, 30) ∷ (value, 1, 10) ∷ (value, 2, 0) ∷ (value, 3, 0) ∷ (value, 4, 30) ∷ (value, 5, 10) ∷ []), refl) ∷
    (writes as_left wrong_sum ((cr-lf, 700, 18, []) ∷ (cr-lf, 0, 18, []) ∷ (cr_alone, 700, 18, []) ∷ (cr_alone, 0, 18, []) ∷ []), refl) ∷
    (asks as_left event ((0, 1, 0, 0, 5) ∷ (0, 2, 0, 100, 5) ∷ (0, 3, 0, 200, 0) ∷ (1, 1, 0, 0, 5) ∷ (1, 3, 0, 0, 0) ∷ (2, 1, 20, 0, 0) ∷ (9, 1, 20, 0, 0) ∷ (0, 0, 20, 0, 0) ∷ (1, 4, 20, 0, 0) ∷ (2, 0, 20, 0, 0) ∷ []), refl) ∷
    -- nine lines, two of them text: the length with the ends that are asked for is what 19 counts
    (
      writes as_left event
          ((cr-lf, 395, 0, with_lf event_written) ∷ (cr-lf, 400, 0, with_lf event_written) ∷ (cr-lf, 394, 19, []) ∷ (cr-lf, 386, 19, []) ∷ (cr-lf, 0, 19, []) ∷
          (cr_alone, 386, 0, event_written) ∷ (cr_alone, 400, 0, event_written) ∷ (cr_alone, 385, 19, []) ∷ (cr_alone, 0, 19, []) ∷ []),
      refl,
    ) ∷ (
      stores event
          ((starts, 0, 12) ∷ (starts, 1, 7) ∷ (starts, 2, 0) ∷ (points, 0, 200) ∷ (points, 1, 0) ∷ (ranks, 0, 3) ∷ (ranks, 1, 1) ∷ (ranks, 2, 0) ∷
          (kept, 0, code "m") ∷ (kept, 1, code "G") ∷ (kept, 5, code "R") ∷ (kept, 69, code "2") ∷ (kept, 70, 32) ∷ (kept, 139, 32) ∷ (kept, 140, 0) ∷
          (opponents, 0, 7) ∷ (opponents, 1, 0) ∷ (opponents, 3, 0) ∷ (opponents, 20, 12) ∷ (opponents, 21, 0) ∷ (colours, 0, code "w") ∷ (colours, 1, code "-") ∷ (colours, 2, code "-") ∷ (colours, 3, 0) ∷
          (colours, 20, code "b") ∷ (colours, 21, code "-") ∷ (colours, 22, code "-") ∷ (colours, 23, 0) ∷ (colours, 40, 0) ∷ (results, 0, code "1") ∷ (results, 1, code "U") ∷ (results, 2, code "Z") ∷ (results, 3, 0) ∷
          (results, 20, code "0") ∷ (results, 21, code "Z") ∷ (results, 22, code "Z") ∷ (results, 23, 0) ∷
          (text, 0, code "0") ∷ (text, 6, code "p") ∷ (text, 7, 13) ∷ (text, 8, code "0") ∷ (text, 12, code "x") ∷ (text, 13, 13) ∷ (text, 14, 0) ∷ (text-length, 0, 14) ∷
          (added, 0, 5) ∷ (first-rounds, 0, 1) ∷ (last_rounds, 0, 2) ∷ (first-starts, 0, 7) ∷ (last_starts, 0, 9999) ∷ (added, 1, 10) ∷ (first-rounds, 1, 3) ∷ (last_rounds, 1, 3) ∷ (first-starts, 1, 1) ∷ (last_starts, 1, 1) ∷ (added, 2, 0) ∷ (last_starts, 31, 0) ∷
          (lines, 0, 4) ∷ (lines, 1, 7) ∷ (lines, 2, 0) ∷ (lines, 199, 0) ∷ (lines, 200, 3) ∷ (lines, 201, 6) ∷ (lines, 202, 0) ∷ (lines, 231, 0) ∷
          (initial_colour, 0, code "B") ∷ (value, 0, 100) ∷ (value, 1, 15) ∷ (value, 2, 0) ∷ (value, 3, 0) ∷ (value, 4, 100) ∷ (value, 5, 15) ∷ []),
      refl,
    ) ∷
    (accepts (crlf-line "012 Cup" ++ alone) 1 0 0, refl) ∷
    (refuses (cup ++ (line "250      01.0 001 002 0001 0001" ++ (line "250      01.0 002 002 0001 0001" ++ (line "142 0" ++ person "   1" " 0.0" "   1" ((92, "   9") ∷ []))))) 11 5 1, refl) ∷
    (refuses (cup ++ (line "142 1" ++ (person "   1" " 0.0" "   1" ((119, "Z") ∷ []) ++ person "   2" " 0.0" "   2" ((109, "Z") ∷ [])))) 11 3 3, refl) ∷
    (refuses (full_text ++ cup) 8 6 0, refl) ∷
    (refuses (two " 1.0" "   2 b 1" " 0.0" "   1 b 0") 13 2 1, refl) ∷
    -- unknown: one line ends before its blank; held as `?`, written as a blank, with which the line ends; X, not D; it fits no draw
    (stores (two " 0.5" "   2 w" " 0.5" "   1 b  ") ((opponents, 0, 2) ∷ (opponents, 20, 1) ∷ (colours, 0, code "w") ∷ (colours, 20, code "b") ∷ (results, 0, code "?") ∷ (results, 20, code "?") ∷ (results, 1, 0) ∷ []), refl) ∷ (
      writes as_left (two " 0.5" "   2 w" " 0.5" "   1 b  ")
          ((cr_alone, 300, 0, cup ++ (line "142 1" ++ (line "162  W 1.0    D 0.5    L 0.0    A 0.0    P 1.0    X 0.5" ++ (person "   1" " 0.5" "   1" ((92, "   2 w  ") ∷ []) ++ person "   2" " 0.5" "   2" ((92, "   1 b  ") ∷ []))))) ∷ []),
      refl,
    ) ∷
    (accepts (line "162  X 0.7" ++ two " 0.7" "   2 w  " " 0.7" "   1 b") 2 1 0, refl) ∷ (refuses (two " 0.5" "   2 w =" " 0.5" "   1 b  ") 14 2 1, refl) ∷
    -- set by the arbiter: lost by both; lost by the first and drawn by the other
    (accepts (two " 0.0" "   2 w 0" " 0.0" "   1 b 0") 2 1 0, refl) ∷ (accepts (two " 0.0" "   2 b 0" " 0.5" "   1 w =") 2 1 0, refl) ∷
    (stores (two " 1.0" "   2 w +" " 0.0" "   1 b -") ((results, 0, code "+") ∷ (results, 20, code "-") ∷ []), refl) ∷ (
      writes as_left (two " 1.0" "   2 w +" " 0.0" "   1 b -")
          ((cr_alone, 300, 0, cup ++ (line "142 1" ++ (line "162  W 1.0    D 0.5    L 0.0    A 0.0    P 1.0    X 0.5" ++ (person "   1" " 1.0" "   1" ((92, "   2 w +") ∷ []) ++ person "   2" " 0.0" "   2" ((92, "   1 b -") ∷ []))))) ∷ []),
      refl,
    ) ∷
    (refuses (cup ++ (person "   1" " 1.0" "   1" ((92, "   2 w 1") ∷ []) ++ (person "   2" " 0.0" "   2" ((92, "   1 b 0") ∷ []) ++ person "   3" " 0.0" "   3" ((92, "   1 b 0") ∷ [])))) 13 4 1, refl) ∷ []

pub watched : AllOf (λ (c : Computed). RowHolds c.0) watched_rows
watched = all_computed watched_rows
