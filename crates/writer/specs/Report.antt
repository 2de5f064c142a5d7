-- The report file that an answer and tables say, part by part, and how wide it is by the counts and the lines of the text. Means: no part of the statement.
use Rattle.std.specs.Prelude.{List, ◌++◌, map, ℕ, ◌+◌, ◌*◌, ◌≤◌, length, take}
use Rattle.kit.specs.Lists.{flat}
use Rattle.types.specs.declared.Answer.{Answer}
use Rattle.law.specs.Sizes.{most_players, most_rounds, most_accelerations, most_text}
use Rattle.law.specs.Tables.{Tables}
use Rattle.law.specs.Writing.{rounds_line, colour_lines, scoring_line, acceleration_line, player_line}
use Rattle.puts.specs.Ends.{end_wide, ended_by, relined}
use Rattle.puts.specs.declared.Terminator.{Terminator}
use Rattle.heads.specs.Lines.{acceleration_wide, scoring_in, scoring_wide}
use Rattle.player_lines.specs.Lines.{player_wide}
use Rattle.player_lines.specs.Rows.{seven_of, players_in}

-- counts that a reading can have
pub record Fit (a : Answer) : Type 0 where
  pub players : a.players ≤ most_players
  pub rounds : a.rounds ≤ most_rounds
  pub accelerations : a.accelerations ≤ most_accelerations
  pub text : a.text ≤ most_text

-- ---- 142, 152 if known, 162
abbrev pub colour_text : ℕ → Terminator → List ℕ
colour_text colour end = flat (ended_by end) (colour_lines colour)

abbrev pub heads_text : ℕ → ℕ → List ℕ → Terminator → List ℕ
heads_text rounds colour values end = ended_by end (rounds_line rounds) ++ (colour_text colour end ++ ended_by end (scoring_line (scoring_in values)))

abbrev pub heads_wide : ℕ → ℕ → Terminator → ℕ
heads_wide rounds colour end = length (rounds_line rounds) + end_wide end + (length (colour_text colour end) + (scoring_wide + end_wide end))

-- ---- all lines: the text, whose table has a CR after each line, with its terminators
unfoldable pub report_text : Answer → Tables → Terminator → List ℕ
report_text a t end =
    relined end (take a.text t.text)
    ++ (heads_text a.rounds a.colour a.values end
    ++ (flat (ended_by end) (map acceleration_line (take a.accelerations t.accelerations))
    ++ flat (ended_by end) (map player_line (players_in (seven_of t) a.rounds a.players))))

abbrev pub text_wide : Answer → List ℕ → Terminator → ℕ
text_wide a text end = length (relined end (take a.text text))

abbrev pub report_wide : Answer → List ℕ → Terminator → ℕ
report_wide a text end =
    text_wide a text end + (heads_wide a.rounds a.colour end + (a.accelerations * (acceleration_wide + end_wide end) + a.players * (player_wide a.rounds + end_wide end)))
