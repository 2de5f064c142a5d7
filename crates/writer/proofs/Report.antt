-- From good cells to the statement: what is put is the tournament that they hold, written, and as long as the counts say. Assumes nothing.
use mathlib.Core.Path.{◌≡◌, refl, sym, ap, ap₂, ◌∙◌}
use mathlib.Core.Bool.{true}
use mathlib.Core.List.{List, ◌++◌, map, append_assoc}
use Prim.Native.Nat.{ℕ, ◌+◌, ◌*◌}
use native.Mathlib.Omega.{arith}
use lib.ListN.{length, take}
use lib.Seq.{length-take-le}
use Rattle.kit.specs.Lists.{flat}
use Rattle.types.specs.declared.Answer.{Answer}
use Rattle.law.specs.Tournament.{Tournament}
use Rattle.law.specs.Tables.{Tables, enough}
use Rattle.law.specs.Writing.{rounds_line, scoring_line, acceleration_line, player_line, written}
use Rattle.law.proofs.ReadsOnce.{rooms-are}
use Rattle.join.specs.Check.{entry_cell}
use Rattle.readings.specs.Good.{GoodReading}
use Rattle.readings.specs.Held.{held}
use Rattle.readings.proofs.HeldPlayers.{players-long}
use Rattle.readings.proofs.Whole.{good_has}
use Rattle.puts.specs.Ends.{as_end, end_wide, ended_by, relined}
use Rattle.puts.specs.declared.Terminator.{Terminator}
use Rattle.heads.specs.Lines.{scoring_in, acceleration_wide}
use Rattle.player_lines.specs.Lines.{player_wide}
use Rattle.player_lines.specs.Rows.{seven_of, entries_in, player_in, players_in}
use Rattle.writer.specs.Report.{Fit, colour_text, heads_text, report_text, text_wide, report_wide}
use Rattle.writer.proofs.Written.{written_parts, written-wide, text-relined}

pub good_fit : {a : Answer} {t : Tables} → GoodReading a t → Fit a
good_fit g = record { players = g.answer.players_fit; rounds = g.answer.rounds_fit; accelerations = g.answer.accelerations_fit; text = g.answer.text_fits }

-- three parts before two others
three : (a b c d : List ℕ) → (a ++ (b ++ c)) ++ d ≡ a ++ (b ++ (c ++ d))
three a b c d = append_assoc a (b ++ c) d ∙ ap (λ (l : List ℕ). a ++ l) (append_assoc b c d)

module _ (a : Answer) (t : Tables) (long : enough t ≡ true) (g : GoodReading a t) (end : Terminator) where
  abbrev u : Tournament
  u = held a t g.tables.text.lines

  abbrev records : List ℕ
  records = flat (ended_by end) (map acceleration_line u.accelerations)

  abbrev players : List ℕ
  players = flat (ended_by end) (map player_line u.players)

  -- the text's table has its lines, which are written each with its terminator
  text_is : relined end (take a.text t.text) ≡ flat (ended_by end) u.text
  unfolding held
  text_is = ap (relined end) g.tables.text.are ∙ text-relined end g.tables.text.lines (good_has a t long g).0.text

  players_are : flat (ended_by end) (map player_line (players_in (seven_of t) a.rounds a.players)) ≡ players
  unfolding held players_in player_in entries_in entry_cell
  players_are = refl

  pub report_is : report_text a t end ≡ written (as_end end) u
  unfolding report_text held
  report_is =
      ap₂ (λ (l p : List ℕ). l ++ (heads_text a.rounds a.colour a.values end ++ (records ++ p))) text_is players_are
      ∙ ap (λ (l : List ℕ). flat (ended_by end) u.text ++ l) (three (ended_by end (rounds_line a.rounds)) (colour_text a.colour end) (ended_by end (scoring_line (scoring_in a.values))) (records ++ players))
      ∙ written_parts end u

  -- its length
  text-long : length (flat (ended_by end) u.text) ≡ text_wide a t.text end
  text-long = ap length (sym text_is)

  records_many : length u.accelerations ≡ a.accelerations
  unfolding held
  records_many = length-take-le a.accelerations t.accelerations (let r = (rooms-are t long).accelerations in let f = g.answer.accelerations_fit in omega arith)

  players_many : length u.players ≡ a.players
  unfolding held
  players_many = players-long a.rounds t a.players

  pub report_wide_lem : length (written (as_end end) u) ≡ report_wide a t.text end
  unfolding held
  report_wide_lem =
      let w = written-wide end u (good_has a t long g).0 in
      let r = ap (λ (k : ℕ). k * (acceleration_wide + end_wide end)) records_many in
      let p = ap (λ (k : ℕ). k * (player_wide a.rounds + end_wide end)) players_many in
      let l = text-long in
      omega arith
