-- What the lines of a file leave in cleared tables: the statement's outcome, with the tables and the answer that belong to it. Assumes nothing.
use mathlib.Core.Path.{◌≡◌, refl, sym, ap, ◌∙◌, subst}
use mathlib.Core.Bool.{true, false}
use mathlib.Core.Option.{Option, none, some}
use mathlib.Core.List.{List, [], ◌∷◌}
use Prim.Native.Nat.{ℕ, ◌-◌, ◌≤◌}
use native.Mathlib.Omega.{arith}
use lib.ListN.{length, get_or, replicate, length-map}
use Rattle.kit.specs.Lists.{only_or, flat}
use Rattle.kit.specs.First.{AllOf}
use Rattle.kit.specs.Table.{Holds}
use Rattle.law.specs.Sizes.{most_file, most_rounds, most_accelerations, most_text}
use Rattle.law.specs.Lines.{Line}
use Rattle.law.specs.Items.{Item}
use Rattle.law.specs.Accelerations.{acceleration_code}
use Rattle.law.specs.Players.{player_code}
use Rattle.law.specs.Tournament.{Tournament, scoring_in, player_in, rounds_of, player_of, tournament_of}
use Rattle.law.specs.Lawful.{no_acceleration}
use Rattle.law.specs.Tables.{content_of, answer_of}
use Rattle.law.specs.Refusals.{refusal, lines_of, refused, accepted}
use Rattle.law.proofs.Cut.{cut}
use Rattle.law.proofs.LinesLawful.{Small, scoring-small, scorings_fine, rounds-small}
use Rattle.join.specs.Run.{Way, on, stop, run_all, first_all, Match}
use Rattle.join.specs.Store.{Nine, Count, State, state, no_count, step_line}
use Rattle.join.specs.Kept.{RawHold, Long, Zeroed}
use Rattle.join.specs.Check.{rounds_found, verdict, Closes}
use Rattle.join.proofs.Cells.{holds_as, holds_then}
use Rattle.join.proofs.Steps.{After, fault_of}
use Rattle.join.proofs.Verdict.{rounds_are, no_verdict}
use Rattle.join.proofs.Reading as reading
use Rattle.index.specs.Index.{Indexed}
use Rattle.index.proofs.Indexes.{index_zeros}
use Rattle.closings.specs.Values.{are_small}
use Rattle.types.specs.declared.Refusal as types
use Rattle.types.specs.Faults.{number_of}
use Rattle.types.proofs.Numbers.{some_number}
use Rattle.tables.specs.declared.lent.SettledMut.{SettledMut}
use Rattle.tables.specs.declared.lent.ClosingMut.{ClosingMut}
use Rattle.tables.specs.declared.lent.ColumnsMut.{ColumnsMut}
use Rattle.tables.specs.Lent.{nine_of}
use Rattle.verdicts.specs.Verdict.{stated}
use Rattle.steps.specs.declared.counts.Counts.{Counts}
use Rattle.steps.specs.Counts.{as_count}
use Rattle.lines_read.specs.declared.CoreAnswer.{CoreAnswer}
use Rattle.lines_read.specs.Core.{refused_core, accepted_core, Within, WithinNine, LinesRead}

-- by the answer's name
pub read_as : {file : List ℕ} {b x : Nine} {r u : CoreAnswer} → r ≡ u → LinesRead file b u x → LinesRead file b r x
read_as {file} {b} {x} e h = subst (λ (v : CoreAnswer). LinesRead file b v x) (sym e) h

-- ---- only listed cells are written
within : {n : ℕ} {f : ℕ → ℕ} {b x : List ℕ} → Holds 0 n f b x → Within n b x
within {n} {f} {b} {x} h = holds_as (λ i. get_or x i 0) h (λ i l. sym (h.cells i l))

raw_within : {e : List Line} {is : List Item} {b x : Nine} → RawHold e is b x → WithinNine b x
raw_within h =
    record {
      starts = within h.starts;
      points = within h.points;
      ranks = within h.ranks;
      kept = within h.kept;
      opponents = within h.opponents;
      colours = within h.colours;
      results = within h.results;
      text = within h.text;
      lines = within h.lines;
    }

-- and by the closing pass
closed_within : {n R : ℕ} {b x y : Nine} → WithinNine b x → Closes n R x y → WithinNine b y
closed_within {n} {R} {b} {x} {y} h k =
    record {
      starts = subst (Within _ b.starts) (sym k.starts) h.starts;
      points = subst (Within _ b.points) (sym k.points) h.points;
      ranks = subst (Within _ b.ranks) (sym k.ranks) h.ranks;
      kept = subst (Within _ b.kept) (sym k.kept) h.kept;
      opponents = subst (Within _ b.opponents) (sym k.opponents) h.opponents;
      colours = holds_then (λ i. get_or y.colours i 0) h.colours (within k.colours);
      results = holds_then (λ i. get_or y.results i 0) h.results (within k.results);
      text = subst (Within _ b.text) (sym k.text) h.text;
      lines = subst (Within _ b.lines) (sym k.lines) h.lines;
    }

only_small : (given : List (List (ℕ × ℕ))) → AllOf Small given → Small (only_or [] given)
only_small [] h = tt
only_small (g ∷ given) h = h.0

-- ---- before the first line
pub none-indexed : (starts : List ℕ) → Indexed starts 0 (replicate 10000 0)
none-indexed starts = record { few = omega arith; says = index_zeros starts 10000 (omega arith); low = λ i l. absurd (omega arith) }

pub begun : (w : Way State (ℕ × ℕ)) (file : List ℕ) (x : Nine) (c : Counts) → as_count c ≡ no_count → w ≡ run_all step_line (cut false file) 0 (state 0 (as_count c) x) → w ≡ run_all step_line (cut false file) 0 (state 0 no_count x)
begun w file x c e did = did ∙ ap (λ (k : Count). run_all step_line (cut false file) 0 (state 0 k x)) e

-- tables that a reading fills are long enough
pub long_nine : (settled : SettledMut) (closing : ClosingMut) (columns : ColumnsMut) (text : List ℕ) → most_text ≤ length text → Long (nine_of settled closing columns text)
long_nine settled closing columns text fits =
    record {
      starts = settled.starts_long;
      points = settled.points_long;
      ranks = columns.ranks_long;
      kept = columns.kept_long;
      opponents = settled.opponents_long;
      colours = closing.colours_long;
      results = closing.results_long;
      text = fits;
      lines = settled.lines_long;
    }

-- ---- the run over the lines
module _ (x : Nine) (long : Long x) (z : Zeroed x x) (file : List ℕ) (small : length file ≤ most_file) (d : Counts) (y : Nine) where
  abbrev ls : List Line
  ls = cut false file

  -- a line is refused
  module _ (r : types.Refusal) (flat_round : r.round ≡ 0) (did : stop (r.line.0, number_of r.fault) (state (r.line.0 - 1) (as_count d) y) ≡ run_all step_line ls 0 (state 0 no_count x)) where
    abbrev s_before : State
    s_before = state (r.line.0 - 1) (as_count d) y

    pub line_refused : LinesRead file x (refused_core (stated r) most_accelerations) y
    line_refused =
        subst (λ (n : ℕ). LinesRead file x (refused_core (refusal (number_of r.fault) r.line.0 n) most_accelerations) y) (sym flat_round)
        (record {
          outcome = refused (refusal (number_of r.fault) r.line.0 0);
          judged = reading.stopped x x long z file small r.line.0 (number_of r.fault) s_before (sym did);
          leaves = record { answer = refl; numbered = some_number r.fault; tables = at (first_all fault_of [] ls) (subst (Match (After x) ls (first_all fault_of [] ls)) (sym did) (reading.ran x x long z file small)) };
        })
      where
        at : (o : Option (ℕ × ℕ)) → Match (After x) ls o (stop (r.line.0, number_of r.fault) s_before) → WithinNine x y
        at none m = absurd m
        at (some w) m = raw_within m.1.1.raw

  -- none is
  module _ (n : ℕ) (did : on (state n (as_count d) y) ≡ run_all step_line ls 0 (state 0 no_count x)) where
    abbrev c : Count
    c = as_count d

    abbrev s : State
    s = state n c y

    abbrev a : After x ls s
    a = reading.after x x long z file small s (sym did)

    abbrev t : Tournament
    t = tournament_of a.items

    pub rounds_fit : rounds_found c y.colours ≤ most_rounds
    rounds_fit = subst (λ (n : ℕ). n ≤ most_rounds) (sym (rounds_are x ls s a)) (rounds-small ls a.items a.good.sound a.good.spelled)

    pub values_fit : are_small c.values ≡ true
    values_fit =
        subst (λ (v : List ℕ). are_small v ≡ true) (sym a.counted.values_are)
        (scoring-small (only_or [] (flat scoring_in a.items)) (only_small (flat scoring_in a.items) (scorings_fine ls a.items a.good.sound a.good.spelled)))

    -- after the closing pass
    module _ (w : Nine) (k : Closes c.players (rounds_found c y.colours) y w) where
      pub file-refused : (r : types.Refusal) → some (stated r) ≡ verdict c (rounds_found c y.colours) y w → LinesRead file x (refused_core (stated r) most_accelerations) w
      file-refused r e =
          record {
            outcome = refused (stated r);
            judged = reading.refused-after x x long z file small s (sym did) w k (stated r) (sym e);
            leaves = record { answer = refl; numbered = some_number r.fault; tables = closed_within (raw_within a.raw) k };
          }

      module _ {R : ℕ} (R_is : R ≡ rounds_found c y.colours) (no_fault : none ≡ verdict c (rounds_found c y.colours) y w) where
        answer_is : (accepted_core c R).answer ≡ answer_of t
        unfolding answer_of tournament_of
        answer_is = λ i.
            record {
              number = 0;
              line = record { 0 = 0 };
              round = 0;
              players = (a.counted.players ∙ sym (length-map (flat player_in a.items) (player_of (rounds_of a.items)))) i;
              rounds = (R_is ∙ rounds_are x ls s a) i;
              accelerations = a.counted.accelerations i;
              text = a.counted.text i;
              colour = a.counted.colour i;
              values = a.counted.values_are i;
            }

        pub file-accepted : LinesRead file x (accepted_core c R) w
        unfolding content_of tournament_of
        file-accepted =
            let h = no_verdict x ls s a (length file) w k (sym no_fault) in
            record {
              outcome = accepted t (lines_of player_code 0 ls) (lines_of acceleration_code 0 ls);
              judged = reading.accepted-after x x long z file small s (sym did) w k (sym no_fault);
              leaves =
                  record {
                    answer = answer_is;
                    fill = refl;
                    records = records-are;
                    tables =
                        record {
                          starts = h.starts;
                          points = h.points;
                          ranks = h.ranks;
                          kept = h.kept;
                          opponents = h.opponents;
                          colours = h.colours;
                          results = h.results;
                          text = h.text;
                          lines = h.lines;
                        };
                  };
            }
          where
            records-are : Holds no_acceleration most_accelerations (λ i. get_or t.accelerations i no_acceleration) (replicate most_accelerations no_acceleration) c.records
            records-are = a.counted.records
