-- From the run over the lines and the verdict to the statement's outcome: what the code has to compute, and nothing more. Assumes nothing.
use mathlib.Core.Path.{◌≡◌, refl, sym, ap, ◌∙◌, subst}
use mathlib.Core.Bool.{Bool, true, false, cond}
use mathlib.Core.Option.{Option, none, some}
use mathlib.Core.List.{List, []}
use Prim.Native.Nat.{ℕ, zero, suc, ◌-◌, ◌≤◌}
use native.Mathlib.Omega.{arith}
use borrow.Author.Tests.{le-ltb}
use lib.Dec.{ltb}
use lib.ListN.{length, get_or, replicate, get_or-eq_default}
use Rattle.kit.specs.Lists.{first, flat}
use Rattle.kit.specs.Decides.{to, or_else}
use Rattle.kit.proofs.Decided.{no_some}
use Rattle.kit.proofs.Firsts.{first-append}
use Rattle.law.specs.Sizes.{most_file, most_players, most_accelerations}
use Rattle.law.specs.Lines.{Line}
use Rattle.law.specs.Accelerations.{acceleration_code}
use Rattle.law.specs.Players.{player_code}
use Rattle.law.specs.Items.{Item}
use Rattle.law.specs.Tournament.{Entry, tournament_of}
use Rattle.law.specs.Entries.{no_entry}
use Rattle.law.specs.Lawful.{no_acceleration}
use Rattle.law.specs.Tables.{place_in, round_in}
use Rattle.law.specs.Refusals.{lines_of, player_seats, acceleration_seats, file_faults, Label, refusal, Refusal, refusal_of, line_labels, labels_of, labels, refused, accepted, Judged}
use Rattle.law.proofs.Cut.{cut}
use Rattle.law.proofs.Faults.{line_items, lines-spelled, test_label}
use Rattle.law.proofs.Judges.{outcome_of, outcome_by, accepted_as, judged}
use Rattle.join.specs.Run.{on, stop, run_all, first_all, Match}
use Rattle.join.specs.Store.{Nine, State, state, no_count, step_line}
use Rattle.join.specs.Kept.{Long, Zeroed}
use Rattle.join.specs.Check.{rounds_found, verdict, Closes}
use Rattle.join.proofs.Cells.{holds_as}
use Rattle.join.proofs.Runs.{runs}
use Rattle.join.proofs.Steps.{After, fault_of, agrees}
use Rattle.join.proofs.Whole.{at_line, line-firsts, to_or_else}
use Rattle.join.proofs.Verdict.{verdict_is}

-- ---- cleared tables
nothing_at : (i : ℕ) → ◌≡◌ {A = ℕ} 0 (get_or [] i 0)
nothing_at zero = refl
nothing_at (suc i) = refl

no_entry_at : (part : Entry → ℕ) → part no_entry ≡ 0 → (p r : ℕ) → 0 ≡ part (get_or (get_or [] p []) r no_entry)
no_entry_at part z p r = sym z ∙ ap part (sym (get_or-eq_default (get_or [] p []) no_entry {n = r} (short p)))
  where
    short : (p : ℕ) → length (get_or {A = List Entry} [] p []) ≤ r
    short zero = omega arith
    short (suc p) = omega arith

pub start : (b x : Nine) → Zeroed b x → After b [] (state 0 no_count x)
unfolding flat lines_of
start b x z =
    record {
      items = [];
      good = record { sound = refl; spelled = tt; new = refl; few = refl };
      line_is = refl;
      counted = record { players = refl; accelerations = refl; text = refl; records = record { long = refl; cells = λ i l. blanks i; rest = λ i _. refl }; seen = refl; stated = refl; rounds = refl; colour = refl; scored = refl; values_are = refl };
      raw =
          record {
            starts = holds_as _ z.starts (λ i _. nothing_at i);
            points = holds_as _ z.points (λ i _. nothing_at i);
            ranks = holds_as _ z.ranks (λ i _. nothing_at i);
            kept = holds_as _ z.kept (λ i _. nothing_at i);
            opponents = holds_as _ z.opponents (λ i _. no_entry_at (λ e. e.id) refl (place_in i) (round_in i - 1));
            colours = holds_as _ z.colours (λ i _. no_entry_at (λ e. e.colour) refl (place_in i) (round_in i - 1));
            results = holds_as _ z.results (λ i _. no_entry_at (λ e. e.result) refl (place_in i) (round_in i - 1));
            text = holds_as _ z.text (λ i _. nothing_at i);
            lines = holds_as _ z.lines (λ i _. lines_at i (ltb i most_players));
          };
    }
  where
    blanks : (i : ℕ) → get_or (replicate most_accelerations no_acceleration) i no_acceleration ≡ get_or [] i no_acceleration
    blanks i = same most_accelerations i
      where
        same : (n i : ℕ) → get_or (replicate n no_acceleration) i no_acceleration ≡ get_or [] i no_acceleration
        same zero i = refl
        same (suc n) zero = refl
        same (suc n) (suc i) = same n i ∙ past i
          where
            past : (i : ℕ) → get_or [] i no_acceleration ≡ no_acceleration
            past zero = refl
            past (suc i) = refl

    lines_at : (i : ℕ) (v : Bool) → ◌≡◌ {A = ℕ} 0 (cond v (get_or [] i 0) (get_or [] (i - most_players) 0))
    lines_at i true = nothing_at i
    lines_at i false = nothing_at (i - most_players)

-- ---- the run over a file's lines
module _ (b x : Nine) (long : Long b) (z : Zeroed b x) (file : List ℕ) (small : length file ≤ most_file) where
  abbrev ls : List Line
  ls = cut false file

  pub ran : Match (After b) ls (first_all fault_of [] ls) (run_all step_line ls 0 (state 0 no_count x))
  ran = runs fault_of step_line (After b) (agrees b long) ls [] (state 0 no_count x) (start b x z)

  abbrev N : ℕ
  N = length file

  abbrev test : Label → Bool
  test = test_label true N (line_items ls)

  abbrev file_labels : List Label
  file_labels = flat (labels_of (player_seats ls) (acceleration_seats ls)) file_faults

  -- neither 1 nor 2
  first-is : first test (labels ls) ≡ or_else (first test (line_labels [] ls)) (first test file_labels)
  unfolding labels
  first-is = rw (le-ltb most_file N small) (first-append test (line_labels [] ls) file_labels)

  refused_by : (q : Refusal) → to refusal_of (first test (labels ls)) ≡ some q → Judged true file (refused q)
  unfolding outcome_of
  refused_by q e = subst (Judged true file) (go (first test (labels ls)) e) (judged true file)
    where
      go : (o : Option Label) → to refusal_of o ≡ some q → outcome_by ls (line_items ls) o ≡ refused q
      go none e = no_some e
      go (some label) e = let u : refusal_of label ≡ q = cc in ap refused u

  -- it stopped: the file's first fault is that line's
  pub stopped : (n k : ℕ) (s : State) → run_all step_line ls 0 (state 0 no_count x) ≡ stop (n, k) s → Judged true file (refused (refusal k n 0))
  stopped n k s e =
      refused_by (refusal k n 0)
      (ap (to refusal_of) first-is
      ∙ to_or_else refusal_of (first test (line_labels [] ls)) (first test file_labels)
      ∙ ap (λ (o : Option Refusal). or_else o (to refusal_of (first test file_labels))) (line-firsts true N (line_items ls) ls [] ∙ ap (to at_line) (at (first_all fault_of [] ls) (subst (Match (After b) ls (first_all fault_of [] ls)) e ran))))
    where
      at : (o : Option (ℕ × ℕ)) → Match (After b) ls o (stop (n, k) s) → o ≡ some (n, k)
      at none m = absurd m
      at (some w) m = ap some m.0

  -- it did not: the state is of all lines, and what is left is the verdict
  module _ (s : State) (e : run_all step_line ls 0 (state 0 no_count x) ≡ on s) where
    both_parts : (first_all fault_of [] ls ≡ none) × After b ls s
    both_parts = at (first_all fault_of [] ls) refl (subst (Match (After b) ls (first_all fault_of [] ls)) e ran)
      where
        at : (o : Option (ℕ × ℕ)) → first_all fault_of [] ls ≡ o → Match (After b) ls o (on s) → (first_all fault_of [] ls ≡ none) × After b ls s
        at none q m = (q, m)
        at (some w) q m = absurd m

    pub after : After b ls s
    after = both_parts.1

    items-are : line_items ls ≡ some after.items
    items-are = lines-spelled.complete ls after.items after.good.spelled

    -- the checks' verdict is the file's first fault
    pub verdict_of : (y : Nine) → Closes s.count.players (rounds_found s.count s.tables.colours) s.tables y
        → verdict s.count (rounds_found s.count s.tables.colours) s.tables y ≡ to refusal_of (first test (labels ls))
    verdict_of y k =
        verdict_is b ls s after N y k
        ∙ ap (λ (o : Option (List Item)). to refusal_of (first (test_label true N o) file_labels)) (sym items-are)
        ∙ ap (λ (o : Option Refusal). or_else o (to refusal_of (first test file_labels))) (sym (line-firsts true N (line_items ls) ls [] ∙ ap (to at_line) both_parts.0))
        ∙ sym (to_or_else refusal_of (first test (line_labels [] ls)) (first test file_labels))
        ∙ ap (to refusal_of) (sym first-is)

    pub refused-after : (y : Nine) → Closes s.count.players (rounds_found s.count s.tables.colours) s.tables y
        → (q : Refusal) → verdict s.count (rounds_found s.count s.tables.colours) s.tables y ≡ some q → Judged true file (refused q)
    refused-after y k q v = refused_by q (sym (verdict_of y k) ∙ v)

    pub accepted-after : (y : Nine) → Closes s.count.players (rounds_found s.count s.tables.colours) s.tables y
        → verdict s.count (rounds_found s.count s.tables.colours) s.tables y ≡ none
        → Judged true file (accepted (tournament_of after.items) (lines_of player_code 0 ls) (lines_of acceleration_code 0 ls))
    unfolding outcome_of
    accepted-after y k v = subst (Judged true file) (go (first test (labels ls)) (sym (verdict_of y k) ∙ v)) (judged true file)
      where
        go : (o : Option Label) → to refusal_of o ≡ none → outcome_by ls (line_items ls) o ≡ accepted (tournament_of after.items) (lines_of player_code 0 ls) (lines_of acceleration_code 0 ls)
        go none q = ap (accepted_as ls) items-are
        go (some label) q = no_some (sym q)
