-- The verdict, one check after another. Assumes nothing.
use mathlib.Core.Path.{◌≡◌, refl, sym, ap, ◌∙◌}
use mathlib.Core.Bool.{true, false, cond}
use mathlib.Core.Option.{Option, none, some}
use mathlib.Core.List.{List, [], ◌∷◌}
use Prim.Native.Nat.{ℕ, ◌+◌}
use lib.ListN.{get_or}
use Rattle.kit.specs.Decides.{to, or_else}
use Rattle.law.specs.Sizes.{most_players}
use Rattle.law.specs.Entries.{bye-or-game, mutual_pairing, fitting_results, one_U}
use Rattle.law.specs.Refusals.{Refusal, refusal, file_fault_number, incomplete, shared, wrong_sum_lem}
use Rattle.join.specs.Grid.{first_from}
use Rattle.join.specs.Store.{Nine, Count}
use Rattle.join.specs.Check.{rounds_seen, rounds_found, shared_record, wrong_sum, broken_by, verdict}
use Rattle.std.specs.Prelude as program
use Rattle.std.specs.Prelude.{Some, None}
use Rattle.scorings.specs.declared.Scoring.{Scoring}
use Rattle.law.specs.Scoring.{scoring_of}
use Rattle.steps.specs.declared.counts.Counts.{Counts}
use Rattle.steps.specs.Counts.{as_count, values_by}
use Rattle.verdicts.specs.Verdict.{unlawful_in}
use Rattle.verdicts.proofs.Parts.{or-first, or-next}
use Rattle.judges.specs.Closing.{is_complete, past_in}

or_assoc : (a b c d p : Option Refusal) → or_else (or_else a (or_else b (or_else c d))) p ≡ or_else a (or_else b (or_else c (or_else d p)))
or_assoc (some q) b c d p = refl
or_assoc none (some q) c d p = refl
or_assoc none none (some q) d p = refl
or_assoc none none none d p = refl

module _ (c : Count) (R : ℕ) (x y : Nine) where
  abbrev ten : Option Refusal
  ten = cond (is_complete c) none (some (refusal (file_fault_number incomplete) 0 0))

  abbrev eleven : Option Refusal
  eleven = past_in c R x

  abbrev pub at_record : List ℕ → ℕ → Refusal
  at_record lines j = refusal (file_fault_number shared) (get_or lines (most_players + j) 0) 0

  abbrev seventeen : Option Refusal
  seventeen = to (at_record x.lines) (first_from (shared_record c.records) 0 c.accelerations)

  abbrev sixteen_by : List ℕ → List ℕ → List ℕ → Option Refusal
  sixteen_by points results lines = to (λ p. refusal (file_fault_number wrong_sum_lem) (get_or lines p 0) 0) (first_from (wrong_sum c.values points results R) 0 c.players)

  abbrev sixteen : Option Refusal
  sixteen = sixteen_by y.points y.results y.lines

  abbrev from_unlawful : Option Refusal
  from_unlawful = or_else (unlawful_in c.players R y) sixteen

  abbrev from_shared : Option Refusal
  from_shared = or_else seventeen from_unlawful

  abbrev from_past : Option Refusal
  from_past = or_else eleven from_shared

  whole : or_else ten from_past ≡ verdict c R x y
  unfolding verdict
  whole =
      ap (λ (o : Option Refusal). or_else ten (or_else eleven (or_else seventeen o)))
      (or_assoc (broken_by bye-or-game c.players R y) (broken_by mutual_pairing c.players R y) (broken_by fitting_results c.players R y) (broken_by one_U c.players R y) sixteen)

  pub judged_10 : is_complete c ≡ false → some (refusal 10 0 0) ≡ verdict c R x y
  judged_10 e = sym (ap (λ v. or_else (cond v none (some (refusal (file_fault_number incomplete) 0 0))) from_past) e) ∙ whole

  module _ (full : is_complete c ≡ true) where
    after_10 : {r : Option Refusal} → r ≡ from_past → r ≡ verdict c R x y
    after_10 h = h ∙ sym (ap (λ v. or_else (cond v none (some (refusal (file_fault_number incomplete) 0 0))) from_past) full) ∙ whole

    pub judged_11 : {q : Refusal} → some q ≡ eleven → some q ≡ verdict c R x y
    judged_11 e = after_10 (or-first eleven from_shared e)

    module _ (no_past : none ≡ eleven) {lines : List ℕ} (l : x.lines ≡ lines) where
      seventeen_by : {r : Option Refusal} → r ≡ to (at_record lines) (first_from (shared_record c.records) 0 c.accelerations) → r ≡ seventeen
      seventeen_by e = e ∙ ap (λ (k : List ℕ). to (at_record k) (first_from (shared_record c.records) 0 c.accelerations)) (sym l)

      after_11 : {r : Option Refusal} → r ≡ from_shared → r ≡ verdict c R x y
      after_11 h = after_10 (or-next eleven from_shared no_past h)

      pub judged_17 : {q : Refusal} → some q ≡ to (at_record lines) (first_from (shared_record c.records) 0 c.accelerations) → some q ≡ verdict c R x y
      judged_17 e = after_11 (or-first seventeen from_unlawful (seventeen_by e))

      module _ (none_shared : none ≡ to (at_record lines) (first_from (shared_record c.records) 0 c.accelerations)) where
        after_17 : {r : Option Refusal} → r ≡ from_unlawful → r ≡ verdict c R x y
        after_17 h = after_11 (or-next seventeen from_unlawful (seventeen_by none_shared) h)

        pub judged_12 : {q : Refusal} → some q ≡ unlawful_in c.players R y → some q ≡ verdict c R x y
        judged_12 e = after_17 (or-first (unlawful_in c.players R y) sixteen e)

        pub judged_16 : none ≡ unlawful_in c.players R y → {points results last : List ℕ} → y.points ≡ points → y.results ≡ results → y.lines ≡ last
            → {r : Option Refusal} → r ≡ sixteen_by points results last → r ≡ verdict c R x y
        judged_16 e e0 e1 e2 h = after_17 (or-next (unlawful_in c.players R y) sixteen e (h ∙ rw (sym e0, sym e1, sym e2) refl))

-- ---- what the counts say of 142 and 162
pub rounds-stated : (c : Counts) (colours : List ℕ) {r : ℕ} → c.rounds ≡ Some r → r ≡ rounds_found (as_count c) colours
unfolding rounds_found
rounds-stated c colours e = rw e refl

pub rounds-not-stated : (c : Counts) (colours : List ℕ) → c.rounds ≡ None → {r : ℕ} → r ≡ rounds_seen colours c.players → r ≡ rounds_found (as_count c) colours
unfolding rounds_found
rounds-not-stated c colours e h = rw (e, h) refl

pub defaults : (o : program.Option Scoring) → o ≡ None → 10 ∷ 5 ∷ 0 ∷ 0 ∷ 10 ∷ 5 ∷ [] ≡ values_by o
unfolding scoring_of
defaults o e = rw e refl
