-- A line of allowed bytes that has its terminator: 5, or what its kind does. Assumes nothing.
use mathlib.Core.Path.{◌≡◌, refl, sym, ap, ◌∙◌}
use mathlib.Core.Bool.{true}
use mathlib.Core.List.{List, [], ◌∷◌}
use Prim.Native.Nat.{ℕ, ◌+◌, ◌≤◌, ◌<◌}
use native.Mathlib.Omega.{arith}
use lib.ListN.{length}
use borrow.Author.Tests.{lt-ltb, le-ltb}
use Rattle.kit.specs.Lists.{all}
use Rattle.law.specs.Sizes.{most_line}
use Rattle.law.specs.Lines.{allowed, End}
use Rattle.law.specs.Items.{Kind, passed_over, unlisted, is_passed, kind_of}
use Rattle.join.specs.Run.{on, stop}
use Rattle.join.specs.Store.{Nine, Count, State, state, step_row, step_line}
use Rattle.std.specs.Prelude.{Result, Ok, Err}
use Rattle.std.specs.Result.{IsErrAnd}
use Rattle.types.specs.declared.Fault.{Fault}
use Rattle.types.specs.Faults.{number_of}
use Rattle.records.specs.declared.Kind as records
use Rattle.records.specs.Records.{as_kind, kind_says, or_not_listed}
use Rattle.records.proofs.Told.{kind_said, said_is}
use Rattle.steps.specs.declared.counts.Counts.{Counts}
use Rattle.steps.specs.Counts.{as_count, went}
use Rattle.runs.specs.Lined.{line_of, Skipped}

pub passed_kind : (text : List ℕ) → is_passed text ≡ true → kind_of text ≡ passed_over
unfolding kind_of
passed_kind text e = rw e refl

pub empty_skipped : (text : List ℕ) → length text ≡ 0 → Skipped text
empty_skipped [] e = record { short = omega arith; passed = passed_kind [] refl }
empty_skipped (c ∷ l) e = absurd (omega (arith, e))

module _ (text : List ℕ) (end : End) (s : State) where
  module _ (e : all allowed text ≡ true) where
    pub too_long : most_line < length text → stop 5 s ≡ step_line (line_of text end) s
    unfolding step_line
    too_long l = rw (e, lt-ltb most_line (length text) l) refl

    pub by_kind : (k : Kind) → length text ≤ most_line → kind_of text ≡ k → step_row k text s ≡ step_line (line_of text end) s
    unfolding step_line
    by_kind k l q = rw (e, le-ltb most_line (length text) l, q) refl

pub passed_on : (text : List ℕ) (end : End) (n : ℕ) (c : Count) (t : Nine) → all allowed text ≡ true → Skipped text → on (state (n + 1) c t) ≡ step_line (line_of text end) (state n c t)
unfolding step_row
passed_on text end n c t e s = by_kind text end (state n c t) e passed_over s.short s.passed

-- ---- the kind of a line, by what its reader answers
pub told_kind : (text : List ℕ) (k x : records.Kind) → kind_says (Ok k) ≡ or_not_listed (kind_of text) → k ≡ x → kind_of text ≡ as_kind x
told_kind text k x e is = sym (said_is (kind_of text)) ∙ ap kind_said (sym e) ∙ ap as_kind is

module _ (text : List ℕ) (end : End) (ln : ℕ) (c : Counts) (t : Nine) where
  abbrev s : State
  s = state ln (as_count c) t

  six : (e : Fault) → kind_says (Err e) ≡ or_not_listed unlisted → number_of e ≡ 6
  six e q = cc

  went_err : {A : Type 0} (r : Result A Fault) (e : Fault) → IsErrAnd r (λ d. d ≡ e) → went ln r c t ≡ stop (number_of e) s
  went_err (Ok a) e h = absurd h
  went_err (Err d) e h = ap (λ (x : Fault). stop (number_of x) s) h

  pub no_kind : {A : Type 0} (r : Result A Fault) (e : Fault) → IsErrAnd r (λ d. d ≡ e) → kind_says (Err e) ≡ or_not_listed (kind_of text) → all allowed text ≡ true → length text ≤ most_line
      → went ln r c t ≡ step_line (line_of text end) s
  unfolding step_row
  no_kind r e h q clean short =
      let none : kind_of text ≡ unlisted = sym (said_is (kind_of text)) ∙ ap kind_said (sym q) in
      went_err r e h ∙ ap (λ (n : ℕ). stop n s) (six e (q ∙ ap or_not_listed none)) ∙ by_kind text end s clean unlisted short none
