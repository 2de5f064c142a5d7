-- The loop over the lines: what is left of the run is the whole run. How it begins, one turn, how it ends. Assumes nothing.
use mathlib.Core.Path.{◌≡◌, refl, sym, ap, ◌∙◌}
use mathlib.Core.Bool.{Bool, true, false, cond}
use mathlib.Core.List.{List, [], ◌∷◌}
use Prim.Native.Nat.{ℕ, suc, ◌+◌, ◌-◌, ◌≤◌}
use native.Mathlib.Omega.{arith}
use lib.ListN.{length, take, drop}
use Rattle.std.specs.Prelude.{Result, Ok, Err}
use Rattle.types.specs.declared.Fault.{Fault}
use Rattle.types.specs.declared.Refusal.{Refusal}
use Rattle.types.specs.Faults.{number_of}
use Rattle.kit.specs.Lists.{all}
use Rattle.law.specs.Lines.{allowed, is_ended, Line, End, cr, crlf, starts_with_lf}
use Rattle.law.proofs.Cut.{cut, end_for}
use Rattle.join.specs.Run.{Way, stop, next, run_all}
use Rattle.join.specs.Store.{Nine, State, state, step_line}
use Rattle.lines.specs.Step.{FaultAt, WholeAt}
use Rattle.index.specs.Index.{Indexed}
use Rattle.steps.specs.declared.counts.Counts.{Counts}
use Rattle.steps.specs.Counts.{as_count, went}
use Rattle.runs.specs.Lined.{line_of, ran}

-- at byte at, after ln lines
pub record Going (file : List ℕ) (b : Nine) (nothing : Counts) (t : Nine) (index : List ℕ) (c : Counts) (at ln : ℕ) : Type 0 where
  pub within : at ≤ length file
  pub small : ln ≤ at
  pub rest : run_all step_line (cut false (drop at file)) ln (state ln (as_count c) t) ≡ run_all step_line (cut false file) 0 (state 0 (as_count nothing) b)
  pub indexed : Indexed t.starts c.players index

-- the refusal of a line
abbrev pub at_line : ℕ → Fault → Refusal
at_line n fault = record { fault = fault; line = record { 0 = n }; round = 0 }

module _ {file : List ℕ} {b : Nine} {nothing : Counts} {t : Nine} {index : List ℕ} {c : Counts} {at ln : ℕ} (g : Going file b nothing t index c at ln) where
  abbrev whole : Way State (ℕ × ℕ)
  whole = run_all step_line (cut false file) 0 (state 0 (as_count nothing) b)

  pub going_done : cut false (drop at file) ≡ [] → ran (Ok ln) c t ≡ whole
  unfolding run_all
  going_done e = rw e at g.rest

  back : ln + 1 - 1 ≡ ln
  back = omega arith

  stopped : (l : Line) (others : List Line) (a b : Bool) → all allowed l.text ≡ a → is_ended l.end ≡ b → (k : ℕ) → cond a (cond b 0 4) 3 ≡ k → (k ≡ 0 → ⊥)
      → stop (ln + 1, k) (state (ln + 1 - 1) (as_count c) t) ≡ run_all step_line (l ∷ others) ln (state ln (as_count c) t)
  unfolding run_all step_line
  stopped l others true true p q k e n = absurd (n (sym e))
  stopped l others true false p q k e n = rw (← e, p, q, back) refl
  stopped l others false b p q k e n = rw (← e, p, back) refl

  pub going_fault : (fault : Fault) → FaultAt file at (number_of fault) → (number_of fault ≡ 0 → ⊥) → ran (Err (at_line (ln + 1) fault)) c t ≡ whole
  going_fault fault m n = stopped m.line m.others (all allowed m.line.text) (is_ended m.line.end) refl refl (number_of fault) m.fault n ∙ ap (λ (l : List Line). run_all step_line l ln (state ln (as_count c) t)) (sym m.lines) ∙ g.rest

  -- a line with its terminator, and what was done with it as the line of that number
  module _ {from to after : ℕ} (m : WholeAt file at from to after) {A : Type 0} {number : ℕ} (next_is : number ≡ ln + 1) (r : Result A Fault) (d : Counts) (x : Nine)
      (did : (n : ℕ) (end : End) → number ≡ n + 1 → went n r d x ≡ step_line (line_of (take (to - from) (drop from file)) end) (state n (as_count c) t)) where
    line_is : (v : Bool) → record { text = take (to - from) (drop from file); end = end_for v } ≡ line_of (take (to - from) (drop from file)) (cond v crlf cr)
    line_is true = refl
    line_is false = refl

    one : next (went ln r d x) ln (run_all step_line (cut false (drop after file)) (ln + 1)) ≡ whole
    unfolding run_all
    one =
        let v = starts_with_lf (drop (suc to) file) in
        ap (λ (w : Way State ℕ). next w ln (run_all step_line (cut false (drop after file)) (ln + 1))) (did ln (cond v crlf cr) next_is)
        ∙ ap (λ (l : Line). run_all step_line (l ∷ cut false (drop after file)) ln (state ln (as_count c) t)) (sym (line_is v))
        ∙ ap (λ (l : List Line). run_all step_line l ln (state ln (as_count c) t)) (sym m.lines)
        ∙ g.rest

    pub going_stop : {fault : Fault} → r ≡ Err fault → ran (Err (at_line number fault)) d x ≡ whole
    going_stop {fault} e = rw (next_is, back) (rw e at one)

    pub going_next : {v : A} → r ≡ Ok v → {index' : List ℕ} → Indexed x.starts d.players index' → Going file b nothing x index' d after number
    going_next e i = rw next_is (record { within = m.within; small = let p = g.small in let q = m.forward in let z = m.past in omega arith; rest = rw e at one; indexed = i })
