-- What each step gives, by the tests on its way. Assumes nothing.
use mathlib.Core.Path.{◌≡◌, refl, sym, ap, ◌∙◌, subst}
use mathlib.Core.Bool.{Bool, true, false, ◌&&◌, not}
use mathlib.Core.Option.{Option, none, some}
use mathlib.Core.List.{List, [], ◌∷◌}
use Prim.Native.Nat.{ℕ, ◌+◌, ◌≤◌, ◌<◌}
use lib.Dec.{eqb, ltb}
use lib.ListN.{length, get_or, set, take, length-append}
use lib.Seq.{paste}
use borrow.Author.Tests.{lt-ltb, le-ltb}
use Rattle.types.specs.declared.Acceleration.{Acceleration}
use Rattle.law.specs.Sizes.{most_players, most_accelerations, most_text}
use Rattle.law.specs.Lines.{CR}
use Rattle.law.specs.Text.{ended}
use Rattle.law.specs.Scoring.{values, scoring_of}
use Rattle.law.proofs.RecordsRead.{text_of}
use Rattle.join.specs.Run.{on, stop}
use Rattle.join.specs.Store.{Nine, Count, State, state, count_text, count_rounds, count_colour, count_scoring, count_acceleration, store_text, store_line, step_text, step_rounds, step_colour, step_scoring, step_acceleration}
use Rattle.std.specs.Prelude.{Result, Ok, Err}
use Rattle.std.specs.Result.{IsErrAnd}
use Rattle.types.specs.declared.Fault.{Fault}
use Rattle.types.specs.Faults.{number_of}
use Rattle.fields.specs.Said.{refuses, or_bad_field}
use Rattle.fields.proofs.Cases.{never}
use Rattle.steps.specs.declared.counts.Counts.{Counts}
use Rattle.steps.specs.Counts.{as_count, went, with_text, with_lines}
use Rattle.steps.proofs.Answers.{Front}

-- the exit of a `?`: the fault is handed on, and nothing was decided
module _ {A B : Type 0} (o : Option B) where
  pub handed : (r : Result A Fault) (e : Fault) → IsErrAnd r (λ d. d ≡ e) → refuses (number_of e) ≡ or_bad_field o → (ln : ℕ) (c : Counts) (t : Nine) → (went ln r c t ≡ stop 7 (state ln (as_count c) t)) × (o ≡ none)
  handed (Ok a) e h p ln c t = absurd h
  handed (Err d) e h p ln c t = go o h p
    where
      go : (o : Option B) → d ≡ e → refuses (number_of e) ≡ or_bad_field o → (stop (number_of d) (state ln (as_count c) t) ≡ stop 7 (state ln (as_count c) t)) × (o ≡ none)
      go none h p = (let q : number_of e ≡ 7 = cc in ap (λ (k : ℕ). stop k (state ln (as_count c) t)) (ap number_of h ∙ q), refl)
      go (some b) h p = never (sym p)

module _ (ln : ℕ) (c : Count) (t : Nine) where
  abbrev s : State
  s = state ln c t

  -- 142
  module _ (o : Option ℕ) where
    pub rounds_bad : o ≡ none → stop 7 s ≡ step_rounds o s
    unfolding step_rounds
    rounds_bad e = rw e refl

    pub rounds-again : (n : ℕ) → o ≡ some n → c.stated ≡ true → stop 8 s ≡ step_rounds o s
    unfolding step_rounds
    rounds-again n e again = rw (e, again) refl

    pub rounds-on : (n : ℕ) → o ≡ some n → c.stated ≡ false → {d : Count} → d ≡ count_rounds n c → on (state (ln + 1) d t) ≡ step_rounds o s
    unfolding step_rounds count_rounds
    rounds-on n e first d-is = rw (e, first, d-is) refl

  -- 152
  module _ (o : Option ℕ) where
    pub colour_bad : o ≡ none → stop 7 s ≡ step_colour o s
    unfolding step_colour
    colour_bad e = rw e refl

    pub colour-again : (x : ℕ) → o ≡ some x → eqb c.colour 0 ≡ false → stop 8 s ≡ step_colour o s
    unfolding step_colour
    colour-again x e again = rw (e, again) refl

    pub colour-on : (x : ℕ) → o ≡ some x → eqb c.colour 0 ≡ true → {d : Count} → d ≡ count_colour x c → on (state (ln + 1) d t) ≡ step_colour o s
    unfolding step_colour
    colour-on x e first d-is = rw (e, first, d-is) refl

  -- 250
  module _ (o : Option Acceleration) where
    pub acceleration_bad : o ≡ none → stop 7 s ≡ step_acceleration o s
    unfolding step_acceleration
    acceleration_bad e = rw e refl

    pub acceleration_full : (a : Acceleration) → o ≡ some a → ltb most_accelerations (c.accelerations + 1) ≡ true → stop 9 s ≡ step_acceleration o s
    unfolding step_acceleration
    acceleration_full a e full = rw (e, full) refl

    pub acceleration-on : (a : Acceleration) → o ≡ some a → ltb most_accelerations (c.accelerations + 1) ≡ false → {d : Count} → d ≡ count_acceleration a c
        → {x : List ℕ} → x ≡ set t.lines (most_players + c.accelerations) (ln + 1) → on (state (ln + 1) d (with_lines t x)) ≡ step_acceleration o s
    unfolding step_acceleration store_line
    acceleration-on a e room d-is x-is = rw (e, room, d-is, x-is) refl

  -- kept text, by its length and the place of its code
  pub text_bad : (o : Option (List ℕ)) (k : ℕ) → o ≡ none → stop 7 s ≡ step_text o k s
  unfolding step_text
  text_bad o k e = rw e refl

  abbrev again : ℕ → Bool
  again k = not (eqb k 9) && get_or c.seen k false

  module _ (row : List ℕ) (n : ℕ) (f : Front row n) {place : ℕ} (k : ℕ) (e : place ≡ k) where
    long : length (ended f.kept) ≡ n + 1
    long = length-append f.kept (CR ∷ []) ∙ ap (λ (m : ℕ). m + 1) (sym f.long)

    pub text-again : again place ≡ true → stop 8 s ≡ step_text (text_of row) k s
    unfolding step_text
    text-again q = rw (f.is, subst (λ (p : ℕ). again p ≡ true) e q) refl

    pub text_full : again place ≡ false → most_text < c.text + (n + 1) → stop 9 s ≡ step_text (text_of row) k s
    unfolding step_text
    text_full q full = rw (f.is, subst (λ (p : ℕ). again p ≡ false) e q, long, lt-ltb most_text (c.text + (n + 1)) full) refl

    pub text-on : again place ≡ false → c.text + (n + 1) ≤ most_text → {d : Count} → d ≡ count_text place (n + 1) c
        → {x : List ℕ} → x ≡ paste t.text c.text (ended (take n row)) (n + 1) → on (state (ln + 1) d (with_text t x)) ≡ step_text (text_of row) k s
    unfolding step_text store_text
    text-on q room d-is x-is =
        rw (f.is, subst (λ (p : ℕ). again p ≡ false) e q, long, le-ltb most_text (c.text + (n + 1)) room, d-is, e, x-is, f.front) refl

  -- 162
  module _ (o : Option (List (ℕ × ℕ))) where
    pub scoring_bad : o ≡ none → stop 7 s ≡ step_scoring o s
    unfolding step_scoring
    scoring_bad e = rw e refl

    pub scoring-again : (g : List (ℕ × ℕ)) → o ≡ some g → c.scored ≡ true → stop 8 s ≡ step_scoring o s
    unfolding step_scoring
    scoring-again g e again = rw (e, again) refl

    pub scoring-on : (g : List (ℕ × ℕ)) → o ≡ some g → c.scored ≡ false → {d : Count} → d ≡ count_scoring (values (scoring_of g)) c → on (state (ln + 1) d t) ≡ step_scoring o s
    unfolding step_scoring count_scoring
    scoring-on g e first d-is = rw (e, first, d-is) refl
