-- A test asked of each number of a run: how it begins, one turn, how it ends, and what it tells. Assumes nothing.
use mathlib.Core.Path.{◌≡◌, refl, sym, subst}
use mathlib.Core.Bool.{Bool, true, false, ◌&&◌}
use Prim.Native.Nat.{ℕ, ◌+◌, ◌≤◌, ◌<◌}
use native.Mathlib.Decide.{ℕ_discrete}
use native.Mathlib.Omega.{arith}
use Rattle.kit.proofs.Bools.{clash}
use Rattle.texts.specs.Kept.{Told}
use Rattle.texts.proofs.Told.{told_as}
use Rattle.held.specs.Runs.{Every}

-- good: each number from one up to another has passed as far as i, or one has not
pub record Passed (post : ℕ → Bool → Type 0) (from to i : ℕ) (good : Bool) : Type 0 where
  pub all : good ≡ true → (k : ℕ) → from ≤ k → k < i → post k true
  pub some : good ≡ false → (k : ℕ) × (from ≤ k) × (k < to) × post k false

module _ {post : ℕ → Bool → Type 0} {from to : ℕ} where
  pub passed_none : Passed post from to from true
  passed_none = record { all = λ _ k a b. absurd (omega arith); some = λ e. clash (sym e) }

  pub passed-next : {i : ℕ} {good here : Bool} → Passed post from to i good → from ≤ i → i < to → post i here → Passed post from to (i + 1) (good && here)
  passed-next {i} {good} {here} h l m p = go good here h p
    where
      next : Passed post from to i true → post i true → (k : ℕ) → from ≤ k → k < i + 1 → Dec (i ≡ k) → post k true
      next h p k a b (yes e) = subst (λ (j : ℕ). post j true) e p
      next h p k a b (no e) = let z : i ≡ k → ⊥ = e in h.all refl k a (omega arith)

      go : (good here : Bool) → Passed post from to i good → post i here → Passed post from to (i + 1) (good && here)
      go true true h p = record { all = λ _ k a b. next h p k a b (ℕ_discrete i k); some = λ e. clash (sym e) }
      go true false h p = record { all = clash; some = λ _. (i, l, m, p) }
      go false here h p = record { all = clash; some = λ _. h.some refl }

  pub passed-all : {i : ℕ} {good : Bool} → Passed post from to i good → to ≤ i → Every post from to good
  passed-all h l = record { all = λ t k a b. h.all t k a (omega arith); some = h.some }

  -- what is so of each number
  module _ {good : Bool} {P : ℕ → Type 0} (h : Every post from to good) where
    -- each asking tells it
    pub every-told : ((k : ℕ) (b : Bool) → from ≤ k → k < to → post k b → Told (P k) b) → Told ((k : ℕ) → from ≤ k → k < to → P k) good
    every-told t = record { sound = λ e k a b. (t k true a b (h.all e k a b)).sound refl; complete = go good refl }
      where
        go : (b : Bool) → good ≡ b → ((k : ℕ) → from ≤ k → k < to → P k) → good ≡ true
        go true e all = e
        go false e all = let s = h.some e in clash ((t s.0 false s.1 s.2 s.3).complete (all s.0 s.1 s.2))

    -- each asking answers a test that tells it
    pub every-tests : (test : ℕ → Bool) → ((k : ℕ) (b : Bool) → from ≤ k → k < to → post k b → b ≡ test k) → ((k : ℕ) → Told (P k) (test k)) → Told ((k : ℕ) → from ≤ k → k < to → P k) good
    every-tests test e t = every-told (λ k b l m p. subst (λ (x : Bool). Told (P k) x) (sym (e k b l m p)) (t k))

-- of the numbers from 0 on
pub from_zero : {P : ℕ → Type 0} {n : ℕ} {good : Bool} → Told ((k : ℕ) → 0 ≤ k → k < n → P k) good → Told ((k : ℕ) → k < n → P k) good
from_zero t = told_as (λ all k c. all k (omega arith) c) (λ all k a c. all k c) t

-- each of a run in other words
pub each_as : {P Q : ℕ → Type 0} {n : ℕ} {good : Bool} → ((k : ℕ) → P k → Q k) → ((k : ℕ) → Q k → P k) → Told ((k : ℕ) → k < n → P k) good → Told ((k : ℕ) → k < n → Q k) good
each_as f g t = told_as (λ all k c. f k (all k c)) (λ all k c. g k (all k c)) t
