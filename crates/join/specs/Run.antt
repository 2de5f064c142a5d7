-- A run over lines: a state that goes on or stops, and the first fault of the lines by what stands before each.
use Rattle.std.specs.Prelude.{◌≡◌, List, [], ◌∷◌, ◌++◌, ℕ, ◌+◌, length}
use Rattle.std.proofs.Math.Option.{Option, none, some}
use Rattle.kit.specs.Decides.{or_else, to}

pub data Way (S F : Type 0) : Type 0 where
  on : S → Way S F
  stop : F → S → Way S F

abbrev pub next : {S F : Type 0} → Way S F → ℕ → (S → Way S (ℕ × F)) → Way S (ℕ × F)
next (on s) n k = k s
next (stop f s) n k = stop (n + 1, f) s

-- the lines after n others, from a state
unfoldable pub run_all : {L S F : Type 0} → (L → S → Way S F) → List L → ℕ → S → Way S (ℕ × F)
run_all step [] n s = on s
run_all step (l ∷ ls) n s = next (step l s) n (run_all step ls (n + 1))

-- the first line with a fault, each judged by the lines before it
unfoldable pub first_all : {L F : Type 0} → (List L → L → Option F) → List L → List L → Option (ℕ × F)
first_all fault e [] = none
first_all fault e (l ∷ ls) = or_else (to (λ f. (length e + 1, f)) (fault e l)) (first_all fault (e ++ (l ∷ [])) ls)

-- what is said and what was done agree: no fault and a state of all lines, or the same fault and a state of some lines
abbrev pub Match : {L S X : Type 0} → (List L → S → Type 0) → List L → Option X → Way S X → Type 0
Match Sim e none (on s) = Sim e s
Match Sim e none (stop y s) = ⊥
Match Sim e (some x) (on s) = ⊥
Match {L} Sim e (some x) (stop y s) = (x ≡ y) × ((d : List L) × Sim d s)
