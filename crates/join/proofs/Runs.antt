-- A run that agrees with the faults line by line agrees with the first fault of the file. Assumes nothing.
use mathlib.Core.Path.{◌≡◌, ap}
use mathlib.Core.Option.{Option, none, some}
use mathlib.Core.List.{List, [], ◌∷◌, ◌++◌, append-nil}
use Prim.Native.Nat.{◌+◌}
use lib.ListN.{length, length-append}
use lib.Seq.{append_snoc}
use Rattle.kit.specs.Decides.{or_else, to}
use Rattle.join.specs.Run.{Way, on, stop, next, run_all, first_all, Match}

module _ {L S F : Type 0} (fault : List L → L → Option F) (step : L → S → Way S F) (Sim : List L → S → Type 0)
    (agrees : (e : List L) (l : L) (s : S) → Sim e s → Match Sim (e ++ (l ∷ [])) (fault e l) (step l s)) where
  pub runs : (ls e : List L) (s : S) → Sim e s → Match Sim (e ++ ls) (first_all fault e ls) (run_all step ls (length e) s)
  unfolding first_all run_all
  runs [] e s h = rw append-nil h
  runs (l ∷ ls) e s h = go (fault e l) (step l s) (agrees e l s h) (runs ls (e ++ (l ∷ [])))
    where
      go : (x : Option F) (w : Way S F) → Match Sim (e ++ (l ∷ [])) x w
          → ((s' : S) → Sim (e ++ (l ∷ [])) s' → Match Sim ((e ++ (l ∷ [])) ++ ls) (first_all fault (e ++ (l ∷ [])) ls) (run_all step ls (length (e ++ (l ∷ []))) s'))
          → Match Sim (e ++ (l ∷ ls)) (or_else (to (λ f. (length e + 1, f)) x) (first_all fault (e ++ (l ∷ [])) ls)) (next w (length e) (run_all step ls (length e + 1)))
      go none (on s') m ih =
          let n : length (e ++ (l ∷ [])) ≡ length e + 1 = length-append e (l ∷ []) in
          rw (append_snoc e l ls, n) at (ih s' m)
      go none (stop y s') m ih = absurd m
      go (some x) (on s') m ih = absurd m
      go (some x) (stop y s') m ih = (ap (λ (f : F). (length e + 1, f)) m.0, m.1)
