-- The refusals that a verdict gives have a number. Assumes nothing.
use mathlib.Core.Path.{◌≡◌, ap, ◌∙◌}
use mathlib.Core.Bool.{Bool, true, false, cond, ◌&&◌}
use mathlib.Core.Option.{Option, none, some}
use Prim.Native.Nat.{ℕ, ◌+◌, ◌*◌}
use native.Mathlib.Omega.{arith}
use lib.Dec.{ltb}
use lib.ListN.{get_or}
use Rattle.kit.specs.Decides.{to, or_else}
use Rattle.kit.proofs.Decided.{no_some}
use Rattle.law.specs.Sizes.{most_players, most_rounds}
use Rattle.law.specs.Entries.{Law, bye-or-game, mutual_pairing, fitting_results, one_U}
use Rattle.law.specs.Refusals.{Refusal, refusal, file_fault_number, incomplete, past_142, shared, unlawful, wrong_sum_lem}
use Rattle.join.specs.Grid.{first_from}
use Rattle.join.specs.Store.{Nine, Count}
use Rattle.join.specs.Check.{past_cell, shared_record, broken_cell, wrong_sum, at_player, verdict}

Numbered : Option Refusal → Type 0
Numbered o = (q : Refusal) → o ≡ some q → q.number ≡ 0 → ⊥

numbered-or : (f : ℕ → Refusal) (o : Option ℕ) (p : Option Refusal) → ((k : ℕ) → (f k).number ≡ 0 → ⊥) → Numbered p → Numbered (or_else (to f o) p)
unfolding Numbered
numbered-or f none p own rest q e z = rest q e z
numbered-or f (some k) p own rest q e z = let u : f k ≡ q = cc in own k (ap (λ (x : Refusal). x.number) u ∙ z)

numbered-to : (f : ℕ → Refusal) (o : Option ℕ) → ((k : ℕ) → (f k).number ≡ 0 → ⊥) → Numbered (to f o)
unfolding Numbered
numbered-to f none own q e z = no_some e
numbered-to f (some k) own q e z = let u : f k ≡ q = cc in own k (ap (λ (x : Refusal). x.number) u ∙ z)

numbered_cond : (b : Bool) (x : Refusal) (p : Option Refusal) → (x.number ≡ 0 → ⊥) → Numbered p → Numbered (or_else (cond b none (some x)) p)
unfolding Numbered
numbered_cond true x p own rest q e z = rest q e z
numbered_cond false x p own rest q e z = let u : x ≡ q = cc in own (ap (λ (y : Refusal). y.number) u ∙ z)

abbrev turns : Law → ℕ → ℕ → Nine → Option ℕ
turns law n R y = first_from (broken_cell law n R y) 0 (n * most_rounds)

abbrev at : Law → Nine → ℕ → Refusal
at law y = at_player (file_fault_number (unlawful law)) y.lines

pub verdict-numbered : (c : Count) (R : ℕ) (x y : Nine) (q : Refusal) → verdict c R x y ≡ some q → q.number ≡ 0 → ⊥
unfolding verdict Numbered
verdict-numbered c R x y =
    numbered_cond (get_or c.seen 0 false && ltb 0 c.players) (refusal (file_fault_number incomplete) 0 0) _ (λ z. omega (arith, z))
    (numbered-or (at_player (file_fault_number past_142) x.lines) (first_from (past_cell R x.colours) 0 (c.players * most_rounds)) _ (λ k z. omega (arith, z))
    (numbered-or (λ j. refusal (file_fault_number shared) (get_or x.lines (most_players + j) 0) 0) (first_from (shared_record c.records) 0 c.accelerations) _ (λ k z. omega (arith, z))
    (numbered-or (at bye-or-game y) (turns bye-or-game c.players R y) _ (λ k z. omega (arith, z))
    (numbered-or (at mutual_pairing y) (turns mutual_pairing c.players R y) _ (λ k z. omega (arith, z))
    (numbered-or (at fitting_results y) (turns fitting_results c.players R y) _ (λ k z. omega (arith, z))
    (numbered-or (at one_U y) (turns one_U c.players R y) _ (λ k z. omega (arith, z))
    (numbered-to (λ p. refusal (file_fault_number wrong_sum_lem) (get_or y.lines p 0) 0) (first_from (wrong_sum c.values y.points y.results R) 0 c.players) (λ k z. omega (arith, z)))))))))
