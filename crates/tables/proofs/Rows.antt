-- The loop that stores a row: how it begins, one turn, how it ends. Assumes nothing.
use mathlib.Core.Path.{◌≡◌, refl, sym, ap, ap₂, ◌∙◌, subst}
use mathlib.Core.List.{List, [], ◌∷◌, ◌++◌}
use Prim.Native.Nat.{ℕ, ◌+◌, ◌<◌}
use native.Mathlib.Numerals.{add-one}
use native.Mathlib.Omega.{arith}
use lib.ListN.{length, get_or, set, take, drop, length-set, length-append}
use lib.Seq.{paste, paste-suc, take-length, take_at, get_or_at}
use Rattle.law.specs.Lines.{CR}
use Rattle.law.specs.Text.{ended}
use Rattle.join.specs.Grid.{put_row}

-- x is b with the first j values of a row stored
pub record Stored {A : Type 0} (d : A) (cell : ℕ → ℕ → ℕ) (b : List A) (p : ℕ) (v x : List A) (j : ℕ) : Type 0 where
  pub long : length x ≡ length b
  pub holds : x ≡ put_row d cell b p v j

module _ {A : Type 0} {d : A} {cell : ℕ → ℕ → ℕ} {b : List A} {p : ℕ} {v : List A} where
  pub stored_none : Stored d cell b p v b 0
  unfolding put_row
  stored_none = record { long = refl; holds = refl }

  pub stored_next : {x : List A} {j i : ℕ} → Stored d cell b p v x j → i ≡ cell p (j + 1) → Stored d cell b p v (set x i (get_or v j d)) (j + 1)
  unfolding put_row
  stored_next {x} {j} {i} h e =
      record {
        long = length-set x i (get_or v j d) ∙ h.long;
        holds =
            subst (λ (k : ℕ). set x i (get_or v j d) ≡ put_row d cell b p v k) (sym (add-one j))
            (ap₂ (λ (y : List A) (k : ℕ). set y k (get_or v j d)) h.holds (e ∙ ap (cell p) (add-one j)));
      }

-- a copy with one CR after it
module _ (d : List ℕ) (at : ℕ) (s : List ℕ) (room : at + length s < length d) where
  abbrev line : List ℕ
  line = ended s

  front : take (length s) line ≡ take (length s) s
  front = take_at s (CR ∷ []) (length s) refl ∙ sym (take-length s)

  last : get_or line (length s) 0 ≡ CR
  last = get_or_at s CR [] 0 (length s) refl

  whole : length line ≡ length s + 1
  whole = length-append s (CR ∷ [])

  pub pasted_ended : {x : List ℕ} → x ≡ paste d at s (length s) → set x (at + length s) CR ≡ paste d at line (length s + 1)
  pasted_ended e =
      ap (λ (y : List ℕ). set y (at + length s) CR) (e ∙ ap (λ (r : List ℕ). take at d ++ r ++ drop (at + length s) d) (sym front))
      ∙ ap (set (paste d at line (length s)) (at + length s)) (sym last)
      ∙ paste-suc d at line (length s) 0 room (subst (λ (k : ℕ). length s < k) (sym whole) (omega arith))
      ∙ ap (paste d at line) (sym (add-one (length s)))
