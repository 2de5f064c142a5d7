-- A number's digits, put: the last after the others.
-- Assumes nothing.
use mathlib.Core.Path.{◌≡◌, refl, sym, ap, ◌∙◌, subst}
use mathlib.Core.Bool.{Bool, cond}
use mathlib.Core.List.{List, [], ◌∷◌, ◌++◌}
use Prim.Native.Nat.{ℕ, zero, suc, ◌-◌, ◌/◌}
use native.Mathlib.Numerals.{sub-one}
use borrow.Author.Tests.{ne_eqb}
use Rattle.law.specs.Writing.{digit, filled, nothing}
use Rattle.listing.specs.Put.{Put}
use Rattle.listing.proofs.Puts.{put_then}

filled-after : (w n : ℕ) → ((w ≡ 0) → ⊥) → ((n / 10 ≡ 0) → ⊥) → filled nothing w n ≡ filled nothing (w - 1) (n / 10) ++ (digit n ∷ [])
filled-after zero n f e = absurd (f refl)
filled-after (suc w) n f e =
    ap (λ (b : Bool). cond b [] (filled nothing w (n / 10)) ++ (digit n ∷ [])) (ne_eqb (n / 10) 0 e) ∙
    ap (λ (k : ℕ). filled nothing k (n / 10) ++ (digit n ∷ [])) (sym (sub-one (suc w)))

pub digits_more : (w n d : ℕ) {at : ℕ} {t : List ℕ} {e : ℕ} {u : List ℕ} {e' : ℕ} {u' : List ℕ} → ((w ≡ 0) → ⊥) → ((n / 10 ≡ 0) → ⊥) → d ≡ digit n
    → Put (filled nothing (w - 1) (n / 10)) at t e u → Put (d ∷ []) e u e' u' → Put (filled nothing w n) at t e' u'
digits_more w n d {at} {t} {e} {u} {e'} {u'} f z q p o =
    subst (λ (l : List ℕ). Put l at t e' u') (ap (λ (k : ℕ). filled nothing (w - 1) (n / 10) ++ (k ∷ [])) q ∙ sym (filled-after w n f z)) (put_then p o)
