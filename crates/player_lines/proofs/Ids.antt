-- An opponent's start number, or zeros for a bye, is the statement's. Assumes nothing.
use mathlib.Core.Path.{◌≡◌, refl, sym, ap, ◌∙◌}
use mathlib.Core.Bool.{Bool, cond}
use mathlib.Core.List.{List, [], ◌∷◌, ◌++◌}
use Prim.Native.Nat.{ℕ, zero, suc}
use Prim.Native.Char.{code}
use borrow.Author.Tests.{eq-eqb, ne_eqb}
use Rattle.law.specs.Writing.{blanks, noughts, filled, id_text}
use Rattle.puts.specs.Puts.{run}

pub id-none : (w id : ℕ) → id ≡ 0 → filled (run (code "0")) (suc w) id ≡ id_text (suc w) id
id-none w id e = ap (filled noughts (suc w)) e ∙ last w ∙ ap (λ (b : Bool). cond b (noughts (suc w)) (filled blanks (suc w) id)) (sym (eq-eqb id 0 e))
  where
    last : (k : ℕ) → noughts k ++ (code "0" ∷ []) ≡ noughts (suc k)
    last zero = refl
    last (suc k) = ap (λ (l : List ℕ). code "0" ∷ l) (last k)

pub id-some : (w id : ℕ) → (id ≡ 0 → ⊥) → filled (run 32) w id ≡ id_text w id
id-some w id e = ap (λ (b : Bool). cond b (noughts w) (filled blanks w id)) (sym (ne_eqb id 0 e))
