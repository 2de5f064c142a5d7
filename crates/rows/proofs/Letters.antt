-- The letter of a round's result: what is read of a letter, and what an answer says of it. Assumes nothing.
use mathlib.Core.Path.{◌≡◌, refl, sym, ap, ap₂, ◌∙◌}
use mathlib.Core.Bool.{Bool, true, false, cond, ◌||◌, not, or-false}
use mathlib.Core.Option.{some}
use mathlib.Core.List.{List, [], ◌∷◌}
use Prim.Native.Nat.{ℕ, ◌+◌, ◌*◌, ◌-◌}
use Prim.Native.Char.{code}
use native.Mathlib.Omega.{arith}
use lib.Dec.{eqb}
use lib.ListN.{get_or}
use borrow.Author.Tests.{eqb-true, ne_eqb, not-true}
use Rattle.kit.specs.Lists.{between, among}
use Rattle.kit.specs.Decides.{to, when}
use Rattle.kit.proofs.Bools.{within, among-all, any_append}
use Rattle.law.specs.Columns.{blank, is_blank}
use Rattle.law.specs.Players.{unknown_result, slot_results, capital}
use Rattle.law.specs.Tournament.{blank_as}
use Rattle.fields.specs.Said.{says, refuses, or_bad_field}
use Rattle.fields.proofs.Cases.{never}
use Rattle.results.specs.Order.{known_results}
use Rattle.rows.specs.Rows.{result_in}

abbrev pub code_at : List ℕ → ℕ → ℕ
code_at row r = get_or row (81 + 10 * r + 7) 0

capital_stays : (c : ℕ) → among c known_results ≡ true → capital c ≡ c
capital_stays c e = eqb-true (capital c) c (among-all (λ x. eqb (capital x) x) c known_results e refl)

-- of a line's results: those that are known, and a blank
slot_known : (y : ℕ) → among y slot_results ≡ among y known_results || is_blank y
slot_known y = any_append (eqb y) known_results (blank ∷ []) ∙ ap (λ (v : Bool). among y known_results || v) (or-false (is_blank y))

known_there : (y : ℕ) → among y known_results ≡ true → is_blank y ≡ false
known_there y e = not-true (is_blank y) (among-all (λ x. not (is_blank x)) y known_results e refl)

capital-there : (c : ℕ) → (c ≡ blank → ⊥) → is_blank (capital c) ≡ false
capital-there c h = go (between (code "a") (code "z") c) refl
  where
    go : (v : Bool) → between (code "a") (code "z") c ≡ v → is_blank (cond v (c - (code "a" - code "A")) c) ≡ false
    go true e = let k = (within (code "a") (code "z") c e).0 in ne_eqb (c - 32) 32 (λ z. omega arith)
    go false e = ne_eqb c 32 h

-- by the letter that is read: whether it is one, and whether it is a blank
result_by : (c y : ℕ) (v b : Bool) → y ≡ capital c → among y known_results ≡ v → is_blank y ≡ b → result_in c ≡ to (λ x. cond b unknown_result x) (when (v || b) (some y))
result_by c y v b q v-is b-is =
    ap (λ x. to (blank_as unknown_result) (when (among x slot_results) (some x))) (sym q)
    ∙ ap (λ (u : Bool). to (blank_as unknown_result) (when u (some y))) (slot_known y ∙ ap₂ (λ (a b : Bool). a || b) v-is b-is)
    ∙ go (v || b)
  where
    go : (u : Bool) → to (blank_as unknown_result) (when u (some y)) ≡ to (λ x. cond b unknown_result x) (when u (some y))
    go true = ap (λ (u : Bool). some (cond u unknown_result y)) b-is
    go false = refl

pub letter-capital : (c y : ℕ) → y ≡ capital c → among y known_results ≡ true → says y ≡ or_bad_field (result_in c)
letter-capital c y q e = sym (ap or_bad_field (result_by c y true false q e (known_there y e)))

pub letter_plain : (c : ℕ) → among c known_results ≡ true → says c ≡ or_bad_field (result_in c)
letter_plain c e = letter-capital c c (sym (capital_stays c e)) e

pub letter-blank : (c : ℕ) → c ≡ blank → says unknown_result ≡ or_bad_field (result_in c)
letter-blank c e = rw e refl

pub letter_bad : (c y : ℕ) → (c ≡ blank → ⊥) → y ≡ capital c → among y known_results ≡ false → refuses 7 ≡ or_bad_field (result_in c)
letter_bad c y h q e = sym (ap or_bad_field (result_by c y false false q e (ap is_blank q ∙ capital-there c h)))

-- ---- what an answer says of it
said-when : (v : Bool) (x y : ℕ) → says y ≡ or_bad_field (to (blank_as unknown_result) (when v (some x))) → (y ≡ blank_as unknown_result x) × (v ≡ true)
said-when true x y e = let u : y ≡ blank_as unknown_result x = cc in (u, refl)
said-when false x y e = never e

not-when : {k : ℕ} (v : Bool) (x : ℕ) → refuses k ≡ or_bad_field (to (blank_as unknown_result) (when v (some x))) → v ≡ false
not-when true x e = never (sym e)
not-when false x e = refl

pub letter-said : (c y : ℕ) → says y ≡ or_bad_field (result_in c) → (y ≡ blank_as unknown_result (capital c)) × (among (capital c) slot_results ≡ true)
letter-said c y e = said-when (among (capital c) slot_results) (capital c) y e

pub letter-not : {k : ℕ} (c : ℕ) → refuses k ≡ or_bad_field (result_in c) → among (capital c) slot_results ≡ false
letter-not c e = not-when (among (capital c) slot_results) (capital c) e
