-- The sixteen text codes: the place of each, and which of them stood. Assumes nothing.
use mathlib.Core.Path.{◌≡◌, refl, sym, ap, ap₂, ◌∙◌}
use mathlib.Core.Bool.{Bool, true, false, cond, ◌&&◌, ◌||◌, not}
use mathlib.Core.List.{List, [], ◌∷◌, ◌++◌, map}
use Prim.Native.Nat.{ℕ, zero, suc, ◌+◌, ◌-◌, ◌≤◌, ◌<◌}
use native.Mathlib.Omega.{arith}
use lib.Dec.{eqb}
use borrow.Author.Tests.{not-true}
use lib.ListN.{length, get_or, set}
use Rattle.kit.specs.Lists.{all, any, same, is_one_of}
use Rattle.kit.proofs.Bools.{clash, and, same_is, one_of_texts, any_append}
use Rattle.law.specs.Columns.{part, code_field}
use Rattle.law.specs.Text.{text_codes, repeated_code, is_name, is_repeated}
use Rattle.join.specs.Store.{code_place}

-- which codes stand among some lines
abbrev pub stood : List (List ℕ) → List ℕ → Bool
stood texts c = any (λ o. same (part code_field o) c) texts

abbrev pub seen_of : List (List ℕ) → List Bool
seen_of texts = map (stood texts) text_codes

-- codes that differ
abbrev Distinct : List (List ℕ) → Type 0
Distinct [] = Unit {0}
Distinct (c ∷ cs) = (all (λ d. not (same c d)) cs ≡ true) × Distinct cs

or-false : (b : Bool) → b || false ≡ b
or-false true = refl
or-false false = refl

or-true : (b : Bool) → b || true ≡ true
or-true true = refl
or-true false = refl

module _ (code : List ℕ) where
  -- of the places from i on
  pub place_at : (cs : List (List ℕ)) (i : ℕ) → any (same code) cs ≡ true → (i ≤ code_place code i cs) × (code_place code i cs < i + length cs) × (get_or cs (code_place code i cs - i) [] ≡ code)
  unfolding code_place
  place_at [] i h = clash h
  place_at (c ∷ cs) i h = go (same code c) refl h (place_at cs (i + 1))
    where
      go : (b : Bool) → same code c ≡ b → b || any (same code) cs ≡ true
          → (any (same code) cs ≡ true → (i + 1 ≤ code_place code (i + 1) cs) × (code_place code (i + 1) cs < i + 1 + length cs) × (get_or cs (code_place code (i + 1) cs - (i + 1)) [] ≡ code))
          → (i ≤ cond b i (code_place code (i + 1) cs)) × (cond b i (code_place code (i + 1) cs) < i + suc (length cs)) × (get_or (c ∷ cs) (cond b i (code_place code (i + 1) cs) - i) [] ≡ code)
      go true p q ih =
          let z : i - i ≡ 0 = omega arith in
          (omega arith, omega arith, ap (λ (k : ℕ). get_or (c ∷ cs) k []) z ∙ sym (same_is code c p))
      go false p q ih =
          let u = ih q in
          let k : ℕ = code_place code (i + 1) cs in
          let z : k - i ≡ suc (k - (i + 1)) = omega arith in
          (omega arith, omega arith, ap (λ (j : ℕ). get_or (c ∷ cs) j []) z ∙ u.2)

  other : (f : List ℕ → Bool) (c : List ℕ) (cs : List (List ℕ)) → same code c ≡ true → all (λ d. not (same c d)) cs ≡ true → map (λ d. f d || same code d) cs ≡ map f cs
  other f c [] e h = refl
  other f c (d ∷ cs) e h =
      let k = and (not (same c d)) (all (λ d. not (same c d)) cs) h in
      let n : same code d ≡ false = not-true (same code d) (ap (λ (x : List ℕ). not (same x d)) (same_is code c e) ∙ k.0) in
      ap₂ (λ (x : Bool) (l : List Bool). x ∷ l) (rw n (or-false (f d))) (other f c cs e k.1)

  -- one more code that stands is one more cell that is true
  pub one_more : (f : List ℕ → Bool) (cs : List (List ℕ)) (i : ℕ) → Distinct cs → any (same code) cs ≡ true → map (λ d. f d || same code d) cs ≡ set (map f cs) (code_place code i cs - i) true
  unfolding code_place
  one_more f [] i d h = clash h
  one_more f (c ∷ cs) i d h = go (same code c) refl h (one_more f cs (i + 1) d.1)
    where
      go : (b : Bool) → same code c ≡ b → b || any (same code) cs ≡ true → (any (same code) cs ≡ true → map (λ d. f d || same code d) cs ≡ set (map f cs) (code_place code (i + 1) cs - (i + 1)) true)
          → map (λ d. f d || same code d) (c ∷ cs) ≡ set (map f (c ∷ cs)) (cond b i (code_place code (i + 1) cs) - i) true
      go true p q ih =
          let z : i - i ≡ 0 = omega arith in
          rw z (ap₂ (λ (x : Bool) (l : List Bool). x ∷ l) (rw p (or-true (f c))) (other f c cs p d.0))
      go false p q ih =
          let u = place_at cs (i + 1) q in
          let k : ℕ = code_place code (i + 1) cs in
          let l = u.0 in
          let z : k - i ≡ suc (k - (i + 1)) = omega arith in
          rw z (ap₂ (λ (x : Bool) (l : List Bool). x ∷ l) (rw p (or-false (f c))) (ih q))

codes_differ : Distinct text_codes
codes_differ = (refl, (refl, (refl, (refl, (refl, (refl, (refl, (refl, (refl, (refl, (refl, (refl, (refl, (refl, (refl, (refl, tt))))))))))))))))

map_get_or : {A : Type 0} (f : A → Bool) (d : A) (l : List A) (k : ℕ) → k < length l → get_or (map f l) k false ≡ f (get_or l k d)
map_get_or f d [] k m = absurd (omega arith)
map_get_or f d (x ∷ l) zero m = refl
map_get_or f d (x ∷ l) (suc k) m = map_get_or f d l k (omega arith)

-- ---- of a kept text line whose code is one of the sixteen
module _ (line : List ℕ) (listed : is_one_of (part code_field line) text_codes ≡ true) where
  abbrev at : ℕ
  at = code_place (part code_field line) 0 text_codes

  pub code_below : at < 16
  code_below = let u = place_at (part code_field line) text_codes 0 listed in let l = u.1 in omega arith

  pub seen-again : (texts : List (List ℕ)) → get_or (seen_of texts) at false ≡ stood texts (part code_field line)
  seen-again texts =
      let u = place_at (part code_field line) text_codes 0 listed in
      let z : at - 0 ≡ at = omega arith in
      map_get_or (stood texts) [] text_codes at code_below ∙ ap (stood texts) (ap (λ (k : ℕ). get_or text_codes k []) (sym z) ∙ u.2)

  -- 112 has the tenth place, and no other
  pub is_112 : eqb at 9 ≡ same (part code_field line) repeated_code
  unfolding code_place
  is_112 = equal (eqb at 9) (same (part code_field line) repeated_code) (one_of_texts (λ c. eqv (eqb (code_place c 0 text_codes) 9) (same c repeated_code)) (part code_field line) text_codes listed refl)
    where
      eqv : Bool → Bool → Bool
      eqv true b = b
      eqv false b = not b

      equal : (a b : Bool) → eqv a b ≡ true → a ≡ b
      equal true true e = refl
      equal true false e = clash e
      equal false true e = clash e
      equal false false e = refl

  pub repeated_is : (texts : List (List ℕ)) → not (eqb at 9) && get_or (seen_of texts) at false ≡ is_repeated texts line
  repeated_is texts = ap₂ (λ (a b : Bool). not a && b) is_112 (seen-again texts)

  pub seen_more : (texts : List (List ℕ)) → seen_of (texts ++ (line ∷ [])) ≡ set (seen_of texts) at true
  seen_more texts =
      let z : at - 0 ≡ at = omega arith in
      same_map text_codes
      ∙ one_more (part code_field line) (stood texts) text_codes 0 codes_differ listed
      ∙ ap (λ (k : ℕ). set (seen_of texts) k true) z
    where
      same_map : (cs : List (List ℕ)) → map (stood (texts ++ (line ∷ []))) cs ≡ map (λ d. stood texts d || same (part code_field line) d) cs
      same_map [] = refl
      same_map (c ∷ cs) =
          ap₂ (λ (x : Bool) (l : List Bool). x ∷ l)
          (any_append (λ o. same (part code_field o) c) texts (line ∷ []) ∙ ap (λ (v : Bool). stood texts c || v) (or-false (same (part code_field line) c))) (same_map cs)

-- 012 has the first place
pub named_is : (texts : List (List ℕ)) → get_or (seen_of texts) 0 false ≡ any is_name texts
named_is texts = refl
