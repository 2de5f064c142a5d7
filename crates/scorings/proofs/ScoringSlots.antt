-- 162, slot by slot from the last to the first: what one slot more, before those that were read, changes. Assumes nothing.
use mathlib.Core.Path.{◌≡◌, refl, sym, ap, ap₂, ◌∙◌, subst}
use mathlib.Core.Logic.{◌⊎◌, inl, inr}
use mathlib.Core.Bool.{Bool, true, false, cond, ◌&&◌, ◌||◌, not}
use mathlib.Core.Option.{Option, none, some}
use Rattle.std.specs.Prelude.{Option as Maybe, Some, None, Result, Ok, Err}
use Rattle.std.specs.Option.{is_some, unwrap_or}
use Rattle.std.specs.Result.{MatchResult, IsOkAnd}
use Rattle.std.proofs.lemmas.Option.{cond_some}
use mathlib.Core.List.{List, [], ◌∷◌, ◌++◌}
use Prim.Native.Nat.{ℕ, zero, suc, ◌+◌, ◌*◌, ◌<◌}
use Prim.Native.Char.{code}
use native.Mathlib.Numerals.{add-one}
use native.Mathlib.Omega.{arith}
use lib.Dec.{eqb, ltb}
use lib.ListN.{get_or, set, drop, replicate}
use lib.Seq.{set-get_or}
use borrow.Author.Tests.{eq-eqb, eqb-true, ltb-true}
use Rattle.kit.specs.Lists.{all, among, is_empty, each_after}
use Rattle.kit.specs.Decides.{to, when, keep, cons}
use Rattle.kit.proofs.Bools.{clash, and, both, both_ways}
use Rattle.kit.proofs.Places.{place-first}
use Rattle.kit.proofs.Decided.{when_inv, cons-nil}
use Rattle.law.specs.Columns.{blank, is_blank, cells, else_blank, after_code}
use Rattle.law.specs.Scoring.{letters_of, letters, slot_fields, values, defaults, given_or, own_win, own_draw, scoring_of, letters_differ}
use Rattle.law.proofs.FieldsRead.{points_of}
use Rattle.law.proofs.Values.{given_else}
use Rattle.law.proofs.RecordsRead.{value_of, fill_or, filled_first, are_given, given_of}
use Rattle.fields.proofs.Columns.{cells-cons}
use Rattle.scorings.specs.declared.Given.{Given}
use Rattle.scorings.specs.Scoring.{letter_place, placed, differing, slots_in, seen_in, values_of, follower_of, given_by, if_filled, slots_give, scored}
use Rattle.types.specs.declared.Fault.{Fault}
use Rattle.types.specs.Faults.{number_of}
use Rattle.fields.specs.Said.{said, says, refuses, or_bad_field}
use Rattle.fields.proofs.Keys.{one_of}
use Rattle.fields.proofs.Cases.{never}

-- ---- letters
pub letter_is : (c : ℕ) → among c letters ≡ ltb (letter_place c) 6
unfolding letter_place
letter_is c = sym (place-first c letters [])

each-letter : (P : ℕ → Type 0) → P (code "W") → P (code "D") → P (code "L") → P (code "A") → P (code "P") → P (code "X") → (c : ℕ) → among c letters ≡ true → P c
each-letter P w d l a p x c h = go (one_of letters c h)
  where
    go : (c ≡ code "W") ⊎ ((c ≡ code "D") ⊎ ((c ≡ code "L") ⊎ ((c ≡ code "A") ⊎ ((c ≡ code "P") ⊎ (c ≡ code "X"))))) → P c
    go (inl e) = subst P (sym e) w
    go (inr (inl e)) = subst P (sym e) d
    go (inr (inr (inl e))) = subst P (sym e) l
    go (inr (inr (inr (inl e)))) = subst P (sym e) a
    go (inr (inr (inr (inr (inl e))))) = subst P (sym e) p
    go (inr (inr (inr (inr (inr e))))) = subst P (sym e) x

-- one value more, at its place, and at its follower's where none is given there
abbrev with_value : List ℕ → List Bool → ℕ → ℕ → List ℕ
with_value values seen place points =
    let f = follower_of place in
    set (set values f (cond (get_or seen f false) (get_or values f 0) points)) place points

module _ (given : List (ℕ × ℕ)) (p : ℕ) where
  seen_at : (c : ℕ) → among c letters ≡ true → get_or (seen_in given) (letter_place c) false ≡ among c (letters_of given)
  unfolding letter_place seen_in
  seen_at = each-letter (λ c. get_or (seen_in given) (letter_place c) false ≡ among c (letters_of given)) refl refl refl refl refl refl

  seen-set : (c : ℕ) → among c letters ≡ true → set (seen_in given) (letter_place c) true ≡ seen_in ((c, p) ∷ given)
  unfolding letter_place seen_in
  seen-set = each-letter (λ c. set (seen_in given) (letter_place c) true ≡ seen_in ((c, p) ∷ given)) refl refl refl refl refl refl

  -- where a P or X is given, what it would follow does not matter
  values-set : (c : ℕ) → among c letters ≡ true → with_value (values_of given) (seen_in given) (letter_place c) p ≡ values_of ((c, p) ∷ given)
  unfolding letter_place values_of seen_in scoring_of
  values-set =
      each-letter (λ c. with_value (values_of given) (seen_in given) (letter_place c) p ≡ values_of ((c, p) ∷ given))
      (λ i. p ∷ own_draw given ∷ given_or defaults.loss (code "L") given ∷ given_or defaults.absent (code "A") given ∷ given_else (own_win given) p (code "P") given i ∷ given_or (own_draw given) (code "X") given ∷ [])
      (λ i. own_win given ∷ p ∷ given_or defaults.loss (code "L") given ∷ given_or defaults.absent (code "A") given ∷ given_or (own_win given) (code "P") given ∷ given_else (own_draw given) p (code "X") given i ∷ [])
      refl refl refl refl

module _ (values : List ℕ) (seen : List Bool) (place points : ℕ) {f x : ℕ} (f-is : f ≡ follower_of place) (x-is : x ≡ cond (get_or seen f false) (get_or values f 0) points) where
  with_value_lem : set (set values f x) place points ≡ with_value values seen place points
  with_value_lem = ap (λ (y : ℕ). set (set values f y) place points) x-is ∙ ap (λ (g : ℕ). set (set values g (cond (get_or seen g false) (get_or values g 0) points)) place points) f-is

  pub with_value-are : (given : List (ℕ × ℕ)) (letter : ℕ) → among letter letters ≡ true → place ≡ letter_place letter → values ≡ values_of given → seen ≡ seen_in given
      → set (set values f x) place points ≡ values_of ((letter, points) ∷ given)
  with_value-are given letter h p v s = with_value_lem ∙ (λ i. with_value (v i) (s i) (p i) points) ∙ values-set given points letter h

-- the code writes at the follower's place only where none is given there
abbrev pub followed : Given → ℕ → ℕ → Given
followed g f points = cond (get_or g.seen f false) g (record { seen = g.seen; scoring = record { values = set g.scoring.values f points } })

followed-values : (g : Given) (f points : ℕ) → followed g f points ≡ record { seen = g.seen; scoring = record { values = set g.scoring.values f (cond (get_or g.seen f false) (get_or g.scoring.values f 0) points) } }
followed-values g f points = go (get_or g.seen f false)
  where
    go : (b : Bool) → cond b g (record { seen = g.seen; scoring = record { values = set g.scoring.values f points } })
        ≡ record { seen = g.seen; scoring = record { values = set g.scoring.values f (cond b (get_or g.scoring.values f 0) points) } }
    go true = rw (set-get_or g.scoring.values f 0) refl
    go false = refl

module _ (self : Given) (given : List (ℕ × ℕ)) (letter points : ℕ) {place : ℕ} (h : among letter letters ≡ true) (p : place ≡ letter_place letter) (s : self ≡ given_by given) where
  seen_is : get_or self.seen place false ≡ among letter (letters_of given)
  seen_is = ap₂ (λ (g : Given) (k : ℕ). get_or g.seen k false) s p ∙ seen_at given points letter h

  pub letter-again : get_or self.seen place false ≡ true → refuses 7 ≡ or_bad_field (when (not (among letter (letters_of given))) (some (given_by ((letter, points) ∷ given))))
  letter-again t = rw (sym seen_is ∙ t) refl

  pub letter-new : get_or self.seen place false ≡ false → {f : ℕ} → f ≡ follower_of place → {more : Given} → more ≡ followed self f points
      → says (record { seen = set more.seen place true; scoring = record { values = set more.scoring.values place points } })
      ≡ or_bad_field (when (not (among letter (letters_of given))) (some (given_by ((letter, points) ∷ given))))
  letter-new t {f} f-is {more} m =
      let e : more ≡ record { seen = self.seen; scoring = record { values = set self.scoring.values f (cond (get_or self.seen f false) (get_or self.scoring.values f 0) points) } } = m ∙ followed-values self f points in
      rw (sym seen_is ∙ t, e, f-is, p, s, seen-set given points letter h, values-set given points letter h) refl

-- ---- one slot
module _ (row : List ℕ) (i c : ℕ) (at : c ≡ get_or row i blank) where
  value_by : value_of (cells row i 5) ≡ when (among c letters) (to (λ (p : ℕ). (c, p)) (points_of (cells row (i + 1) 4)))
  value_by =
      let e : cells row i 5 ≡ c ∷ cells row (i + 1) 4 = cells-cons row i 4 ∙ ap₂ (λ (x j : ℕ). x ∷ cells row j 4) (sym at) (sym (add-one i)) in
      ap value_of e

  pub no-letter : cond (among c letters) (Some (letter_place c)) None ≡ None → to placed (value_of (cells row i 5)) ≡ none
  no-letter n = ap (to placed) value_by ∙ go (among c letters) n
    where
      go : (b : Bool) → cond b (Some (letter_place c)) None ≡ None → to placed (when b (to (λ (p : ℕ). (c, p)) (points_of (cells row (i + 1) 4)))) ≡ none
      go true e = cc
      go false e = refl

  pub letter-points : {k : ℕ} → cond (among c letters) (Some (letter_place c)) None ≡ Some k → to placed (value_of (cells row i 5)) ≡ to (λ (p : ℕ). (k, p)) (points_of (cells row (i + 1) 4))
  letter-points {k} s =
      let l = cond_some (among c letters) (letter_place c) k s in
      ap (to placed) value_by ∙ rw (l.0) (go (points_of (cells row (i + 1) 4)) l.1)
    where
      go : (o : Option ℕ) → letter_place c ≡ k → to placed (to (λ (p : ℕ). (c, p)) o) ≡ to (λ (p : ℕ). (k, p)) o
      go none e = refl
      go (some p) e = ap (λ (j : ℕ). some (j, p)) e

-- a slot that was read has a letter
value-letter : (slot : List ℕ) (k p : ℕ) → says (k, p) ≡ or_bad_field (to placed (value_of slot)) → (c : ℕ) × (value_of slot ≡ some (c, p)) × (k ≡ letter_place c) × (among c letters ≡ true)
value-letter slot k p e = go (among (get_or slot 0 blank) letters) refl (points_of (drop 1 slot)) refl (sym e)
  where
    go : (b : Bool) → among (get_or slot 0 blank) letters ≡ b → (o : Option ℕ) → points_of (drop 1 slot) ≡ o
        → or_bad_field (to placed (when b (to (λ (q : ℕ). (get_or slot 0 blank, q)) o))) ≡ says (k, p) → (c : ℕ) × (value_of slot ≡ some (c, p)) × (k ≡ letter_place c) × (among c letters ≡ true)
    go true h (some q) r f =
        let w : placed (get_or slot 0 blank, q) ≡ (k, p) = cc in
        let v : q ≡ p = ap (λ (x : ℕ × ℕ). x.1) w in
        (get_or slot 0 blank, rw (h, r, v) refl, sym (ap (λ (x : ℕ × ℕ). x.0) w), h)
    go true h none r f = never (sym f)
    go false h o r f = never (sym f)

pub slot_place : (slot : List ℕ) (k p : ℕ) → says (k, p) ≡ or_bad_field (to placed (value_of slot)) → k < 6
slot_place slot k p e =
    let r = value-letter slot k p e in
    let h = ltb-true (letter_place r.0) 6 (sym (letter_is r.0) ∙ r.3) in
    rw r.2 h

-- ---- letters that differ
apart : (x : ℕ) (e l : List ℕ) → each_after (λ before letter. not (among letter before)) (x ∷ e) l ≡ not (among x l) && each_after (λ before letter. not (among letter before)) e l
apart x e [] = refl
apart x e (y ∷ l) =
    rw (apart x (e ++ (y ∷ [])) l, turned) (go (eqb x y) (among y e) (among x l) (each_after (λ before letter. not (among letter before)) (e ++ (y ∷ [])) l))
  where
    turned : eqb y x ≡ eqb x y
    turned = both_ways (eqb y x) (eqb x y) (λ p. eq-eqb x y (sym (eqb-true y x p))) (λ p. eq-eqb y x (sym (eqb-true x y p)))

    go : (s m n r : Bool) → not (s || m) && (not n && r) ≡ not (s || n) && (not m && r)
    go true m n r = refl
    go false true true r = refl
    go false true false r = refl
    go false false true r = refl
    go false false false r = refl

differ_more : (v : ℕ × ℕ) (given : List (ℕ × ℕ)) → letters_differ (v ∷ given) ≡ not (among v.0 (letters_of given)) && letters_differ given
differ_more v given = apart v.0 [] (letters_of given)

-- ---- slots, the first of which is looked at
blanks-none : (xs : List (List ℕ)) → all (all is_blank) xs ≡ true → filled_first xs ≡ some []
blanks-none [] h = refl
blanks-none (x ∷ xs) h = let k = and (all is_blank x) (all (all is_blank) xs) h in rw (k.0, k.1) refl

none-blanks : (xs : List (List ℕ)) → filled_first xs ≡ some [] → all (all is_blank) xs ≡ true
none-blanks [] e = refl
none-blanks (x ∷ xs) e = go (all is_blank x) refl e
  where
    go : (b : Bool) → all is_blank x ≡ b → fill_or b (all (all is_blank) xs) (value_of x) (filled_first xs) ≡ some [] → all (all is_blank) (x ∷ xs) ≡ true
    go true p q = both p (when_inv (all (all is_blank) xs) (some []) [] q).0
    go false p q = absurd (cons-nil (value_of x) (filled_first xs) q)

abbrev if_none : Option (List (ℕ × ℕ)) → Option (List (ℕ × ℕ))
if_none none = none
if_none (some []) = some []
if_none (some (v ∷ given)) = none

abbrev added : Option (ℕ × ℕ) → Option (List (ℕ × ℕ)) → Option (List (ℕ × ℕ))
added none o = none
added (some v) none = none
added (some v) (some given) = when (not (among v.0 (letters_of given))) (some (v ∷ given))

module _ (x : List ℕ) (xs : List (List ℕ)) where
  blank-first : all is_blank x ≡ true → differing (x ∷ xs) ≡ if_none (differing xs)
  blank-first h = rw h (go (all (all is_blank) xs) refl (filled_first xs) refl)
    where
      kept : (b : Bool) (v : ℕ × ℕ) (given : List (ℕ × ℕ)) → none ≡ if_none (when b (some (v ∷ given)))
      kept true v given = refl
      kept false v given = refl

      go : (b : Bool) → all (all is_blank) xs ≡ b → (o : Option (List (ℕ × ℕ))) → filled_first xs ≡ o → keep letters_differ (when b (some [])) ≡ if_none (keep letters_differ o)
      go true p o q = ap (λ (m : Option (List (ℕ × ℕ))). if_none (keep letters_differ m)) (sym (blanks-none xs p) ∙ q)
      go false p none q = refl
      go false p (some []) q = clash (sym p ∙ none-blanks xs q)
      go false p (some (v ∷ given)) q = kept (letters_differ (v ∷ given)) v given

  filled-first : all is_blank x ≡ false → differing (x ∷ xs) ≡ added (value_of x) (differing xs)
  filled-first h = rw h (go (value_of x) (filled_first xs))
    where
      kept : (v : ℕ × ℕ) (given : List (ℕ × ℕ)) (n b : Bool) → not (among v.0 (letters_of given)) ≡ n → when (n && b) (some (v ∷ given)) ≡ added (some v) (when b (some given))
      kept v given true true e = rw e refl
      kept v given false true e = rw e refl
      kept v given true false e = refl
      kept v given false false e = refl

      go : (v : Option (ℕ × ℕ)) (o : Option (List (ℕ × ℕ))) → keep letters_differ (cons v o) ≡ added v (keep letters_differ o)
      go none o = refl
      go (some v) none = refl
      go (some v) (some given) = ap (λ (b : Bool). when b (some (v ∷ given))) (differ_more v given) ∙ kept v given (not (among v.0 (letters_of given))) (letters_differ given) refl

-- what was said of some slots, as what they give
told : (o : Option (List (ℕ × ℕ))) (g : Maybe Given) → says g ≡ or_bad_field (to if_filled o) → (l : List (ℕ × ℕ)) × (o ≡ some l) × (g ≡ if_filled l)
told none g e = never e
told (some l) g e = (l, refl, cc)

-- where no slot is filled
abbrev nothing : Given
nothing = record { seen = replicate 6 false; scoring = record { values = values defaults } }

unwrapped : (l : List (ℕ × ℕ)) → unwrap_or (if_filled l) nothing ≡ given_by l
unfolding seen_in values_of scoring_of
unwrapped [] = refl
unwrapped (v ∷ l) = refl

module _ (slot : List ℕ) (after : List (List ℕ)) where
  -- one slot more before those after it, of which nothing good was said
  none-before : differing after ≡ none → differing (slot ∷ after) ≡ none
  none-before nothing = go (all is_blank slot) refl (value_of slot)
    where
      go : (b : Bool) → all is_blank slot ≡ b → (v : Option (ℕ × ℕ)) → differing (slot ∷ after) ≡ none
      go true p v = blank-first slot after p ∙ ap if_none nothing
      go false p v = filled-first slot after p ∙ ap₂ added refl nothing ∙ no_more (value_of slot)
        where
          no_more : (v : Option (ℕ × ℕ)) → added v none ≡ none
          no_more none = refl
          no_more (some v) = refl

  -- .. or of which `given` was
  module _ (given : Maybe Given) (was : says given ≡ slots_give after) where
    before : (l : List (ℕ × ℕ)) × (differing after ≡ some l) × (given ≡ if_filled l)
    before = told (differing after) given was

    pub blank_late : all is_blank slot ≡ true → is_some given ≡ true → refuses 7 ≡ slots_give (slot ∷ after)
    blank_late b f = rw (blank-first slot after b, before.1) (go before.0 (sym (ap is_some before.2) ∙ f))
      where
        go : (l : List (ℕ × ℕ)) → is_some (if_filled l) ≡ true → refuses 7 ≡ or_bad_field (to if_filled (if_none (some l)))
        go [] e = clash e
        go (v ∷ l) e = refl

    pub blank_more : all is_blank slot ≡ true → is_some given ≡ false → says None ≡ slots_give (slot ∷ after)
    blank_more b f = rw (blank-first slot after b, before.1) (go before.0 (sym (ap is_some before.2) ∙ f))
      where
        go : (l : List (ℕ × ℕ)) → is_some (if_filled l) ≡ false → says None ≡ or_bad_field (to if_filled (if_none (some l)))
        go [] e = refl
        go (v ∷ l) e = clash (sym e)

    module _ (b : all is_blank slot ≡ false) where
      pub slot_bad : {k : ℕ} → refuses k ≡ or_bad_field (to placed (value_of slot)) → to if_filled (differing (slot ∷ after)) ≡ none
      slot_bad e = rw (filled-first slot after b, no_value (value_of slot) (sym e)) refl
        where
          no_value : {k : ℕ} (o : Option (ℕ × ℕ)) → or_bad_field (to placed o) ≡ refuses k → o ≡ none
          no_value (some v) e = never e
          no_value none e = refl

      pub slot_more : {k p : ℕ} → says (k, p) ≡ or_bad_field (to placed (value_of slot)) → {one : Given} → one ≡ unwrap_or given nothing → (r : Result Given Fault) (s : Result (Maybe Given) Fault)
          → ((l : List (ℕ × ℕ)) (letter : ℕ) → among letter letters ≡ true → k ≡ letter_place letter → one ≡ given_by l → said r ≡ or_bad_field (when (not (among letter (letters_of l))) (some (given_by ((letter, p) ∷ l)))))
          → MatchResult r (λ x. IsOkAnd s (λ y. y ≡ Some x)) (λ e. s ≡ Err e) → said s ≡ slots_give (slot ∷ after)
      slot_more {k} {p} e {one} u r s w m =
          let t = value-letter slot k p e in
          rw (filled-first slot after b, t.1, before.1)
          (go (before.0) (t.0, p) (not (among t.0 (letters_of before.0))) r s (w before.0 t.0 t.3 t.2 (u ∙ ap (λ (g : Maybe Given). unwrap_or g nothing) before.2 ∙ unwrapped before.0)) m)
        where
          go : (l : List (ℕ × ℕ)) (x : ℕ × ℕ) (v : Bool) (r : Result Given Fault) (s : Result (Maybe Given) Fault) → said r ≡ or_bad_field (when v (some (given_by (x ∷ l))))
              → MatchResult r (λ x. IsOkAnd s (λ y. y ≡ Some x)) (λ e. s ≡ Err e) → said s ≡ or_bad_field (to if_filled (when v (some (x ∷ l))))
          go l x true (Ok g) (Ok y) e h = let q : g ≡ given_by (x ∷ l) = cc in rw h (ap (λ (g : Given). says (Some g)) q)
          go l x true (Ok g) (Err d) e h = absurd h
          go l x true (Err d) s e h = never (sym e)
          go l x false (Ok g) s e h = never e
          go l x false (Err d) s e h = let q : number_of d ≡ 7 = cc in rw h (ap (λ (k : ℕ). refuses k) q)

-- ---- the six slots, and the line
pub slots_turn : (row : List ℕ) (i : ℕ) → i < 6 → drop i (slots_in row) ≡ cells row (5 + 9 * i) 5 ∷ drop (i + 1) (slots_in row)
slots_turn row zero h = refl
slots_turn row (suc zero) h = refl
slots_turn row (suc (suc zero)) h = refl
slots_turn row (suc (suc (suc zero))) h = refl
slots_turn row (suc (suc (suc (suc zero)))) h = refl
slots_turn row (suc (suc (suc (suc (suc zero))))) h = refl
slots_turn row (suc (suc (suc (suc (suc (suc i)))))) h = absurd (omega arith)

abbrev filled_some : List (ℕ × ℕ) → Bool
filled_some given = not (is_empty given)

given_if : (row : List ℕ) → given_of row ≡ when (else_blank after_code slot_fields row) (keep filled_some (differing (slots_in row)))
given_if row = ap (when (else_blank after_code slot_fields row)) (go (filled_first (slots_in row)))
  where
    go : (o : Option (List (ℕ × ℕ))) → keep are_given o ≡ keep filled_some (keep letters_differ o)
    go none = refl
    go (some given) = and_both (filled_some given) refl (letters_differ given) refl
      where
        and_both : (f : Bool) → filled_some given ≡ f → (d : Bool) → letters_differ given ≡ d → when (f && d) (some given) ≡ keep filled_some (when d (some given))
        and_both f p true q = rw p (go_true f)
          where
            go_true : (f : Bool) → when (f && true) (some given) ≡ when f (some given)
            go_true true = refl
            go_true false = refl
        and_both true p false q = refl
        and_both false p false q = refl

-- what is said of no slots, or of some
no_slots : {k : ℕ} (slots : List (List ℕ)) → refuses k ≡ slots_give slots → differing slots ≡ none
no_slots slots e = go (differing slots) e
  where
    go : {k : ℕ} (o : Option (List (ℕ × ℕ))) → refuses k ≡ or_bad_field (to if_filled o) → o ≡ none
    go none e = refl
    go (some l) e = never (sym e)

none_early : (slots : List (List ℕ)) (i : ℕ) → differing (drop i slots) ≡ none → differing slots ≡ none
none_early slots zero e = e
none_early [] (suc i) e = e
none_early (slot ∷ slots) (suc i) e = none-before slot slots (none_early slots i e)

module _ (row : List ℕ) where
  pub none_at : {k : ℕ} (i : ℕ) → i < 6 → refuses k ≡ slots_give (cells row (5 + 9 * i) 5 ∷ drop (i + 1) (slots_in row)) → to if_filled (differing (slots_in row)) ≡ none
  none_at i h e = ap (to if_filled) (none_early (slots_in row) i (ap differing (slots_turn row i h) ∙ no_slots (cells row (5 + 9 * i) 5 ∷ drop (i + 1) (slots_in row)) e))

  module _ (e : else_blank after_code slot_fields row ≡ true) where
    by_slots : given_of row ≡ keep filled_some (differing (slots_in row))
    by_slots = given_if row ∙ ap (λ (v : Bool). when v (keep filled_some (differing (slots_in row)))) e

    pub none_given : {k : ℕ} → refuses k ≡ slots_give (slots_in row) → to scored (given_of row) ≡ none
    none_given r = rw (by_slots, no_slots (slots_in row) r) refl

    pub none_filled : says None ≡ slots_give (slots_in row) → to scored (given_of row) ≡ none
    none_filled r = rw by_slots (go (differing (slots_in row)) r)
      where
        go : (o : Option (List (ℕ × ℕ))) → says None ≡ or_bad_field (to if_filled o) → to scored (keep filled_some o) ≡ none
        go none r = refl
        go (some []) r = refl
        go (some (v ∷ l)) r = cc

    pub some_filled : {g : Given} → says (Some g) ≡ slots_give (slots_in row) → says g.scoring ≡ or_bad_field (to scored (given_of row))
    some_filled r = rw by_slots (go (differing (slots_in row)) r)
      where
        go : {g : Given} (o : Option (List (ℕ × ℕ))) → says (Some g) ≡ or_bad_field (to if_filled o) → says g.scoring ≡ or_bad_field (to scored (keep filled_some o))
        go none r = never r
        go (some []) r = cc
        go {g} (some (v ∷ l)) r = let q : g ≡ given_by (v ∷ l) = cc in ap (λ (x : Given). says x.scoring) q
