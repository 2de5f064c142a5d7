-- The fields decided: functions that compute, and that they decide the relations of Fields and Text's `Trimmed`. Assumes nothing.
use mathlib.Core.Path.{◌≡◌, refl, sym, ap, ◌∙◌, subst}
use mathlib.Core.Logic.{inl, inr}
use mathlib.Core.Bool.{Bool, true, false, cond, ◌&&◌}
use mathlib.Core.Option.{Option, none, some}
use mathlib.Core.List.{List, [], ◌∷◌, ◌++◌}
use Prim.Native.Nat.{ℕ, zero, suc, ◌+◌, ◌*◌}
use Prim.Native.Char.{code}
use native.Mathlib.Omega.{arith}
use lib.Dec.{eqb}
use lib.ListN.{replicate}
use borrow.Author.Tests.{ne_eqb, eqb-true}
use Rattle.kit.specs.Lists.{all}
use Rattle.kit.specs.Decides.{Decides, when}
use Rattle.kit.proofs.Bools.{clash, and, both, within}
use Rattle.kit.proofs.Decided.{when_inv, no_some}
use Rattle.law.specs.Columns.{blank, is_blank}
use Rattle.law.specs.Fields.{is_digit, digit_value, decimal_from, SpellsNumber, is_tens, SpellsPoints, SpellsLeading, SpellsNumberOrBlank}
use Rattle.law.specs.Text.{last_or, Trimmed}

-- what a field of digits after blanks is
pub data Number : Type 0 where
  value : ℕ → Number
  none-there : Number
  bad : Number

abbrev pub digits_from : ℕ → List ℕ → Number
digits_from n [] = value n
digits_from n (c ∷ cs) = cond (is_digit c) (digits_from (n * 10 + digit_value c) cs) bad

abbrev pub number_of : List ℕ → Number
number_of [] = none-there
number_of (c ∷ cs) = cond (is_blank c) (number_of cs) (digits_from 0 (c ∷ cs))

abbrev pub the_number : Number → Option ℕ
the_number (value n) = some n
the_number none-there = none
the_number bad = none

abbrev pub number_or0 : Number → Option ℕ
number_or0 (value n) = some n
number_or0 none-there = some 0
number_or0 bad = none

-- ---- digits
digit-not-blank : (c : ℕ) → is_digit c ≡ true → is_blank c ≡ false
digit-not-blank c e = let k = within (code "0") (code "9") c e in let l = k.0 in ne_eqb c blank (λ p. omega arith)

digits-complete : (n : ℕ) (ds : List ℕ) → all is_digit ds ≡ true → digits_from n ds ≡ value (decimal_from n ds)
digits-complete n [] h = refl
digits-complete n (d ∷ ds) h = let k = and (is_digit d) (all is_digit ds) h in rw k.0 (digits-complete (n * 10 + digit_value d) ds k.1)

number-complete : (k d : ℕ) (ds : List ℕ) → all is_digit (d ∷ ds) ≡ true → number_of (replicate k blank ++ (d ∷ ds)) ≡ value (decimal_from 0 (d ∷ ds))
number-complete zero d ds h = rw (digit-not-blank d (and (is_digit d) (all is_digit ds) h).0) (digits-complete 0 (d ∷ ds) h)
number-complete (suc k) d ds h = number-complete k d ds h

digits-sound : (m : ℕ) (cs : List ℕ) (n : ℕ) → digits_from m cs ≡ value n → (all is_digit cs ≡ true) × (n ≡ decimal_from m cs)
digits-sound m [] n e = (refl, cc)
digits-sound m (c ∷ cs) n e = go (is_digit c) refl (digits-sound (m * 10 + digit_value c) cs n) e
  where
    go : (b : Bool) → is_digit c ≡ b → (digits_from (m * 10 + digit_value c) cs ≡ value n → (all is_digit cs ≡ true) × (n ≡ decimal_from (m * 10 + digit_value c) cs))
        → cond b (digits_from (m * 10 + digit_value c) cs) bad ≡ value n → (all is_digit (c ∷ cs) ≡ true) × (n ≡ decimal_from m (c ∷ cs))
    go true p ih q = let r = ih q in (both p r.0, r.1)
    go false p ih q = let z : ◌≡◌ {A = ℕ} 0 1 = cc in absurd (omega arith)

pub more_blank : (c : ℕ) (cs : List ℕ) (n : ℕ) → c ≡ blank → SpellsNumber cs n → SpellsNumber (c ∷ cs) n
more_blank c cs n e s =
    record {
      blanks = suc s.blanks;
      first = s.first;
      others = s.others;
      text = let t = s.text in ap (λ (x : ℕ). x ∷ cs) e ∙ ap (λ (l : List ℕ). blank ∷ l) t;
      digits = s.digits;
      value = s.value;
    }

-- ---- a number field
pub number-sound : (cs : List ℕ) (n : ℕ) → number_of cs ≡ value n → SpellsNumber cs n
number-sound [] n e = let z : ◌≡◌ {A = ℕ} 0 1 = cc in absurd (omega arith)
number-sound (c ∷ cs) n e = go (is_blank c) refl (number-sound cs n) e
  where
    go : (b : Bool) → is_blank c ≡ b → (number_of cs ≡ value n → SpellsNumber cs n) → cond b (number_of cs) (digits_from 0 (c ∷ cs)) ≡ value n → SpellsNumber (c ∷ cs) n
    go true p ih q = more_blank c cs n (eqb-true c blank p) (ih q)
    go false p ih q =
        let r = digits-sound 0 (c ∷ cs) n q in
        record { blanks = 0; first = c; others = cs; text = refl; digits = r.0; value = r.1 }

pub number_is : (cs : List ℕ) (n : ℕ) → SpellsNumber cs n → number_of cs ≡ value n
number_is cs n s = ap number_of s.text ∙ number-complete s.blanks s.first s.others s.digits ∙ ap value (sym s.value)

the_inv : (r : Number) (n : ℕ) → the_number r ≡ some n → r ≡ value n
the_inv (value m) n e = let u : m ≡ n = cc in ap value u
the_inv none-there n e = no_some e
the_inv bad n e = no_some e

pub number : Decides SpellsNumber (λ cs. the_number (number_of cs))
number =
    record {
      sound = λ cs n e. number-sound cs n (the_inv (number_of cs) n e);
      complete = λ cs n s. ap the_number (number_is cs n s);
    }

-- ---- a number field or blank
digits-there : (n : ℕ) (cs : List ℕ) → digits_from n cs ≡ none-there → ⊥
digits-there n [] e = let z : ◌≡◌ {A = ℕ} 0 1 = cc in omega arith
digits-there n (c ∷ cs) e = go (is_digit c) (digits-there (n * 10 + digit_value c) cs) e
  where
    go : (b : Bool) → (digits_from (n * 10 + digit_value c) cs ≡ none-there → ⊥) → cond b (digits_from (n * 10 + digit_value c) cs) bad ≡ none-there → ⊥
    go true ih q = ih q
    go false ih q = let z : ◌≡◌ {A = ℕ} 0 1 = cc in omega arith

pub blank-sound : (cs : List ℕ) → number_of cs ≡ none-there → all is_blank cs ≡ true
blank-sound [] e = refl
blank-sound (c ∷ cs) e = go (is_blank c) refl (blank-sound cs) e
  where
    go : (b : Bool) → is_blank c ≡ b → (number_of cs ≡ none-there → all is_blank cs ≡ true) → cond b (number_of cs) (digits_from 0 (c ∷ cs)) ≡ none-there → all is_blank (c ∷ cs) ≡ true
    go true p ih q = both p (ih q)
    go false p ih q = absurd (digits-there 0 (c ∷ cs) q)

pub blank_is : (cs : List ℕ) → all is_blank cs ≡ true → number_of cs ≡ none-there
blank_is [] h = refl
blank_is (c ∷ cs) h = let k = and (is_blank c) (all is_blank cs) h in rw k.0 (blank_is cs k.1)

or-blank-sound : (cs : List ℕ) (n : ℕ) → number_or0 (number_of cs) ≡ some n → SpellsNumberOrBlank cs n
or-blank-sound cs n e = go (number_of cs) refl e
  where
    go : (r : Number) → number_of cs ≡ r → number_or0 r ≡ some n → SpellsNumberOrBlank cs n
    go (value m) p q = let u : m ≡ n = cc in inl (number-sound cs n (p ∙ ap value u))
    go none-there p q = inr (blank-sound cs p, cc)
    go bad p q = no_some q

or-blank-complete : (cs : List ℕ) (n : ℕ) → SpellsNumberOrBlank cs n → number_or0 (number_of cs) ≡ some n
or-blank-complete cs n (inl s) = ap number_or0 (number_is cs n s)
or-blank-complete cs n (inr b) = ap number_or0 (blank_is cs b.0) ∙ ap some (sym b.1)

pub number-or-blank : Decides SpellsNumberOrBlank (λ cs. number_or0 (number_of cs))
number-or-blank = record { sound = or-blank-sound; complete = or-blank-complete }

-- ---- a points field
abbrev pub are_points : ℕ → ℕ → ℕ → ℕ → Bool
are_points a b c d = eqb c (code ".") && (is_tens a && is_digit b && is_digit d)

abbrev pub points_of : List ℕ → Option ℕ
points_of [] = none
points_of (a ∷ []) = none
points_of (a ∷ b ∷ []) = none
points_of (a ∷ b ∷ c ∷ []) = none
points_of (a ∷ b ∷ c ∷ d ∷ []) = when (are_points a b c d) (some (digit_value a * 100 + digit_value b * 10 + digit_value d))
points_of (a ∷ b ∷ c ∷ d ∷ e ∷ l) = none

points-sound : (cs : List ℕ) (n : ℕ) → points_of cs ≡ some n → SpellsPoints cs n
points-sound [] n e = no_some e
points-sound (a ∷ []) n e = no_some e
points-sound (a ∷ b ∷ []) n e = no_some e
points-sound (a ∷ b ∷ c ∷ []) n e = no_some e
points-sound (a ∷ b ∷ c ∷ d ∷ []) n e =
    let k = when_inv (are_points a b c d) (some (digit_value a * 100 + digit_value b * 10 + digit_value d)) n e in
    let j = and (eqb c (code ".")) (is_tens a && is_digit b && is_digit d) k.0 in
    let u = k.1 in
    record {
      tens = a;
      units = b;
      tenths = d;
      text = ap (λ (x : ℕ). a ∷ b ∷ x ∷ d ∷ []) (eqb-true c (code ".") j.0);
      digits = j.1;
      value = cc;
    }
points-sound (a ∷ b ∷ c ∷ d ∷ x ∷ l) n e = no_some e

pub points : Decides SpellsPoints points_of
points = record { sound = points-sound; complete = λ cs n s. ap points_of s.text ∙ rw s.digits (ap some (sym s.value)) }

-- ---- digits from the first column
pub blanks-all : (k : ℕ) → all is_blank (replicate k blank) ≡ true
blanks-all zero = refl
blanks-all (suc k) = blanks-all k

pub all-blanks : (l : List ℕ) → all is_blank l ≡ true → (k : ℕ) × (l ≡ replicate k blank)
all-blanks [] e = (0, refl)
all-blanks (c ∷ l) e =
    let p = and (is_blank c) (all is_blank l) e in
    let r = all-blanks l p.1 in
    let u : c ≡ blank = eqb-true c blank p.0 in
    (suc r.0, ap (λ (x : ℕ). x ∷ l) u ∙ ap (λ (m : List ℕ). blank ∷ m) r.1)

abbrev pub leading_from : ℕ → List ℕ → Option ℕ
leading_from n [] = some n
leading_from n (c ∷ l) = cond (is_digit c) (leading_from (n * 10 + digit_value c) l) (when (all is_blank (c ∷ l)) (some n))

abbrev pub leading_of : List ℕ → Option ℕ
leading_of [] = none
leading_of (c ∷ l) = when (is_digit c) (leading_from (0 * 10 + digit_value c) l)

leading-complete : (n : ℕ) (ds : List ℕ) (k : ℕ) → all is_digit ds ≡ true → leading_from n (ds ++ replicate k blank) ≡ some (decimal_from n ds)
leading-complete n [] zero h = refl
leading-complete n [] (suc k) h = rw (blanks-all k) refl
leading-complete n (d ∷ ds) k h = let j = and (is_digit d) (all is_digit ds) h in rw j.0 (leading-complete (n * 10 + digit_value d) ds k j.1)

-- digits, then blanks
record Split (n : ℕ) (l : List ℕ) (m : ℕ) : Type 0 where
  ds : List ℕ
  k : ℕ
  text : l ≡ ds ++ replicate k blank
  digits : all is_digit ds ≡ true
  worth : m ≡ decimal_from n ds

leading_sound : (n : ℕ) (l : List ℕ) (m : ℕ) → leading_from n l ≡ some m → Split n l m
leading_sound n [] m e = record { ds = []; k = 0; text = refl; digits = refl; worth = cc }
leading_sound n (c ∷ l) m e = go (is_digit c) refl (leading_sound (n * 10 + digit_value c) l m) e
  where
    go : (v : Bool) → is_digit c ≡ v → (leading_from (n * 10 + digit_value c) l ≡ some m → Split (n * 10 + digit_value c) l m)
        → cond v (leading_from (n * 10 + digit_value c) l) (when (all is_blank (c ∷ l)) (some n)) ≡ some m → Split n (c ∷ l) m
    go true p ih q =
        let r = ih q in
        let t = r.text in
        record { ds = c ∷ r.ds; k = r.k; text = ap (λ (x : List ℕ). c ∷ x) t; digits = both p r.digits; worth = r.worth }
    go false p ih q =
        let w = when_inv (all is_blank (c ∷ l)) (some n) m q in
        let r = all-blanks (c ∷ l) w.0 in
        let u = w.1 in
        record { ds = []; k = r.0; text = r.1; digits = refl; worth = cc }

leading-field-sound : (cs : List ℕ) (n : ℕ) → leading_of cs ≡ some n → SpellsLeading cs n
leading-field-sound [] n e = no_some e
leading-field-sound (c ∷ l) n e =
    let k = when_inv (is_digit c) (leading_from (0 * 10 + digit_value c) l) n e in
    let r = leading_sound (0 * 10 + digit_value c) l n k.1 in
    let t = r.text in
    record { first = c; others = r.ds; blanks = r.k; text = ap (λ (x : List ℕ). c ∷ x) t; digits = both k.0 r.digits; value = r.worth }

pub leading : Decides SpellsLeading leading_of
leading =
    record {
      sound = leading-field-sound;
      complete = λ cs n r.
          let k = and (is_digit r.first) (all is_digit r.others) r.digits in
          ap leading_of r.text ∙ rw k.0 (leading-complete (0 * 10 + digit_value r.first) r.others r.blanks k.1 ∙ ap some (sym r.value));
    }

-- ---- a row without its trailing blanks
abbrev pub cons_unless : Bool → ℕ → List ℕ → List ℕ
cons_unless true c l = l
cons_unless false c l = c ∷ l

abbrev pub is_nil : List ℕ → Bool
is_nil [] = true
is_nil (c ∷ l) = false

abbrev pub trim : List ℕ → List ℕ
trim [] = []
trim (c ∷ l) = cons_unless (is_blank c && is_nil (trim l)) c (trim l)

last_cons : (c : ℕ) (l : List ℕ) → is_nil l ≡ false → (d e : ℕ) → last_or d (c ∷ l) ≡ last_or e l
last_cons c [] h d e = clash (sym h)
last_cons c (x ∷ l) h d e = refl

trim_trims : (row : List ℕ) → Trimmed row (trim row)
trim_trims [] = record { blanks = 0; text = refl; ends = refl }
trim_trims (c ∷ row) = go (is_blank c) (is_nil (trim row)) refl refl (trim_trims row)
  where
    nil : (l : List ℕ) → is_nil l ≡ true → l ≡ []
    nil [] e = refl
    nil (x ∷ l) e = clash e

    go : (b v : Bool) → is_blank c ≡ b → is_nil (trim row) ≡ v → Trimmed row (trim row) → Trimmed (c ∷ row) (cons_unless (b && v) c (trim row))
    go true true p q t =
        let e = t.text in
        let z = nil (trim row) q in
        record {
          blanks = suc t.blanks;
          text = ap (λ (x : ℕ). x ∷ row) (eqb-true c blank p) ∙ ap (λ (l : List ℕ). blank ∷ l) (e ∙ ap (λ (l : List ℕ). l ++ replicate t.blanks blank) z) ∙ ap (λ (l : List ℕ). l ++ (blank ∷ replicate t.blanks blank)) (sym z);
          ends = t.ends;
        }
    go true false p q t = record { blanks = t.blanks; text = let e = t.text in ap (λ (l : List ℕ). c ∷ l) e; ends = ap is_blank (last_cons c (trim row) q 0 0) ∙ t.ends }
    go false v p q t = record { blanks = t.blanks; text = let e = t.text in ap (λ (l : List ℕ). c ∷ l) e; ends = only v q }
      where
        only : (v : Bool) → is_nil (trim row) ≡ v → is_blank (last_or 0 (c ∷ trim row)) ≡ false
        only true q = ap (λ (l : List ℕ). is_blank (last_or 0 (c ∷ l))) (nil (trim row) q) ∙ p
        only false q = ap is_blank (last_cons c (trim row) q 0 0) ∙ t.ends

trim_blanks : (k : ℕ) → trim (replicate k blank) ≡ []
trim_blanks zero = refl
trim_blanks (suc k) = rw (trim_blanks k) refl

trim_kept : (d : ℕ) (a : List ℕ) (k : ℕ) → is_blank (last_or d a) ≡ false → is_blank d ≡ true → trim (a ++ replicate k blank) ≡ a
trim_kept d [] k h e = clash (sym h ∙ e)
trim_kept d (c ∷ []) k h e = rw (trim_blanks k, h) refl
trim_kept d (c ∷ x ∷ a) k h e = rw (trim_kept blank (x ∷ a) k h refl) (rest (is_blank c))
  where
    rest : (b : Bool) → cons_unless (b && false) c (x ∷ a) ≡ c ∷ x ∷ a
    rest true = refl
    rest false = refl

pub trimmed : Decides Trimmed (λ row. some (trim row))
trimmed =
    record {
      sound = λ row a e. let u : trim row ≡ a = cc in subst (Trimmed row) u (trim_trims row);
      complete = λ row a t. ap some (ap trim t.text ∙ whole a t.blanks t.ends);
    }
  where
    whole : (a : List ℕ) (k : ℕ) → is_blank (last_or 0 a) ≡ false → trim (a ++ replicate k blank) ≡ a
    whole [] k h = trim_blanks k
    whole (c ∷ a) k h = trim_kept blank (c ∷ a) k h refl
