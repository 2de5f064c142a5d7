-- The writer's numbers and points: for every width and filling one law, from which a number field, leading digits and the width follow. Assumes nothing.
use mathlib.Core.Path.{◌≡◌, refl, sym, ap, ◌∙◌, subst}
use mathlib.Core.Logic.{◌⊎◌, inl, inr}
use mathlib.Core.Bool.{Bool, true, false, cond, ◌||◌, not}
use mathlib.Core.List.{List, [], ◌∷◌, ◌++◌, append_assoc}
use Prim.Native.Nat.{ℕ, zero, suc, ◌+◌, ◌*◌, ◌-◌, ◌/◌, ◌^◌, ◌≤◌, ◌<◌}
use Prim.Native.Char.{code}
use native.Mathlib.Nat.{suc-add, add-suc, pow-suc}
use native.Mathlib.Omega.{arith}
use lib.Dec.{eqb}
use lib.ListN.{length, replicate, length-append, length-replicate}
use borrow.Author.Tests.{eq-eqb, ne_eqb, eqb-true}
use Rattle.kit.specs.Lists.{all}
use Rattle.kit.proofs.Bools.{and, both, within, in_between, all_append}
use Rattle.law.specs.Lines.{allowed}
use Rattle.law.specs.Columns.{blank, is_blank, padded}
use Rattle.law.specs.Fields.{is_digit, digit_value, decimal_from, SpellsNumber, is_tens, SpellsPoints, SpellsLeading}
use Rattle.law.specs.Writing.{blanks, digit, filled, nothing, noughts, points_text}

pub digit_is : (n : ℕ) → is_digit (digit n) ≡ true
digit_is n = in_between (code "0") (code "9") (digit n) (omega arith) (omega arith)

decimal_snoc : (m : ℕ) (ds : List ℕ) (d : ℕ) → decimal_from m (ds ++ (d ∷ [])) ≡ decimal_from m ds * 10 + digit_value d
decimal_snoc m [] d = refl
decimal_snoc m (x ∷ ds) d = decimal_snoc (m * 10 + digit_value x) ds d

-- ---- a number in w columns: what is left of them, and then its digits
pub record Shown (w n : ℕ) : Type 0 where
  pub first : ℕ
  pub others : List ℕ
  pub left : ℕ
  pub digits : all is_digit (first ∷ others) ≡ true
  pub value : n ≡ decimal_from 0 (first ∷ others)
  pub wide : left + length (first ∷ others) ≡ w
  pub shown : (fill : ℕ → List ℕ) → filled fill w n ≡ fill left ++ (first ∷ others)

tenth : (w n : ℕ) → n < 10 ^ suc w → n / 10 < 10 ^ w
tenth w n h = let e = pow-suc 10 w in omega arith

pub shows : (w n : ℕ) → n < 10 ^ suc w → Shown (suc w) n
shows zero n h =
    record {
      first = digit n;
      others = [];
      left = 0;
      digits = both (digit_is n) refl;
      value = omega arith;
      wide = refl;
      shown = λ fill. let z : n / 10 ≡ 0 = omega arith in rw (eq-eqb (n / 10) 0 z) refl;
    }
shows (suc w) n h = go (eqb (n / 10) 0) refl (shows w (n / 10) (tenth (suc w) n h))
  where
    go : (b : Bool) → eqb (n / 10) 0 ≡ b → Shown (suc w) (n / 10) → Shown (suc (suc w)) n
    go true e s =
        record {
          first = digit n;
          others = [];
          left = suc w;
          digits = both (digit_is n) refl;
          value = let z = eqb-true (n / 10) 0 e in omega arith;
          wide = omega arith;
          shown = λ fill. rw e refl;
        }
    go false e s =
        record {
          first = s.first;
          others = s.others ++ (digit n ∷ []);
          left = s.left;
          digits = all_append is_digit (s.first ∷ s.others) (digit n ∷ []) s.digits (both (digit_is n) refl);
          value =
              let v = s.value in
              let u : n ≡ decimal_from 0 (s.first ∷ s.others) * 10 + digit_value (digit n) = omega arith in
              u ∙ sym (decimal_snoc 0 (s.first ∷ s.others) (digit n));
          wide = let l = s.wide in let k = length-append s.others (digit n ∷ []) in omega arith;
          shown = λ fill. rw e (ap (λ (x : List ℕ). x ++ (digit n ∷ [])) (s.shown fill) ∙ append_assoc (fill s.left) (s.first ∷ s.others) (digit n ∷ []));
        }

-- ---- filled with blanks it is a number field, and so it is filled with zeros: leading zeros are worth nothing
pub with_blanks : (w n : ℕ) → n < 10 ^ suc w → SpellsNumber (filled blanks (suc w) n) n
with_blanks w n h =
    let s = shows w n h in
    record { blanks = s.left; first = s.first; others = s.others; text = s.shown blanks; digits = s.digits; value = s.value }

nought_digits : (k : ℕ) (ds : List ℕ) → all is_digit ds ≡ true → all is_digit (noughts k ++ ds) ≡ true
nought_digits zero ds h = h
nought_digits (suc k) ds h = nought_digits k ds h

nought_value : (k : ℕ) (ds : List ℕ) → decimal_from 0 (noughts k ++ ds) ≡ decimal_from 0 ds
nought_value zero ds = refl
nought_value (suc k) ds = nought_value k ds

digits_number : (l : List ℕ) (d : ℕ) (ds : List ℕ) (n : ℕ) → l ≡ d ∷ ds → all is_digit l ≡ true → n ≡ decimal_from 0 l → SpellsNumber l n
digits_number l d ds n e h v = record { blanks = 0; first = d; others = ds; text = e; digits = ap (all is_digit) (sym e) ∙ h; value = v ∙ ap (decimal_from 0) e }

pub with_noughts : (w n : ℕ) → n < 10 ^ suc w → SpellsNumber (filled noughts (suc w) n) n
with_noughts w n h =
    let s = shows w n h in
    let ds = s.first ∷ s.others in
    subst (λ (l : List ℕ). SpellsNumber l n) (sym (s.shown noughts)) (go s.left (nought_digits s.left ds s.digits) (s.value ∙ sym (nought_value s.left ds)))
  where
    go : (k : ℕ) → all is_digit (noughts k ++ ((shows w n h).first ∷ (shows w n h).others)) ≡ true → n ≡ decimal_from 0 (noughts k ++ ((shows w n h).first ∷ (shows w n h).others)) → SpellsNumber (noughts k ++ ((shows w n h).first ∷ (shows w n h).others)) n
    go zero d v = digits_number _ _ _ n refl d v
    go (suc k) d v = digits_number _ _ _ n refl d v

-- ---- its width, where what fills has the width that is left
pub filled-long : (fill : ℕ → List ℕ) → ((k : ℕ) → length (fill k) ≡ k) → (w n : ℕ) → n < 10 ^ suc w → length (filled fill (suc w) n) ≡ suc w
filled-long fill e w n h =
    let s = shows w n h in
    let l = ap length (s.shown fill) ∙ length-append (fill s.left) (s.first ∷ s.others) in
    let k = e s.left in
    let m = s.wide in
    omega arith

pub blanks-long : (k : ℕ) → length (blanks k) ≡ k
blanks-long k = length-replicate k blank

pub noughts-long : (k : ℕ) → length (noughts k) ≡ k
noughts-long k = length-replicate k (code "0")

-- ---- with no filling it is digits at the front of a field of v columns
padded_more : (l : List ℕ) (k : ℕ) → padded (k + length l) l ≡ l ++ replicate k blank
padded_more [] zero = refl
padded_more [] (suc k) = ap (λ (m : ℕ). padded m []) (suc-add k 0) ∙ ap (λ (m : List ℕ). blank ∷ m) (padded_more [] k)
padded_more (c ∷ l) k = ap (λ (m : ℕ). padded m (c ∷ l)) (add-suc k (length l)) ∙ ap (λ (m : List ℕ). c ∷ m) (padded_more l k)

pub with_nothing : (w n v : ℕ) → n < 10 ^ suc w → suc w ≤ v → SpellsLeading (padded v (filled nothing (suc w) n)) n
with_nothing w n v h le =
    let s = shows w n h in
    let l = s.wide in
    let ds = s.first ∷ s.others in
    let e : v ≡ (v - length ds) + length ds = omega arith in
    record {
      first = s.first;
      others = s.others;
      blanks = v - length ds;
      text = ap (padded v) (s.shown nothing) ∙ ap (λ (m : ℕ). padded m ds) e ∙ padded_more ds (v - length ds);
      digits = s.digits;
      value = s.value;
    }

pub nothing-long : (w n : ℕ) → n < 10 ^ suc w → length (filled nothing (suc w) n) ≤ suc w
nothing-long w n h = let s = shows w n h in let l = s.wide in let e = ap length (s.shown nothing) in omega arith

-- ---- points, for either filling
pub points-text : (fill p : ℕ) → (fill ≡ blank) ⊎ (fill ≡ code "0") → p < 1000 → SpellsPoints (points_text fill p) p
points-text fill p f h = go (eqb (p / 100) 0) refl f
  where
    is_tens_lem : (c : ℕ) → (c ≡ blank) ⊎ (c ≡ code "0") → is_tens c ≡ true
    is_tens_lem c (inl e) = ap is_tens e
    is_tens_lem c (inr e) = ap is_tens e

    none : (c : ℕ) → (c ≡ blank) ⊎ (c ≡ code "0") → digit_value c ≡ 0
    none c (inl e) = omega arith
    none c (inr e) = omega arith

    digit-tens : (c : ℕ) → is_digit c ≡ true → is_tens c ≡ true
    digit-tens c e = or (is_blank c)
      where
        or : (b : Bool) → b || is_digit c ≡ true
        or true = refl
        or false = e

    go : (b : Bool) → eqb (p / 100) 0 ≡ b → (fill ≡ blank) ⊎ (fill ≡ code "0") → SpellsPoints (cond b fill (digit (p / 100)) ∷ digit (p / 10) ∷ code "." ∷ digit p ∷ []) p
    go true e k =
        let z = eqb-true (p / 100) 0 e in
        let y = none fill k in
        record { tens = fill; units = digit (p / 10); tenths = digit p; text = refl; digits = both (both (is_tens_lem fill k) (digit_is (p / 10))) (digit_is p); value = omega arith }
    go false e k =
        record {
          tens = digit (p / 100);
          units = digit (p / 10);
          tenths = digit p;
          text = refl;
          digits = both (both (digit-tens (digit (p / 100)) (digit_is (p / 100))) (digit_is (p / 10))) (digit_is p);
          value = omega arith;
        }

-- ---- all of them are allowed bytes
pub digit-allowed : (c : ℕ) → is_digit c ≡ true → allowed c ≡ true
digit-allowed c e =
    let k = within (code "0") (code "9") c e in
    let l = k.0 in
    let h = k.1 in
    both (in_between 32 255 c (omega arith) (omega arith)) (ap not (ne_eqb c 127 (λ p. omega arith)))

pub digits-allowed : (ds : List ℕ) → all is_digit ds ≡ true → all allowed ds ≡ true
digits-allowed [] h = refl
digits-allowed (d ∷ ds) h = let k = and (is_digit d) (all is_digit ds) h in both (digit-allowed d k.0) (digits-allowed ds k.1)

pub filled-allowed : (fill : ℕ → List ℕ) → ((k : ℕ) → all allowed (fill k) ≡ true) → (w n : ℕ) → n < 10 ^ suc w → all allowed (filled fill (suc w) n) ≡ true
filled-allowed fill e w n h =
    let s = shows w n h in
    ap (all allowed) (s.shown fill) ∙ all_append allowed (fill s.left) (s.first ∷ s.others) (e s.left) (digits-allowed (s.first ∷ s.others) s.digits)

module _ (c : ℕ) (of : allowed c ≡ true) where
  pub replicate-allowed : (k : ℕ) → all allowed (replicate k c) ≡ true
  replicate-allowed zero = refl
  replicate-allowed (suc k) = both of (replicate-allowed k)

pub points-allowed : (fill p : ℕ) → allowed fill ≡ true → all allowed (points_text fill p) ≡ true
points-allowed fill p e = both (go (eqb (p / 100) 0)) (both (digit-allowed (digit (p / 10)) (digit_is (p / 10))) (both refl (both (digit-allowed (digit p) (digit_is p)) refl)))
  where
    go : (b : Bool) → allowed (cond b fill (digit (p / 100))) ≡ true
    go true = e
    go false = digit-allowed (digit (p / 100)) (digit_is (p / 100))
