-- One turn of each field's loop: what the field's function is of a column and the columns after it. Assumes nothing.
use mathlib.Core.Path.{◌≡◌, refl, sym, ap, ◌∙◌}
use mathlib.Core.Bool.{Bool, true, false, ◌&&◌}
use mathlib.Core.Option.{none, some}
use mathlib.Core.List.{List, [], ◌∷◌}
use Prim.Native.Nat.{ℕ, suc, ◌+◌, ◌*◌, ◌-◌, ◌^◌, ◌≤◌, ◌<◌}
use Prim.Native.Char.{code}
use native.Mathlib.Nat.{pow-suc, pow-le-pow_right, lt_of_lt_of_le}
use native.Mathlib.Numerals.{add-one}
use native.Mathlib.Omega.{arith}
use lib.Dec.{eqb, lit≤}
use lib.ListN.{length, get_or}
use borrow.Author.Tests.{eq-eqb, ne_eqb}
use Rattle.kit.specs.Lists.{all, same}
use Rattle.kit.specs.Decides.{when}
use Rattle.kit.proofs.Bools.{within}
use Rattle.law.specs.Columns.{blank, is_blank, cells}
use Rattle.law.specs.Fields.{is_digit, digit_value}
use Rattle.law.proofs.FieldsRead.{bad, digits_from, number_of, are_points, points_of, leading_from, leading_of}
use Rattle.fields.proofs.Columns.{cells-cons, cells_three, cells-four, turn}

-- ---- of w columns after j a loop has passed i, and c stands in the next
module _ (row : List ℕ) (j w i c : ℕ) (h : i < w) (at : c ≡ get_or row (j + i) blank) where
  -- digits: those passed are worth n
  pub digits_more : (n : ℕ) → is_digit c ≡ true → digits_from n (cells row (j + i) (w - i)) ≡ digits_from (n * 10 + digit_value c) (cells row (j + (i + 1)) (w - (i + 1)))
  digits_more n e = turn (digits_from n) row j w i c h at ∙ rw e refl

  pub digits-stop : (n : ℕ) → is_digit c ≡ false → digits_from n (cells row (j + i) (w - i)) ≡ bad
  digits-stop n e = turn (digits_from n) row j w i c h at ∙ rw e refl

  pub leading_more : (n : ℕ) → is_digit c ≡ true → leading_from n (cells row (j + i) (w - i)) ≡ leading_from (n * 10 + digit_value c) (cells row (j + (i + 1)) (w - (i + 1)))
  leading_more n e = turn (leading_from n) row j w i c h at ∙ rw e refl

  pub leading-stop : (n : ℕ) → is_digit c ≡ false → (v : Bool) → all is_blank (cells row (j + i) (w - i)) ≡ v → leading_from n (cells row (j + i) (w - i)) ≡ when v (some n)
  leading-stop n e v b =
      turn (leading_from n) row j w i c h at ∙ stop ∙ sym (turn (λ (l : List ℕ). when (all is_blank l) (some n)) row j w i c h at) ∙ ap (λ (u : Bool). when u (some n)) b
    where
      stop : leading_from n (c ∷ cells row (j + (i + 1)) (w - (i + 1))) ≡ when (all is_blank (c ∷ cells row (j + (i + 1)) (w - (i + 1)))) (some n)
      stop = rw e refl

  -- blanks
  pub number-blank : c ≡ blank → number_of (cells row (j + i) (w - i)) ≡ number_of (cells row (j + (i + 1)) (w - (i + 1)))
  number-blank e = turn number_of row j w i c h at ∙ rw (eq-eqb c blank e) refl

  pub number_digits : (c ≡ blank → ⊥) → number_of (cells row (j + i) (w - i)) ≡ digits_from 0 (cells row (j + i) (w - i))
  number_digits e = turn number_of row j w i c h at ∙ start ∙ sym (turn (digits_from 0) row j w i c h at)
    where
      start : number_of (c ∷ cells row (j + (i + 1)) (w - (i + 1))) ≡ digits_from 0 (c ∷ cells row (j + (i + 1)) (w - (i + 1)))
      start = rw (ne_eqb c blank e) refl

  pub blank_more : c ≡ blank → all is_blank (cells row (j + i) (w - i)) ≡ all is_blank (cells row (j + (i + 1)) (w - (i + 1)))
  blank_more e = turn (all is_blank) row j w i c h at ∙ rw (eq-eqb c blank e) refl

  pub blank-stop : (c ≡ blank → ⊥) → all is_blank (cells row (j + i) (w - i)) ≡ false
  blank-stop e = turn (all is_blank) row j w i c h at ∙ rw (ne_eqb c blank e) refl

-- the first column decides whether there are leading digits
pub leading-first : (row : List ℕ) (i w : ℕ) → 1 ≤ w → is_digit (get_or row i blank) ≡ true → leading_of (cells row i w) ≡ leading_from 0 (cells row i w)
leading-first row i w h e =
    let p : w ≡ suc (w - 1) = omega arith in
    rw (p, cells-cons row i (w - 1), e) refl

pub leading-none : (row : List ℕ) (i w : ℕ) → 1 ≤ w → is_digit (get_or row i blank) ≡ false → leading_of (cells row i w) ≡ none
leading-none row i w h e =
    let p : w ≡ suc (w - 1) = omega arith in
    rw (p, cells-cons row i (w - 1), e) refl

-- ---- i digits are worth less than 10 ^ i
pub digit-small : (c : ℕ) → is_digit c ≡ true → digit_value c ≤ 9
digit-small c e = let k = within (code "0") (code "9") c e in omega arith

pub worth_more : (n d i : ℕ) → n < 10 ^ i → d ≤ 9 → n * 10 + d < 10 ^ (i + 1)
worth_more n d i h g = rw (add-one, pow-suc) (omega arith)

pub worth-fits : (i n : ℕ) → i ≤ 8 → n < 10 ^ i → n < 100000000
worth-fits i n h g = lt_of_lt_of_le g (pow-le-pow_right {n = 10} (lit≤ tt) h)

pub and-true : (b : Bool) → b && true ≡ b
and-true true = refl
and-true false = refl

-- ---- three columns, four columns
pub code_is : (row code : List ℕ) → length code ≡ 3
    → same (cells row 0 3) code ≡ eqb (get_or row 0 blank) (get_or code 0 0) && (eqb (get_or row 1 blank) (get_or code 1 0) && eqb (get_or row 2 blank) (get_or code 2 0))
code_is row (a ∷ b ∷ c ∷ []) h = rw (cells_three row 0, and-true (eqb (get_or row 2 blank) c)) refl
code_is row [] h = absurd (omega arith)
code_is row (a ∷ []) h = absurd (omega arith)
code_is row (a ∷ b ∷ []) h = absurd (omega arith)
code_is row (a ∷ b ∷ c ∷ d ∷ l) h = absurd (omega arith)

module _ (row : List ℕ) (i a b c d : ℕ) (a-is : a ≡ get_or row i blank) (b-is : b ≡ get_or row (i + 1) blank) (c-is : c ≡ get_or row (i + 2) blank) (d-is : d ≡ get_or row (i + 3) blank) where
  four : points_of (cells row i 4) ≡ when (are_points a b c d) (some (digit_value a * 100 + digit_value b * 10 + digit_value d))
  four = let e : cells row i 4 ≡ a ∷ b ∷ c ∷ d ∷ [] = cc (cells-four row i) in ap points_of e

  pub points-there : are_points a b c d ≡ true → points_of (cells row i 4) ≡ some (digit_value a * 100 + digit_value b * 10 + digit_value d)
  points-there e = four ∙ rw e refl

  pub points-not : are_points a b c d ≡ false → points_of (cells row i 4) ≡ none
  points-not e = four ∙ rw e refl
