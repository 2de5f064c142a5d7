-- What a CR that was found, and the byte after it, say of the lines that are left. Assumes nothing.
use mathlib.Core.Path.{◌≡◌, refl, sym, ap, ◌∙◌}
use mathlib.Core.Bool.{true, false, and-false}
use mathlib.Core.Option.{none}
use mathlib.Core.List.{List, [], ◌∷◌, ◌++◌, append-nil}
use Prim.Native.Nat.{ℕ, zero, suc, ◌+◌, ◌-◌, ◌≤◌, ◌<◌}
use native.Mathlib.Numerals.{add-one}
use native.Mathlib.Omega.{arith}
use lib.ListN.{length, get_or, take, drop, take-append-drop, length-drop, drop_of_length-le}
use lib.Seq.{drop-cons, drop-drop}
use native.Mathlib.Decide.{dec_lt, ℕ_discrete}
use borrow.Author.Tests.{ne_eqb}
use Rattle.kit.specs.Lists.{all}
use Rattle.kit.proofs.Bools.{and, all_same, clash}
use Rattle.law.specs.Lines.{CR, LF, allowed, Line, has_no_cr, starts_with_lf}
use Rattle.law.proofs.Cut.{push, cut, end_for, cut_text, cut_last, cut_after}
use Rattle.lines.specs.Step.{NoCR, CRFrom, Clean, Stop, FaultAt, WholeAt}

-- ---- after a CR: an LF belongs to its terminator; another byte starts the next line; at the end of the file there is none
after-lf : (file : List ℕ) (a : ℕ) → a < length file → get_or file a 0 ≡ LF → cut true (drop a file) ≡ cut false (drop (suc a) file)
after-lf file a h e = rw (drop-cons file a 0 h, e) refl

after_other : (file : List ℕ) (a : ℕ) → a < length file → (get_or file a 0 ≡ LF → ⊥) → cut true (drop a file) ≡ cut false (drop a file)
after_other file a h e = cut_after (drop a file) (ap starts_with_lf (drop-cons file a 0 h) ∙ ne_eqb (get_or file a 0) LF e)

after-end : (file : List ℕ) (a : ℕ) → length file ≤ a → cut true (drop a file) ≡ cut false (drop a file)
after-end file a h = rw (drop_of_length-le file h) refl

-- ---- allowed bytes: a part that meets another, and a part as a list. CR is not among them
pub clean_join : (file : List ℕ) (a b c : ℕ) → Clean file a b → Clean file b c → Clean file a c
clean_join file a b c h g k l m = go (dec_lt k b)
  where
    go : Dec (k < b) → allowed (get_or file k 0) ≡ true
    go (yes p) = h k p m
    go (no p) = g k l (omega arith)

clean-part : (file : List ℕ) (n a : ℕ) → a + n ≤ length file → all allowed (take n (drop a file)) ≡ true → Clean file a (a + n)
clean-part file zero a l h k p q = absurd (omega arith)
clean-part file (suc n) a l h k p q =
    let both = and (allowed (get_or file a 0)) (all allowed (take n (drop (suc a) file))) (rw (drop-cons file a 0 (omega arith)) at h) in
    go both.0 (λ m. clean-part file n (suc a) (omega arith) both.1 k (omega arith) m) (ℕ_discrete k a)
  where
    go : allowed (get_or file a 0) ≡ true → (suc a ≤ k → allowed (get_or file k 0) ≡ true) → Dec (k ≡ a) → allowed (get_or file k 0) ≡ true
    go here after (yes e) = ap (λ (i : ℕ). allowed (get_or file i 0)) e ∙ here
    go here after (no e) = after (let z : k ≡ a → ⊥ = e in omega arith)

pub clean_slice : (file : List ℕ) (a b : ℕ) → a ≤ b → b ≤ length file → all allowed (take (b - a) (drop a file)) ≡ true → Clean file a b
clean_slice file a b l m h k p q = clean-part file (b - a) a (omega arith) h k (omega arith) q

part-clean : (file : List ℕ) (n a : ℕ) → a + n ≤ length file → Clean file a (a + n) → all allowed (take n (drop a file)) ≡ true
part-clean file zero a l h = refl
part-clean file (suc n) a l h =
    rw (drop-cons file a 0 (omega arith), h a (omega arith) (omega arith))
    (part-clean file n (suc a) (omega arith) (λ k p q. h k (omega arith) (omega arith)))

-- ---- a stop past a clean part
pub stop-past : {file : List ℕ} {at from to r : ℕ} → at ≤ from → Clean file at from → Stop file from to r → Stop file at to r
stop-past {file} {at} {from} {to} {r} l h s = record { after = let a = s.after in omega arith; within = s.within; clean = clean_join file at from r h s.clean; there = s.there }

-- the first stop is the first CR, if it is one
pub stop-cr : {file : List ℕ} {at r : ℕ} → Stop file at (length file) r → (r < length file → get_or file r 0 ≡ CR) → CRFrom file at r
stop-cr {file} s e =
    record {
      after = s.after;
      within = s.within;
      none_before = λ k l m q. clash (ap allowed (sym q) ∙ s.clean k l m);
      there = e;
    }

-- ---- n bytes without a CR
no_cr : (file : List ℕ) (n a : ℕ) → a + n ≤ length file → ((k : ℕ) → k < a + n → a ≤ k → get_or file k 0 ≡ CR → ⊥) → has_no_cr (take n (drop a file)) ≡ true
no_cr file zero a l h = refl
no_cr file (suc n) a l h =
    rw (drop-cons file a 0 (omega arith), ne_eqb (get_or file a 0) CR (h a (omega arith) (omega arith)))
    (no_cr file n (suc a) (omega arith) (λ k p q. h k (omega arith) (omega arith)))

-- bytes without a CR are one line
last_line : (l : List ℕ) → 0 < length l → has_no_cr l ≡ true → cut false l ≡ record { text = l; end = none } ∷ []
last_line [] h e = absurd (omega arith)
last_line (c ∷ l) h e = cut_last c l e

-- a byte that is no CR begins a line
push_first : (c : ℕ) (ls : List Line) → (l : Line) × (others : List Line) × (t : List ℕ) × (push c ls ≡ l ∷ others) × (l.text ≡ c ∷ t)
push_first c [] = (record { text = c ∷ []; end = none }, [], [], refl, refl)
push_first c (l ∷ ls) = (record { text = c ∷ l.text; end = l.end }, ls, l.text, refl, refl)

-- up to r there is no CR
module _ (file : List ℕ) (at r : ℕ) (after : at ≤ r) (within : r ≤ length file) (none_before : NoCR file at r) where
  split_at : drop at file ≡ take (r - at) (drop at file) ++ drop r file
  split_at =
      let e : at + (r - at) ≡ r = omega arith in
      sym (take-append-drop (r - at) (drop at file)) ∙ ap (λ (l : List ℕ). take (r - at) (drop at file) ++ l) (drop-drop (r - at) at file ∙ ap (λ (k : ℕ). drop k file) e)

  free : has_no_cr (take (r - at) (drop at file)) ≡ true
  free = no_cr file (r - at) at (omega arith) (λ k p q. none_before k (omega arith) q)

module _ (file : List ℕ) (at r : ℕ) (f : CRFrom file at r) where
  abbrev text : List ℕ
  text = take (r - at) (drop at file)

  abbrev rest : List ℕ
  rest = drop (suc r) file

  pub split : drop at file ≡ text ++ drop r file
  split = split_at file at r f.after f.within f.none_before

  pub text_free : has_no_cr text ≡ true
  text_free = free file at r f.after f.within f.none_before

  ended : r < length file → cut false (drop at file) ≡ record { text = text; end = end_for (starts_with_lf rest) } ∷ cut true rest
  ended h =
      ap (cut false) (split ∙ ap (λ (l : List ℕ). text ++ l) (drop-cons file r 0 h ∙ ap (λ (c : ℕ). c ∷ rest) (f.there h)))
      ∙ cut_text text (record { text = []; end = end_for (starts_with_lf rest) }) (cut true rest) (CR ∷ rest) text_free refl
      ∙ ap (λ (l : List ℕ). record { text = l; end = end_for (starts_with_lf rest) } ∷ cut true rest) (append-nil text)

  module _ (clean : all allowed text ≡ true) where
    whole : (next : ℕ) → r < next → next ≤ length file → cut true rest ≡ cut false (drop next file) → WholeAt file at at r next
    whole next p w e =
        record {
          start = refl;
          forward = f.after;
          past = p;
          within = w;
          clean = clean;
          lines = ended (omega arith) ∙ ap (λ (ls : List Line). record { text = text; end = end_for (starts_with_lf rest) } ∷ ls) e;
        }

    -- the byte after the CR is at r + 1
    pub whole-end : r < length file → length file ≤ r + 1 → WholeAt file at at r (r + 1)
    whole-end h k = whole (r + 1) (omega arith) (omega arith) (rw (add-one r) (after-end file (suc r) (omega arith)))

    pub whole-lf : r + 1 < length file → get_or file (r + 1) 0 ≡ LF → WholeAt file at at r (r + 1 + 1)
    whole-lf k e = whole (r + 1 + 1) (omega arith) (omega arith) (rw (add-one (r + 1), add-one r) (after-lf file (suc r) (omega arith) (rw (← (add-one r)) e)))

    pub whole_other : r + 1 < length file → (get_or file (r + 1) 0 ≡ LF → ⊥) → WholeAt file at at r (r + 1)
    whole_other k e = whole (r + 1) (omega arith) (omega arith) (rw (add-one r) (after_other file (suc r) (omega arith) (rw (← (add-one r)) e)))

    pub broken : at < length file → length file ≤ r → FaultAt file at 4
    broken h k =
        let e : drop at file ≡ text = split ∙ ap (λ (l : List ℕ). text ++ l) (drop_of_length-le file k) ∙ append-nil text in
        record {
          line = record { text = text; end = none };
          others = [];
          fault = rw clean refl;
          lines = last_line (drop at file) (omega (arith, length-drop at file)) (ap has_no_cr e ∙ text_free) ∙ ap (λ (l : List ℕ). record { text = l; end = none } ∷ []) e;
        }

-- ---- what the first byte that is not allowed says of the first line
module _ {file : List ℕ} {at r : ℕ} (s : Stop file at (length file) r) where
  pub clean-text : all allowed (take (r - at) (drop at file)) ≡ true
  clean-text =
      let a = s.after in
      let w = s.within in
      part-clean file (r - at) at (omega arith) (λ k p q. s.clean k (omega arith) q)

  no_cr-before : NoCR file at r
  no_cr-before k l m q = clash (ap allowed (sym q) ∙ s.clean k l m)

  pub foul : r < length file → (get_or file r 0 ≡ CR → ⊥) → FaultAt file at 3
  foul l ne = record { line = record { text = text ++ p.0.text; end = p.0.end }; others = p.1; lines = cut_is; fault = rw bad refl }
    where
      text : List ℕ
      text = take (r - at) (drop at file)

      byte : ℕ
      byte = get_or file r 0

      p : (l : Line) × (others : List Line) × (t : List ℕ) × (push byte (cut false (drop (suc r) file)) ≡ l ∷ others) × (l.text ≡ byte ∷ t)
      p = push_first byte (cut false (drop (suc r) file))

      here : cut false (drop r file) ≡ p.0 ∷ p.1
      here = ap (cut false) (drop-cons file r 0 l) ∙ rw (ne_eqb byte CR ne) p.3

      cut_is : cut false (drop at file) ≡ record { text = text ++ p.0.text; end = p.0.end } ∷ p.1
      cut_is = ap (cut false) (split_at file at r s.after s.within no_cr-before) ∙ cut_text text p.0 p.1 (drop r file) (free file at r s.after s.within no_cr-before) here

      bad : all allowed (text ++ p.0.text) ≡ false
      bad = all_same allowed text p.0.text ∙ rw (p.4, s.there l) (and-false (all allowed text))

-- ---- a CR after a clean part
pub stop-here : {file : List ℕ} {at r : ℕ} → at ≤ r → r < length file → Clean file at r → get_or file r 0 ≡ CR → Stop file at (length file) r
stop-here l m h e = record { after = l; within = omega arith; clean = h; there = λ _. ap allowed e }
