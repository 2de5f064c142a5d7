-- The text from a place on: that the whole is kept text is that what is left is, after the lines before it. Assumes nothing.
use mathlib.Core.Path.{◌≡◌, refl, sym, ap, ◌∙◌, subst}
use mathlib.Core.Bool.{Bool, true, false, not}
use mathlib.Core.List.{List, [], ◌∷◌, ◌++◌, append-nil, append_assoc}
use Prim.Native.Nat.{ℕ, suc, ◌+◌, ◌-◌, ◌≤◌, ◌<◌}
use native.Mathlib.Numerals.{add-one}
use native.Mathlib.Omega.{arith}
use lib.Dec.{eqb}
use lib.ListN.{length, get_or, take, drop, length-drop, drop_of_length-le}
use lib.Seq.{drop-cons, append_snoc}
use borrow.Author.Tests.{eqb-true, not-true}
use Rattle.kit.specs.Lists.{all, any, each_after, flat}
use Rattle.kit.specs.First.{AllOf}
use Rattle.kit.proofs.Bools.{clash, and, both, all_same}
use Rattle.law.specs.Lines.{CR, allowed, has_no_cr}
use Rattle.law.specs.Text.{is_name, ended, is_repeated}
use Rattle.law.specs.Lawful.{KeptLine}
use Rattle.lines.specs.Step.{CRFrom}
use Rattle.lines.proofs.Found.{split, text_free}
use Rattle.join.proofs.Codes.{seen_of, named_is}
use Rattle.texts.specs.Kept.{KeptText, Told}
use Rattle.texts.specs.Stood.{StandsAfter}
use Rattle.texts.proofs.Told.{told_no}

-- ---- bytes up to the first CR
clean_free : (l : List ℕ) → all allowed l ≡ true → has_no_cr l ≡ true
clean_free [] h = refl
clean_free (c ∷ l) h = let k = and (allowed c) (all allowed l) h in both (go (eqb c CR) refl k.0) (clean_free l k.1)
  where
    go : (b : Bool) → eqb c CR ≡ b → allowed c ≡ true → not b ≡ true
    go true e a = clash (sym (ap allowed (eqb-true c CR e)) ∙ a)
    go false e a = refl

one_cut : (a b x y : List ℕ) → has_no_cr a ≡ true → has_no_cr b ≡ true → a ++ (CR ∷ x) ≡ b ++ (CR ∷ y) → (a ≡ b) × (x ≡ y)
one_cut [] [] x y p q e = (refl, cc)
one_cut [] (d ∷ b) x y p q e = clash ((let u : CR ≡ d = cc in ap (λ (c : ℕ). not (eqb c CR)) u) ∙ (and (not (eqb d CR)) (has_no_cr b) q).0)
one_cut (c ∷ a) [] x y p q e = clash ((let u : CR ≡ c = cc in ap (λ (d : ℕ). not (eqb d CR)) u) ∙ (and (not (eqb c CR)) (has_no_cr a) p).0)
one_cut (c ∷ a) (d ∷ b) x y p q e =
    let u : c ≡ d = cc in
    let v : a ++ (CR ∷ x) ≡ b ++ (CR ∷ y) = cc in
    let k = one_cut a b x y (and (not (eqb c CR)) (has_no_cr a) p).1 (and (not (eqb d CR)) (has_no_cr b) q).1 v in
    let s = k.0 in
    (cc, k.1)

-- ---- what is left of a text after some lines
abbrev new : List (List ℕ) → List ℕ → Bool
new before line = not (is_repeated before line)

pub record Left (before : List (List ℕ)) (bytes : List ℕ) : Type 0 where
  pub lines : List (List ℕ)
  pub are : bytes ≡ flat ended lines
  pub good : AllOf KeptLine lines
  pub once : each_after new before lines ≡ true
  pub named : any is_name (before ++ lines) ≡ true

-- nothing is left
left_end : (before : List (List ℕ)) → any is_name before ≡ true → Left before []
unfolding flat
left_end before h = record { lines = []; are = refl; good = tt; once = refl; named = rw append-nil h }

end-left : (before : List (List ℕ)) → Left before [] → any is_name before ≡ true
unfolding flat
end-left before h = go h.lines h.are h.named
  where
    go : (lines : List (List ℕ)) → [] ≡ flat ended lines → any is_name (before ++ lines) ≡ true → any is_name before ≡ true
    go [] e n = rw append-nil at n
    go ([] ∷ ls) e n = let z : ◌≡◌ {A = ℕ} 0 1 = cc in absurd (omega arith)
    go ((c ∷ l) ∷ ls) e n = let z : ◌≡◌ {A = ℕ} 0 1 = cc in absurd (omega arith)

-- bytes without a CR are no lines
left_broken : (before : List (List ℕ)) (bytes : List ℕ) → has_no_cr bytes ≡ true → 0 < length bytes → Left before bytes → ⊥
unfolding flat
left_broken before bytes f some h = go h.lines h.are
  where
    go : (lines : List (List ℕ)) → bytes ≡ flat ended lines → ⊥
    go [] e = let u = ap length e in omega arith
    go (l ∷ ls) e =
        let u = and (has_no_cr (ended l)) (has_no_cr (flat ended ls)) (sym (all_same (λ c. not (eqb c CR)) (ended l) (flat ended ls)) ∙ sym (ap has_no_cr e) ∙ f) in
        clash (and (has_no_cr l) (has_no_cr (CR ∷ [])) (sym (all_same (λ c. not (eqb c CR)) l (CR ∷ [])) ∙ u.0)).1

-- a line, and what is left after it
module _ (before : List (List ℕ)) (line rest : List ℕ) where
  left-next : KeptLine line → is_repeated before line ≡ false → Left (before ++ (line ∷ [])) rest → Left before (line ++ (CR ∷ rest))
  unfolding flat
  left-next k r h =
      record {
        lines = line ∷ h.lines;
        are = ap (λ (x : List ℕ). line ++ (CR ∷ x)) h.are ∙ sym (append_assoc line (CR ∷ []) (flat ended h.lines));
        good = (k, h.good);
        once = both (ap not r) h.once;
        named = rw (append_snoc before line h.lines) at h.named;
      }

  next-left : has_no_cr line ≡ true → Left before (line ++ (CR ∷ rest)) → (KeptLine line × (is_repeated before line ≡ false)) × Left (before ++ (line ∷ [])) rest
  unfolding flat
  next-left f h = go h.lines h.are h.good h.once h.named
    where
      go : (lines : List (List ℕ)) → line ++ (CR ∷ rest) ≡ flat ended lines → AllOf KeptLine lines → each_after new before lines ≡ true → any is_name (before ++ lines) ≡ true → (KeptLine line × (is_repeated before line ≡ false)) × Left (before ++ (line ∷ [])) rest
      go [] e g o n = absurd (none line e)
        where
          none : (l : List ℕ) → l ++ (CR ∷ rest) ≡ [] → ⊥
          none [] e = let z : ◌≡◌ {A = ℕ} 0 1 = cc in omega arith
          none (c ∷ l) e = let z : ◌≡◌ {A = ℕ} 0 1 = cc in omega arith
      go (l ∷ ls) e g o n =
          let u = one_cut l line (flat ended ls) rest (clean_free l g.0.clean) f (sym (append_assoc l (CR ∷ []) (flat ended ls)) ∙ sym e) in
          let w = and (new before l) (each_after new (before ++ (l ∷ [])) ls) o in (
            (subst KeptLine u.0 g.0, ap (is_repeated before) (sym u.0) ∙ not-true (is_repeated before l) w.0),
            record {
              lines = ls;
              are = sym u.1;
              good = g.1;
              once = subst (λ (x : List ℕ). each_after new (before ++ (x ∷ [])) ls ≡ true) u.0 w.1;
              named = rw (append_snoc before line ls) (subst (λ (x : List ℕ). any is_name (before ++ (x ∷ ls)) ≡ true) u.0 n);
            },
          )

-- ---- a place in the text, and the codes that stood before it
pub record Walked (whole : List ℕ) (at : ℕ) (seen : List Bool) : Type 0 where
  pub within : at ≤ length whole
  pub before : List (List ℕ)
  pub stood : seen ≡ seen_of before
  pub on : Left before (drop at whole) → KeptText whole
  pub back : KeptText whole → Left before (drop at whole)

pub walk_start : (whole : List ℕ) → Walked whole 0 (seen_of [])
walk_start whole =
    record {
      within = omega arith;
      before = [];
      stood = refl;
      on = λ h. record { lines = h.lines; are = h.are; good = h.good; once = h.once; named = h.named };
      back = λ h. record { lines = h.lines; are = h.are; good = h.good; once = h.once; named = h.named };
    }

module _ (whole : List ℕ) (at : ℕ) (seen : List Bool) (w : Walked whole at seen) where
  pub walk_end : length whole ≤ at → Told (KeptText whole) (get_or seen 0 false)
  walk_end h =
      let e : drop at whole ≡ [] = drop_of_length-le whole h in
      let n : get_or seen 0 false ≡ any is_name w.before = ap (λ (v : List Bool). get_or v 0 false) w.stood ∙ named_is w.before in
      record {
        sound = λ t. w.on (subst (Left w.before) (sym e) (left_end w.before (sym n ∙ t)));
        complete = λ k. n ∙ end-left w.before (subst (Left w.before) e (w.back k));
      }

  -- r is the place of the next CR, or the length
  module _ (r : ℕ) (f : CRFrom whole at r) where
    abbrev text : List ℕ
    text = take (r - at) (drop at whole)

    pub walk_broken : at < length whole → length whole ≤ r → Told (KeptText whole) false
    walk_broken l h =
        let e : drop at whole ≡ text = split whole at r f ∙ ap (λ (x : List ℕ). text ++ x) (drop_of_length-le whole h) ∙ append-nil text in
        told_no (λ k. left_broken w.before (drop at whole) (ap has_no_cr e ∙ text_free whole at r f) (omega (arith, length-drop at whole)) (w.back k))

    module _ (h : r < length whole) where
      parts : drop at whole ≡ text ++ (CR ∷ drop (r + 1) whole)
      parts =
          split whole at r f
          ∙ ap (λ (x : List ℕ). text ++ x) (drop-cons whole r 0 h ∙ ap (λ (c : ℕ). c ∷ drop (suc r) whole) (f.there h) ∙ ap (λ (k : ℕ). CR ∷ drop k whole) (sym (add-one r)))

      there : KeptText whole → (KeptLine text × (is_repeated w.before text ≡ false)) × Left (w.before ++ (text ∷ [])) (drop (r + 1) whole)
      there k = next-left w.before text (drop (r + 1) whole) (text_free whole at r f) (subst (Left w.before) parts (w.back k))

      -- whether it may stand, and the codes that are seen then
      module _ {good : Bool} {next : List Bool} (a : StandsAfter w.before text good next) where
        pub walk_bad : good ≡ false → Told (KeptText whole) false
        walk_bad b = told_no (λ k. clash (sym b ∙ a.told.complete (there k).0))

        pub walk_on : good ≡ true → Walked whole (r + 1) next
        walk_on b =
            let g = a.told.sound b in
            record {
              within = omega arith;
              before = w.before ++ (text ∷ []);
              stood = a.seen_is b;
              on = λ l. w.on (subst (Left w.before) (sym parts) (left-next w.before text (drop (r + 1) whole) g.0 g.1 l));
              back = λ k. (there k).1;
            }
