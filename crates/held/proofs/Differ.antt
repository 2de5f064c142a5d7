-- Start numbers that differ, one after the other, and the index of those that were looked at. Assumes nothing.
use mathlib.Core.Path.{◌≡◌, refl, sym, ap, ◌∙◌, subst}
use mathlib.Core.Bool.{true, false}
use mathlib.Core.Option.{Option, none, some}
use mathlib.Core.List.{List}
use Prim.Native.Nat.{ℕ, ◌+◌, ◌≤◌, ◌<◌}
use native.Mathlib.Omega.{arith}
use lib.ListN.{length, get_or, set}
use lib.Seq.{set-get_or}
use borrow.Author.Count.{below_more}
use Rattle.std.specs.Prelude as program
use Rattle.std.specs.Prelude.{is_some}
use Rattle.kit.proofs.Bools.{clash, within}
use Rattle.law.specs.Sizes.{most_players, most_start, is_start}
use Rattle.join.specs.Store.{place_of}
use Rattle.types.specs.declared.Place.{Place}
use Rattle.index.specs.Index.{IndexOf, LowStarts, as_placed, Indexed}
use Rattle.index.proofs.Indexes.{index_more}
use Rattle.texts.specs.Kept.{Told}
use Rattle.texts.proofs.Told.{told_no}

abbrev pub New : List ℕ → ℕ → Type 0
New starts p = place_of starts p (get_or starts p 0) ≡ none

-- the first p of n differ, and the index is theirs
pub record Differing (starts : List ℕ) (n : ℕ) (index : List ℕ) (p : ℕ) : Type 0 where
  pub few : n ≤ most_players
  pub are : (q : ℕ) → q < n → is_start (get_or starts q 0) ≡ true
  pub upto : p ≤ n
  pub new : (q : ℕ) → q < p → New starts q
  pub says : IndexOf starts p index

pub differ_none : {starts index : List ℕ} {n : ℕ} → n ≤ most_players → ((q : ℕ) → q < n → is_start (get_or starts q 0) ≡ true) → IndexOf starts 0 index → Differing starts n index 0
differ_none few are says = record { few = few; are = are; upto = omega arith; new = λ q l. absurd (omega arith); says = says }

module _ {starts index : List ℕ} {n p : ℕ} (h : Differing starts n index p) where
  at_most : (q : ℕ) → q < n → get_or starts q 0 ≤ most_start
  at_most q l = (within 1 most_start (get_or starts q 0) (h.are q l)).1

  low-starts : LowStarts starts p
  low-starts q l = at_most q (let u = h.upto in omega arith)

  pub differ_all : n ≤ p → Told ((q : ℕ) → q < n → New starts q) true × Indexed starts n index
  differ_all l =
      let e : p ≡ n = let u = h.upto in omega arith in (
        record { sound = λ _ q m. h.new q (omega arith); complete = λ _. refl },
        record { few = h.few; says = subst (λ (k : ℕ). IndexOf starts k index) e h.says; low = subst (LowStarts starts) e low-starts },
      )

  -- the start number of place p is looked up
  module _ (l : p < n) {start : ℕ} (o : start ≡ get_or starts p 0) where
    pub start-low : start ≤ most_start
    start-low = rw o (at_most p l)

    module _ {a : program.Option Place} (told : (starts : List ℕ) (n : ℕ) → IndexOf starts n index → LowStarts starts n → a ≡ as_placed (place_of starts n start)) where
      here : is_some a ≡ is_some (as_placed (place_of starts p (get_or starts p 0)))
      here = ap is_some (told starts p h.says low-starts ∙ ap (λ (k : ℕ). as_placed (place_of starts p k)) o)

      -- another has it too
      pub differ_not : is_some a ≡ true → Told ((q : ℕ) → q < n → New starts q) false
      differ_not s = told_no (λ k. clash (sym (here ∙ ap (λ (q : Option ℕ). is_some (as_placed q)) (k p l)) ∙ s))

      -- nobody has it; index' has it too
      pub differ_next : p < length starts → is_some a ≡ false → {index' : List ℕ} → index' ≡ set index start (p + 1) → Differing starts n index' (p + 1)
      differ_next long s {index'} g =
          let free : New starts p = nobody (place_of starts p (get_or starts p 0)) (sym here ∙ s) in
          record {
            few = h.few;
            are = h.are;
            upto = omega arith;
            new = below_more _ _ h.new free;
            says =
                rw (g, o)
                (subst (λ (s : List ℕ). IndexOf s (p + 1) (set index (get_or starts p 0) (p + 1))) (set-get_or starts p 0) (index_more h.says (omega arith) (get_or starts p 0) free));
          }
        where
          nobody : (o : Option ℕ) → is_some (as_placed o) ≡ false → o ≡ none
          nobody none e = refl
          nobody (some q) e = clash (sym e)
