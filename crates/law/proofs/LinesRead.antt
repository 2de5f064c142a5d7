-- The faults of the lines: none is one exactly where each line is sound, spells an item, and repeats and exceeds nothing before it. Assumes nothing.
use mathlib.Core.Path.{◌≡◌, refl, sym, ap, ◌∙◌}
use mathlib.Core.Bool.{Bool, true, ◌&&◌, not}
use mathlib.Core.Option.{Option, none, some}
use mathlib.Core.List.{List, [], ◌∷◌, ◌++◌, map}
use Prim.Native.Nat.{ℕ, ◌-◌, ◌≤◌}
use native.Mathlib.Omega.{arith}
use lib.Dec.{leb}
use lib.ListN.{length, get_or}
use borrow.Author.Tests.{leb-true, leb-false}
use Rattle.kit.specs.Lists.{all, among, each_after, Each}
use Rattle.kit.specs.First.{AllOf}
use Rattle.kit.proofs.Bools.{clash, and, both, not_so, is_so}
use Rattle.kit.proofs.Decided.{unique, refused}
use Rattle.kit.proofs.Firsts.{all_of_append, all_of_left, all_of_right, all_of_map, map-all_of, all_in, all_every}
use Rattle.law.specs.Sizes.{most_line}
use Rattle.law.specs.Lines.{allowed, Line, is_ended}
use Rattle.law.specs.Columns.{row_of}
use Rattle.law.specs.Items.{Item, passed, text, rounds, colour, scoring, acceleration, player, unlisted, kind_of, SpellsItem}
use Rattle.law.specs.Spelling.{is_sound, SpellsLine}
use Rattle.law.specs.Refusals.{LineFault, bad_byte, no_cr, too_long, not_listed, bad_field, again, too_many, line_faults, is_again, is_too_many, After, IsLineFault, Label, at_line_lem, IsFault, line_fault_number, line_labels}
use Rattle.law.proofs.Faults.{line_item, line, lines-spelled, is_unlisted}

abbrev pub is_new : List Item → Item → Bool
is_new before i = not (is_again before i)

abbrev pub is_few : List Item → Item → Bool
is_few before i = not (is_too_many before i)

-- the lines after those that spell e
pub record LinesGood (e : List Item) (ls : List Line) (is : List Item) : Type 0 where
  pub sound : all is_sound ls ≡ true
  pub spelled : Each SpellsLine ls is
  pub new : each_after is_new e is ≡ true
  pub few : each_after is_few e is ≡ true

pub each_snoc : {A B : Type 0} (S : A → B → Type 0) (k : List A) (l : List B) (a : A) (b : B) → Each S k l → S a b → Each S (k ++ (a ∷ [])) (l ++ (b ∷ []))
each_snoc S [] [] a b h s = (s, tt)
each_snoc S [] (y ∷ l) a b h s = absurd h
each_snoc S (x ∷ k) [] a b h s = absurd h
each_snoc S (x ∷ k) (y ∷ l) a b h s = (h.0, each_snoc S k l a b h.1 s)

-- a line that spells an item has a listed record
pub listed-line : (row : List ℕ) (i : Item) → SpellsItem row i → kind_of row ≡ unlisted → ⊥
listed-line row passed h e = clash (ap is_unlisted (sym h ∙ e))
listed-line row (text a) h e = clash (ap is_unlisted (sym h.0 ∙ e))
listed-line row (rounds n) h e = clash (ap is_unlisted (sym h.0 ∙ e))
listed-line row (colour c) h e = clash (ap is_unlisted (sym h.0 ∙ e))
listed-line row (scoring g) h e = clash (ap is_unlisted (sym h.0 ∙ e))
listed-line row (acceleration a) h e = clash (ap is_unlisted (sym h.0 ∙ e))
listed-line row (player p) h e = clash (ap is_unlisted (sym h.0 ∙ e))

-- after known lines and a known item, the fault is the test
module _ (so : List Item → Item → Bool) (before : List Line) (e : List Item) (l : Line) (i : Item) (he : Each SpellsLine before e) (hi : SpellsLine l i) where
  after_known : After so before l → so e i ≡ true
  after_known h =
      let a = unique lines-spelled before e h.items he h.spelled in
      let b = unique line l i h.item hi h.here in
      rw (a, b) h.holds

  pub after-not : (After so before l → ⊥) → not (so e i) ≡ true
  after-not n = ap not (not_so (so e i) (λ t. n (record { items = e; spelled = he; item = i; here = hi; holds = t })))

  pub not_after : not (so e i) ≡ true → After so before l → ⊥
  not_after t h = clash (sym (ap not (after_known h)) ∙ t)

-- ---- the seven faults of a line are told apart by their numbers, and each is tested
abbrev fault_at : ℕ → LineFault
fault_at n = get_or (bad_byte ∷ no_cr ∷ too_long ∷ not_listed ∷ bad_field ∷ again ∷ too_many ∷ []) (n - 3) bad_byte

fault-again : (f : LineFault) → fault_at (line_fault_number f) ≡ f
fault-again bad_byte = refl
fault-again no_cr = refl
fault-again too_long = refl
fault-again not_listed = refl
fault-again bad_field = refl
fault-again again = refl
fault-again too_many = refl

pub tested_line : (f : LineFault) → among (line_fault_number f) (map line_fault_number line_faults) ≡ true
tested_line bad_byte = refl
tested_line no_cr = refl
tested_line too_long = refl
tested_line not_listed = refl
tested_line bad_field = refl
tested_line again = refl
tested_line too_many = refl

module _ (long : Bool) (file : List ℕ) (lines : List Line) where
  abbrev Not : Label → Type 0
  Not x = IsFault long file lines x → ⊥

  abbrev NoFault : List Line → List Line → Type 0
  NoFault before ls = AllOf Not (line_labels before ls)

  none_here : (before : List Line) (l : Line) → AllOf Not (map (λ f. at_line_lem f before l) line_faults) → (f : LineFault) → IsLineFault f before l → ⊥
  none_here before l h f = all_in line_fault_number fault_at fault-again (λ f. IsLineFault f before l → ⊥) line_faults (map-all_of Not (λ f. at_line_lem f before l) line_faults h) f (tested_line f)

  pub lines-good : (ls before : List Line) (e : List Item) → Each SpellsLine before e → NoFault before ls → (is : List Item) × LinesGood e ls is
  lines-good [] before e he h = ([], record { sound = refl; spelled = tt; new = refl; few = refl })
  lines-good (l ∷ ls) before e he h =
      go
      (none_here before l (all_of_left Not (map (λ f. at_line_lem f before l) line_faults) (line_labels (before ++ (l ∷ [])) ls) h))
      (line_item l)
      refl
      (λ i hi. lines-good ls (before ++ (l ∷ [])) (e ++ (i ∷ [])) (each_snoc SpellsLine before e l i he hi) (all_of_right Not (map (λ f. at_line_lem f before l) line_faults) (line_labels (before ++ (l ∷ [])) ls) h))
    where
      go : ((f : LineFault) → IsLineFault f before l → ⊥) → (o : Option Item) → line_item l ≡ o → ((i : Item) → SpellsLine l i → (is : List Item) × LinesGood (e ++ (i ∷ [])) ls is) → (is : List Item) × LinesGood e (l ∷ ls) is
      go n none p ih = absurd (n bad_field (refused line l p))
      go n (some i) p ih =
          let hi = line.sound l i p in
          let k = ih i hi in
          let r = k.1 in
          let short = is_so (leb (length (row_of l.text)) most_line) (λ q. n too_long (leb-false (length (row_of l.text)) most_line q)) in (
            i ∷ k.0,
            record {
              sound = both (both (both (is_so (all allowed l.text) (n bad_byte)) (is_so (is_ended l.end) (n no_cr))) short) r.sound;
              spelled = (hi, r.spelled);
              new = both (after-not is_again before e l i he hi (n again)) r.new;
              few = both (after-not is_too_many before e l i he hi (n too_many)) r.few;
            },
          )

  pub good-lines : (ls before : List Line) (e is : List Item) → Each SpellsLine before e → LinesGood e ls is → NoFault before ls
  good-lines [] before e [] he r = tt
  good-lines [] before e (i ∷ is) he r = absurd r.spelled
  good-lines (l ∷ ls) before e [] he r = absurd r.spelled
  good-lines (l ∷ ls) before e (i ∷ is) he r =
      let s = and (is_sound l) (all is_sound ls) r.sound in
      let n = and (is_new e i) (each_after is_new (e ++ (i ∷ [])) is) r.new in
      let f = and (is_few e i) (each_after is_few (e ++ (i ∷ [])) is) r.few in
      all_of_append Not (map (λ f. at_line_lem f before l) line_faults) (line_labels (before ++ (l ∷ [])) ls)
      (all_of_map Not (λ f. at_line_lem f before l) line_faults (all_every (λ f. IsLineFault f before l → ⊥) (none s.0 n.0 f.0) line_faults))
      (good-lines ls (before ++ (l ∷ [])) (e ++ (i ∷ [])) is (each_snoc SpellsLine before e l i he r.spelled.0) (record { sound = s.1; spelled = r.spelled.1; new = n.1; few = f.1 }))
    where
      none : is_sound l ≡ true → is_new e i ≡ true → is_few e i ≡ true → (f : LineFault) → IsLineFault f before l → ⊥
      none s n w f h =
          let a = and (all allowed l.text && is_ended l.end) (leb (length (row_of l.text)) most_line) s in
          let b = and (all allowed l.text) (is_ended l.end) a.0 in
          at b.0 b.1 (leb-true (length (row_of l.text)) most_line a.1) n w f h
        where
          at : all allowed l.text ≡ true → is_ended l.end ≡ true → length (row_of l.text) ≤ most_line → is_new e i ≡ true → is_few e i ≡ true → (f : LineFault) → IsLineFault f before l → ⊥
          at x y z n w bad_byte q = clash (sym q ∙ x)
          at x y z n w no_cr q = clash (sym q ∙ y)
          at x y z n w too_long q = omega arith
          at x y z n w not_listed q = listed-line (row_of l.text) i r.spelled.0 q
          at x y z n w bad_field q = q i r.spelled.0
          at x y z n w again q = not_after is_again before e l i he r.spelled.0 n q
          at x y z n w too_many q = not_after is_too_many before e l i he r.spelled.0 w q
