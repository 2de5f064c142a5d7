-- The reader as a whole: the run over the lines stops at the file's first line fault, or the checks after it give the file's first fault, or the tables hold the tournament. Assumes nothing.
use mathlib.Core.Path.{◌≡◌, refl, sym, ap, ap₂, ◌∙◌}
use mathlib.Core.Bool.{Bool, true, false, cond, ◌&&◌}
use mathlib.Core.Option.{Option, none, some}
use mathlib.Core.List.{List, [], ◌∷◌, ◌++◌, map}
use Prim.Native.Nat.{ℕ, ◌+◌}
use borrow.Author.Tests.{ltb-true, not-false}
use lib.Dec.{ltb}
use lib.ListN.{length}
use Rattle.kit.specs.Lists.{all, first, flat, Each}
use Rattle.kit.specs.First.{AllOf}
use Rattle.kit.specs.Decides.{to, or_else}
use Rattle.kit.proofs.Bools.{and, among-all}
use Rattle.kit.proofs.Firsts.{all_of_append, first-append}
use Rattle.law.specs.Lines.{Line}
use Rattle.law.specs.Columns.{blank, is_blank, part, col, column, row_of}
use Rattle.law.specs.Players.{Slot, SpellsSlot, slot_colours, slot_results, capital, id_field, entry_colour_column, result_column, round_fields, every_round}
use Rattle.law.specs.Items.{Item, passed, text, rounds, colour, scoring, acceleration, player}
use Rattle.law.specs.Tournament.{player_in}
use Rattle.law.specs.Spelling.{SpellsLine}
use Rattle.law.specs.Refusals.{at_line_lem, line_faults, line_fault_number, Refusal, refusal, refusal_of, line_labels}
use Rattle.law.proofs.FieldsRead.{number_or0, number-or-blank, blank_is}
use Rattle.law.proofs.ColumnLaws.{column_cell}
use Rattle.law.proofs.Faults.{test_line, test_label}
use Rattle.law.proofs.LinesLawful.{each-length}
use Rattle.join.specs.Run.{first_all}
use Rattle.join.proofs.Steps.{fault_of}
use Rattle.join.proofs.Close.{WellSlot, WellLine}

-- ---- what a spelled 001 line is
well_slot_lem : (row : List ℕ) (r : ℕ) (s : Slot) → SpellsSlot row r s → WellSlot s
well_slot_lem row r s h =
    record {
      blank_is = λ e.
          let a = not-false (all (λ f. all is_blank (part f row)) (round_fields r)) (sym h.used ∙ e) in
          let i = and (all is_blank (part (id_field r) row)) (all is_blank (part (column (entry_colour_column r)) row) && (all is_blank (part (column (result_column r)) row) && true)) a in
          let c = and (all is_blank (part (column (entry_colour_column r)) row)) (all is_blank (part (column (result_column r)) row) && true) i.1 in
          let d = and (all is_blank (part (column (result_column r)) row)) true c.1 in
          let n : some 0 ≡ some s.id = ap number_or0 (sym (blank_is (part (id_field r) row) i.0)) ∙ number-or-blank.complete (part (id_field r) row) s.id h.id in
          (cc, h.colour ∙ one (entry_colour_column r) c.0, h.result ∙ ap capital (one (result_column r) d.0));
      colour_there = ltb-true 0 s.colour (ap (ltb 0) h.colour ∙ among-all (λ c. ltb 0 c) (col row (entry_colour_column r)) slot_colours h.colour_in refl);
      result_there = ltb-true 0 s.result (ap (ltb 0) h.result ∙ among-all (λ c. ltb 0 c) (capital (col row (result_column r))) slot_results h.result_in refl);
    }
  where
    one : (c : ℕ) → all is_blank (part (column c) row) ≡ true → col row c ≡ blank
    one c e = borrow.Author.Tests.eqb-true (col row c) blank (and (is_blank (col row c)) true (ap (all is_blank) (sym (column_cell row c)) ∙ e)).0

well_slots : (row : List ℕ) (rs : List ℕ) (ss : List Slot) → Each (SpellsSlot row) rs ss → AllOf WellSlot ss
well_slots row [] [] h = tt
well_slots row [] (s ∷ ss) h = absurd h
well_slots row (r ∷ rs) [] h = absurd h
well_slots row (r ∷ rs) (s ∷ ss) h = (well_slot_lem row r s h.0, well_slots row rs ss h.1)

pub well_lines : (ls : List Line) (is : List Item) → Each SpellsLine ls is → AllOf WellLine (flat player_in is)
unfolding flat
well_lines [] [] h = tt
well_lines [] (i ∷ is) h = absurd h
well_lines (l ∷ ls) [] h = absurd h
well_lines (l ∷ ls) (i ∷ is) h = all_of_append WellLine (player_in i) (flat player_in is) (one i h.0) (well_lines ls is h.1)
  where
    one : (i : Item) → SpellsLine l i → AllOf WellLine (player_in i)
    one passed h = tt
    one (text a) h = tt
    one (rounds n) h = tt
    one (colour c) h = tt
    one (scoring g) h = tt
    one (acceleration a) h = tt
    one (player p) h = (record { slots = each-length (SpellsSlot (row_of l.text)) every_round p.slots h.1.slots; well = well_slots (row_of l.text) every_round p.slots h.1.slots }, tt)

-- ---- the first line fault, as a refusal
first-map : {A B : Type 0} (f : A → B) (t : B → Bool) (l : List A) → first t (map f l) ≡ to f (first (λ x. t (f x)) l)
first-map f t [] = refl
first-map f t (x ∷ l) = go (t (f x)) (first-map f t l)
  where
    go : (v : Bool) → first t (map f l) ≡ to f (first (λ y. t (f y)) l) → cond v (some (f x)) (first t (map f l)) ≡ to f (cond v (some x) (first (λ y. t (f y)) l))
    go true e = refl
    go false e = e

pub to_or_else : {A B : Type 0} (f : A → B) (o q : Option A) → to f (or_else o q) ≡ or_else (to f o) (to f q)
to_or_else f none q = refl
to_or_else f (some x) q = refl

pub to-to : {A B C : Type 0} (f : B → C) (g : A → B) (o : Option A) → to f (to g o) ≡ to (λ a. f (g a)) o
to-to f g none = refl
to-to f g (some x) = refl

abbrev pub at_line : ℕ × ℕ → Refusal
at_line x = refusal x.1 x.0 0

pub line-firsts : (long : Bool) (n : ℕ) (o : Option (List Item)) (ls e : List Line) → to refusal_of (first (test_label long n o) (line_labels e ls)) ≡ to at_line (first_all fault_of e ls)
unfolding first_all
line-firsts long n o [] e = refl
line-firsts long n o (l ∷ ls) e =
    let t = test_label long n o in
    let q : Option Rattle.law.specs.Refusals.LineFault = first (λ f. test_line f e l) line_faults in
    ap (to refusal_of) (first-append t (map (λ f. at_line_lem f e l) line_faults) (line_labels (e ++ (l ∷ [])) ls))
    ∙ to_or_else refusal_of (first t (map (λ f. at_line_lem f e l) line_faults)) (first t (line_labels (e ++ (l ∷ [])) ls))
    ∙ ap₂ or_else
    (ap (to refusal_of) (first-map (λ f. at_line_lem f e l) t line_faults) ∙ to-to refusal_of (λ f. at_line_lem f e l) q ∙ sym (ap (to at_line) (to-to (λ k. (length e + 1, k)) line_fault_number q) ∙ to-to at_line (λ f. (length e + 1, line_fault_number f)) q))
    (line-firsts long n o ls (e ++ (l ∷ [])))
    ∙ sym (to_or_else at_line (to (λ f. (length e + 1, f)) (fault_of e l)) (first_all fault_of (e ++ (l ∷ [])) ls))
