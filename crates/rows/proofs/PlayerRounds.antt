-- The rounds of a 001 line: a round's columns, the rounds one after the other, and the columns between them. Assumes nothing.
use mathlib.Core.Path.{◌≡◌, refl, sym, ap, ap₂, subst, ◌∙◌}
use mathlib.Core.Bool.{Bool, true, false, cond, ◌&&◌, not}
use mathlib.Core.Option.{Option, none, some}
use mathlib.Core.List.{List, [], ◌∷◌, ◌++◌, map, map-map}
use Prim.Native.Nat.{ℕ, zero, suc, ◌+◌, ◌*◌, ◌-◌, ◌≤◌, ◌<◌}
use Prim.Native.Char.{code}
use native.Mathlib.Numerals.{add-one}
use native.Mathlib.Omega.{arith}
use lib.ListN.{length, get_or, set, replicate, length-map, length-append}
use lib.Seq.{set_at, append_snoc}
use lib.Dec.{eqb}
use borrow.Author.Tests.{ne_eqb, not-true}
use Rattle.kit.specs.Lists.{all, among, conj, from, flat}
use Rattle.kit.specs.Decides.{to, when, cons, each}
use Rattle.kit.proofs.Bools.{among-all}
use Rattle.kit.proofs.Lists.{map-append}
use Rattle.law.specs.Columns.{blank, is_blank, cells, col, part, column, else_blank}
use Rattle.law.specs.Players.{unknown_result, Slot, id_field, entry_colour_column, result_column, round_fields, slot_colours, slot_results, capital}
use Rattle.law.specs.Tournament.{Entry, blank_as, normal}
use Rattle.law.specs.Entries.{no_entry}
use Rattle.law.proofs.FieldsRead as law
use Rattle.law.proofs.RecordsRead.{is_used, slot_of}
use Rattle.join.specs.Store.{raw_cell}
use Rattle.std.specs.Prelude.{Result}
use Rattle.std.specs.Result.{IsErrAnd}
use Rattle.types.specs.declared.Fault.{Fault}
use Rattle.types.specs.Faults.{number_of}
use Rattle.fields.specs.Said.{Said, says, refuses, said, or_bad_field}
use Rattle.fields.specs.Fields.{or_blank}
use Rattle.fields.proofs.Cases.{is_bad, handed_on}
use Rattle.fields.proofs.Columns.{get_d_any, cells-cons, cells_one, cells-four}
use Rattle.fields.proofs.Turns.{and-true}
use Rattle.fields.proofs.Fours.{number-not-blank}
use Rattle.kept_columns.proofs.KeptColumns.{gap}
use Rattle.rows.specs.declared.Slot.{Slot as Stored}
use Rattle.rows.specs.declared.Slots.{Slots}
use Rattle.rows.specs.Rows.{rounds_in, as_slot, stored, bye, the_slots, ids_of, colours_of, results_of}

-- ---- the exit of a `?`: a fault that is handed on is 7
module _ {B : Type 0} (r : Result B Fault) (e : Fault) (handed : IsErrAnd r (λ d. d ≡ e)) where
  pub refused_on : {A : Type 0} (o : Option A) → refuses (number_of e) ≡ or_bad_field o → said r ≡ refuses 7
  refused_on o p = handed_on r e handed o none p (λ _. refl)

  pub refused_number : (o : law.Number) → refuses (number_of e) ≡ or_blank o → said r ≡ refuses 7
  refused_number o p = handed_on {A = Option ℕ} r e handed none none (p ∙ ap or_blank (is_bad o (sym p))) (λ _. refl)

abbrev pub slot_from : ℕ → ℕ → ℕ → Bool → Slot
slot_from i c r u = record { id = i; colour = c; result = r; used = u }

-- a wholly blank one
abbrev pub no_slot : Slot
no_slot = slot_from 0 blank blank false

-- ---- what is stored of a round
raw_none : (i x y : ℕ) (u : Bool) → u ≡ false → no_entry ≡ raw_cell (slot_from i x y u)
raw_none i x y u e = rw e refl

raw_bye : (i x y : ℕ) (u : Bool) → i ≡ 0 → u ≡ true → normal (bye x y) ≡ raw_cell (slot_from i x y u)
raw_bye i x y u h e = rw (h, e) refl

raw_game : (i x y : ℕ) (u : Bool) → (i ≡ 0 → ⊥) → u ≡ true → record { id = i; colour = x; result = blank_as unknown_result y } ≡ raw_cell (slot_from i x y u)
unfolding normal
raw_game i x y u h e = rw (e, ne_eqb i 0 h) refl

-- with what would be held of its result beside an opponent
pub bye_is : (x y z : ℕ) → among y slot_results ≡ true → z ≡ blank_as unknown_result y
    → ◌≡◌ {A = Stored} (record { id = 0; colour = blank_as (code "-") x; result = cond (eqb z unknown_result) (code "Z") z }) (as_slot (normal (bye x y)))
unfolding normal
bye_is x y z y-in z-is = λ i. record { id = 0; colour = blank_as (code "-") x; result = (ap (λ (c : ℕ). cond (eqb c unknown_result) (code "Z") c) z-is ∙ go (is_blank y)) i }
  where
    known : eqb y unknown_result ≡ false
    known = not-true (eqb y unknown_result) (among-all (λ c. not (eqb c unknown_result)) y slot_results y-in refl)

    go : (v : Bool) → cond (eqb (cond v unknown_result y) unknown_result) (code "Z") (cond v unknown_result y) ≡ cond v (code "Z") y
    go true = refl
    go false = rw known refl

-- ---- the columns of round r
module _ (row : List ℕ) (r : ℕ) (h : 1 ≤ r) where
  id-there : part (id_field r) row ≡ cells row (81 + 10 * r) 4
  id-there = ap₂ (cells row) (omega arith) (omega arith)

  colour_there : part (column (entry_colour_column r)) row ≡ cells row (81 + 10 * r + 5) 1
  colour_there = ap₂ (cells row) (omega arith) (omega arith)

  result_there : part (column (result_column r)) row ≡ cells row (81 + 10 * r + 7) 1
  result_there = ap₂ (cells row) (omega arith) (omega arith)

  pub used-by : (a b c : Bool) → all is_blank (cells row (81 + 10 * r) 4) ≡ a → all is_blank (cells row (81 + 10 * r + 5) 1) ≡ b → all is_blank (cells row (81 + 10 * r + 7) 1) ≡ c
      → is_used row r ≡ not (a && (b && (c && true)))
  used-by a b c p q s =
      ap not (ap₂ (λ (x y : Bool). x && y) (ap (all is_blank) id-there ∙ p)
      (ap₂ (λ (x y : Bool). x && y) (ap (all is_blank) colour_there ∙ q) (ap (λ (x : Bool). x && true) (ap (all is_blank) result_there ∙ s))))

  pub slot_by : (x y : ℕ) (c d : Bool) (o : Option ℕ) → x ≡ get_or row (81 + 10 * r + 5) blank → y ≡ capital (get_or row (81 + 10 * r + 7) blank) → among x slot_colours ≡ c → among y slot_results ≡ d
      → law.number_or0 (law.number_of (cells row (81 + 10 * r) 4)) ≡ o → slot_of row r ≡ when (c && d) (to (λ i. slot_from i x y (is_used row r)) o)
  slot_by x y c d o x-is y-is c-is d-is o_is =
      let u : col row (entry_colour_column r) ≡ x = ap (λ (k : ℕ). get_or row k blank) (omega arith) ∙ sym x-is in
      let v : capital (col row (result_column r)) ≡ y = ap (λ (k : ℕ). capital (get_or row k blank)) (omega arith) ∙ sym y-is in
      ap₂ (λ (m n : ℕ). when (among m slot_colours && among n slot_results) (to (λ i. slot_from i m n (is_used row r)) (law.number_or0 (law.number_of (part (id_field r) row))))) u v
      ∙ ap₂ (λ (a b : Bool). when (a && b) (to (λ i. slot_from i x y (is_used row r)) (law.number_or0 (law.number_of (part (id_field r) row))))) c-is d-is
      ∙ ap (λ (q : Option ℕ). when (c && d) (to (λ i. slot_from i x y (is_used row r)) q)) (ap (λ (l : List ℕ). law.number_or0 (law.number_of l)) id-there ∙ o_is)

-- ---- the same by the line's bytes, of a line that has them all
abbrev pub id_bytes : List ℕ → ℕ → List ℕ
id_bytes row r = get_or row (81 + 10 * r) 0 ∷ get_or row (81 + 10 * r + 1) 0 ∷ get_or row (81 + 10 * r + 2) 0 ∷ get_or row (81 + 10 * r + 3) 0 ∷ []

module _ (row : List ℕ) (r : ℕ) (h : 1 ≤ r) (long : 89 + 10 * r ≤ length row) where
  there : (k : ℕ) → k ≤ 7 → get_or row (81 + 10 * r + k) blank ≡ get_or row (81 + 10 * r + k) 0
  there k q = get_d_any row (81 + 10 * r + k) blank 0 (omega arith)

  id-bytes : cells row (81 + 10 * r) 4 ≡ id_bytes row r
  id-bytes = cells-four row (81 + 10 * r) ∙ (λ i. get_d_any row (81 + 10 * r) blank 0 (omega arith) i ∷ there 1 (omega arith) i ∷ there 2 (omega arith) i ∷ there 3 (omega arith) i ∷ [])

  pub slot_read : (y : ℕ) (c d : Bool) (o : Option ℕ) → y ≡ capital (get_or row (81 + 10 * r + 7) 0) → among (get_or row (81 + 10 * r + 5) 0) slot_colours ≡ c → among y slot_results ≡ d
      → law.number_or0 (law.number_of (id_bytes row r)) ≡ o → slot_of row r ≡ when (c && d) (to (λ i. slot_from i (get_or row (81 + 10 * r + 5) 0) y (is_used row r)) o)
  slot_read y c d o y-is c-is d-is o_is =
      slot_by row r h (get_or row (81 + 10 * r + 5) 0) y c d o (sym (there 5 (omega arith))) (y-is ∙ ap capital (sym (there 7 (omega arith)))) c-is d-is (ap (λ (l : List ℕ). law.number_or0 (law.number_of l)) id-bytes ∙ o_is)

  -- an id is a byte that is not blank; without one the colour and the result say it
  used_id : (n : ℕ) → law.number_of (id_bytes row r) ≡ law.value n → is_used row r ≡ true
  used_id n e = used-by row r h false _ _ (ap (all is_blank) id-bytes ∙ number-not-blank (id_bytes row r) n e) refl refl

  used_else : law.number_of (id_bytes row r) ≡ law.none-there → is_used row r ≡ not (all is_blank (get_or row (81 + 10 * r + 5) 0 ∷ get_or row (81 + 10 * r + 7) 0 ∷ []))
  used_else e =
      used-by row r h true (is_blank (get_or row (81 + 10 * r + 5) 0)) (is_blank (get_or row (81 + 10 * r + 7) 0)) (ap (all is_blank) id-bytes ∙ law.blank-sound (id_bytes row r) e)
      (gap row (81 + 10 * r + 5) (omega arith)) (gap row (81 + 10 * r + 7) (omega arith))

  -- at each answer: what was read so far
  abbrev slot_said : Option Slot → Said Stored
  slot_said o = or_bad_field (to stored o)

  pub colour_bad : among (get_or row (81 + 10 * r + 5) 0) slot_colours ≡ false → ◌≡◌ {A = Said Stored} (refuses 7) (slot_said (slot_of row r))
  colour_bad e = sym (ap slot_said (slot_read _ false _ _ refl e refl refl))

  module _ (y : ℕ) (y-is : y ≡ capital (get_or row (81 + 10 * r + 7) 0)) (c-is : among (get_or row (81 + 10 * r + 5) 0) slot_colours ≡ true) where
    pub result_bad : among y slot_results ≡ false → ◌≡◌ {A = Said Stored} (refuses 7) (slot_said (slot_of row r))
    result_bad e = sym (ap slot_said (slot_read y true false _ y-is c-is e refl))

    module _ (d-is : among y slot_results ≡ true) where
      by_id : (n : law.Number) → law.number_of (id_bytes row r) ≡ n → slot_said (slot_of row r) ≡ slot_said (to (λ i. slot_from i (get_or row (81 + 10 * r + 5) 0) y (is_used row r)) (law.number_or0 n))
      by_id n e = ap slot_said (slot_read y true true (law.number_or0 n) y-is c-is d-is (ap law.number_or0 e))

      pub id_bad : law.number_of (id_bytes row r) ≡ law.bad → ◌≡◌ {A = Said Stored} (refuses 7) (slot_said (slot_of row r))
      id_bad e = sym (by_id law.bad e)

      module _ (e : law.number_of (id_bytes row r) ≡ law.none-there) (u : Bool) (u_is : u ≡ not (all is_blank (get_or row (81 + 10 * r + 5) 0 ∷ get_or row (81 + 10 * r + 7) 0 ∷ []))) where
        pub wholly_blank : u ≡ false → says (as_slot no_entry) ≡ slot_said (slot_of row r)
        wholly_blank q = ap (λ (e : Entry). says (as_slot e)) (raw_none 0 (get_or row (81 + 10 * r + 5) 0) y (is_used row r) (used_else e ∙ sym u_is ∙ q)) ∙ sym (by_id law.none-there e)

        pub id-blank : u ≡ true → says (as_slot (normal (bye (get_or row (81 + 10 * r + 5) 0) y))) ≡ slot_said (slot_of row r)
        id-blank q = ap (λ (e : Entry). says (as_slot e)) (raw_bye 0 (get_or row (81 + 10 * r + 5) 0) y (is_used row r) refl (used_else e ∙ sym u_is ∙ q)) ∙ sym (by_id law.none-there e)

      module _ (id : ℕ) (e : law.number_of (id_bytes row r) ≡ law.value id) where
        pub id-zero : id ≡ 0 → says (as_slot (normal (bye (get_or row (81 + 10 * r + 5) 0) y))) ≡ slot_said (slot_of row r)
        id-zero z = ap (λ (e : Entry). says (as_slot e)) (raw_bye id (get_or row (81 + 10 * r + 5) 0) y (is_used row r) z (used_id id e)) ∙ sym (by_id (law.value id) e)

        pub id_other : (id ≡ 0 → ⊥) → says (record { id = id; colour = get_or row (81 + 10 * r + 5) 0; result = blank_as unknown_result y }) ≡ slot_said (slot_of row r)
        id_other h = ap (λ (e : Entry). says (as_slot e)) (raw_game id (get_or row (81 + 10 * r + 5) 0) y (is_used row r) h (used_id id e)) ∙ sym (by_id (law.value id) e)

-- ---- the columns between the rounds' fields
pub two_columns : (row : List ℕ) (i : ℕ) → all is_blank (cells row i 2) ≡ all is_blank (cells row i 1) && all is_blank (cells row (i + 1) 1)
two_columns row i =
    ap (all is_blank) (cells-cons row i 1) ∙ ap₂ (λ (x y : Bool). x && y) (sym (ap (all is_blank) (cells_one row i) ∙ and-true (is_blank (get_or row i blank)))) (ap (λ (j : ℕ). all is_blank (cells row j 1)) (sym (add-one i)))

pub pair_is : (row : List ℕ) (i : ℕ) → i + 1 < length row → is_blank (get_or row i 0) && is_blank (get_or row (i + 1) 0) ≡ all is_blank (cells row i 2)
pair_is row i l =
    sym (two_columns row i ∙ ap (λ (v : Bool). v && all is_blank (cells row (i + 1) 1)) (gap row i (omega (arith, l))) ∙ ap (λ (v : Bool). is_blank (get_or row i 0) && v) (gap row (i + 1) l))

abbrev pub gaps_blank : List ℕ → ℕ → Bool
gaps_blank row i = conj (all is_blank (cells row (89 + 10 * i) 2) ∷ all is_blank (cells row (89 + 10 * i + 6) 1) ∷ all is_blank (cells row (89 + 10 * i + 8) 1) ∷ [])

pub between_turn : (row : List ℕ) (i : ℕ) → i < 20 → (v : Bool) → gaps_blank row i ≡ v
    → else_blank (90 + 10 * i) (flat round_fields (from (i + 1) (20 - i))) row ≡ v && else_blank (90 + 10 * (i + 1)) (flat round_fields (from (i + 1 + 1) (20 - (i + 1)))) row
unfolding flat
between_turn row i h v e =
    let n : 20 - i ≡ suc (20 - (i + 1)) = omega arith in
    ap (λ (k : ℕ). else_blank (90 + 10 * i) (flat round_fields (from (i + 1) k)) row) n
    ∙ ap₂ (λ (x y : Bool). x && y) (ap (all is_blank) (ap₂ (cells row) (omega arith) (omega arith)))
    (ap₂ (λ (x y : Bool). x && y) (ap (all is_blank) (ap₂ (cells row) (omega arith) (omega arith)))
    (ap₂ (λ (x y : Bool). x && y) (ap (all is_blank) (ap₂ (cells row) (omega arith) (omega arith)))
    (ap (λ (c : ℕ). else_blank c (flat round_fields (from (i + 1 + 1) (20 - (i + 1)))) row) (omega arith))))
    ∙ regroup (all is_blank (cells row (89 + 10 * i) 2)) (all is_blank (cells row (89 + 10 * i + 6) 1)) (all is_blank (cells row (89 + 10 * i + 8) 1)) (else_blank (90 + 10 * (i + 1)) (flat round_fields (from (i + 1 + 1) (20 - (i + 1)))) row)
    ∙ ap (λ (b : Bool). b && else_blank (90 + 10 * (i + 1)) (flat round_fields (from (i + 1 + 1) (20 - (i + 1)))) row) e
  where
    regroup : (a b c r : Bool) → a && (b && (c && r)) ≡ (a && (b && (c && true))) && r
    regroup true true true r = refl
    regroup true true false r = refl
    regroup true false c r = refl
    regroup false b c r = refl

pub between-end : (row : List ℕ) (i : ℕ) → i ≡ 20 → else_blank (90 + 10 * i) (flat round_fields (from (i + 1) (20 - i))) row ≡ else_blank 290 [] row
unfolding flat
between-end row i e = ap (λ (k : ℕ). else_blank (90 + 10 * k) (flat round_fields (from (k + 1) (20 - k))) row) e

-- ---- the rounds, of which the first i are read
pub to_some : {A B : Type 0} (g : A → B) (o : Option A) (b : B) → to g o ≡ some b → (a : A) × ((o ≡ some a) × (g a ≡ b))
to_some g (some a) b e = let u : g a ≡ b = cc in (a, (refl, u))
to_some g none b e = absurd (let z : ◌≡◌ {A = ℕ} 0 1 = cc in omega arith)

pub to_none : {A B : Type 0} (g : A → B) (o : Option A) → to g o ≡ none → o ≡ none
to_none g none e = refl
to_none g (some a) e = absurd (let z : ◌≡◌ {A = ℕ} 0 1 = cc in omega arith)

set_next : {A : Type 0} (g : Slot → A) (z : A) (slots : List Slot) (s : Slot) (i n : ℕ) → length slots ≡ i → i < n
    → set (map g slots ++ replicate (n - i) z) i (g s) ≡ map g (slots ++ (s ∷ [])) ++ replicate (n - (i + 1)) z
set_next {A} g z slots s i n l h =
    let e : n - i ≡ suc (n - (i + 1)) = omega arith in
    ap (λ (k : ℕ). set (map g slots ++ replicate k z) i (g s)) e
    ∙ set_at (map g slots) z (replicate (n - (i + 1)) z) (g s) i (length-map slots g ∙ l)
    ∙ sym (append_snoc (map g slots) (g s) (replicate (n - (i + 1)) z))
    ∙ ap (λ (k : List A). k ++ replicate (n - (i + 1)) z) (sym (map-append g slots (s ∷ [])))

map-replicate : {A B : Type 0} (g : A → B) (n : ℕ) (a : A) → map g (replicate n a) ≡ replicate n (g a)
map-replicate g zero a = refl
map-replicate {B = B} g (suc n) a = ap (λ (l : List B). g a ∷ l) (map-replicate g n a)

abbrev slots_said : Option (List Slot) → Said Slots
slots_said o = or_bad_field (to the_slots o)

-- those that are left, where what stands between them is blank
abbrev pub left : List ℕ → ℕ → Bool
left row i = else_blank (90 + 10 * i) (flat round_fields (from (i + 1) (20 - i))) row

pub record Read (row : List ℕ) (i : ℕ) (ids colours results : List ℕ) : Type 0 where
  pub slots : List Slot
  pub long : length slots ≡ i
  pub rest : rounds_in row ≡ to (λ (l : List Slot). slots ++ l) (when (left row i) (each (slot_of row) (from (i + 1) (20 - i))))
  pub ids_are : ids ≡ map (λ (s : Slot). (raw_cell s).id) slots ++ replicate (20 - i) 0
  pub colours_are : colours ≡ map (λ (s : Slot). (raw_cell s).colour) slots ++ replicate (20 - i) 0
  pub results_are : results ≡ map (λ (s : Slot). (raw_cell s).result) slots ++ replicate (20 - i) 0

pub none_read : (row : List ℕ) → Read row 0 (replicate 20 0) (replicate 20 0) (replicate 20 0)
none_read row = record { slots = []; long = refl; rest = go (rounds_in row); ids_are = refl; colours_are = refl; results_are = refl }
  where
    go : (o : Option (List Slot)) → o ≡ to (λ (l : List Slot). l) o
    go none = refl
    go (some l) = refl

module _ (row : List ℕ) (i : ℕ) (ids colours results : List ℕ) (f : Read row i ids colours results) where
  module _ (h : i < 20) where
    next : each (slot_of row) (from (i + 1) (20 - i)) ≡ cons (slot_of row (i + 1)) (each (slot_of row) (from (i + 1 + 1) (20 - (i + 1))))
    next = let e : 20 - i ≡ suc (20 - (i + 1)) = omega arith in ap (λ (k : ℕ). each (slot_of row) (from (i + 1) k)) e

    turn : (v : Bool) → gaps_blank row i ≡ v
        → rounds_in row ≡ to (λ (l : List Slot). f.slots ++ l) (when (v && left row (i + 1)) (cons (slot_of row (i + 1)) (each (slot_of row) (from (i + 1 + 1) (20 - (i + 1))))))
    turn v e = f.rest ∙ ap₂ (λ (b : Bool) (o : Option (List Slot)). to (λ (l : List Slot). f.slots ++ l) (when b o)) (between_turn row i h v e) next

    pub gaps_bad : gaps_blank row i ≡ false → refuses 7 ≡ slots_said (rounds_in row)
    gaps_bad e = sym (ap slots_said (turn false e))

    module _ (g : gaps_blank row i ≡ true) where
      with_slot : (o : Option Slot) → slot_of row (i + 1) ≡ o
          → rounds_in row ≡ to (λ (l : List Slot). f.slots ++ l) (when (left row (i + 1)) (cons o (each (slot_of row) (from (i + 1 + 1) (20 - (i + 1))))))
      with_slot o e = turn true g ∙ ap (λ (x : Option Slot). to (λ (l : List Slot). f.slots ++ l) (when (left row (i + 1)) (cons x (each (slot_of row) (from (i + 1 + 1) (20 - (i + 1))))))) e

      pub round_bad : slot_of row (i + 1) ≡ none → refuses 7 ≡ slots_said (rounds_in row)
      round_bad e = sym (ap slots_said (with_slot none e ∙ go (left row (i + 1))))
        where
          go : (b : Bool) → to (λ (l : List Slot). f.slots ++ l) (when b none) ≡ none
          go true = refl
          go false = refl

      read_more : (s : Slot) → slot_of row (i + 1) ≡ some s → Read row (i + 1) (set ids i (raw_cell s).id) (set colours i (raw_cell s).colour) (set results i (raw_cell s).result)
      read_more s e =
          record {
            slots = f.slots ++ (s ∷ []);
            long = length-append f.slots (s ∷ []) ∙ ap (λ (k : ℕ). k + 1) f.long;
            rest = with_slot (some s) e ∙ go (left row (i + 1)) (each (slot_of row) (from (i + 1 + 1) (20 - (i + 1))));
            ids_are = ap (λ (l : List ℕ). set l i (raw_cell s).id) f.ids_are ∙ set_next (λ (s : Slot). (raw_cell s).id) 0 f.slots s i 20 f.long h;
            colours_are = ap (λ (l : List ℕ). set l i (raw_cell s).colour) f.colours_are ∙ set_next (λ (s : Slot). (raw_cell s).colour) 0 f.slots s i 20 f.long h;
            results_are = ap (λ (l : List ℕ). set l i (raw_cell s).result) f.results_are ∙ set_next (λ (s : Slot). (raw_cell s).result) 0 f.slots s i 20 f.long h;
          }
        where
          go : (b : Bool) (o : Option (List Slot)) → to (λ (l : List Slot). f.slots ++ l) (when b (cons (some s) o)) ≡ to (λ (l : List Slot). (f.slots ++ (s ∷ [])) ++ l) (when b o)
          go false o = refl
          go true none = refl
          go true (some l) = ap some (sym (append_snoc f.slots s l))

      pub round_more : (c : Stored) → to stored (slot_of row (i + 1)) ≡ some c → Read row (i + 1) (set ids i c.id) (set colours i c.colour) (set results i c.result)
      round_more c e =
          let s = to_some stored (slot_of row (i + 1)) c e in
          subst (λ (x : Stored). Read row (i + 1) (set ids i x.id) (set colours i x.colour) (set results i x.result)) s.1.1 (read_more s.0 s.1.0)

  column_read : (g : Entry → ℕ) → g no_entry ≡ 0 → (l : List ℕ) → l ≡ map (λ (s : Slot). g (raw_cell s)) f.slots ++ replicate (20 - i) 0
      → l ≡ map g (map raw_cell (f.slots ++ replicate (20 - i) no_slot))
  column_read g z l l-is =
      l-is
      ∙ ap (λ (k : List ℕ). map (λ (s : Slot). g (raw_cell s)) f.slots ++ k) (ap (replicate (20 - i)) (sym z) ∙ sym (map-replicate (λ (s : Slot). g (raw_cell s)) (20 - i) no_slot))
      ∙ sym (map-append (λ (s : Slot). g (raw_cell s)) f.slots (replicate (20 - i) no_slot))
      ∙ sym (map-map g raw_cell (f.slots ++ replicate (20 - i) no_slot))

  -- the others are wholly blank
  pub end_bad : left row i ≡ false → refuses 7 ≡ slots_said (rounds_in row)
  end_bad e = sym (ap slots_said (f.rest ∙ ap (λ (b : Bool). to (λ (l : List Slot). f.slots ++ l) (when b (each (slot_of row) (from (i + 1) (20 - i))))) e))

  pub all_read : left row i ≡ true → each (slot_of row) (from (i + 1) (20 - i)) ≡ some (replicate (20 - i) no_slot)
      → says (record { ids = ids; colours = colours; results = results }) ≡ slots_said (rounds_in row)
  unfolding the_slots ids_of colours_of results_of
  all_read e others =
      let whole : rounds_in row ≡ some (f.slots ++ replicate (20 - i) no_slot) = f.rest ∙ ap₂ (λ (b : Bool) (o : Option (List Slot)). to (λ (l : List Slot). f.slots ++ l) (when b o)) e others in
      let a = column_read (λ (c : Entry). c.id) refl ids f.ids_are in
      let b = column_read (λ (c : Entry). c.colour) refl colours f.colours_are in
      let d = column_read (λ (c : Entry). c.result) refl results f.results_are in
      (λ k. says (record { ids = a k; colours = b k; results = d k })) ∙ ap slots_said (sym whole)
