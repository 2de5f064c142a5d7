-- 001: the line by its fields, its kept columns, its rounds and its other columns. Assumes nothing.
use mathlib.Core.Path.{◌≡◌, refl, sym, ap, ap₂, ◌∙◌}
use mathlib.Core.Bool.{Bool, true, false, ◌&&◌}
use mathlib.Core.Option.{Option, none, some}
use mathlib.Core.List.{List, [], ◌∷◌}
use Prim.Native.Nat.{ℕ}
use Rattle.kit.specs.Lists.{all, between, conj, flat}
use Rattle.kit.specs.Decides.{pair, to, when, keep}
use Rattle.law.specs.Sizes.{most_start, most_rank}
use Rattle.law.specs.Columns.{is_blank, cells, else_blank}
use Rattle.law.specs.Players.{Slot, PlayerLine, round_fields, every_round}
use Rattle.law.proofs.FieldsRead.{number_of, the_number, points_of}
use Rattle.law.proofs.RecordsRead.{is_kept, slots_of, make_player, player_of}
use Rattle.fields.specs.Said.{Said, says, refuses, or_bad_field}
use Rattle.fields.proofs.Keys.{and-false}
use Rattle.rows.proofs.PlayerRounds.{to_some, to_none}
use Rattle.rows.specs.declared.Slots.{Slots}
use Rattle.rows.specs.declared.Row.{Row}
use Rattle.rows.specs.Rows.{rounds_in, the_slots, the_row}

-- ---- what is asked of the rounds' columns may be asked first or last
none-when : {A : Type 0} (b : Bool) → ◌≡◌ {A = Option A} (when b none) none
none-when true = refl
none-when false = refl

pair-none : {A B : Type 0} (x : Option A) → ◌≡◌ {A = Option (A × B)} (pair x none) none
pair-none none = refl
pair-none (some a) = refl

asked_last : {A B C D : Type 0} (g : (A × (B × C)) → D) (a b c d e k : Bool) (x : Option A) (y : Option B) (z : Option C)
    → when ((a && (b && (c && (d && e)))) && k) (to g (pair x (pair y z))) ≡ when ((a && (b && (c && (d && true)))) && k) (to g (pair x (pair y (when e z))))
asked_last g a b c d true k x y z = refl
asked_last {A} {B} {C} {D} g a b c d false k x y z = left ∙ sym right
  where
    left : when ((a && (b && (c && (d && false)))) && k) (to g (pair x (pair y z))) ≡ none
    left = rw (and-false d, and-false c, and-false b, and-false a) refl

    right : when ((a && (b && (c && (d && true)))) && k) (to g (pair x (pair y none))) ≡ none
    right = rw (pair-none {B = C} y, pair-none {B = B × C} x) (none-when {A = D} ((a && (b && (c && (d && true)))) && k))

module _ (row : List ℕ) where
  abbrev start_in : Option ℕ
  start_in = keep (between 1 most_start) (the_number (number_of (cells row 4 4)))

  abbrev rank_in : Option ℕ
  rank_in = keep (between 1 most_rank) (the_number (number_of (cells row 85 4)))

  abbrev gaps : Bool
  gaps = conj (all is_blank (cells row 3 1) ∷ all is_blank (cells row 8 1) ∷ all is_blank (cells row 79 1) ∷ all is_blank (cells row 84 1) ∷ [])

  player_by : (clean : Bool) (start points rank : Option ℕ) (slots : Option (List Slot)) → gaps && is_kept (cells row 9 70) ≡ clean
      → start_in ≡ start → points_of (cells row 80 4) ≡ points → rank_in ≡ rank → rounds_in row ≡ slots
      → player_of row ≡ when clean (to (make_player row) (pair (pair start points) (pair rank slots)))
  player_by v s p r l v-is s-is p-is r-is l-is =
      asked_last (make_player row) (all is_blank (cells row 3 1)) (all is_blank (cells row 8 1)) (all is_blank (cells row 79 1)) (all is_blank (cells row 84 1)) (else_blank 90 (flat round_fields every_round) row) (is_kept (cells row 9 70)) (pair start_in (points_of (cells row 80 4))) rank_in (slots_of row)
      ∙ ap (λ (a : Bool). when a (to (make_player row) (pair (pair start_in (points_of (cells row 80 4))) (pair rank_in (rounds_in row))))) v-is
      ∙ ap₂ (λ (a b : Option ℕ). when v (to (make_player row) (pair (pair a b) (pair rank_in (rounds_in row))))) s-is p-is
      ∙ ap₂ (λ (a : Option ℕ) (b : Option (List Slot)). when v (to (make_player row) (pair (pair s p) (pair a b)))) r-is l-is

  -- at each answer: what was read so far
  abbrev row_said : Option PlayerLine → Said Row
  row_said o = or_bad_field (to the_row o)

  module _ (kept : List ℕ) (kept_is : kept ≡ cells row 9 70) where
    clean-by : (v k : Bool) → gaps ≡ v → is_kept kept ≡ k → gaps && is_kept (cells row 9 70) ≡ v && k
    clean-by v k v-is k_is = ap₂ (λ (a b : Bool). a && b) v-is (ap is_kept (sym kept_is) ∙ k_is)

    pub else_bad : gaps ≡ false → refuses 7 ≡ row_said (player_of row)
    else_bad v = sym (ap row_said (player_by false _ _ _ _ (clean-by false _ v refl) refl refl refl refl))

    module _ (v : gaps ≡ true) where
      pub kept_bad : is_kept kept ≡ false → refuses 7 ≡ row_said (player_of row)
      kept_bad k = sym (ap row_said (player_by false _ _ _ _ (clean-by true false v k) refl refl refl refl))

      module _ (k : is_kept kept ≡ true) where
        pub start_bad : start_in ≡ none → refuses 7 ≡ row_said (player_of row)
        start_bad s = sym (ap row_said (player_by true none _ _ _ (clean-by true true v k) s refl refl refl))

        module _ (start : ℕ) (s : start_in ≡ some start) where
          pub points_bad : points_of (cells row 80 4) ≡ none → refuses 7 ≡ row_said (player_of row)
          points_bad p = sym (ap row_said (player_by true (some start) none _ _ (clean-by true true v k) s p refl refl))

          module _ (points : ℕ) (p : points_of (cells row 80 4) ≡ some points) where
            pub rank_bad : rank_in ≡ none → refuses 7 ≡ row_said (player_of row)
            rank_bad r = sym (ap row_said (player_by true (some start) (some points) none _ (clean-by true true v k) s p r refl))

            module _ (rank : ℕ) (r : rank_in ≡ some rank) where
              pub slots_bad : to the_slots (rounds_in row) ≡ none → refuses 7 ≡ row_said (player_of row)
              slots_bad l = sym (ap row_said (player_by true (some start) (some points) (some rank) none (clean-by true true v k) s p r (to_none the_slots (rounds_in row) l)))

              pub row_good : (slots : Slots) → to the_slots (rounds_in row) ≡ some slots
                  → says (record { start = record { 0 = start }; rank = record { 0 = rank }; points = points; kept = kept; ids = slots.ids; colours = slots.colours; results = slots.results }) ≡ row_said (player_of row)
              unfolding the_row the_slots
              row_good slots slots_are =
                  let l = to_some the_slots (rounds_in row) slots slots_are in
                  ap₂ (λ (m : List ℕ) (x : Slots). says (record { start = record { 0 = start }; rank = record { 0 = rank }; points = points; kept = m; ids = x.ids; colours = x.colours; results = x.results })) kept_is (sym l.1.1)
                  ∙ sym (ap row_said (player_by true (some start) (some points) (some rank) (some l.0) (clean-by true true v k) s p r l.1.0))
