-- The records and the line decided: functions that compute, and that they decide the relations of the statement. Assumes nothing.
use mathlib.Core.Path.{◌≡◌, refl, sym, ap, subst}
use mathlib.Core.Bool.{Bool, true, false, ◌&&◌, not}
use mathlib.Core.Option.{Option, none, some}
use mathlib.Core.List.{List, [], ◌∷◌, map}
use Prim.Native.Nat.{ℕ}
use native.Mathlib.Omega.{arith}
use lib.Dec.{leb}
use lib.ListN.{drop}
use borrow.Author.Tests.{le-leb, leb-true, not-true}
use Rattle.kit.specs.Lists.{between, all, among, is_one_of, is_empty, Each}
use Rattle.kit.specs.Decides.{Decides, Tests, pair, to, when, keep, cons, is_some, each}
use Rattle.kit.proofs.Bools.{clash, and, both, among-all}
use Rattle.kit.proofs.Decided.{together, renamed, kept, guarded_by, made, retold, on, spelled, listed, plain, tests_on, tests_retold, itself, tests_both, two, to_at, when_inv, cons-nil, cons_inv, no_some}
use Rattle.types.specs.declared.Acceleration.{Acceleration}
use Rattle.law.specs.Sizes.{most_rounds, most_start, most_rank}
use Rattle.law.specs.Columns.{Field, is_blank, col, part, column, else_blank, after_code}
use Rattle.law.specs.Fields.{SpellsNumber, SpellsPoints}
use Rattle.law.specs.Text.{says_name, SpellsText}
use Rattle.law.specs.Heads.{rounds_field, SpellsRounds, colour_column, initial_colours, SpellsColour}
use Rattle.law.specs.Scoring.{letters, slot_fields, SpellsValue, FilledFirst, letters_differ, SpellsScoring}
use Rattle.law.specs.Accelerations.{is_acceleration, added_field, first_round_field, last_round_field, first_start_field, last_start_field, acceleration_fields, SpellsAcceleration}
use Rattle.law.specs.Players.{kept_field, sex_field, title_field, rating_field, birth_field, kept_fields, in_line, sexes, titles, is_birth, SpellsKept, Slot, id_field, entry_colour_column, result_column, round_fields, slot_colours, slot_results, capital, SpellsSlot, PlayerLine, start_field, points_field, rank_field, every_round, player_fields, SpellsPlayer}
use Rattle.law.specs.Items.{Item, passed, text, rounds, colour, scoring, acceleration, player, Kind, passed_over, kept-text, 142-record, 152-record, 162-record, 250-record, 001-record, unlisted, kind_of, SpellsItem}
use Rattle.law.proofs.FieldsRead.{number_of, the_number, number_or0, number, number-or-blank, points_of, points, leading_of, leading, trim, trimmed}

-- ---- fields of a row
abbrev pub number_in : Field → List ℕ → Option ℕ
number_in f row = the_number (number_of (part f row))

abbrev pub points_in : Field → List ℕ → Option ℕ
points_in f row = points_of (part f row)

number_at : (f : Field) → Decides (λ row n. SpellsNumber (part f row) n) (number_in f)
number_at f = on number (part f)

points_at : (f : Field) → Decides (λ row p. SpellsPoints (part f row) p) (points_in f)
points_at f = on points (part f)

-- ---- kept text
abbrev pub text_of : List ℕ → Option (List ℕ)
text_of row = when (is_blank (col row after_code) && says_name row) (some (trim row))

pub text-line : Decides SpellsText text_of
text-line =
    retold (guarded_by trimmed (two (λ row. is_blank (col row after_code)) says_name))
    (λ row a h. record { gap = h.0.0; name = h.0.1; kept_is = h.1 })
    (λ row a r. ((r.gap, r.name), r.kept_is))

-- ---- 142, 152
abbrev pub rounds_of_row : List ℕ → Option ℕ
rounds_of_row row = when (else_blank after_code (rounds_field ∷ []) row) (keep (λ n. leb n most_rounds) (leading_of (part rounds_field row)))

pub rounds-line : Decides SpellsRounds rounds_of_row
rounds-line =
    retold (guarded_by (kept (on leading (part rounds_field)) (λ n. leb n most_rounds)) (itself (else_blank after_code (rounds_field ∷ []))))
    (λ row n h. record { number = h.1.0; number_in = leb-true n most_rounds h.1.1; nothing_else = h.0 })
    (λ row n r. (r.nothing_else, (r.number, le-leb n most_rounds r.number_in)))

abbrev pub colour_of : List ℕ → Option ℕ
colour_of row = when (among (col row colour_column) initial_colours && else_blank after_code (column colour_column ∷ []) row) (some (col row colour_column))

pub colour-line : Decides SpellsColour colour_of
colour-line =
    retold (guarded_by (plain (λ (row : List ℕ). col row colour_column)) (two (λ row. among (col row colour_column) initial_colours) (else_blank after_code (column colour_column ∷ []))))
    (λ row c h. record { colour = h.1; colour_in = h.0.0; nothing_else = h.0.1 })
    (λ row c r. ((r.colour_in, r.nothing_else), r.colour))

-- ---- 162
abbrev pub value_of : List ℕ → Option (ℕ × ℕ)
value_of slot = when (among (col slot 1) letters) (to (λ (p : ℕ). (col slot 1, p)) (points_of (drop 1 slot)))

pub value : Decides SpellsValue value_of
value =
    retold
    (guarded_by (made (on points (λ (s : List ℕ). drop 1 s)) (λ s p. (col s 1, p)) (λ (v : ℕ × ℕ). v.1) (λ s p. refl)) (itself (λ s. among (col s 1) letters)))
    (λ s v h. record { letter = ap (λ (w : ℕ × ℕ). w.0) h.1.0; letter_in = h.0; points = h.1.1 })
    (λ s v r. (r.letter_in, (λ i. (r.letter i, v.1), r.points)))

-- a filled slot is not blank
filled-not-blank : (s : List ℕ) (v : ℕ × ℕ) → SpellsValue s v → all is_blank s ≡ false
filled-not-blank [] v r = clash r.letter_in
filled-not-blank (c ∷ s) v r = rw (not-true (is_blank c) (among-all (λ x. not (is_blank x)) c letters r.letter_in refl)) refl

abbrev pub fill_or : Bool → Bool → Option (ℕ × ℕ) → Option (List (ℕ × ℕ)) → Option (List (ℕ × ℕ))
fill_or true others v l = when others (some [])
fill_or false others v l = cons v l

abbrev pub filled_first : List (List ℕ) → Option (List (ℕ × ℕ))
filled_first [] = some []
filled_first (x ∷ xs) = fill_or (all is_blank x) (all (all is_blank) xs) (value_of x) (filled_first xs)

filled-sound : (xs : List (List ℕ)) (l : List (ℕ × ℕ)) → filled_first xs ≡ some l → FilledFirst xs l
filled-sound [] [] e = refl
filled-sound [] (a ∷ l) e = let z : ◌≡◌ {A = ℕ} 0 1 = cc in absurd (omega arith)
filled-sound (x ∷ xs) l e = go (all is_blank x) refl (filled-sound xs) l e
  where
    go : (b : Bool) → all is_blank x ≡ b → ((m : List (ℕ × ℕ)) → filled_first xs ≡ some m → FilledFirst xs m) → (l : List (ℕ × ℕ))
        → fill_or b (all (all is_blank) xs) (value_of x) (filled_first xs) ≡ some l → FilledFirst (x ∷ xs) l
    go true p ih [] q = both p (when_inv (all (all is_blank) xs) (some []) [] q).0
    go true p ih (a ∷ l) q = absurd (cons-nil (some a) (some l) (sym (when_inv (all (all is_blank) xs) (some []) (a ∷ l) q).1))
    go false p ih [] q = absurd (cons-nil (value_of x) (filled_first xs) q)
    go false p ih (a ∷ l) q = let k = cons_inv (value_of x) (filled_first xs) a l q in (value.sound x a k.0, ih l k.1)

filled-complete : (xs : List (List ℕ)) (l : List (ℕ × ℕ)) → FilledFirst xs l → filled_first xs ≡ some l
filled-complete [] [] h = refl
filled-complete (x ∷ xs) [] h = let k = and (all is_blank x) (all (all is_blank) xs) h in rw (k.0, k.1) refl
filled-complete [] (a ∷ l) h = absurd h
filled-complete (x ∷ xs) (a ∷ l) h = rw (filled-not-blank x a h.0, value.complete x a h.0, filled-complete xs l h.1) refl

abbrev pub are_given : List (ℕ × ℕ) → Bool
are_given given = not (is_empty given) && letters_differ given

abbrev pub given_of : List ℕ → Option (List (ℕ × ℕ))
given_of row = when (else_blank after_code slot_fields row) (keep are_given (filled_first (map (λ f. part f row) slot_fields)))

pub scoring-line : Decides SpellsScoring given_of
scoring-line =
    retold
    (guarded_by (kept (on (record { sound = filled-sound; complete = filled-complete }) (λ (row : List ℕ). map (λ f. part f row) slot_fields)) are_given) (itself (else_blank after_code slot_fields)))
    (λ row g h. record { slots = h.1.0; given_is = h.1.1; nothing_else = h.0 })
    (λ row g r. (r.nothing_else, (r.slots, r.given_is)))

-- ---- 250
abbrev pub make_acceleration : (ℕ × ((ℕ × ℕ) × (ℕ × ℕ))) → Acceleration
make_acceleration f = record { points = f.0; first_round = f.1.0.0; last_round = f.1.0.1; first_start = f.1.1.0; last_start = f.1.1.1 }

abbrev pub acceleration_of : List ℕ → Option Acceleration
acceleration_of row =
    when (else_blank after_code acceleration_fields row)
    (keep is_acceleration
    (to make_acceleration (pair (points_in added_field row) (pair (pair (number_in first_round_field row) (number_in last_round_field row)) (pair (number_in first_start_field row) (number_in last_start_field row))))))

pub acceleration-line : Decides SpellsAcceleration acceleration_of
acceleration-line =
    retold
    (guarded_by
    (kept
    (renamed (together (points_at added_field) (together (together (number_at first_round_field) (number_at last_round_field)) (together (number_at first_start_field) (number_at last_start_field))))
    make_acceleration
    (λ a. (a.points, ((a.first_round, a.last_round), (a.first_start, a.last_start))))
    (λ f. refl)
    (λ a. refl))
    is_acceleration)
    (itself (else_blank after_code acceleration_fields)))
    (λ row a h.
    let f = h.1.0 in
    record { points = f.0; first_round = f.1.0.0; last_round = f.1.0.1; first_start = f.1.1.0; last_start = f.1.1.1; rules = h.1.1; nothing_else = h.0 })
    (λ row a r. (r.nothing_else, ((r.points, ((r.first_round, r.last_round), (r.first_start, r.last_start))), r.rules)))

-- ---- 001: the kept columns
abbrev pub is_kept : List ℕ → Bool
is_kept k =
    (is_one_of (part sex_field (in_line k)) sexes && is_one_of (part title_field (in_line k)) titles && is_birth (part birth_field (in_line k)) && else_blank kept_field.0 kept_fields (in_line k))
    && is_some (number_or0 (number_of (part rating_field (in_line k))))

pub kept-columns : Tests SpellsKept is_kept
kept-columns =
    tests_retold
    (tests_both
    (tests_both (tests_both (two (λ k. is_one_of (part sex_field (in_line k)) sexes) (λ k. is_one_of (part title_field (in_line k)) titles)) (itself (λ k. is_birth (part birth_field (in_line k)))))
    (itself (λ k. else_blank kept_field.0 kept_fields (in_line k))))
    (tests_on (spelled number-or-blank) (λ (k : List ℕ). part rating_field (in_line k))))
    (λ k h. record { sex = h.0.0.0.0; title = h.0.0.0.1; rating = h.1; birth = h.0.0.1; nothing_else = h.0.1 })
    (λ k r. ((((r.sex, r.title), r.birth), r.nothing_else), r.rating))

-- ---- 001: a round
abbrev pub is_used : List ℕ → ℕ → Bool
is_used row r = not (all (λ f. all is_blank (part f row)) (round_fields r))

abbrev pub make_slot : List ℕ → ℕ → ℕ → Slot
make_slot row r id = record { id = id; colour = col row (entry_colour_column r); result = capital (col row (result_column r)); used = is_used row r }

abbrev pub slot_of : List ℕ → ℕ → Option Slot
slot_of row r =
    when (among (col row (entry_colour_column r)) slot_colours && among (capital (col row (result_column r))) slot_results)
    (to (make_slot row r) (number_or0 (number_of (part (id_field r) row))))

pub slot : (row : List ℕ) → Decides (SpellsSlot row) (slot_of row)
slot row =
    retold
    (guarded_by (made (on number-or-blank (λ (r : ℕ). part (id_field r) row)) (make_slot row) (λ s. s.id) (λ r n. refl))
    (two (λ r. among (col row (entry_colour_column r)) slot_colours) (λ r. among (capital (col row (result_column r))) slot_results)))
    (λ r s h.
    record {
      id = h.1.1;
      colour = ap (λ (t : Slot). t.colour) h.1.0;
      colour_in = h.0.0;
      result = ap (λ (t : Slot). t.result) h.1.0;
      result_in = h.0.1;
      used = ap (λ (t : Slot). t.used) h.1.0;
    })
    (λ r s q. ((q.colour_in, q.result_in), (λ i. record { id = s.id; colour = q.colour i; result = q.result i; used = q.used i }, q.id)))

abbrev pub slots_of : List ℕ → Option (List Slot)
slots_of row = each (slot_of row) every_round

slots : Decides (λ row l. Each (SpellsSlot row) every_round l) slots_of
slots = record { sound = λ row l e. (listed (slot row)).sound every_round l e; complete = λ row l h. (listed (slot row)).complete every_round l h }

-- ---- 001: the line
abbrev pub make_player : List ℕ → ((ℕ × ℕ) × (ℕ × List Slot)) → PlayerLine
make_player row f = record { start = f.0.0; kept = part kept_field row; points = f.0.1; rank = f.1.0; slots = f.1.1 }

abbrev pub player_of : List ℕ → Option PlayerLine
player_of row =
    when (else_blank after_code player_fields row && is_kept (part kept_field row))
    (to (make_player row)
    (pair
    (pair (keep (between 1 most_start) (number_in start_field row)) (points_in points_field row))
    (pair (keep (between 1 most_rank) (number_in rank_field row)) (slots_of row))))

pub player-line : Decides SpellsPlayer player_of
player-line =
    retold
    (guarded_by
    (made
    (together (together (kept (number_at start_field) (between 1 most_start)) (points_at points_field)) (together (kept (number_at rank_field) (between 1 most_rank)) slots))
    make_player
    (λ p. ((p.start, p.points), (p.rank, p.slots)))
    (λ row f. refl))
    (tests_both (itself (else_blank after_code player_fields)) (tests_on kept-columns (part kept_field))))
    (λ row p h.
    let f = h.1.1 in
    let e : p.kept ≡ part kept_field row = ap (λ (q : PlayerLine). q.kept) h.1.0 in
    record {
      start = f.0.0.0;
      start_in = f.0.0.1;
      kept = e;
      kept_is = subst SpellsKept (sym e) h.0.1;
      points = f.0.1;
      rank = f.1.0.0;
      rank_in = f.1.0.1;
      slots = f.1.1;
      nothing_else = h.0.0;
    })
    (λ row p r. (
      (r.nothing_else, subst SpellsKept r.kept r.kept_is),
      (
        λ i. record { start = p.start; kept = r.kept i; points = p.points; rank = p.rank; slots = p.slots },
        (((r.start, r.start_in), r.points), ((r.rank, r.rank_in), r.slots)),
      ),
    ))

-- ---- a line
abbrev pub item_as : Kind → List ℕ → Option Item
item_as passed_over row = some passed
item_as kept-text row = to text (text_of row)
item_as 142-record row = to rounds (rounds_of_row row)
item_as 152-record row = to colour (colour_of row)
item_as 162-record row = to scoring (given_of row)
item_as 250-record row = to acceleration (acceleration_of row)
item_as 001-record row = to player (player_of row)
item_as unlisted row = none

unfoldable pub item_of : List ℕ → Option Item
item_of row = item_as (kind_of row) row

item-complete : (row : List ℕ) (i : Item) → SpellsItem row i → item_of row ≡ some i
unfolding item_of
item-complete row passed h = rw h refl
item-complete row (text a) h = rw (h.0, text-line.complete row a h.1) refl
item-complete row (rounds n) h = rw (h.0, rounds-line.complete row n h.1) refl
item-complete row (colour c) h = rw (h.0, colour-line.complete row c h.1) refl
item-complete row (scoring g) h = rw (h.0, scoring-line.complete row g h.1) refl
item-complete row (acceleration a) h = rw (h.0, acceleration-line.complete row a h.1) refl
item-complete row (player p) h = rw (h.0, player-line.complete row p h.1) refl

item-sound : (row : List ℕ) (i : Item) → item_of row ≡ some i → SpellsItem row i
unfolding item_of
item-sound row i e = go (kind_of row) refl e
  where
    one : {A : Type 0} {S : List ℕ → A → Type 0} {f : List ℕ → Option A} → Decides S f → (g : A → Item) → ((a : A) → S row a → SpellsItem row (g a))
        → ◌≡◌ {A = Option Item} (to g (f row)) (some i) → SpellsItem row i
    one {f = f} d g there e = let k = to_at g (f row) i e in subst (SpellsItem row) (sym k.2) (there k.0 (d.sound row k.0 k.1))

    go : (k : Kind) → kind_of row ≡ k → item_as k row ≡ some i → SpellsItem row i
    go passed_over p q = let u : passed ≡ i = cc in subst (SpellsItem row) u p
    go kept-text p q = one text-line text (λ a s. (p, s)) q
    go 142-record p q = one rounds-line rounds (λ a s. (p, s)) q
    go 152-record p q = one colour-line colour (λ a s. (p, s)) q
    go 162-record p q = one scoring-line scoring (λ a s. (p, s)) q
    go 250-record p q = one acceleration-line acceleration (λ a s. (p, s)) q
    go 001-record p q = one player-line player (λ a s. (p, s)) q
    go unlisted p q = no_some q

pub item : Decides SpellsItem item_of
item = record { sound = item-sound; complete = item-complete }
