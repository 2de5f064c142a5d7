-- The lines of 142, 152, 162 and 250, and of kept text, spell what they are made of, in allowed bytes. Assumes nothing.
use mathlib.Core.Path.{◌≡◌, refl, sym, subst}
use mathlib.Core.Logic.{inl, inr}
use mathlib.Core.Bool.{Bool, true, false}
use mathlib.Core.List.{List, [], ◌∷◌, append-nil}
use Prim.Native.Nat.{ℕ, ◌/◌, ◌≤◌, ◌<◌}
use Prim.Native.Char.{code}
use native.Mathlib.Omega.{arith}
use lib.Dec.{eqb, leb}
use lib.ListN.{length, drop_of_length-le}
use borrow.Author.Tests.{leb-true, eq-eqb}
use Rattle.kit.specs.Lists.{all, among}
use Rattle.kit.proofs.Bools.{and, both, tests_of, within, among-all}
use Rattle.types.specs.declared.Acceleration.{Acceleration}
use Rattle.law.specs.Sizes.{most_rounds, most_points, most_start}
use Rattle.law.specs.Lines.{allowed}
use Rattle.law.specs.Columns.{blank, cells, padded, after_code, code_field}
use Rattle.law.specs.Fields.{SpellsLeading, SpellsNumber, SpellsPoints}
use Rattle.law.specs.Heads.{rounds_code, rounds_field, initial_colours}
use Rattle.law.specs.Scoring.{Scoring, letters, stated, values, scoring_code, slot_fields, SpellsValue}
use Rattle.law.specs.Accelerations.{acceleration_rules, is_acceleration, acceleration_code, added_field, first_round_field, last_round_field, first_start_field, last_start_field}
use Rattle.law.specs.Items.{text, rounds, colour, scoring, acceleration, kind_of, 250-record, SpellsItem}
use Rattle.law.specs.Lawful.{KeptLine}
use Rattle.law.specs.Writing.{Piece, filled, nothing, noughts, number, points_text, slot_pieces, rounds_line, colour_line, scoring_line, acceleration_line}
use Rattle.written.proofs.Laid.{Ordered, pieces_stand, laid_else, laid-long, else_past, laid-all}
use Rattle.written.proofs.Numbers.{with_nothing, nothing-long, with_noughts, filled-long, noughts-long, points-text, filled-allowed, replicate-allowed, points-allowed}

-- ---- kept text is its own line
pub text-item : (line : List ℕ) → KeptLine line → SpellsItem line (text line)
text-item line k = (k.listed, k.itself)

-- ---- 142
pub rounds-item : (n : ℕ) → n ≤ most_rounds → SpellsItem (rounds_line n) (rounds n)
unfolding kind_of cells
rounds-item n h =
    let l = nothing-long 2 n (omega arith) in (
      refl,
      record {
        number = subst (λ (t : List ℕ). SpellsLeading (padded 3 t) n) (sym (append-nil (filled nothing 3 n))) (with_nothing 2 n 3 (omega arith) (omega arith));
        number_in = h;
        nothing_else = rw (append-nil (filled nothing 3 n), drop_of_length-le (filled nothing 3 n) {i = 3} (omega arith)) refl;
      },
    )

nothing-allowed : (k : ℕ) → all allowed (nothing k) ≡ true
nothing-allowed k = refl

pub rounds-allowed : (n : ℕ) → n ≤ most_rounds → all allowed (rounds_line n) ≡ true
rounds-allowed n h = laid-all allowed refl 1 ((code_field, rounds_code) ∷ number nothing rounds_field n ∷ []) (refl, (filled-allowed nothing nothing-allowed 2 n (omega arith), tt))

two_digits : (n : ℕ) → n ≤ most_rounds → length (filled nothing 3 n) ≤ 2
two_digits n h = go (eqb (n / 10) 0) refl
  where
    go : (b : Bool) → eqb (n / 10) 0 ≡ b → length (filled nothing 3 n) ≤ 2
    go true e = rw e (omega arith)
    go false e =
        let z : n / 10 / 10 ≡ 0 = omega arith in
        rw (e, eq-eqb (n / 10 / 10) 0 z) (omega arith)

pub rounds-long : (n : ℕ) → n ≤ most_rounds → length (rounds_line n) ≤ 6
rounds-long n h = let l = two_digits n h in rw (append-nil (filled nothing 3 n)) (omega arith)

-- ---- 152
pub colour-item : (c : ℕ) → among c initial_colours ≡ true → SpellsItem (colour_line c) (colour c)
unfolding kind_of cells
colour-item c h = (refl, record { colour = refl; colour_in = h; nothing_else = refl })

pub colour-allowed : (c : ℕ) → among c initial_colours ≡ true → all allowed (colour_line c) ≡ true
colour-allowed c h = both refl (both refl (both refl (both refl (both (among-all allowed c initial_colours h refl) refl))))

-- ---- 162
value-spelled : (c p : ℕ) → among c letters ≡ true → p ≤ most_points → SpellsValue (c ∷ points_text blank p) (c, p)
value-spelled c p h k = record { letter = refl; letter_in = h; points = points-text blank p (inl refl) (omega arith) }

-- the six values, each at most 99.9
abbrev Six : Scoring → Type 0
Six s = (s.win ≤ most_points) × (s.draw ≤ most_points) × (s.loss ≤ most_points) × (s.absent ≤ most_points) × (s.pairing ≤ most_points) × (s.unknown ≤ most_points)

six : (s : Scoring) → all (λ v. leb v most_points) (values s) ≡ true → Six s
six s h =
    let a = and (leb s.win most_points) _ h in
    let b = and (leb s.draw most_points) _ a.1 in
    let c = and (leb s.loss most_points) _ b.1 in
    let d = and (leb s.absent most_points) _ c.1 in
    let e = and (leb s.pairing most_points) _ d.1 in
    let f = and (leb s.unknown most_points) true e.1 in (
      leb-true s.win most_points a.0,
      leb-true s.draw most_points b.0,
      leb-true s.loss most_points c.0,
      leb-true s.absent most_points d.0,
      leb-true s.pairing most_points e.0,
      leb-true s.unknown most_points f.0,
    )

pub scoring-item : (s : Scoring) → all (λ v. leb v most_points) (values s) ≡ true → SpellsItem (scoring_line s) (scoring (stated s))
unfolding kind_of cells
scoring-item s h =
    let k = six s h in (
      refl,
      record {
        slots = (
          value-spelled (code "W") s.win refl k.0,
          (
            value-spelled (code "D") s.draw refl k.1,
            (
              value-spelled (code "L") s.loss refl k.2,
              (value-spelled (code "A") s.absent refl k.3, (value-spelled (code "P") s.pairing refl k.4, (value-spelled (code "X") s.unknown refl k.5, refl))),
            ),
          ),
        );
        given_is = refl;
        nothing_else = refl;
      },
    )

pub scoring-allowed : (s : Scoring) → all allowed (scoring_line s) ≡ true
scoring-allowed s =
    laid-all allowed refl 1 ((code_field, scoring_code) ∷ slot_pieces slot_fields (stated s))
    (refl, (slot (code "W") s.win refl, (slot (code "D") s.draw refl, (slot (code "L") s.loss refl, (slot (code "A") s.absent refl, (slot (code "P") s.pairing refl, (slot (code "X") s.unknown refl, tt)))))))
  where
    slot : (c p : ℕ) → allowed c ≡ true → all allowed (c ∷ points_text blank p) ≡ true
    slot c p h = both h (points-allowed blank p refl)

pub scoring-long : (s : Scoring) → length (scoring_line s) ≡ 55
scoring-long s = refl

-- ---- 250
abbrev pieces250 : Acceleration → List Piece
pieces250 a =
    (added_field, points_text (code "0") a.points) ∷ number noughts first_round_field a.first_round ∷ number noughts last_round_field a.last_round ∷
    number noughts first_start_field a.first_start ∷ number noughts last_start_field a.last_start ∷ []

record Ranges (a : Acceleration) : Type 0 where
  points : a.points < 1000
  first_round : a.first_round < 1000
  last_round : a.last_round < 1000
  first_start : a.first_start < 10000
  last_start : a.last_start < 10000

ranges : (a : Acceleration) → is_acceleration a ≡ true → Ranges a
ranges a h =
    let t = tests_of (acceleration_rules a) h in
    let p = (within 1 most_points a.points t.0).1 in
    let q = (within 1 most_rounds a.first_round t.1.0).1 in
    let r = (within 1 most_rounds a.last_round t.1.1.0).1 in
    let u = (within 1 most_start a.first_start t.1.1.1.1.0).1 in
    let v = (within 1 most_start a.last_start t.1.1.1.1.1.0).1 in
    record { points = omega arith; first_round = omega arith; last_round = omega arith; first_start = omega arith; last_start = omega arith }

ordered250 : (a : Acceleration) → Ranges a → Ordered after_code (pieces250 a)
ordered250 a r = (
  omega arith,
  omega arith,
  refl,
  (
    omega arith,
    omega arith,
    filled-long noughts noughts-long 2 a.first_round r.first_round,
    (
      omega arith,
      omega arith,
      filled-long noughts noughts-long 2 a.last_round r.last_round,
      (
        omega arith,
        omega arith,
        filled-long noughts noughts-long 3 a.first_start r.first_start,
        (omega arith, omega arith, filled-long noughts noughts-long 3 a.last_start r.last_start, tt),
      ),
    ),
  ),
)

spelled_by : (S : List ℕ → ℕ → Type 0) {field text : List ℕ} {n : ℕ} → field ≡ text → S text n → S field n
spelled_by S {n = n} e h = subst (λ (l : List ℕ). S l n) (sym e) h

kind : (a : Acceleration) → kind_of (acceleration_line a) ≡ 250-record
unfolding kind_of cells
kind a = refl

pub acceleration-item : (a : Acceleration) → is_acceleration a ≡ true → SpellsItem (acceleration_line a) (acceleration a)
acceleration-item a h =
    let r = ranges a h in
    let o = ordered250 a r in
    let s = pieces_stand acceleration_code after_code (pieces250 a) refl o in
    let l = laid-long acceleration_code after_code (pieces250 a) refl o in (
      kind a,
      record {
        points = spelled_by SpellsPoints s.0 (points-text (code "0") a.points (inr refl) r.points);
        first_round = spelled_by SpellsNumber s.1.0 (with_noughts 2 a.first_round r.first_round);
        last_round = spelled_by SpellsNumber s.1.1.0 (with_noughts 2 a.last_round r.last_round);
        first_start = spelled_by SpellsNumber s.1.1.1.0 (with_noughts 3 a.first_start r.first_start);
        last_start = spelled_by SpellsNumber s.1.1.1.1.0 (with_noughts 3 a.last_start r.last_start);
        rules = h;
        nothing_else = laid_else acceleration_code after_code (pieces250 a) [] refl o (else_past (acceleration_line a) 32 [] (omega arith) tt);
      },
    )

pub acceleration-allowed : (a : Acceleration) → is_acceleration a ≡ true → all allowed (acceleration_line a) ≡ true
acceleration-allowed a h =
    let r = ranges a h in
    let z = replicate-allowed (code "0") refl in
    laid-all allowed refl 1 ((code_field, acceleration_code) ∷ pieces250 a) (
      refl,
      (
        points-allowed (code "0") a.points refl,
        (
          filled-allowed noughts z 2 a.first_round r.first_round,
          (
            filled-allowed noughts z 2 a.last_round r.last_round,
            (filled-allowed noughts z 3 a.first_start r.first_start, (filled-allowed noughts z 3 a.last_start r.last_start, tt)),
          ),
        ),
      ),
    )

pub acceleration-long : (a : Acceleration) → is_acceleration a ≡ true → length (acceleration_line a) ≡ 31
acceleration-long a h = let l = laid-long acceleration_code after_code (pieces250 a) refl (ordered250 a (ranges a h)) in omega arith
