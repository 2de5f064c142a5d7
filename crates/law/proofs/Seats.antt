-- Which lines are the players', the acceleration records' and the kept text's, how many there are, and labels by place and round. Assumes nothing.
use mathlib.Core.Path.{◌≡◌, refl, sym, ap, ◌∙◌, subst}
use mathlib.Core.Bool.{Bool, true, false, cond}
use mathlib.Core.List.{List, [], ◌∷◌, map}
use Prim.Native.Nat.{ℕ, zero, suc, ◌+◌, ◌≤◌, ◌<◌}
use native.Mathlib.Omega.{arith}
use lib.ListN.{length, get_or, length-append}
use Rattle.kit.specs.Lists.{all, same, is_one_of, flat, Each}
use Rattle.kit.specs.First.{AllOf}
use Rattle.kit.proofs.Bools.{clash, same_is}
use Rattle.kit.proofs.Firsts.{all_of_map, map-all_of, all_of_flat, flat-all_of}
use Rattle.kit.proofs.Lists.{all_from, from_all}
use Rattle.law.specs.Sizes.{most_rounds}
use Rattle.law.specs.Lines.{Line}
use Rattle.law.specs.Columns.{blank, is_blank, cells, row_of, part, code_field}
use Rattle.law.specs.Text.{text_codes}
use Rattle.law.specs.Heads.{rounds_code, colour_code}
use Rattle.law.specs.Scoring.{scoring_code}
use Rattle.law.specs.Accelerations.{acceleration_code}
use Rattle.law.specs.Players.{player_code, every_round}
use Rattle.law.specs.Items.{Item, passed, text, rounds, colour, scoring, acceleration, player, is_passed, Kind, passed_over, kept-text, 142-record, 152-record, 162-record, 250-record, 001-record, unlisted, kind_of, SpellsItem}
use Rattle.law.specs.Tournament.{acceleration_in, player_in}
use Rattle.law.specs.Spelling.{SpellsLine}
use Rattle.law.specs.Refusals.{Seat, only_if, lines_of, seats_from, FileFault, Label, of_file, each_round, each_seat}

-- ---- the code of a line says which record it is
not-blank : (row : List ℕ) (x y z : ℕ) → part code_field row ≡ x ∷ y ∷ z ∷ [] → is_blank x ≡ false → all is_blank row ≡ false
unfolding cells
not-blank [] x y z e h = let u : blank ≡ x = cc in clash (sym h ∙ ap is_blank (sym u))
not-blank (c ∷ row) x y z e h = let u : c ≡ x = cc in rw (u, h) refl

abbrev pub is001 : Kind → Bool
is001 passed_over = false
is001 kept-text = false
is001 142-record = false
is001 152-record = false
is001 162-record = false
is001 250-record = false
is001 001-record = true
is001 unlisted = false

abbrev pub is250 : Kind → Bool
is250 passed_over = false
is250 kept-text = false
is250 142-record = false
is250 152-record = false
is250 162-record = false
is250 250-record = true
is250 001-record = false
is250 unlisted = false

pub player_code_is : (row : List ℕ) → same (part code_field row) player_code ≡ is001 (kind_of row)
unfolding kind_of
player_code_is row = go (same (part code_field row) player_code) refl
  where
    other : (a b c d e f : Bool) → is001 (cond a passed_over (cond b kept-text (cond c 142-record (cond d 152-record (cond e 162-record (cond f 250-record unlisted)))))) ≡ false
    other true b c d e f = refl
    other false true c d e f = refl
    other false false true d e f = refl
    other false false false true e f = refl
    other false false false false true f = refl
    other false false false false false true = refl
    other false false false false false false = refl

    go : (v : Bool) → same (part code_field row) player_code ≡ v → same (part code_field row) player_code ≡ is001 (kind_of row)
    go true p =
        let u = same_is (part code_field row) player_code p in
        rw (not-blank row _ _ _ u refl, u) refl
    go false p =
        rw p
        (sym
        (other (is_passed row) (is_one_of (part code_field row) text_codes) (same (part code_field row) rounds_code) (same (part code_field row) colour_code) (same (part code_field row) scoring_code) (same (part code_field row) acceleration_code)))

pub acceleration_code_is : (row : List ℕ) → same (part code_field row) acceleration_code ≡ is250 (kind_of row)
unfolding kind_of
acceleration_code_is row = go (same (part code_field row) acceleration_code) refl
  where
    other : (a b c d e f : Bool) → is250 (cond a passed_over (cond b kept-text (cond c 142-record (cond d 152-record (cond e 162-record (cond f 001-record unlisted)))))) ≡ false
    other true b c d e f = refl
    other false true c d e f = refl
    other false false true d e f = refl
    other false false false true e f = refl
    other false false false false true f = refl
    other false false false false false true = refl
    other false false false false false false = refl

    go : (v : Bool) → same (part code_field row) acceleration_code ≡ v → same (part code_field row) acceleration_code ≡ is250 (kind_of row)
    go true p =
        let u = same_is (part code_field row) acceleration_code p in
        rw (not-blank row _ _ _ u refl, u) refl
    go false p =
        rw p
        (sym
        (other (is_passed row) (is_one_of (part code_field row) text_codes) (same (part code_field row) rounds_code) (same (part code_field row) colour_code) (same (part code_field row) scoring_code) (same (part code_field row) player_code)))

abbrev pub is_text : Kind → Bool
is_text passed_over = false
is_text kept-text = true
is_text 142-record = false
is_text 152-record = false
is_text 162-record = false
is_text 250-record = false
is_text 001-record = false
is_text unlisted = false

pub text_is : (k : Kind) → is_text k ≡ true → k ≡ kept-text
text_is passed_over e = clash e
text_is kept-text e = refl
text_is 142-record e = clash e
text_is 152-record e = clash e
text_is 162-record e = clash e
text_is 250-record e = clash e
text_is 001-record e = clash e
text_is unlisted e = clash e

-- a kept text line has one of the sixteen codes
pub text-listed : (row : List ℕ) → kind_of row ≡ kept-text → is_one_of (part code_field row) text_codes ≡ true
unfolding kind_of
text-listed row k =
    go (is_passed row) (is_one_of (part code_field row) text_codes) (same (part code_field row) rounds_code) (same (part code_field row) colour_code) (same (part code_field row) scoring_code)
    (same (part code_field row) acceleration_code) (same (part code_field row) player_code) (ap is_text k)
  where
    go : (a o p q r u v : Bool) → is_text (cond a passed_over (cond o kept-text (cond p 142-record (cond q 152-record (cond r 162-record (cond u 250-record (cond v 001-record unlisted))))))) ≡ true → o ≡ true
    go true o p q r u v e = clash e
    go false true p q r u v e = refl
    go false false true q r u v e = clash e
    go false false false true r u v e = clash e
    go false false false false true u v e = clash e
    go false false false false false true v e = clash e
    go false false false false false false true e = clash e
    go false false false false false false false e = clash e

unfoldable pub kind_of_lem : Item → Kind
kind_of_lem passed = passed_over
kind_of_lem (text a) = kept-text
kind_of_lem (rounds n) = 142-record
kind_of_lem (colour c) = 152-record
kind_of_lem (scoring g) = 162-record
kind_of_lem (acceleration a) = 250-record
kind_of_lem (player p) = 001-record

pub item_kind : (row : List ℕ) (i : Item) → SpellsItem row i → kind_of row ≡ kind_of_lem i
unfolding kind_of_lem
item_kind row passed h = h
item_kind row (text a) h = h.0
item_kind row (rounds n) h = h.0
item_kind row (colour c) h = h.0
item_kind row (scoring g) h = h.0
item_kind row (acceleration a) h = h.0
item_kind row (player p) h = h.0

-- ---- as many lines as items
module _ {A : Type 0} (code : List ℕ) (add : Item → List A) (is : Kind → Bool) (code_is : (row : List ℕ) → same (part code_field row) code ≡ is (kind_of row)) (adds : (i : Item) → length (add i) ≡ length (only_if (is (kind_of_lem i)) 0)) where
  only_length : (b : Bool) (n m : ℕ) → length (only_if b n) ≡ length (only_if b m)
  only_length true n m = refl
  only_length false n m = refl

  as_many : (n : ℕ) (ls : List Line) (items : List Item) → Each SpellsLine ls items → length (lines_of code n ls) ≡ length (flat add items)
  unfolding lines_of flat
  as_many n [] [] h = refl
  as_many n [] (i ∷ items) h = absurd h
  as_many n (l ∷ ls) [] h = absurd h
  as_many n (l ∷ ls) (i ∷ items) h =
      let k = code_is (row_of l.text) ∙ ap is (item_kind (row_of l.text) i h.0) in
      let u : length (only_if (same (part code_field (row_of l.text)) code) (n + 1)) ≡ length (add i) = ap (λ (b : Bool). length (only_if b (n + 1))) k ∙ only_length (is (kind_of_lem i)) (n + 1) 0 ∙ sym (adds i) in
      let ih = as_many (n + 1) ls items h.1 in
      length-append (only_if (same (part code_field (row_of l.text)) code) (n + 1)) (lines_of code (n + 1) ls) ∙ omega (arith, u, ih) ∙ sym (length-append (add i) (flat add items))

pub player_lines_lem : (ls : List Line) (items : List Item) → Each SpellsLine ls items → length (lines_of player_code 0 ls) ≡ length (flat player_in items)
unfolding kind_of_lem
player_lines_lem ls items h = as_many player_code player_in is001 player_code_is one 0 ls items h
  where
    one : (i : Item) → length (player_in i) ≡ length (only_if (is001 (kind_of_lem i)) 0)
    one passed = refl
    one (text a) = refl
    one (rounds n) = refl
    one (colour c) = refl
    one (scoring g) = refl
    one (acceleration a) = refl
    one (player p) = refl

pub acceleration_lines : (ls : List Line) (items : List Item) → Each SpellsLine ls items → length (lines_of acceleration_code 0 ls) ≡ length (flat acceleration_in items)
unfolding kind_of_lem
acceleration_lines ls items h = as_many acceleration_code acceleration_in is250 acceleration_code_is one 0 ls items h
  where
    one : (i : Item) → length (acceleration_in i) ≡ length (only_if (is250 (kind_of_lem i)) 0)
    one passed = refl
    one (text a) = refl
    one (rounds n) = refl
    one (colour c) = refl
    one (scoring g) = refl
    one (acceleration a) = refl
    one (player p) = refl

-- ---- labels by place, and by place and round
abbrev pub seat : ℕ → List ℕ → Seat
seat p ns = record { place = p; line = get_or ns p 0 }

module _ (Q : Seat → Type 0) where
  seats_all-from : (p : ℕ) (ns : List ℕ) → AllOf Q (seats_from p ns) → (k : ℕ) → k < length ns → Q (record { place = p + k; line = get_or ns k 0 })
  seats_all-from p [] h k l = absurd (omega arith)
  seats_all-from p (n ∷ ns) h zero l = subst (λ (x : ℕ). Q (record { place = x; line = n })) (omega arith) h.0
  seats_all-from p (n ∷ ns) h (suc k) l = subst (λ (x : ℕ). Q (record { place = x; line = get_or ns k 0 })) (omega arith) (seats_all-from (p + 1) ns h.1 k (omega arith))

  all_seats_from : (p : ℕ) (ns : List ℕ) → ((k : ℕ) → k < length ns → Q (record { place = p + k; line = get_or ns k 0 })) → AllOf Q (seats_from p ns)
  all_seats_from p [] h = tt
  all_seats_from p (n ∷ ns) h = (
    subst (λ (x : ℕ). Q (record { place = x; line = n })) (omega arith) (h 0 (omega arith)),
    all_seats_from (p + 1) ns (λ k l. subst (λ (x : ℕ). Q (record { place = x; line = get_or ns k 0 })) (omega arith) (h (suc k) (omega arith))),
  )

  pub seats_all : (ns : List ℕ) → AllOf Q (seats_from 0 ns) → (p : ℕ) → p < length ns → Q (seat p ns)
  seats_all ns h p l = subst (λ (x : ℕ). Q (record { place = x; line = get_or ns p 0 })) (omega arith) (seats_all-from 0 ns h p l)

  pub all_seats : (ns : List ℕ) → ((p : ℕ) → p < length ns → Q (seat p ns)) → AllOf Q (seats_from 0 ns)
  all_seats ns h = all_seats_from 0 ns (λ k l. subst (λ (x : ℕ). Q (record { place = x; line = get_or ns k 0 })) (omega arith) (h k l))

module _ (P : Label → Type 0) (f : FileFault) (ns : List ℕ) where
  pub rounds-all : AllOf P (each_round f (seats_from 0 ns)) → (p r : ℕ) → p < length ns → 1 ≤ r → r ≤ most_rounds → P (of_file f (seat p ns) r)
  rounds-all h p r l a b =
      let s = seats_all (λ s. AllOf P (map (of_file f s) every_round)) ns (flat-all_of P (λ s. map (of_file f s) every_round) (seats_from 0 ns) h) p l in
      from_all (λ r. P (of_file f (seat p ns) r)) 1 most_rounds (map-all_of P (of_file f (seat p ns)) every_round s) r a (omega arith)

  pub all-rounds : ((p r : ℕ) → p < length ns → 1 ≤ r → r ≤ most_rounds → P (of_file f (seat p ns) r)) → AllOf P (each_round f (seats_from 0 ns))
  all-rounds h =
      all_of_flat P (λ s. map (of_file f s) every_round) (seats_from 0 ns)
      (all_seats (λ s. AllOf P (map (of_file f s) every_round)) ns
      (λ p l. all_of_map P (of_file f (seat p ns)) every_round (all_from (λ r. P (of_file f (seat p ns) r)) 1 most_rounds (λ r a b. h p r l a (omega arith)))))

  pub places_all : AllOf P (each_seat f (seats_from 0 ns)) → (p : ℕ) → p < length ns → P (of_file f (seat p ns) 0)
  places_all h = seats_all (λ s. P (of_file f s 0)) ns (map-all_of P (λ s. of_file f s 0) (seats_from 0 ns) h)

  pub all_places : ((p : ℕ) → p < length ns → P (of_file f (seat p ns) 0)) → AllOf P (each_seat f (seats_from 0 ns))
  all_places h = all_of_map P (λ s. of_file f s 0) (seats_from 0 ns) (all_seats (λ s. P (of_file f s 0)) ns h)
