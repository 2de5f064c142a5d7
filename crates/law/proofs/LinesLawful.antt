-- What sound lines that spell items make lawful: text lines, records and players, each by itself. Assumes nothing.
use mathlib.Core.Path.{◌≡◌, refl, sym, ap, ◌∙◌}
use mathlib.Core.Bool.{Bool, true, false, cond, ◌&&◌, ◌||◌}
use mathlib.Core.List.{List, [], ◌∷◌, ◌++◌, append-nil}
use Prim.Native.Nat.{ℕ, suc, ◌≤◌}
use Prim.Native.Char.{code}
use native.Mathlib.Omega.{arith}
use lib.Dec.{eqb, leb}
use lib.ListN.{length, drop, take, replicate, length-map, length-append}
use lib.Seq.{length-take-le}
use borrow.Author.Tests.{le-leb, leb-true, eqb-true}
use Rattle.kit.specs.Lists.{between, all, among, flat, Each, only_or}
use Rattle.kit.specs.First.{AllOf}
use Rattle.kit.proofs.Bools.{and, both, within}
use Rattle.kit.proofs.Firsts.{all_of_append}
use Rattle.kit.proofs.Lists.{top-low}
use Rattle.law.specs.Sizes.{most_line, most_rounds, most_points, most_start, most_rank}
use Rattle.law.specs.Lines.{allowed, Line, is_ended}
use Rattle.law.specs.Columns.{blank, is_blank, col, row_of, width, after_code}
use Rattle.law.specs.Fields.{is_digit, digit_value, is_tens, SpellsPoints}
use Rattle.law.specs.Text.{says_name, SpellsText}
use Rattle.law.specs.Heads.{initial_colours}
use Rattle.law.specs.Scoring.{values, given_or, scoring_of, FilledFirst}
use Rattle.law.specs.Accelerations.{is_acceleration}
use Rattle.law.specs.Players.{kept_field, SpellsKept, SpellsSlot, PlayerLine, every_round}
use Rattle.law.specs.Items.{Item, passed, text, rounds, colour, scoring, acceleration, player, kept-text, kind_of}
use Rattle.law.specs.Tournament.{normal, text_in, rounds_in, colour_in, scoring_in, acceleration_in, player_in, used_rounds, rounds_of, player_of}
use Rattle.law.specs.Lawful.{KeptLine, LawfulPlayer}
use Rattle.law.specs.Spelling.{is_sound, SpellsLine}
use Rattle.law.proofs.ColumnLaws.{length-cells, all-blank-same, drop-blank-same, cells-blanks, get_or_blanks, all-cells}

-- ---- a kept line is a kept line of its own
kind_trimmed : (kept : List ℕ) (k : ℕ) → kind_of (kept ++ replicate k blank) ≡ kind_of kept
unfolding kind_of
kind_trimmed kept k = rw (all-blank-same kept k, cells-blanks kept k 0 3) refl

all_front : (f : ℕ → Bool) (a b : List ℕ) → all f (a ++ b) ≡ true → all f a ≡ true
all_front f [] b h = refl
all_front f (c ∷ a) b h = let k = and (f c) (all f (a ++ b)) h in both k.0 (all_front f a b k.1)

pub kept_line : (row kept : List ℕ) → kind_of row ≡ kept-text → SpellsText row kept → all allowed row ≡ true → length row ≤ most_line → KeptLine kept
kept_line row kept h s a l =
    let t = s.kept_is in
    let e = t.text in
    let n = ap length e ∙ length-append kept (replicate t.blanks blank) in
    record {
      listed = sym (kind_trimmed kept t.blanks) ∙ ap kind_of (sym e) ∙ h;
      itself =
          record {
            gap = ap is_blank (sym (get_or_blanks kept t.blanks 3) ∙ ap (λ (r : List ℕ). col r after_code) (sym e)) ∙ s.gap;
            name = named kept t.blanks (ap says_name (sym e) ∙ s.name);
            kept_is = record { blanks = 0; text = sym (append-nil kept); ends = t.ends };
          };
      clean = all_front allowed kept (replicate t.blanks blank) (ap (all allowed) (sym e) ∙ a);
      short = omega arith;
    }
  where
    named : (kept : List ℕ) (k : ℕ) → says_name (kept ++ replicate k blank) ≡ true → says_name kept ≡ true
    named kept k h = rw (cells-blanks kept k 0 3, drop-blank-same 4 kept k) at h

-- ---- points are at most 99.9
tens-small : (c : ℕ) → is_tens c ≡ true → digit_value c ≤ 9
tens-small c e = go (is_blank c) refl e
  where
    go : (b : Bool) → is_blank c ≡ b → b || is_digit c ≡ true → digit_value c ≤ 9
    go true p q = let u = eqb-true c blank p in rw u (omega arith)
    go false p q = let k = within (code "0") (code "9") c q in let h = k.1 in omega arith

pub points-small : (field : List ℕ) (p : ℕ) → SpellsPoints field p → p ≤ most_points
points-small field p s =
    let a = and (is_tens s.tens && is_digit s.units) (is_digit s.tenths) s.digits in
    let b = and (is_tens s.tens) (is_digit s.units) a.0 in
    let x = tens-small s.tens b.0 in
    let y = (within (code "0") (code "9") s.units b.1).1 in
    let z = (within (code "0") (code "9") s.tenths a.1).1 in
    let v = s.value in
    omega arith

-- ---- the six values
abbrev pub Small : List (ℕ × ℕ) → Type 0
Small given = AllOf (λ (v : ℕ × ℕ). v.1 ≤ most_points) given

given-small : (slots : List (List ℕ)) (given : List (ℕ × ℕ)) → FilledFirst slots given → Small given
given-small slots [] h = tt
given-small [] (v ∷ given) h = absurd h
given-small (s ∷ slots) (v ∷ given) h = (points-small (drop 1 s) v.1 h.0.points, given-small slots given h.1)

or-small : (d letter : ℕ) (given : List (ℕ × ℕ)) → d ≤ most_points → Small given → given_or d letter given ≤ most_points
or-small d letter [] l h = l
or-small d letter (v ∷ given) l h = go (eqb letter v.0) (or-small d letter given l h.1)
  where
    go : (b : Bool) → given_or d letter given ≤ most_points → cond b v.1 (given_or d letter given) ≤ most_points
    go true ih = h.0
    go false ih = ih

-- by whatever a letter is worth that is not given, as long as that is small: six values deep, and in each a default that may itself be given
pub scoring-small : (given : List (ℕ × ℕ)) → Small given → all (λ v. leb v most_points) (values (scoring_of given)) ≡ true
unfolding scoring_of
scoring-small given h = search (both, le-leb, or-small, leb-true) depth 12

-- ---- a player's line by itself
pub record LawfulLine (p : PlayerLine) : Type 0 where
  pub start : between 1 most_start p.start ≡ true
  pub points : p.points ≤ most_points
  pub rank : between 1 most_rank p.rank ≡ true
  pub kept_wide : length p.kept ≡ width kept_field
  pub kept_clean : all allowed p.kept ≡ true
  pub kept : SpellsKept p.kept
  pub slots : length p.slots ≡ most_rounds

pub each-length : {A B : Type 0} (S : A → B → Type 0) (k : List A) (l : List B) → Each S k l → length l ≡ length k
each-length S [] [] h = refl
each-length S [] (b ∷ l) h = absurd h
each-length S (a ∷ k) [] h = absurd h
each-length S (a ∷ k) (b ∷ l) h = ap suc (each-length S k l h.1)

pub lawful_player : (R : ℕ) (p : PlayerLine) → R ≤ most_rounds → LawfulLine p → LawfulPlayer R (player_of R p)
lawful_player R p l h =
    let s = h.slots in
    record {
      start = h.start;
      points = h.points;
      rank = h.rank;
      kept_wide = h.kept_wide;
      kept_clean = h.kept_clean;
      kept = h.kept;
      entries = length-map (take R p.slots) normal ∙ length-take-le R p.slots (omega arith);
    }

-- ---- what each item adds
abbrev pub Fine : Item → Type 0
Fine passed = Unit {0}
Fine (text kept) = KeptLine kept
Fine (rounds n) = n ≤ most_rounds
Fine (colour c) = among c initial_colours ≡ true
Fine (scoring given) = Small given
Fine (acceleration a) = is_acceleration a ≡ true
Fine (player p) = LawfulLine p

pub fine : (l : Line) (i : Item) → is_sound l ≡ true → SpellsLine l i → Fine i
fine l passed s h = tt
fine l (text kept) s h =
    let a = and (all allowed l.text && is_ended l.end) (leb (length (row_of l.text)) most_line) s in
    kept_line (row_of l.text) kept h.0 h.1 (and (all allowed l.text) (is_ended l.end) a.0).0 (leb-true (length (row_of l.text)) most_line a.1)
fine l (rounds n) s h = h.1.number_in
fine l (colour c) s h = ap (λ (x : ℕ). among x initial_colours) h.1.colour ∙ h.1.colour_in
fine l (scoring given) s h = given-small _ given h.1.slots
fine l (acceleration a) s h = h.1.rules
fine l (player p) s h =
    let a = and (all allowed l.text && is_ended l.end) (leb (length (row_of l.text)) most_line) s in
    let c = (and (all allowed l.text) (is_ended l.end) a.0).0 in
    let q = h.1 in
    record {
      start = q.start_in;
      points = points-small _ p.points q.points;
      rank = q.rank_in;
      kept_wide = ap length q.kept ∙ length-cells (row_of l.text) 9 70;
      kept_clean = ap (all allowed) q.kept ∙ all-cells allowed refl (row_of l.text) 9 70 c;
      kept = q.kept_is;
      slots = each-length (SpellsSlot (row_of l.text)) every_round p.slots q.slots;
    }

used_small : (lines : List PlayerLine) → used_rounds lines ≤ most_rounds
unfolding used_rounds
used_small lines = top-low _ most_rounds

only_small : (d : ℕ) (ns : List ℕ) → d ≤ most_rounds → AllOf (λ n. n ≤ most_rounds) ns → only_or d ns ≤ most_rounds
only_small d [] l h = l
only_small d (n ∷ ns) l h = h.0

-- of all that the items add
module _ {A : Type 0} (add : Item → List A) (P : A → Type 0) (each : (i : Item) → Fine i → AllOf P (add i)) where
  pub all_added : (ls : List Line) (is : List Item) → all is_sound ls ≡ true → Each SpellsLine ls is → AllOf P (flat add is)
  unfolding flat
  all_added [] [] s h = tt
  all_added [] (i ∷ is) s h = absurd h
  all_added (l ∷ ls) [] s h = absurd h
  all_added (l ∷ ls) (i ∷ is) s h =
      let k = and (is_sound l) (all is_sound ls) s in
      all_of_append P (add i) (flat add is) (each i (fine l i k.0 h.0)) (all_added ls is k.1 h.1)

module _ (ls : List Line) (is : List Item) (s : all is_sound ls ≡ true) (h : Each SpellsLine ls is) where
  pub texts_fine : AllOf KeptLine (flat text_in is)
  texts_fine = all_added text_in KeptLine one ls is s h
    where
      one : (i : Item) → Fine i → AllOf KeptLine (text_in i)
      one passed f = tt
      one (text a) f = (f, tt)
      one (rounds n) f = tt
      one (colour c) f = tt
      one (scoring g) f = tt
      one (acceleration a) f = tt
      one (player p) f = tt

  pub rounds_fine : AllOf (λ n. n ≤ most_rounds) (flat rounds_in is)
  rounds_fine = all_added rounds_in (λ n. n ≤ most_rounds) one ls is s h
    where
      one : (i : Item) → Fine i → AllOf (λ n. n ≤ most_rounds) (rounds_in i)
      one passed f = tt
      one (text a) f = tt
      one (rounds n) f = (f, tt)
      one (colour c) f = tt
      one (scoring g) f = tt
      one (acceleration a) f = tt
      one (player p) f = tt

  pub colours_fine : AllOf (λ c. among c initial_colours ≡ true) (flat colour_in is)
  colours_fine = all_added colour_in (λ c. among c initial_colours ≡ true) one ls is s h
    where
      one : (i : Item) → Fine i → AllOf (λ c. among c initial_colours ≡ true) (colour_in i)
      one passed f = tt
      one (text a) f = tt
      one (rounds n) f = tt
      one (colour c) f = (f, tt)
      one (scoring g) f = tt
      one (acceleration a) f = tt
      one (player p) f = tt

  pub scorings_fine : AllOf Small (flat scoring_in is)
  scorings_fine = all_added scoring_in Small one ls is s h
    where
      one : (i : Item) → Fine i → AllOf Small (scoring_in i)
      one passed f = tt
      one (text a) f = tt
      one (rounds n) f = tt
      one (colour c) f = tt
      one (scoring g) f = (f, tt)
      one (acceleration a) f = tt
      one (player p) f = tt

  pub accelerations_fine : AllOf (λ a. is_acceleration a ≡ true) (flat acceleration_in is)
  accelerations_fine = all_added acceleration_in (λ a. is_acceleration a ≡ true) one ls is s h
    where
      one : (i : Item) → Fine i → AllOf (λ a. is_acceleration a ≡ true) (acceleration_in i)
      one passed f = tt
      one (text a) f = tt
      one (rounds n) f = tt
      one (colour c) f = tt
      one (scoring g) f = tt
      one (acceleration a) f = (f, tt)
      one (player p) f = tt

  pub players_fine : AllOf LawfulLine (flat player_in is)
  players_fine = all_added player_in LawfulLine one ls is s h
    where
      one : (i : Item) → Fine i → AllOf LawfulLine (player_in i)
      one passed f = tt
      one (text a) f = tt
      one (rounds n) f = tt
      one (colour c) f = tt
      one (scoring g) f = tt
      one (acceleration a) f = tt
      one (player p) f = (f, tt)

  -- "value 0 to 20"; and there are twenty rounds to use
  pub rounds-small : rounds_of is ≤ most_rounds
  unfolding rounds_of
  rounds-small = only_small _ (flat rounds_in is) (used_small _) rounds_fine
