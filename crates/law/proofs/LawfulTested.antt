-- `SpellsFile` and `Lawful` decided: what a file spells, lawful or not, and a test for a lawful tournament. Assumes nothing.
use mathlib.Core.Path.{◌≡◌, refl, sym, ap, ◌∙◌}
use mathlib.Core.Bool.{Bool, true, false, ◌&&◌, ◌||◌, not}
use mathlib.Core.Option.{Option, none, some}
use mathlib.Core.List.{List, [], ◌∷◌}
use Prim.Native.Nat.{ℕ, ◌+◌, ◌≤◌, ◌<◌}
use native.Mathlib.Omega.{arith}
use lib.Dec.{eqb, leb}
use lib.ListN.{length}
use borrow.Author.Tests.{leb-true, le-leb, eqb-true, eq-eqb, not-true}
use Rattle.kit.specs.Lists.{between, all, any, among, same, conj, is_empty, at_most_one, each_after, from, flat}
use Rattle.kit.specs.First.{AllOf}
use Rattle.kit.specs.Decides.{Decides, Tests, when, keep, to}
use Rattle.kit.proofs.Bools.{clash, and, both, tests_of, of_tests, same_is, is_same}
use Rattle.kit.proofs.Decided.{when_inv, keep_inv, to_at}
use Rattle.kit.proofs.Lists.{all_from, from_all}
use Rattle.law.specs.Sizes.{most_line, most_players, most_rounds, most_accelerations, most_text, most_points, most_start, most_rank}
use Rattle.law.specs.Lines.{allowed}
use Rattle.law.specs.Columns.{width}
use Rattle.law.specs.Text.{SpellsText, is_name, ended, is_repeated}
use Rattle.law.specs.Heads.{initial_colours}
use Rattle.law.specs.Scoring.{values}
use Rattle.law.specs.Accelerations.{is_acceleration}
use Rattle.law.specs.Players.{kept_field}
use Rattle.law.specs.Items.{Item, kind_of}
use Rattle.law.specs.Tournament.{Player, Tournament, rounds_in, colour_in, scoring_in, player_in, tournament_of}
use Rattle.law.specs.Entries.{Law, bye-or-game, mutual_pairing, fitting_results, one_U, keeps, states_sum}
use Rattle.law.specs.Lawful.{KeptLine, LawfulPlayer, Sits, is_taken, shares_earlier, Lawful}
use Rattle.law.specs.Spelling.{is_sound, is_past, SpellsFile}
use Rattle.law.proofs.Cut.{cut, lines_are, lines_unique}
use Rattle.law.proofs.RecordsRead.{text_of, text-line, is_kept, kept-columns}
use Rattle.law.proofs.Faults.{line_items, lines-spelled}
use Rattle.law.proofs.Seats.{is_text, text_is}
use Rattle.law.proofs.Accepts.{all_of_true}

-- ---- of all numbers of a run, and of all of a list
pub true-all_of : {A : Type 0} (f : A → Bool) (l : List A) → all f l ≡ true → AllOf (λ a. f a ≡ true) l
true-all_of f [] h = tt
true-all_of f (x ∷ l) h = let k = and (f x) (all f l) h in (k.0, true-all_of f l k.1)

module _ (f : ℕ → Bool) (i n : ℕ) where
  run-all : all f (from i n) ≡ true → (k : ℕ) → i ≤ k → k < i + n → f k ≡ true
  run-all h = from_all (λ k. f k ≡ true) i n (true-all_of f (from i n) h)

  all-run : ((k : ℕ) → i ≤ k → k < i + n → f k ≡ true) → all f (from i n) ≡ true
  all-run h = all_of_true f (from i n) (all_from (λ k. f k ≡ true) i n h)

module _ {A : Type 0} {P : A → Type 0} {t : A → Bool} (d : Tests P t) where
  tests_all : Tests (AllOf P) (all t)
  tests_all = record { sound = sound; complete = complete }
    where
      sound : (l : List A) → all t l ≡ true → AllOf P l
      sound [] h = tt
      sound (x ∷ l) h = let k = and (t x) (all t l) h in (d.sound x k.0, sound l k.1)

      complete : (l : List A) → AllOf P l → all t l ≡ true
      complete [] h = refl
      complete (x ∷ l) h = both (d.complete x h.0) (complete l h.1)

-- ---- what a file spells
abbrev pub none_past : List Item → Bool
none_past items = all (λ place. all (λ r. not (is_past items place r)) (from 1 most_rounds)) (from 0 (length (flat player_in items)))

abbrev pub is_once : List Item → Bool
is_once items = at_most_one (flat rounds_in items) && at_most_one (flat colour_in items) && at_most_one (flat scoring_in items)

unfoldable pub spelled_by : List ℕ → Option Tournament
spelled_by file = when (all is_sound (cut false file)) (to tournament_of (keep (λ is. is_once is && none_past is) (line_items (cut false file))))

past-sound : (items : List Item) → none_past items ≡ true → (place r : ℕ) → place < length (flat player_in items) → 1 ≤ r → r ≤ most_rounds → is_past items place r ≡ false
past-sound items h place r l a b =
    let k = run-all (λ place. all (λ r. not (is_past items place r)) (from 1 most_rounds)) 0 (length (flat player_in items)) h place (omega arith) (omega arith) in
    not-true (is_past items place r) (run-all (λ r. not (is_past items place r)) 1 most_rounds k r a (omega arith))

past-complete : (items : List Item) → ((place r : ℕ) → place < length (flat player_in items) → 1 ≤ r → r ≤ most_rounds → is_past items place r ≡ false) → none_past items ≡ true
past-complete items h =
    all-run (λ place. all (λ r. not (is_past items place r)) (from 1 most_rounds)) 0 (length (flat player_in items))
    (λ place _ l. all-run (λ r. not (is_past items place r)) 1 most_rounds (λ r a b. ap not (h place r (omega arith) a (omega arith))))

pub file : Decides SpellsFile spelled_by
unfolding spelled_by
file = record { sound = sound; complete = complete }
  where
    sound : (bytes : List ℕ) (t : Tournament) → spelled_by bytes ≡ some t → SpellsFile bytes t
    sound bytes t e =
        let ls = cut false bytes in
        let a = when_inv (all is_sound ls) (to tournament_of (keep (λ is. is_once is && none_past is) (line_items ls))) t e in
        let b = to_at tournament_of (keep (λ is. is_once is && none_past is) (line_items ls)) t a.1 in
        let c = keep_inv (λ is. is_once is && none_past is) (line_items ls) b.0 b.1 in
        let d = and (is_once b.0) (none_past b.0) c.1 in
        record { lines = ls; are = lines_are bytes; sound = a.0; items = b.0; spelled = lines-spelled.sound ls b.0 c.0; once = d.0; none_past_lem = past-sound b.0 d.1; tournament = b.2 }

    complete : (bytes : List ℕ) (t : Tournament) → SpellsFile bytes t → spelled_by bytes ≡ some t
    complete bytes t s =
        rw (
          lines_unique bytes s.lines s.are,
          s.sound,
          lines-spelled.complete s.lines s.items s.spelled,
          s.once,
          past-complete s.items s.none_past_lem,
        ) (ap some (sym s.tournament))

-- ---- a kept text line
abbrev pub is_itself : Option (List ℕ) → List ℕ → Bool
is_itself none line = false
is_itself (some a) line = same a line

abbrev pub kept_line_rules : List ℕ → List Bool
kept_line_rules line = is_text (kind_of line) ∷ is_itself (text_of line) line ∷ all allowed line ∷ leb (length line) most_line ∷ []

pub kept-lines : Tests KeptLine (λ line. conj (kept_line_rules line))
kept-lines = record { sound = sound; complete = complete }
  where
    itself_is : (line : List ℕ) → is_itself (text_of line) line ≡ true → SpellsText line line
    itself_is line e = go (text_of line) refl e
      where
        go : (o : Option (List ℕ)) → text_of line ≡ o → is_itself o line ≡ true → SpellsText line line
        go none p e = clash e
        go (some a) p e = text-line.sound line line (p ∙ ap some (same_is a line e))

    sound : (line : List ℕ) → conj (kept_line_rules line) ≡ true → KeptLine line
    sound line h =
        let k = tests_of (kept_line_rules line) h in
        record { listed = text_is (kind_of line) k.0; itself = itself_is line k.1.0; clean = k.1.1.0; short = leb-true (length line) most_line k.1.1.1.0 }

    complete : (line : List ℕ) → KeptLine line → conj (kept_line_rules line) ≡ true
    complete line h = of_tests (kept_line_rules line) (ap is_text h.listed, (rw (text-line.complete line line h.itself) (is_same line), (h.clean, (le-leb (length line) most_line h.short, tt))))

-- ---- a player by itself
abbrev pub player_rules : ℕ → Player → List Bool
player_rules R p =
    between 1 most_start p.start ∷ leb p.points most_points ∷ between 1 most_rank p.rank ∷ eqb (length p.kept) (width kept_field) ∷ all allowed p.kept ∷ is_kept p.kept ∷ eqb (length p.entries) R ∷ []

pub lawful_players : (R : ℕ) → Tests (LawfulPlayer R) (λ p. conj (player_rules R p))
lawful_players R =
    record {
      sound = λ p h.
          let k = tests_of (player_rules R p) h in
          record {
            start = k.0;
            points = leb-true p.points most_points k.1.0;
            rank = k.1.1.0;
            kept_wide = eqb-true (length p.kept) (width kept_field) k.1.1.1.0;
            kept_clean = k.1.1.1.1.0;
            kept = kept-columns.sound p.kept k.1.1.1.1.1.0;
            entries = eqb-true (length p.entries) R k.1.1.1.1.1.1.0;
          };
      complete = λ p h.
          of_tests (player_rules R p) (
            h.start,
            (
              le-leb p.points most_points h.points,
              (
                h.rank,
                (
                  eq-eqb (length p.kept) (width kept_field) h.kept_wide,
                  (h.kept_clean, (kept-columns.complete p.kept h.kept, (eq-eqb (length p.entries) R h.entries, tt))),
                ),
              ),
            ),
          );
    }

-- ---- the tournament
abbrev pub every_law : List Law
every_law = bye-or-game ∷ mutual_pairing ∷ fitting_results ∷ one_U ∷ []

abbrev pub keeps_all : Tournament → Law → Bool
keeps_all t law = all (λ place. all (λ r. keeps t law place r) (from 1 t.rounds)) (from 0 (length t.players))

abbrev pub lawful_rules : Tournament → List Bool
lawful_rules t =
    all (λ line. conj (kept_line_rules line)) t.text ∷ each_after (λ before line. not (is_repeated before line)) [] t.text ∷ leb (length (flat ended t.text)) most_text ∷ any is_name t.text ∷
    leb t.rounds most_rounds ∷ (eqb t.colour 0 || among t.colour initial_colours) ∷ all (λ v. leb v most_points) (values t.scoring) ∷
    all is_acceleration t.accelerations ∷ leb (length t.accelerations) most_accelerations ∷ all (λ j. not (shares_earlier t.accelerations j)) (from 0 (length t.accelerations)) ∷
    all (λ p. conj (player_rules t.rounds p)) t.players ∷ not (is_empty t.players) ∷ leb (length t.players) most_players ∷ each_after (λ before p. not (is_taken before p)) [] t.players ∷
    all (keeps_all t) every_law ∷ all (states_sum t) (from 0 (length t.players)) ∷ []

unfoldable pub is_lawful : Tournament → Bool
is_lawful t = conj (lawful_rules t)

keep-sound : (t : Tournament) → all (keeps_all t) every_law ≡ true → (law : Law) (place r : ℕ) → Sits t place r → keeps t law place r ≡ true
keep-sound t h law place r s =
    let k = true-all_of (keeps_all t) every_law h in
    let a = s.place_in_lem in
    let b = s.round_high in
    run-all (λ r. keeps t law place r) 1 t.rounds (run-all (λ place. all (λ r. keeps t law place r) (from 1 t.rounds)) 0 (length t.players) (one law k.0 k.1.0 k.1.1.0 k.1.1.1.0) place (omega arith) (omega arith)) r s.round_low (omega arith)
  where
    one : (law : Law) → keeps_all t bye-or-game ≡ true → keeps_all t mutual_pairing ≡ true → keeps_all t fitting_results ≡ true → keeps_all t one_U ≡ true → keeps_all t law ≡ true
    one bye-or-game a b c d = a
    one mutual_pairing a b c d = b
    one fitting_results a b c d = c
    one one_U a b c d = d

keep-complete : (t : Tournament) → ((law : Law) (place r : ℕ) → Sits t place r → keeps t law place r ≡ true) → all (keeps_all t) every_law ≡ true
keep-complete t h = both (one bye-or-game) (both (one mutual_pairing) (both (one fitting_results) (both (one one_U) refl)))
  where
    one : (law : Law) → keeps_all t law ≡ true
    one law =
        all-run (λ place. all (λ r. keeps t law place r) (from 1 t.rounds)) 0 (length t.players)
        (λ place _ l. all-run (λ r. keeps t law place r) 1 t.rounds (λ r a b. h law place r (record { place_in_lem = omega arith; round_low = a; round_high = omega arith })))

pub lawful : Tests Lawful is_lawful
unfolding is_lawful
lawful = record { sound = sound; complete = complete }
  where
    sound : (t : Tournament) → is_lawful t ≡ true → Lawful t
    sound t h =
        let k = tests_of (lawful_rules t) h in
        let m = k.1.1.1.1.1.1.1 in
        let p = m.1.1.1 in
        record {
          text = (tests_all kept-lines).sound t.text k.0;
          text_once = k.1.0;
          text_fits = leb-true (length (flat ended t.text)) most_text k.1.1.0;
          named = k.1.1.1.0;
          rounds = leb-true t.rounds most_rounds k.1.1.1.1.0;
          colour = k.1.1.1.1.1.0;
          scoring = k.1.1.1.1.1.1.0;
          accelerations = m.0;
          accelerations_fit = leb-true (length t.accelerations) most_accelerations m.1.0;
          accelerations_apart = λ j l. not-true (shares_earlier t.accelerations j) (run-all (λ j. not (shares_earlier t.accelerations j)) 0 (length t.accelerations) m.1.1.0 j (omega arith) (omega arith));
          players = (tests_all (lawful_players t.rounds)).sound t.players p.0;
          players_there = not-true (is_empty t.players) p.1.0;
          players_fit = leb-true (length t.players) most_players p.1.1.0;
          players_differ = p.1.1.1.0;
          entries = keep-sound t p.1.1.1.1.0;
          sums = λ place l. run-all (states_sum t) 0 (length t.players) p.1.1.1.1.1.0 place (omega arith) (omega arith);
        }

    complete : (t : Tournament) → Lawful t → is_lawful t ≡ true
    complete t h =
        both ((tests_all kept-lines).complete t.text h.text)
        (both h.text_once
        (both (le-leb (length (flat ended t.text)) most_text h.text_fits)
        (both h.named
        (both (le-leb t.rounds most_rounds h.rounds)
        (both h.colour
        (both h.scoring
        (both h.accelerations
        (both (le-leb (length t.accelerations) most_accelerations h.accelerations_fit)
        (both (all-run (λ j. not (shares_earlier t.accelerations j)) 0 (length t.accelerations) (λ j _ l. ap not (h.accelerations_apart j (omega arith))))
        (both ((tests_all (lawful_players t.rounds)).complete t.players h.players)
        (both (ap not h.players_there)
        (both (le-leb (length t.players) most_players h.players_fit)
        (both h.players_differ (both (keep-complete t h.entries) (both (all-run (states_sum t) 0 (length t.players) (λ place _ l. h.sums place (omega arith))) refl)))))))))))))))
