-- A file is accepted exactly when it spells a lawful tournament, and it spells no other. Assumes nothing.
use mathlib.Core.Path.{◌≡◌, refl, sym, ap, ◌∙◌, subst}
use mathlib.Core.Bool.{Bool, true, false, ◌&&◌, ◌||◌, not}
use mathlib.Core.List.{List, [], ◌∷◌, map}
use Prim.Native.Nat.{ℕ, ◌-◌, ◌≤◌, ◌<◌}
use native.Mathlib.Omega.{arith}
use lib.Dec.{eqb, leb}
use lib.ListN.{length, get_or, length-map}
use borrow.Author.Tests.{le-leb, leb-true, not-true, not-false}
use Rattle.kit.specs.Lists.{all, any, among, is_empty, at_most_one, flat, Each, only_or}
use Rattle.kit.specs.First.{AllOf, NoneOf}
use Rattle.kit.proofs.Bools.{clash, and, both, not_so}
use Rattle.kit.proofs.Decided.{unique}
use Rattle.kit.proofs.Firsts.{all_of_append, all_of_left, all_of_right, all_of_map, all_of_flat, flat-all_of, all_of_each, all_in, all_every}
use Rattle.law.specs.Sizes.{most_file, most_rounds}
use Rattle.law.specs.Lines.{Line, Lines}
use Rattle.law.specs.Heads.{initial_colours}
use Rattle.law.specs.Text.{is_name}
use Rattle.law.specs.Scoring.{scoring_of}
use Rattle.law.specs.Accelerations.{acceleration_code, is_acceleration}
use Rattle.law.specs.Players.{player_code}
use Rattle.law.specs.Items.{Item}
use Rattle.law.specs.Tournament.{Tournament, rounds_in, colour_in, scoring_in, acceleration_in, player_in, text_in, rounds_of, player_of, tournament_of}
use Rattle.law.specs.Entries.{Law, bye-or-game, mutual_pairing, fitting_results, one_U, keeps, states_sum}
use Rattle.law.specs.Lawful.{LawfulPlayer, shares_earlier, Lawful}
use Rattle.law.specs.Spelling.{SpellsLine, is_past, SpellsFile}
use Rattle.law.specs.Refusals.{lines_of, player_seats, acceleration_seats, FileFault, incomplete, past_142, shared, unlawful, wrong_sum_lem, file_faults, is_complete, is_file_fault, OfItems, Label, of_file, IsFault, file_fault_number, line_labels, labels_of, labels}
use Rattle.law.proofs.Cut.{one_lines}
use Rattle.law.proofs.Faults.{lines-spelled}
use Rattle.law.proofs.LinesRead.{LinesGood, lines-good, good-lines}
use Rattle.law.proofs.Seats.{player_lines_lem, acceleration_lines, seat, rounds-all, all-rounds, places_all, all_places}
use Rattle.law.proofs.LinesLawful.{Small, scoring-small, LawfulLine, lawful_player, texts_fine, colours_fine, scorings_fine, accelerations_fine, players_fine, rounds-small}
use Rattle.law.proofs.NewAndFew.{new-once, once-new, differ_same, few-fits, fits-few}

-- ---- the file as a whole: 10, 11, 17 and 12 to 16
pub record FileGood (is : List Item) : Type 0 where
  pub complete : is_complete (tournament_of is) ≡ true
  pub none_past_lem : (p r : ℕ) → p < length (flat player_in is) → 1 ≤ r → r ≤ most_rounds → is_past is p r ≡ false
  pub apart : (j : ℕ) → j < length (flat acceleration_in is) → shares_earlier (flat acceleration_in is) j ≡ false
  pub keep : (law : Law) (p r : ℕ) → p < length (flat player_in is) → 1 ≤ r → r ≤ (tournament_of is).rounds → keeps (tournament_of is) law p r ≡ true
  pub sums : (p : ℕ) → p < length (flat player_in is) → states_sum (tournament_of is) p ≡ true

-- the faults of the file are told apart by their numbers, and each is tested
abbrev file_fault_at : ℕ → FileFault
file_fault_at n = get_or (incomplete ∷ past_142 ∷ unlawful bye-or-game ∷ unlawful mutual_pairing ∷ unlawful fitting_results ∷ unlawful one_U ∷ wrong_sum_lem ∷ shared ∷ []) (n - 10) incomplete

fault-again : (f : FileFault) → file_fault_at (file_fault_number f) ≡ f
fault-again incomplete = refl
fault-again past_142 = refl
fault-again shared = refl
fault-again (unlawful bye-or-game) = refl
fault-again (unlawful mutual_pairing) = refl
fault-again (unlawful fitting_results) = refl
fault-again (unlawful one_U) = refl
fault-again wrong_sum_lem = refl

pub tested_file : (f : FileFault) → among (file_fault_number f) (map file_fault_number file_faults) ≡ true
tested_file incomplete = refl
tested_file past_142 = refl
tested_file shared = refl
tested_file (unlawful bye-or-game) = refl
tested_file (unlawful mutual_pairing) = refl
tested_file (unlawful fitting_results) = refl
tested_file (unlawful one_U) = refl
tested_file wrong_sum_lem = refl

module _ (ls : List Line) (is : List Item) (h : Each SpellsLine ls is) where
  -- of known items the fault is the test
  file-not : (f : FileFault) (place r : ℕ) → (OfItems ls f place r → ⊥) → is_file_fault is f place r ≡ false
  file-not f place r n = not_so (is_file_fault is f place r) (λ t. n (record { items = is; spelled = h; holds = t }))

  not-file : (f : FileFault) (place r : ℕ) → is_file_fault is f place r ≡ false → OfItems ls f place r → ⊥
  not-file f place r e q =
      let u = unique lines-spelled ls is q.items h q.spelled in
      clash (sym e ∙ rw u q.holds)

  module _ (long : Bool) (file : List ℕ) (small : rounds_of is ≤ most_rounds) where
    abbrev Not : Label → Type 0
    Not x = IsFault long file ls x → ⊥

    abbrev ps : List ℕ
    ps = lines_of player_code 0 ls

    abbrev rs : List ℕ
    rs = lines_of acceleration_code 0 ls

    abbrev of : FileFault → List Label
    of = labels_of (player_seats ls) (acceleration_seats ls)

    pub file-good : AllOf Not (flat of file_faults) → FileGood is
    unfolding is_file_fault tournament_of
    file-good n =
        let np = player_lines_lem ls is h in
        let na = acceleration_lines ls is h in
        let at = all_in file_fault_number file_fault_at fault-again (λ f. AllOf Not (of f)) file_faults (flat-all_of Not of file_faults n) in
        record {
          complete = not-false (is_complete (tournament_of is)) (file-not incomplete 0 0 (at incomplete (tested_file incomplete)).0);
          none_past_lem = λ p r l a b. file-not past_142 p r (rounds-all Not past_142 ps (at past_142 (tested_file past_142)) p r (omega arith) a b);
          apart = λ j l. file-not shared j 0 (places_all Not shared rs (at shared (tested_file shared)) j (omega arith));
          keep = λ law p r l a b. kept law p r b (rounds-all Not (unlawful law) ps (at (unlawful law) (tested_file (unlawful law))) p r (omega arith) a (omega arith));
          sums = λ p l. not-false (states_sum (tournament_of is) p) (file-not wrong_sum_lem p 0 (places_all Not wrong_sum_lem ps (at wrong_sum_lem (tested_file wrong_sum_lem)) p (omega arith)));
        }
      where
        kept : (law : Law) (p r : ℕ) → r ≤ (tournament_of is).rounds → Not (of_file (unlawful law) (seat p ps) r) → keeps (tournament_of is) law p r ≡ true
        kept law p r b n = not-false (keeps (tournament_of is) law p r) (rw (le-leb r (tournament_of is).rounds b) at (file-not (unlawful law) p r n))

    pub good-file : FileGood is → AllOf Not (flat of file_faults)
    unfolding is_file_fault
    good-file g = all_of_flat Not of file_faults (all_every (λ f. AllOf Not (of f)) (at (player_lines_lem ls is h) (acceleration_lines ls is h)) file_faults)
      where
        law_not : (law : Law) (p r : ℕ) → p < length (flat player_in is) → 1 ≤ r → (b : Bool) → leb r (tournament_of is).rounds ≡ b → b && not (keeps (tournament_of is) law p r) ≡ false
        law_not law p r l a false e = refl
        law_not law p r l a true e = ap not (g.keep law p r l a (leb-true r (tournament_of is).rounds e))

        at : length ps ≡ length (flat player_in is) → length rs ≡ length (flat acceleration_in is) → (f : FileFault) → AllOf Not (of f)
        at np na incomplete = (not-file incomplete 0 0 (ap not g.complete), tt)
        at np na past_142 = all-rounds Not past_142 ps (λ p r l a b. not-file past_142 p r (g.none_past_lem p r (omega arith) a b))
        at np na shared = all_places Not shared rs (λ j l. not-file shared j 0 (g.apart j (omega arith)))
        at np na (unlawful law) = all-rounds Not (unlawful law) ps (λ p r l a b. not-file (unlawful law) p r (law_not law p r (omega arith) a (leb r (tournament_of is).rounds) refl))
        at np na wrong_sum_lem = all_places Not wrong_sum_lem ps (λ p l. not-file wrong_sum_lem p 0 (ap not (g.sums p (omega arith))))

-- ---- lines and file together: the tournament that they say is spelled and lawful
abbrev all_true : {A : Type 0} → (A → Bool) → List A → Type 0
all_true f l = AllOf (λ a. f a ≡ true) l

pub all_of_true : {A : Type 0} (f : A → Bool) (l : List A) → all_true f l → all f l ≡ true
all_of_true f [] h = refl
all_of_true f (x ∷ l) h = both h.0 (all_of_true f l h.1)

module _ (ls : List Line) (is : List Item) (l : LinesGood [] ls is) (g : FileGood is) where
  good_lawful : Lawful (tournament_of is)
  unfolding tournament_of
  good_lawful =
      let o = new-once is l.new in
      let f = few-fits is l.few in
      let c = and (any is_name (flat text_in is)) (not (is_empty (map (player_of (rounds_of is)) (flat player_in is)))) g.complete in
      let r = rounds-small ls is l.sound l.spelled in
      let n = length-map (flat player_in is) (player_of (rounds_of is)) in
      record {
        text = texts_fine ls is l.sound l.spelled;
        text_once = o.text;
        text_fits = let q = f.text in omega arith;
        named = c.0;
        rounds = r;
        colour = known (flat colour_in is) (colours_fine ls is l.sound l.spelled);
        scoring = worth (flat scoring_in is) (scorings_fine ls is l.sound l.spelled);
        accelerations = all_of_true is_acceleration (flat acceleration_in is) (accelerations_fine ls is l.sound l.spelled);
        accelerations_fit = let q = f.accelerations in omega arith;
        accelerations_apart = g.apart;
        players = all_of_map (LawfulPlayer (rounds_of is)) (player_of (rounds_of is)) (flat player_in is) (all_of_each LawfulLine (λ p. LawfulPlayer (rounds_of is) (player_of (rounds_of is) p)) (λ p. lawful_player (rounds_of is) p r) (flat player_in is) (players_fine ls is l.sound l.spelled));
        players_there = not-true (is_empty (map (player_of (rounds_of is)) (flat player_in is))) c.1;
        players_fit = let q = f.players in omega arith;
        players_differ = differ_same (rounds_of is) (flat player_in is) ∙ o.players;
        entries = λ law p r s. let q = s.place_in_lem in g.keep law p r (omega arith) s.round_low s.round_high;
        sums = λ p q. g.sums p (omega arith);
      }
    where
      known : (cs : List ℕ) → AllOf (λ c. among c initial_colours ≡ true) cs → eqb (only_or 0 cs) 0 || among (only_or 0 cs) initial_colours ≡ true
      known [] h = refl
      known (c ∷ cs) h = go (eqb c 0) h.0
        where
          go : (b : Bool) → among c initial_colours ≡ true → b || among c initial_colours ≡ true
          go true e = refl
          go false e = e

      worth : (gs : List (List (ℕ × ℕ))) → AllOf Small gs → all (λ v. leb v Rattle.law.specs.Sizes.most_points) (Rattle.law.specs.Scoring.values (scoring_of (only_or [] gs))) ≡ true
      worth [] h = scoring-small [] tt
      worth (x ∷ gs) h = scoring-small x h.0

  good-spells : (file : List ℕ) → Lines file ls → SpellsFile file (tournament_of is)
  good-spells file a =
      let o = new-once is l.new in
      record {
        lines = ls;
        are = a;
        sound = l.sound;
        items = is;
        spelled = l.spelled;
        once = both (both o.rounds o.colour) o.scoring;
        none_past_lem = g.none_past_lem;
        tournament = refl;
      }

-- ---- and the other way
lawful_lines : (file : List ℕ) (t : Tournament) (s : SpellsFile file t) → Lawful t → LinesGood [] s.lines s.items
unfolding tournament_of
lawful_lines file t s k =
    let v = subst Lawful s.tournament k in
    let is = s.items in
    let a = and (at_most_one (flat rounds_in is) && at_most_one (flat colour_in is)) (at_most_one (flat scoring_in is)) s.once in
    let b = and (at_most_one (flat rounds_in is)) (at_most_one (flat colour_in is)) a.0 in
    let n = length-map (flat player_in is) (player_of (rounds_of is)) in
    record {
      sound = s.sound;
      spelled = s.spelled;
      new = once-new is (record { text = v.text_once; rounds = b.0; colour = b.1; scoring = a.1; players = sym (differ_same (rounds_of is) (flat player_in is)) ∙ v.players_differ });
      few = fits-few is (record { text = let q = v.text_fits in omega arith; accelerations = let q = v.accelerations_fit in omega arith; players = let q = v.players_fit in omega arith });
    }

lawful_file : (file : List ℕ) (t : Tournament) (s : SpellsFile file t) → Lawful t → FileGood s.items
unfolding tournament_of
lawful_file file t s k =
    let v = subst Lawful s.tournament k in
    let is = s.items in
    let n = length-map (flat player_in is) (player_of (rounds_of is)) in
    record {
      complete = both v.named (ap not v.players_there);
      none_past_lem = s.none_past_lem;
      apart = v.accelerations_apart;
      keep = λ law p r l a b. v.entries law p r (record { place_in_lem = omega arith; round_low = a; round_high = b });
      sums = λ p l. v.sums p (omega arith);
    }

-- ---- the theorems, for a file of at most 65,535 bytes and tables that are long enough
module _ (file : List ℕ) (ls : List Line) (are : Lines file ls) where
  abbrev pub NoFault : Bool → Type 0
  NoFault long = NoneOf (IsFault long file ls) (labels ls)

  -- the tournament that a file with no fault spells, and that it is lawful
  pub no_fault_lawful : (long : Bool) → NoFault long → (t : Tournament) × SpellsFile file t × Lawful t
  unfolding labels
  no_fault_lawful long n =
      let both_parts = n.1.1 in
      let top = all_of_left (λ x. IsFault long file ls x → ⊥) (line_labels [] ls) (flat (labels_of (player_seats ls) (acceleration_seats ls)) file_faults) both_parts in
      let rest = all_of_right (λ x. IsFault long file ls x → ⊥) (line_labels [] ls) (flat (labels_of (player_seats ls) (acceleration_seats ls)) file_faults) both_parts in
      let k = lines-good long file ls ls [] [] tt top in
      let l = k.1 in
      let g = file-good ls k.0 l.spelled long file (rounds-small ls k.0 l.sound l.spelled) rest in
      (tournament_of k.0, good-spells ls k.0 l g file are, good_lawful ls k.0 l g)

  -- a file that spells a lawful tournament has no fault
  pub lawful_no_fault : (t : Tournament) → length file ≤ most_file → SpellsFile file t → Lawful t → NoFault true
  unfolding labels
  lawful_no_fault t small s k =
      let e = one_lines file s.lines ls s.are are in
      let l : LinesGood [] ls s.items = subst (λ (x : List Line). LinesGood [] x s.items) e (lawful_lines file t s k) in
      let g = lawful_file file t s k in (
        λ q. clash (sym q),
        (
          λ q. omega arith,
          all_of_append (λ x. IsFault true file ls x → ⊥) (line_labels [] ls) (flat (labels_of (player_seats ls) (acceleration_seats ls)) file_faults)
              (good-lines true file ls ls [] [] s.items tt l)
              (good-file ls s.items l.spelled true file (rounds-small ls s.items l.sound l.spelled) g),
        ),
      )

-- "It spells no other", lawful or not
pub one_tournament : (file : List ℕ) (t u : Tournament) → SpellsFile file t → SpellsFile file u → t ≡ u
one_tournament file t u s v =
    let e = one_lines file s.lines v.lines s.are v.are in
    let h : Each SpellsLine v.lines s.items = subst (λ (x : List Line). Each SpellsLine x s.items) e s.spelled in
    s.tournament ∙ ap tournament_of (unique lines-spelled v.lines s.items v.items h v.spelled) ∙ sym v.tournament
