-- For each lawful tournament and each terminator the writer's bytes spell it. Assumes nothing.
use mathlib.Core.Path.{◌≡◌, refl, sym, ap, ap₂, ◌∙◌, subst}
use mathlib.Core.Bool.{Bool, true, false, cond, ◌&&◌, ◌||◌, not}
use mathlib.Core.Option.{some}
use mathlib.Core.List.{List, [], ◌∷◌, ◌++◌, map, append_assoc, append-nil}
use Prim.Native.Nat.{ℕ, zero, suc, ◌+◌, ◌-◌, ◌≤◌, ◌<◌}
use native.Mathlib.Omega.{arith}
use lib.Dec.{eqb, ltb}
use lib.ListN.{length, get_or, replicate, length-map}
use borrow.Author.Tests.{eqb-true, ne_eqb, le-leb, ltb-true}
use Rattle.kit.specs.Lists.{between, all, among, at_most_one, only_or, flat, Each}
use Rattle.kit.specs.First.{AllOf}
use Rattle.kit.proofs.Bools.{and, both, within}
use Rattle.kit.proofs.Firsts.{all_of_at, all_of_each, all_of_map}
use Rattle.kit.proofs.Lists.{flat_append}
use Rattle.law.specs.Sizes.{most_line, most_rounds}
use Rattle.law.specs.Lines.{CR, LF, allowed, End, cr, crlf, Line, end_bytes, joined, has_no_cr, starts_with_lf, Follows, AreLines}
use Rattle.law.specs.Heads.{initial_colours}
use Rattle.law.specs.Scoring.{stated, scoring_of}
use Rattle.law.specs.Accelerations.{is_acceleration}
use Rattle.law.specs.Players.{PlayerLine, Slot}
use Rattle.law.specs.Items.{Item, text, rounds, colour, scoring, acceleration, player, SpellsItem}
use Rattle.law.specs.Tournament.{Player, Tournament, text_in, rounds_in, colour_in, scoring_in, acceleration_in, player_in, no_slot, slot_at, rounds_of, player_of, tournament_of}
use Rattle.law.specs.Entries.{no_entry, no_player, player_at, keeps, bye-or-game}
use Rattle.law.specs.Lawful.{KeptLine, LawfulPlayer, Lawful}
use Rattle.law.specs.Spelling.{is_sound, SpellsLine, no_line, is_past, SpellsFile}
use Rattle.law.specs.Writing.{colour_line, colour_lines, acceleration_line, player_line, written_lines, written}
use Rattle.written.proofs.Heads.{text-item, rounds-item, rounds-allowed, rounds-long, colour-item, colour-allowed, scoring-item, scoring-allowed, scoring-long, acceleration-item, acceleration-allowed, acceleration-long}
use Rattle.written.proofs.PlayerLines.{GoodEntry, entry-good, line_of, player-item, player-allowed, player-long, player-again, slot_for}

-- ---- every entry of a lawful tournament is a good one
all-at : {A : Type 0} (P : A → Type 0) (d : A) (l : List A) → ((k : ℕ) → k < length l → P (get_or l k d)) → AllOf P l
all-at P d [] h = tt
all-at P d (x ∷ l) h = (h 0 (omega arith), all-at P d l (λ k m. h (suc k) (omega arith)))

pub entries-good : (t : Tournament) → Lawful t → AllOf (λ (p : Player). AllOf GoodEntry p.entries) t.players
unfolding keeps
entries-good t h = all-at (λ (p : Player). AllOf GoodEntry p.entries) no_player t.players (λ p l.
    all-at GoodEntry no_entry (player_at t p).entries (λ r m.
    let n = (all_of_at (LawfulPlayer t.rounds) no_player t.players h.players p l).entries in
    let e : r + 1 - 1 ≡ r = omega arith in
    let k = h.entries bye-or-game p (r + 1) (record { place_in_lem = l; round_low = omega arith; round_high = omega arith }) in
    entry-good t (player_at t p) (get_or (player_at t p).entries r no_entry) h.players (rw e at k)))

-- ---- the items of the writer's lines
abbrev colour_items : ℕ → List Item
colour_items c = cond (eqb c 0) [] (colour c ∷ [])

unfoldable pub items_of : Tournament → List Item
items_of t = map text t.text ++ (rounds t.rounds ∷ (colour_items t.colour ++ (scoring (stated t.scoring) ∷ (map acceleration t.accelerations ++ map (λ p. player (line_of p)) t.players))))

-- a line that the writer puts out, with the item that it spells
record Good (line : List ℕ) (i : Item) : Type 0 where
  spells : SpellsItem line i
  clean : all allowed line ≡ true
  short : length line ≤ most_line

good-append : (k k' : List (List ℕ)) (l l' : List Item) → Each Good k l → Each Good k' l' → Each Good (k ++ k') (l ++ l')
good-append [] k' [] l' h h' = h'
good-append [] k' (b ∷ l) l' h h' = absurd h
good-append (a ∷ k) k' [] l' h h' = absurd h
good-append (a ∷ k) k' (b ∷ l) l' h h' = (h.0, good-append k k' l l' h.1 h')

good-map : {A : Type 0} (P : A → Type 0) (line : A → List ℕ) (i : A → Item) → ((a : A) → P a → Good (line a) (i a)) → (l : List A) → AllOf P l → Each Good (map line l) (map i l)
good-map P line i f [] h = tt
good-map P line i f (a ∷ l) h = (f a h.0, good-map P line i f l h.1)

pub all-and : {A : Type 0} (P Q : A → Type 0) (l : List A) → AllOf P l → AllOf Q l → AllOf (λ a. P a × Q a) l
all-and P Q [] h k = tt
all-and P Q (a ∷ l) h k = ((h.0, k.0), all-and P Q l h.1 k.1)

pub of_all : {A : Type 0} (f : A → Bool) (l : List A) → all f l ≡ true → AllOf (λ a. f a ≡ true) l
of_all f [] h = tt
of_all f (a ∷ l) h = let k = and (f a) (all f l) h in (k.0, of_all f l k.1)

text-good : (ls : List (List ℕ)) → AllOf KeptLine ls → Each Good ls (map text ls)
text-good [] h = tt
text-good (l ∷ ls) h = (record { spells = text-item l h.0; clean = h.0.clean; short = h.0.short }, text-good ls h.1)

colour-good : (c : ℕ) → eqb c 0 || among c initial_colours ≡ true → Each Good (colour_lines c) (colour_items c)
colour-good c h = go (eqb c 0) h
  where
    go : (b : Bool) → b || among c initial_colours ≡ true → Each Good (cond b [] (colour_line c ∷ [])) (cond b [] (colour c ∷ []))
    go true e = tt
    go false e = (record { spells = colour-item c e; clean = colour-allowed c e; short = omega arith }, tt)

lines-good : (t : Tournament) → Lawful t → Each Good (written_lines t) (items_of t)
unfolding written_lines items_of
lines-good t h =
    good-append t.text _ (map text t.text) _ (text-good t.text h.text) (
      let l = rounds-long t.rounds h.rounds in
          record { spells = rounds-item t.rounds h.rounds; clean = rounds-allowed t.rounds h.rounds; short = omega arith },
      good-append (colour_lines t.colour) _ (colour_items t.colour) _ (colour-good t.colour h.colour) (
        let l = scoring-long t.scoring in
            record { spells = scoring-item t.scoring h.scoring; clean = scoring-allowed t.scoring; short = omega arith },
        good-append (map acceleration_line t.accelerations) (map player_line t.players) (map acceleration t.accelerations) (map (λ p. player (line_of p)) t.players)
            (good-map (λ a. is_acceleration a ≡ true) acceleration_line acceleration
            (λ a e. let l = acceleration-long a e in record { spells = acceleration-item a e; clean = acceleration-allowed a e; short = omega arith })
            t.accelerations (of_all is_acceleration t.accelerations h.accelerations))
            (good-map (λ (p : Player). LawfulPlayer t.rounds p × AllOf GoodEntry p.entries) player_line (λ p. player (line_of p))
            (λ p k.
            let l = player-long t.rounds p k.0 h.rounds k.1 in
            let r = h.rounds in
            record { spells = player-item t.rounds p k.0 h.rounds k.1; clean = player-allowed t.rounds p k.0 h.rounds k.1; short = omega arith })
            t.players (all-and (LawfulPlayer t.rounds) (λ (p : Player). AllOf GoodEntry p.entries) t.players h.players (entries-good t h))),
      ),
    )

-- ---- the file is these lines
abbrev ended_by : End → List ℕ → Line
ended_by e l = record { text = l; end = some e }

join_lines : (e : End) (ls : List (List ℕ)) → flat (λ line. line ++ end_bytes (some e)) ls ≡ joined (map (ended_by e) ls)
unfolding flat
join_lines e [] = refl
join_lines e (l ∷ ls) = append_assoc l (end_bytes (some e)) (flat (λ line. line ++ end_bytes (some e)) ls) ∙ ap (λ (r : List ℕ). l ++ (end_bytes (some e) ++ r)) (join_lines e ls)

pub clean_no_cr : (l : List ℕ) → all allowed l ≡ true → has_no_cr l ≡ true
clean_no_cr [] h = refl
clean_no_cr (c ∷ l) h =
    let k = and (allowed c) (all allowed l) h in
    let w = (within 32 255 c (and (between 32 255 c) (not (eqb c 127)) k.0).0).0 in
    both (ap not (ne_eqb c CR (λ e. omega arith))) (clean_no_cr l k.1)

no_lf : (e : End) (ls : List (List ℕ)) (is : List Item) → Each Good ls is → starts_with_lf (joined (map (ended_by e) ls)) ≡ false
no_lf e [] is h = refl
no_lf cr ([] ∷ ls) is h = refl
no_lf crlf ([] ∷ ls) is h = refl
no_lf e ((c ∷ l) ∷ ls) [] h = absurd h
no_lf e ((c ∷ l) ∷ ls) (i ∷ is) h =
    let k = and (allowed c) (all allowed l) h.0.clean in
    let w = (within 32 255 c (and (between 32 255 c) (not (eqb c 127)) k.0).0).0 in
    ne_eqb c LF (λ q. omega arith)

are-lines : (e : End) (ls : List (List ℕ)) (is : List Item) → Each Good ls is → AreLines (map (ended_by e) ls)
are-lines e [] is h = tt
are-lines e (l ∷ ls) [] h = absurd h
are-lines e (l ∷ ls) (i ∷ is) h = (clean_no_cr l h.0.clean, follows e (no_lf e ls is h.1), are-lines e ls is h.1)
  where
    follows : (e : End) → starts_with_lf (joined (map (ended_by e) ls)) ≡ false → Follows (some e) l (map (ended_by e) ls)
    follows cr f = f
    follows crlf f = tt

sound-lines : (e : End) (ls : List (List ℕ)) (is : List Item) → Each Good ls is → all is_sound (map (ended_by e) ls) ≡ true
sound-lines e [] is h = refl
sound-lines e (l ∷ ls) [] h = absurd h
sound-lines e (l ∷ ls) (i ∷ is) h = both (both (both h.0.clean refl) (le-leb (length l) most_line h.0.short)) (sound-lines e ls is h.1)

spelled-lines : (e : End) (ls : List (List ℕ)) (is : List Item) → Each Good ls is → Each SpellsLine (map (ended_by e) ls) is
spelled-lines e [] [] h = tt
spelled-lines e [] (i ∷ is) h = absurd h
spelled-lines e (l ∷ ls) [] h = absurd h
spelled-lines e (l ∷ ls) (i ∷ is) h = (h.0.spells, spelled-lines e ls is h.1)

-- ---- what the items say together
module _ {A : Type 0} (add : Item → List A) where
  -- what a list of items of one sort adds
  adds_none : {B : Type 0} (i : B → Item) → ((b : B) → add (i b) ≡ []) → (l : List B) → flat add (map i l) ≡ []
  unfolding flat
  adds_none i n [] = refl
  adds_none i n (b ∷ l) = ap₂ (λ (x y : List A). x ++ y) (n b) (adds_none i n l)

  adds_one : {B : Type 0} (i : B → Item) (f : B → A) → ((b : B) → add (i b) ≡ f b ∷ []) → (l : List B) → flat add (map i l) ≡ map f l
  unfolding flat
  adds_one i f n [] = refl
  adds_one i f n (b ∷ l) = ap₂ (λ (x y : List A). x ++ y) (n b) (adds_one i f n l)

  -- of all items of a tournament: part by part
  parts : (t : Tournament) → flat add (items_of t)
      ≡ flat add (map text t.text) ++ (add (rounds t.rounds) ++ (flat add (colour_items t.colour) ++ (add (scoring (stated t.scoring)) ++ (flat add (map acceleration t.accelerations) ++ flat add (map (λ p. player (line_of p)) t.players)))))
  unfolding items_of flat
  parts t =
      flat_append add (map text t.text) _
      ∙ ap (λ (x : List A). flat add (map text t.text) ++ (add (rounds t.rounds) ++ x))
      (flat_append add (colour_items t.colour) _
      ∙ ap (λ (x : List A). flat add (colour_items t.colour) ++ (add (scoring (stated t.scoring)) ++ x)) (flat_append add (map acceleration t.accelerations) (map (λ p. player (line_of p)) t.players)))

  no_colour : ((c : ℕ) → add (colour c) ≡ []) → (c : ℕ) → flat add (colour_items c) ≡ []
  unfolding flat
  no_colour n c = go (eqb c 0)
    where
      go : (b : Bool) → flat add (cond b [] (colour c ∷ [])) ≡ []
      go true = refl
      go false = ap (λ (x : List A). x ++ []) (n c)

map_same : {A : Type 0} (l : List A) → map (λ a. a) l ≡ l
map_same [] = refl
map_same (a ∷ l) = ap (λ (x : List _). a ∷ x) (map_same l)

module _ (t : Tournament) where
  texts : flat text_in (items_of t) ≡ t.text
  texts =
      parts text_in t
      ∙ rw (
        adds_one text_in text (λ a. a) (λ a. refl) t.text,
        map_same t.text,
        no_colour text_in (λ c. refl) t.colour,
        adds_none text_in acceleration (λ a. refl) t.accelerations,
        adds_none text_in (λ p. player (line_of p)) (λ a. refl) t.players,
      ) (append-nil t.text)

  all-rounds : flat rounds_in (items_of t) ≡ t.rounds ∷ []
  all-rounds =
      parts rounds_in t
      ∙ rw (
        adds_none rounds_in text (λ a. refl) t.text,
        no_colour rounds_in (λ c. refl) t.colour,
        adds_none rounds_in acceleration (λ a. refl) t.accelerations,
        adds_none rounds_in (λ p. player (line_of p)) (λ a. refl) t.players,
      ) refl

  scorings : flat scoring_in (items_of t) ≡ stated t.scoring ∷ []
  scorings =
      parts scoring_in t
      ∙ rw (
        adds_none scoring_in text (λ a. refl) t.text,
        no_colour scoring_in (λ c. refl) t.colour,
        adds_none scoring_in acceleration (λ a. refl) t.accelerations,
        adds_none scoring_in (λ p. player (line_of p)) (λ a. refl) t.players,
      ) refl

  colours : flat colour_in (items_of t) ≡ flat colour_in (colour_items t.colour)
  colours =
      parts colour_in t
      ∙ rw (
        adds_none colour_in text (λ a. refl) t.text,
        adds_none colour_in acceleration (λ a. refl) t.accelerations,
        adds_none colour_in (λ p. player (line_of p)) (λ a. refl) t.players,
      ) (append-nil (flat colour_in (colour_items t.colour)))

  accelerations : flat acceleration_in (items_of t) ≡ t.accelerations
  accelerations =
      parts acceleration_in t
      ∙ rw (
        adds_none acceleration_in text (λ a. refl) t.text,
        no_colour acceleration_in (λ c. refl) t.colour,
        adds_one acceleration_in acceleration (λ a. a) (λ a. refl) t.accelerations,
        map_same t.accelerations,
        adds_none acceleration_in (λ p. player (line_of p)) (λ a. refl) t.players,
      ) (append-nil t.accelerations)

  players : flat player_in (items_of t) ≡ map line_of t.players
  players =
      parts player_in t
      ∙ rw (
        adds_none player_in text (λ a. refl) t.text,
        no_colour player_in (λ c. refl) t.colour,
        adds_none player_in acceleration (λ a. refl) t.accelerations,
        adds_one player_in (λ p. player (line_of p)) line_of (λ a. refl) t.players,
      ) refl

colour-said : (c : ℕ) → (only_or 0 (flat colour_in (colour_items c)) ≡ c) × (at_most_one (flat colour_in (colour_items c)) ≡ true)
unfolding flat
colour-said c = go (eqb c 0) refl
  where
    go : (b : Bool) → eqb c 0 ≡ b → (only_or 0 (flat colour_in (cond b [] (colour c ∷ []))) ≡ c) × (at_most_one (flat colour_in (cond b [] (colour c ∷ []))) ≡ true)
    go true e = (sym (eqb-true c 0 e), refl)
    go false e = (refl, refl)

rounds-said : (t : Tournament) → rounds_of (items_of t) ≡ t.rounds
unfolding rounds_of
rounds-said t = rw (all-rounds t) refl

said : (t : Tournament) → Lawful t → tournament_of (items_of t) ≡ t
unfolding tournament_of scoring_of
said t h = λ i.
    record {
      text = texts t i;
      rounds = rounds-said t i;
      colour = (ap (only_or 0) (colours t) ∙ (colour-said t.colour).0) i;
      scoring = ap (λ (g : List (List (ℕ × ℕ))). scoring_of (only_or [] g)) (scorings t) i;
      accelerations = accelerations t i;
      players = (ap₂ (λ (R : ℕ) (l : List PlayerLine). map (player_of R) l) (rounds-said t) (players t) ∙ again t.players h.players (entries-good t h)) i;
    }
  where
    again : (ps : List Player) → AllOf (LawfulPlayer t.rounds) ps → AllOf (λ (p : Player). AllOf GoodEntry p.entries) ps → map (player_of t.rounds) (map line_of ps) ≡ ps
    again [] k g = refl
    again (p ∷ ps) k g = ap₂ (λ (x : Player) (l : List Player). x ∷ l) (player-again t.rounds p k.0 h.rounds g.0) (again ps k.1 g.1)

-- ---- no entry past the last round
past_same : {A : Type 0} (d : A) (xs : List A) (n i : ℕ) → length xs ≤ i → get_or (xs ++ replicate n d) i d ≡ d
past_same d [] zero zero l = refl
past_same d [] zero (suc i) l = refl
past_same d [] (suc n) zero l = refl
past_same d [] (suc n) (suc i) l = past_same d [] n i (omega arith)
past_same d (x ∷ xs) n zero l = absurd (omega arith)
past_same d (x ∷ xs) n (suc i) l = past_same d xs n i (omega arith)

unused : (p : Player) (R r : ℕ) → length p.entries ≡ R → R < r → (slot_at r (line_of p)).used ≡ false
unfolding line_of
unused p R r n l =
    let m = length-map p.entries slot_for in
    ap (λ (s : Slot). s.used) (past_same no_slot (map slot_for p.entries) (most_rounds - length p.entries) (r - 1) (omega arith))

past-blank : (t : Tournament) → Lawful t → (place r : ℕ) → place < length (flat player_in (items_of t)) → 1 ≤ r → r ≤ most_rounds → is_past (items_of t) place r ≡ false
unfolding is_past
past-blank t h place r l a b = go (ltb (rounds_of (items_of t)) r) refl
  where
    go : (v : Bool) → ltb (rounds_of (items_of t)) r ≡ v → v && (slot_at r (get_or (flat player_in (items_of t)) place no_line)).used ≡ false
    go false e = refl
    go true e =
        let m = ltb-true (rounds_of (items_of t)) r e in
        let n = rounds-said t in
        let k : AllOf (λ (q : PlayerLine). (slot_at r q).used ≡ false) (map line_of t.players) =
        all_of_map (λ (q : PlayerLine). (slot_at r q).used ≡ false) line_of t.players (all_of_each (LawfulPlayer t.rounds) (λ p. (slot_at r (line_of p)).used ≡ false) (λ p q. unused p t.rounds r q.entries (omega arith)) t.players h.players) in
        all_of_at (λ (q : PlayerLine). (slot_at r q).used ≡ false) no_line (flat player_in (items_of t)) (subst (AllOf (λ (q : PlayerLine). (slot_at r q).used ≡ false)) (sym (players t)) k) place l

-- ---- demand 3, its last sentence: what the writer produces is one of the tournament's spellings
pub written-spells : (e : End) (t : Tournament) → Lawful t → SpellsFile (written e t) t
unfolding written
written-spells e t h =
    let g = lines-good t h in
    let ls = written_lines t in
    record {
      lines = map (ended_by e) ls;
      are = record { bytes = join_lines e ls; are = are-lines e ls (items_of t) g };
      sound = sound-lines e ls (items_of t) g;
      items = items_of t;
      spelled = spelled-lines e ls (items_of t) g;
      once = both (both (ap at_most_one (all-rounds t)) (ap at_most_one (colours t) ∙ (colour-said t.colour).1)) (ap at_most_one (scorings t));
      none_past_lem = past-blank t h;
      tournament = sym (said t h);
    }
