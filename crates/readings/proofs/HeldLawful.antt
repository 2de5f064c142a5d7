-- Good answers and tables are the reading of the tournament that they hold, and it is lawful. Assumes nothing.
use mathlib.Core.Path.{◌≡◌, refl, sym, ap, ◌∙◌, subst}
use mathlib.Core.Bool.{true, false, not}
use mathlib.Core.Option.{none}
use mathlib.Core.List.{List, [], ◌∷◌, map}
use Prim.Native.Nat.{ℕ, zero, suc, ◌≤◌, ◌<◌}
use native.Mathlib.Omega.{arith}
use lib.Dec.{leb}
use lib.ListN.{length, get_or, take}
use lib.Seq.{length-take-le, get_or-take}
use Rattle.kit.specs.Lists.{all, is_empty, each_after, from, flat}
use Rattle.kit.specs.First.{AllOf}
use Rattle.kit.proofs.Firsts.{all_of_map}
use Rattle.kit.proofs.Lists.{all_from}
use Rattle.kit.proofs.Tables.{holds_same}
use Rattle.types.specs.declared.Answer.{Answer}
use Rattle.law.specs.Sizes.{most_players, most_rounds, most_accelerations, most_text, most_points}
use Rattle.law.specs.Text.{ended}
use Rattle.law.specs.Scoring.{values, letters}
use Rattle.law.specs.Accelerations.{is_acceleration}
use Rattle.law.specs.Tournament.{Player, Tournament}
use Rattle.law.specs.Entries.{player_at, Law, keeps, states_sum}
use Rattle.law.specs.Lawful.{LawfulPlayer, Sits, is_taken, no_acceleration, shares_earlier, Lawful}
use Rattle.law.specs.Tables.{Tables, enough, cells_of, content_of, HoldAll, answer_of}
use Rattle.law.proofs.ReadsOnce.{Rooms, rooms-are}
use Rattle.join.specs.Grid.{first_from}
use Rattle.join.specs.Check.{entry_cell, wrong_sum}
use Rattle.written.proofs.Readings.{Has}
use Rattle.texts.specs.Kept.{KeptText}
use Rattle.readings.specs.Good.{GoodAnswer, GoodTables, GoodReading}
use Rattle.readings.specs.Held.{scoring_by, held_player, held}
use Rattle.readings.proofs.Listed.{at_all, taken_at}
use Rattle.readings.proofs.Laws.{laws-keep, sums-state, none-shared, new_differ}
use Rattle.readings.proofs.HeldPlayers.{kept_wide, entries-long, player_at_lem, number-held, kept-held, entry-held}
use Rattle.readings.proofs.HeldPlayers as held_players

-- ---- the six values
pub values_are : (v : List ℕ) → length v ≡ length letters → values (scoring_by v) ≡ v
values_are v e = go v e
  where
    go : (v : List ℕ) → length v ≡ 6 → values (scoring_by v) ≡ v
    go [] e = absurd (omega arith)
    go (a ∷ []) e = absurd (omega arith)
    go (a ∷ b ∷ []) e = absurd (omega arith)
    go (a ∷ b ∷ c ∷ []) e = absurd (omega arith)
    go (a ∷ b ∷ c ∷ d ∷ []) e = absurd (omega arith)
    go (a ∷ b ∷ c ∷ d ∷ f ∷ []) e = absurd (omega arith)
    go (a ∷ b ∷ c ∷ d ∷ f ∷ g ∷ []) e = refl
    go (a ∷ b ∷ c ∷ d ∷ f ∷ g ∷ h ∷ v) e = absurd (omega arith)

module _ (a : Answer) (t : Tables) (long : enough t ≡ true) (g : GoodReading a t) (k : KeptText (take a.text t.text)) where
  abbrev u : Tournament
  u = held a t k.lines

  abbrev ga : GoodAnswer a
  ga = g.answer

  abbrev gt : GoodTables a t
  gt = g.tables

  room : Rooms t
  room = rooms-are t long

  -- ---- the counts
  text-long : length (flat ended k.lines) ≡ a.text
  text-long = let r = room.text in let f = ga.text_fits in ap length (sym k.are) ∙ length-take-le a.text t.text (omega arith)

  accelerations-long : length u.accelerations ≡ a.accelerations
  unfolding held
  accelerations-long = let r = room.accelerations in let f = ga.accelerations_fit in length-take-le a.accelerations t.accelerations (omega arith)

  players-long : length u.players ≡ a.players
  unfolding held
  players-long = held_players.players-long a.rounds t a.players

  values-held : values u.scoring ≡ a.values
  unfolding held
  values-held = values_are a.values ga.six

  -- ---- the reading
  says : a ≡ answer_of u
  unfolding answer_of held
  says = λ i.
      record {
        number = ga.number i;
        line = record { 0 = ga.line i };
        round = ga.round i;
        players = sym players-long i;
        rounds = a.rounds;
        accelerations = sym accelerations-long i;
        text = sym text-long i;
        colour = a.colour;
        values = sym values-held i;
      }

  holds : HoldAll (content_of u) t t
  unfolding content_of held entry_cell
  holds =
      let n : ℕ = a.players in
      let R : ℕ = a.rounds in
      record {
        starts = number-held R t n (λ p. p.start) t.starts refl (λ p. refl) gt.starts_rest;
        points = number-held R t n (λ p. p.points) t.points refl (λ p. refl) gt.points_rest;
        ranks = number-held R t n (λ p. p.rank) t.ranks refl (λ p. refl) gt.ranks_rest;
        kept = kept-held R t n room ga.players_fit gt.kept_rest;
        opponents = entry-held R t n (λ e. e.id) t.opponents refl (λ p r. refl) gt.opponents_rest;
        colours = entry-held R t n (λ e. e.colour) t.colours refl (λ p r. refl) gt.colours_rest;
        results = entry-held R t n (λ e. e.result) t.results refl (λ p r. refl) gt.results_rest;
        text =
            holds_same 0 most_text (cells_of (flat ended k.lines)) t.text
            (λ i l. taken_at 0 a.text most_text t.text (let r = room.text in let f = ga.text_fits in omega arith) gt.text_rest i l ∙ ap (λ (b : List ℕ). get_or b i 0) k.are);
        accelerations =
            holds_same no_acceleration most_accelerations (λ i. get_or (take a.accelerations t.accelerations) i no_acceleration) t.accelerations
            (taken_at no_acceleration a.accelerations most_accelerations t.accelerations (let r = room.accelerations in let f = ga.accelerations_fit in omega arith) gt.accelerations_rest);
      }

  pub held_has : Has u a t
  held_has = record { long = long; says = says; holds = holds }

  -- ---- each part is lawful
  players_lawful : AllOf (LawfulPlayer a.rounds) (map (held_player a.rounds t) (from 0 a.players))
  players_lawful =
      all_of_map (LawfulPlayer a.rounds) (held_player a.rounds t) (from 0 a.players)
      (all_from (λ p. LawfulPlayer a.rounds (held_player a.rounds t p)) 0 a.players
      (λ p _ l.
      let m : p < a.players = omega arith in
      let q = gt.player p m in
      record {
        start = q.start;
        points = q.points;
        rank = q.rank;
        kept_wide = let f = ga.players_fit in kept_wide t room p (omega arith);
        kept_clean = q.clean;
        kept = q.kept;
        entries = entries-long a.rounds t p;
      }))

  accelerations-good : all is_acceleration u.accelerations ≡ true
  unfolding held
  accelerations-good =
      let n = accelerations-long in
      at_all no_acceleration is_acceleration (take a.accelerations t.accelerations)
      (λ j l. let m : j < a.accelerations = omega arith in subst (λ x. is_acceleration x ≡ true) (sym (get_or-take a.accelerations t.accelerations j no_acceleration m)) (gt.acceleration j m))

  someone : (n : ℕ) → 1 ≤ n → is_empty (map (held_player a.rounds t) (from 0 n)) ≡ false
  someone zero l = absurd (omega arith)
  someone (suc n) l = refl

  few : length u.players ≤ most_players
  few = let e = players-long in let f = ga.players_fit in omega arith

  short : length u.accelerations ≤ most_accelerations
  short = let e = accelerations-long in let f = ga.accelerations_fit in omega arith

  small : u.rounds ≤ most_rounds
  unfolding held
  small = ga.rounds_fit

  entries-wide : (p : ℕ) → p < length u.players → length (player_at u p).entries ≡ u.rounds
  unfolding held
  entries-wide p l =
      let e = players-long in
      ap (λ (q : Player). length q.entries) (player_at_lem a.rounds t a.players p (omega arith))
      ∙ entries-long a.rounds t p

  apart : (j : ℕ) → j < length u.accelerations → shares_earlier u.accelerations j ≡ false
  apart = none-shared u t few holds short (rw accelerations-long gt.apart)

  differ : each_after (λ before p. not (is_taken before p)) [] u.players ≡ true
  differ = new_differ u t few holds (λ p l. let e = players-long in (gt.player p (omega arith)).new)

  keep : (law : Law) (place r : ℕ) → Sits u place r → keeps u law place r ≡ true
  unfolding held
  keep law = laws-keep u t few holds small law (rw players-long (gt.laws law))

  no_wrong_sum : first_from (wrong_sum a.values t.points t.results u.rounds) 0 a.players ≡ none
  unfolding held
  no_wrong_sum = gt.sums

  sums : (place : ℕ) → place < length u.players → states_sum u place ≡ true
  sums = sums-state u t few holds small entries-wide (rw (values-held, players-long) no_wrong_sum)

  pub held_lawful : Lawful u
  unfolding held
  held_lawful =
      record {
        text = k.good;
        text_once = k.once;
        text_fits = let e = text-long in let f = ga.text_fits in omega arith;
        named = k.named;
        rounds = ga.rounds_fit;
        colour = ga.colour;
        scoring = subst (λ v. all (λ x. leb x most_points) v ≡ true) (sym values-held) ga.small;
        accelerations = accelerations-good;
        accelerations_fit = short;
        accelerations_apart = apart;
        players = players_lawful;
        players_there = someone a.players ga.players_there;
        players_fit = few;
        players_differ = differ;
        entries = keep;
        sums = sums;
      }
