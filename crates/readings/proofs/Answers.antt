-- From good cells, or cells that are not, to what the writer's and the question's relations permit. Assumes nothing.
use mathlib.Core.Path.{◌≡◌, refl, sym, ap, ap₂, ◌∙◌, subst}
use mathlib.Core.Bool.{true, false}
use mathlib.Core.List.{List, [], ◌∷◌}
use Prim.Native.Nat.{ℕ, ◌+◌, ◌-◌, ◌≤◌, ◌<◌}
use native.Mathlib.Omega.{arith}
use lib.ListN.{length, get_or, take}
use lib.Seq.{length-take-le, get_or-take}
use Rattle.kit.specs.Lists.{first}
use Rattle.kit.specs.Table.{Holds}
use Rattle.kit.proofs.Bools.{clash}
use Rattle.types.specs.declared.Answer.{Answer}
use Rattle.types.specs.declared.Place.{Place}
use Rattle.law.specs.Scoring.{values}
use Rattle.law.specs.Accelerations.{covers}
use Rattle.law.specs.Tournament.{Entry, Player, Tournament}
use Rattle.law.specs.Entries.{no_entry, worth, earned, player_at}
use Rattle.law.specs.Lawful.{Lawful}
use Rattle.law.specs.Tables.{Tables, cell_of, enough}
use Rattle.law.specs.Refusals.{no_refusal}
use Rattle.law.specs.Writing.{written, earned_before, points_or0, acceleration_for}
use Rattle.law.specs.Lines.{End, cr}
use Rattle.law.specs.Calls.{Reading, denial_of, tables-short, no_reading, out_short, no_place, NoReading, OutShort, NoPlace, written_answer, Writes, write_refused, write_done, score_answer, Asks, ask_refused, ask_done}
use Rattle.written.proofs.Readings.{has_reading, one_reading}
use Rattle.join.specs.Check.{worth_by, sum_at, entry_cell}
use Rattle.join.proofs.Firsts.{sum_at_lem}
use Rattle.readings.specs.Good.{GoodReading, nine_of}
use Rattle.readings.specs.Held.{held, held_player, held_entries}
use Rattle.readings.proofs.HeldPlayers.{entries-long, entry_at, players-long, player_at_lem}
use Rattle.readings.proofs.HeldLawful.{values_are}
use Rattle.readings.proofs.Whole.{good_has, no_good}

module _ (a : Answer) (t : Tables) where
  -- ---- 1
  pub write_short : (end : End) → enough t ≡ false → (out : List ℕ) → Writes end a t out (written_answer (denial_of tables-short) 0) out
  write_short end e out =
      write_refused
      (record {
        denial = tables-short;
        first = record { before = []; after = no_reading ∷ out_short ∷ []; stands = refl; none_before = tt; holds = e };
        says = refl;
        untouched = refl;
      })

  pub ask_short : enough t ≡ false → (place : Place) (round : ℕ) → Asks a t place round (score_answer (denial_of tables-short) 0 0)
  ask_short e place round =
      ask_refused (record { denial = tables-short; first = record { before = []; after = no_reading ∷ no_place ∷ []; stands = refl; none_before = tt; holds = e }; says = refl })

  module _ (long : enough t ≡ true) where
    not_short : enough t ≡ false → ⊥
    not_short e = clash (sym e ∙ long)

    -- ---- 18
    module _ (bad : GoodReading a t → ⊥) where
      pub write_unread : (end : End) (out : List ℕ) → Writes end a t out (written_answer (denial_of no_reading) 0) out
      write_unread end out =
          write_refused
          (record {
            denial = no_reading;
            first = record { before = tables-short ∷ []; after = out_short ∷ []; stands = refl; none_before = (not_short, tt); holds = (no_good a t long).1 bad };
            says = refl;
            untouched = refl;
          })

      pub ask_unread : (place : Place) (round : ℕ) → Asks a t place round (score_answer (denial_of no_reading) 0 0)
      ask_unread place round =
          ask_refused
          (record {
            denial = no_reading;
            first = record { before = tables-short ∷ []; after = no_place ∷ []; stands = refl; none_before = (not_short, tt); holds = (no_good a t long).1 bad };
            says = refl;
          })

    -- ---- a reading: the tournament that the cells hold
    module _ (g : GoodReading a t) where
      abbrev u : Tournament
      u = held a t g.tables.text.lines

      lawful : Lawful u
      lawful = (good_has a t long g).0

      reading : Reading a t (written cr u) u
      reading = has_reading a t u lawful (good_has a t long g).1

      not_unread : NoReading a t → ⊥
      not_unread n = n (written cr u) u reading

      -- every reading is of that tournament
      same_as : {file : List ℕ} {s : Tournament} → Reading a t file s → s ≡ u
      same_as {file} {s} r = one_reading a t file (written cr u) s u r reading

      -- ---- 19
      pub write_room : (end : End) (out : List ℕ) → length out < length (written end u) → Writes end a t out (written_answer (denial_of out_short) 0) out
      write_room end out l =
          write_refused
          (record {
            denial = out_short;
            first =
                record {
                  before = tables-short ∷ no_reading ∷ [];
                  after = [];
                  stands = refl;
                  none_before = (not_short, (not_unread, tt));
                  holds = record { file = written cr u; t = u; reading = reading; short = l };
                };
            says = refl;
            untouched = refl;
          })

      pub write_whole : (end : End) (out out' : List ℕ) → length (written end u) ≤ length out → Holds 0 (length (written end u)) (λ i. get_or (written end u) i 0) out out'
          → Writes end a t out (written_answer no_refusal (length (written end u))) out'
      write_whole end out out' l h =
          write_done
          (record {
            no_denial = (not_short, (not_unread, (not-room, tt)));
            file = written cr u;
            t = u;
            reading = reading;
            says = refl;
            bytes = h;
          })
        where
          not-room : OutShort end a t (length out) → ⊥
          not-room s = let k = subst (λ (v : Tournament). length out < length (written end v)) (same_as s.reading) s.short in omega arith

      -- ---- 20
      module _ (place : Place) (round : ℕ) where
        players_are : length u.players ≡ a.players
        unfolding held
        players_are = players-long a.rounds t a.players

        rounds_are : u.rounds ≡ a.rounds
        unfolding held
        rounds_are = refl

        pub ask_outside : ((place.0 < a.players) × (1 ≤ round) × (round ≤ a.rounds) → ⊥) → Asks a t place round (score_answer (denial_of no_place) 0 0)
        ask_outside n =
            ask_refused
            (record {
              denial = no_place;
              first =
                  record {
                    before = tables-short ∷ no_reading ∷ [];
                    after = [];
                    stands = refl;
                    none_before = (not_short, (not_unread, tt));
                    holds =
                        record {
                          file = written cr u;
                          t = u;
                          reading = reading;
                          outside = λ w. n (subst (λ (m : ℕ). place.0 < m) players_are w.0, w.1, subst (λ (m : ℕ). round ≤ m) rounds_are w.2);
                        };
                  };
              says = refl;
            })

        -- ---- the sum earned before the round, and the acceleration for it
        module _ (in_place : place.0 < a.players) (low : 1 ≤ round) (high : round ≤ a.rounds) where
          player_is : player_at u place.0 ≡ held_player a.rounds t place.0
          unfolding held
          player_is = player_at_lem a.rounds t a.players place.0 in_place

          abbrev entries : List Entry
          entries = held_entries a.rounds t place.0

          scoring_is : values u.scoring ≡ a.values
          unfolding held
          scoring_is = values_are a.values g.answer.six

          earned_is : sum_at a.values t.results place.0 (round - 1) ≡ earned_before u place.0 round
          unfolding sum_at earned earned_before worth_by worth entry_cell
          earned_is =
              let n : length (take (round - 1) entries) ≡ round - 1 = length-take-le (round - 1) entries (let e = entries-long a.rounds t place.0 in omega arith) in
              ap (λ (v : List ℕ). sum_at v t.results place.0 (round - 1)) (sym scoring_is)
              ∙ ap (λ (k : ℕ). sum_at (values u.scoring) t.results place.0 k) (sym n)
              ∙ sum_at_lem (λ (e : Entry). worth u.scoring e.result) (λ j. worth_by (values u.scoring) (get_or t.results (cell_of place.0 (j + 1)) 0)) no_entry (take (round - 1) entries) 0
              (λ k l.
              let s : k + 1 - 1 ≡ k = omega arith in
              ap (λ (e : Entry). worth u.scoring e.result)
              (ap (entry_cell (nine_of t) place.0) (omega arith) ∙ sym (entry_at a.rounds t place.0 (k + 1) (omega arith) (omega arith)) ∙ ap (λ (j : ℕ). get_or entries j no_entry) s ∙ sym (get_or-take (round - 1) entries k no_entry (omega arith))))
              ∙ ap (λ (p : Player). earned u.scoring (take (round - 1) p.entries)) (sym player_is)

          added_is : points_or0 (first (covers (get_or t.starts place.0 0) round) (take a.accelerations t.accelerations)) ≡ acceleration_for u place.0 round
          unfolding acceleration_for held
          added_is = ap (λ (p : Player). points_or0 (first (covers p.start round) (take a.accelerations t.accelerations))) (sym player_is)

          pub ask_inside : Asks a t place round (score_answer no_refusal (sum_at a.values t.results place.0 (round - 1)) (points_or0 (first (covers (get_or t.starts place.0 0) round) (take a.accelerations t.accelerations))))
          ask_inside =
              ask_done
              (record {
                no_denial = (not_short, (not_unread, (not-outside, tt)));
                file = written cr u;
                t = u;
                reading = reading;
                says = ap₂ (score_answer no_refusal) earned_is added_is;
              })
            where
              not-outside : NoPlace a t place.0 round → ⊥
              not-outside s =
                  let e = same_as s.reading in
                  s.outside (subst (λ (m : ℕ). place.0 < m) (sym (ap (λ (v : Tournament). length v.players) e ∙ players_are)) in_place, low, subst (λ (m : ℕ). round ≤ m) (sym (ap (λ (v : Tournament). v.rounds) e ∙ rounds_are)) high)
