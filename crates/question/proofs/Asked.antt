-- From what the calls of the core tell to the statement's relation, over the acceleration records that are lent. Assumes nothing.
use mathlib.Core.Path.{◌≡◌, refl, sym, ap₂, ◌∙◌, subst}
use mathlib.Core.Bool.{Bool, true, false, ◌&&◌}
use mathlib.Core.List.{List}
use Prim.Native.Nat.{ℕ, ◌-◌, ◌≤◌, ◌<◌}
use lib.Dec.{leb, ltb}
use lib.ListN.{length, get_or, take}
use borrow.Author.Tests.{lt-ltb, le-leb, leb-true, ltb-true}
use Rattle.kit.specs.Lists.{first}
use Rattle.kit.proofs.Bools.{and, both, clash}
use Rattle.types.specs.declared.Acceleration.{Acceleration}
use Rattle.types.specs.declared.Answer.{Answer}
use Rattle.types.specs.declared.Place.{Place}
use Rattle.types.specs.declared.Score.{Score}
use Rattle.law.specs.Sizes.{most_accelerations}
use Rattle.law.specs.Accelerations.{covers}
use Rattle.law.specs.Tables.{Tables, are_long, enough}
use Rattle.law.specs.Refusals.{refusal, no_refusal}
use Rattle.law.specs.Writing.{points_or0}
use Rattle.law.specs.Calls.{score_answer, Asks}
use Rattle.join.specs.Check.{sum_at}
use Rattle.texts.specs.Kept.{Told}
use Rattle.readings.specs.Good.{GoodReading}
use Rattle.readings.proofs.Answers.{ask_short, ask_unread, ask_outside, ask_inside}
use Rattle.lawful.specs.Given.{Given, over, rooms_by}
use Rattle.lawful.proofs.Lent.{lent-long, first-records, lent-good, lent_bad}

asks_as : {a : Answer} {t : Tables} {place : Place} {round : ℕ} {r u : Score} → r ≡ u → Asks a t place round u → Asks a t place round r
asks_as {a} {t} {place} {round} e h = subst (λ (v : Score). Asks a t place round v) (sym e) h

-- ---- inside the tables and the rounds
abbrev pub is_inside : Answer → Place → ℕ → Bool
is_inside a place round = ltb place.0 a.players && (leb 1 round && leb round a.rounds)

inside : (a : Answer) (place : Place) (round : ℕ) → is_inside a place round ≡ true → (place.0 < a.players) × (1 ≤ round) × (round ≤ a.rounds)
inside a place round e =
    let k = and (ltb place.0 a.players) (leb 1 round && leb round a.rounds) e in
    let m = and (leb 1 round) (leb round a.rounds) k.1 in
    (ltb-true place.0 a.players k.0, leb-true 1 round m.0, leb-true round a.rounds m.1)

outside : (a : Answer) (place : Place) (round : ℕ) → is_inside a place round ≡ false → (place.0 < a.players) × (1 ≤ round) × (round ≤ a.rounds) → ⊥
outside a place round e w = clash (sym e ∙ both (lt-ltb place.0 a.players w.0) (both (le-leb 1 round w.1) (le-leb round a.rounds w.2)))

-- ---- 1
pub core_short : (a : Answer) (t : Tables) (place : Place) (round : ℕ) → are_long (rooms_by t (length t.accelerations)) ≡ false → {r : Score} → r ≡ score_answer (refusal 1 0 0) 0 0 → Asks a t place round r
unfolding enough
core_short a t place round e q = asks_as q (ask_short a t e place round)

-- ---- the rest of a call: all is the array that was taken of the lent records
module _ (a : Answer) (t : Tables) {all : List Acceleration} (taken : most_accelerations ≤ length t.accelerations → all ≡ take most_accelerations t.accelerations) (place : Place) (round : ℕ) (e : are_long (rooms_by t (length t.accelerations)) ≡ true)
    {b : Bool} (told : Told (GoodReading a (over t all)) b) where
  given : Given (length t.accelerations) all t.accelerations
  given = record { long = refl; firsts = taken }

  long : enough (over t t.accelerations) ≡ true
  long = lent-long (over t all) (length t.accelerations) t.accelerations given e

  -- 18
  pub core_unread : b ≡ false → {r : Score} → r ≡ score_answer (refusal 18 0 0) 0 0 → Asks a (over t t.accelerations) place round r
  core_unread f q = asks_as q (ask_unread a (over t t.accelerations) long (lent_bad (over t all) (length t.accelerations) t.accelerations given e told f) place round)

  module _ (h : b ≡ true) where
    good : GoodReading a (over t t.accelerations)
    good = lent-good (over t all) (length t.accelerations) t.accelerations given e told h

    -- 20
    pub core_outside : is_inside a place round ≡ false → {r : Score} → r ≡ score_answer (refusal 20 0 0) 0 0 → Asks a (over t t.accelerations) place round r
    core_outside f q = asks_as q (ask_outside a (over t t.accelerations) long good place round (outside a place round f))

    -- the sum and the acceleration; start: what stands at the place
    pub core_inside : is_inside a place round ≡ true → {sum added start : ℕ} → sum ≡ sum_at a.values t.results place.0 (round - 1) → start ≡ get_or t.starts place.0 0
        → added ≡ points_or0 (first (covers start round) (take a.accelerations all)) → Asks a (over t t.accelerations) place round (score_answer no_refusal sum added)
    core_inside i p s q =
        let w = inside a place round i in
        let records = first-records (over t all) (length t.accelerations) t.accelerations given e a.accelerations good.answer.accelerations_fit in
        asks_as (ap₂ (score_answer no_refusal) p (q ∙ ap₂ (λ (v : ℕ) (l : List Acceleration). points_or0 (first (covers v round) l)) s records)) (ask_inside a (over t t.accelerations) long good place round w.0 w.1 w.2)
