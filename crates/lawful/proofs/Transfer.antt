-- The array of the first 32 acceleration records stands for the lent list: a reading is good by the one exactly where it is by the other. Assumes nothing.
use mathlib.Core.Path.{◌≡◌, sym, ap₂, ◌∙◌}
use mathlib.Core.List.{List}
use Prim.Native.Nat.{ℕ, ◌≤◌, ◌<◌}
use native.Mathlib.Omega.{arith}
use lib.ListN.{get_or}
use lib.Seq.{get_or-take}
use Rattle.types.specs.declared.Acceleration.{Acceleration}
use Rattle.types.specs.declared.Answer.{Answer}
use Rattle.law.specs.Sizes.{most_accelerations}
use Rattle.law.specs.Accelerations.{shares}
use Rattle.law.specs.Lawful.{no_acceleration}
use Rattle.join.specs.Check.{shared_record}
use Rattle.join.proofs.Firsts.{first_as, some_as}
use Rattle.readings.specs.Good.{GoodReading}
use Rattle.lawful.specs.Given.{tables_of, Given}

-- the records that a reading can have are the same in both
abbrev Same : List Acceleration → List Acceleration → Type 0
Same x y = (i : ℕ) → i < most_accelerations → get_or x i no_acceleration ≡ get_or y i no_acceleration

given-same : {n : ℕ} {all records : List Acceleration} → Given n all records → most_accelerations ≤ n → Same all records
given-same {n} {all} {records} g l i m = rw (g.firsts l) (get_or-take most_accelerations records i no_acceleration m)

shared_same : (x y : List Acceleration) → Same x y → (j : ℕ) → j < most_accelerations → shared_record x j ≡ shared_record y j
unfolding shared_record
shared_same x y e j l =
    some_as (λ i. shares (get_or x j no_acceleration) (get_or x i no_acceleration)) (λ i. shares (get_or y j no_acceleration) (get_or y i no_acceleration)) j
    (λ k m. ap₂ shares (e j l) (e k (omega arith)))

module _ {a : Answer} {s p r k o c e x : List ℕ} where
  carried : {v w : List Acceleration} → Same v w → GoodReading a (tables_of s p r k o c e x v) → GoodReading a (tables_of s p r k o c e x w)
  carried {v} {w} h g =
      let t = g.tables in
      let fit = g.answer.accelerations_fit in
      record {
        answer = g.answer;
        tables =
            record {
              starts_rest = t.starts_rest;
              points_rest = t.points_rest;
              ranks_rest = t.ranks_rest;
              kept_rest = t.kept_rest;
              opponents_rest = t.opponents_rest;
              colours_rest = t.colours_rest;
              results_rest = t.results_rest;
              text_rest = t.text_rest;
              accelerations_rest = λ i l m. sym (h i m) ∙ t.accelerations_rest i l m;
              text = t.text;
              player = λ q l. let y = t.player q l in record { start = y.start; points = y.points; rank = y.rank; clean = y.clean; kept = y.kept; new = y.new };
              acceleration = λ j l. rw (sym (h j (omega arith))) (t.acceleration j l);
              apart = sym (first_as (shared_record v) (shared_record w) 0 a.accelerations (λ j _ l. shared_same v w h j (omega arith))) ∙ t.apart;
              laws = t.laws;
              sums = t.sums;
            };
      }

  module _ {n : ℕ} {all records : List Acceleration} (given : Given n all records) where
    pub given-good : most_accelerations ≤ n → GoodReading a (tables_of s p r k o c e x all) → GoodReading a (tables_of s p r k o c e x records)
    given-good l g = carried (given-same given l) g

    pub good-given : most_accelerations ≤ n → GoodReading a (tables_of s p r k o c e x records) → GoodReading a (tables_of s p r k o c e x all)
    good-given l g = carried (λ i m. sym (given-same given l i m)) g
