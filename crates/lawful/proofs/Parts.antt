-- The parts of a reading, put together. Assumes nothing.
use mathlib.Core.Path.{◌≡◌, refl, sym, ◌∙◌}
use mathlib.Core.Bool.{Bool, not}
use mathlib.Core.Option.{Option, none, some}
use mathlib.Core.List.{List}
use Prim.Native.Nat.{ℕ, ◌*◌}
use borrow.Author.Tests.{not-true, not-false}
use Rattle.std.specs.Prelude.{is_some}
use Rattle.kit.proofs.Bools.{clash}
use Rattle.kit.proofs.Decided.{no_some}
use Rattle.types.specs.declared.Acceleration.{Acceleration}
use Rattle.types.specs.declared.Answer.{Answer}
use Rattle.law.specs.Sizes.{most_rounds}
use Rattle.tables.specs.declared.lent.Tables.{Tables}
use Rattle.turns.specs.Found.{as_found_record}
use Rattle.checks.proofs.Kept.{first_in}
use Rattle.texts.specs.Kept.{Told}
use Rattle.readings.specs.Good.{nine_of, GoodAnswer, GoodReading}
use Rattle.lawful.specs.Given.{tables_in}
use Rattle.lawful.specs.Parts.{Holds}

-- a search for a record: whether it found none
pub told_found : (o : Option ℕ) {r : Bool} → not r ≡ is_some (as_found_record o) → Told (o ≡ none) r
told_found none {r} e = record { sound = λ _. refl; complete = λ _. not-false r e }
told_found (some j) {r} e = record { sound = λ h. clash (sym (not-true r e) ∙ h); complete = λ z. absurd (no_some (sym z)) }

module _ {a : Answer} {t : Tables} {records : List Acceleration} where
  pub parts-reading : GoodAnswer a → Holds a t records → GoodReading a (tables_in t records)
  parts-reading g h =
      record {
        answer = g;
        tables =
            record {
              starts_rest = h.own_rest.starts_rest;
              points_rest = h.own_rest.points_rest;
              ranks_rest = h.own_rest.ranks_rest;
              kept_rest = h.own_rest.kept_rest;
              opponents_rest = h.entries_rest.opponents_rest;
              colours_rest = h.entries_rest.colours_rest;
              results_rest = h.entries_rest.results_rest;
              text_rest = h.text.rest;
              accelerations_rest = h.accelerations.rest;
              text = h.text.kept;
              player = λ p l. let k = h.own.columns p l in record { start = h.own.started p l; points = h.own.stated p l; rank = h.own.ranked p l; clean = k.clean; kept = k.spelled; new = h.whole.new p l };
              acceleration = h.accelerations.each;
              apart = h.accelerations.apart;
              laws = λ law. sym (first_in law a.players a.rounds (nine_of (tables_in t records)) (a.players * most_rounds)) ∙ h.whole.laws law;
              sums = h.whole.sums;
            };
      }

  pub reading-parts : GoodReading a (tables_in t records) → Holds a t records
  reading-parts g =
      let h = g.tables in
      record {
        own =
            record {
              started = λ p l. (h.player p l).start;
              stated = λ p l. (h.player p l).points;
              ranked = λ p l. (h.player p l).rank;
              columns = λ p l. let q = h.player p l in record { clean = q.clean; spelled = q.kept };
            };
        own_rest = record { starts_rest = h.starts_rest; points_rest = h.points_rest; ranks_rest = h.ranks_rest; kept_rest = h.kept_rest };
        entries_rest = record { opponents_rest = h.opponents_rest; colours_rest = h.colours_rest; results_rest = h.results_rest };
        text = record { kept = h.text; rest = h.text_rest };
        accelerations = record { each = h.acceleration; apart = h.apart; rest = h.accelerations_rest };
        whole =
            record {
              new = λ p l. (h.player p l).new;
              laws = λ law. first_in law a.players a.rounds (nine_of (tables_in t records)) (a.players * most_rounds) ∙ h.laws law;
              sums = h.sums;
            };
      }
