-- From what the calls of the core tell to the statement's relation, over the acceleration records that are lent. Assumes nothing.
use mathlib.Core.Path.{◌≡◌, refl, sym, ap, ◌∙◌, subst}
use mathlib.Core.Bool.{Bool, true, false}
use mathlib.Core.List.{List, ◌++◌, map}
use Prim.Native.Nat.{ℕ, ◌<◌}
use native.Mathlib.Nat.{zero-add}
use native.Mathlib.Omega.{arith}
use lib.ListN.{length, take}
use Rattle.kit.specs.Lists.{flat}
use Rattle.types.specs.declared.Acceleration.{Acceleration}
use Rattle.types.specs.declared.Answer.{Answer}
use Rattle.types.specs.declared.Written.{Written}
use Rattle.law.specs.Tables.{Tables, are_long, enough}
use Rattle.law.specs.Refusals.{refusal, no_refusal}
use Rattle.law.specs.Lines.{End}
use Rattle.law.specs.Writing.{acceleration_line, player_line, written}
use Rattle.law.specs.Calls.{written_answer, Writes}
use Rattle.texts.specs.Kept.{Told}
use Rattle.readings.specs.Good.{GoodReading}
use Rattle.readings.specs.Held.{held}
use Rattle.readings.proofs.Answers.{write_short, write_unread, write_room, write_whole}
use Rattle.lawful.specs.Given.{Given, over, rooms_by}
use Rattle.lawful.proofs.Lent.{lent-short, lent-long, first-records, lent-good, lent_bad}
use Rattle.puts.specs.Puts.{Puts}
use Rattle.puts.specs.Ends.{as_end, ended_by, relined}
use Rattle.puts.specs.declared.Terminator.{Terminator}
use Rattle.puts.proofs.Puts.{puts_as, puts_holds}
use Rattle.player_lines.specs.Rows.{seven_of, players_in}
use Rattle.writer.specs.Report.{Fit, heads_text, report_text, report_wide}
use Rattle.writer.proofs.Report.{good_fit, report_is, report_wide_lem}

-- by the answer's name
writes_as : {end : End} {a : Answer} {t : Tables} {x y : List ℕ} {r u : Written} → r ≡ u → Writes end a t x u y → Writes end a t x r y
writes_as {end} {a} {t} {x} {y} e h = subst (λ (v : Written). Writes end a t x v y) (sym e) h

-- ---- a call's parts: t has the array in place of the lent records
module _ (a : Answer) (t : Tables) (n : ℕ) (records : List Acceleration) (given : Given n t.accelerations records) where
  abbrev s : Tables
  s = over t records

  -- ---- 1
  pub core_short : (end : End) → are_long (rooms_by t n) ≡ false → {out : List ℕ} {r : Written} → r ≡ written_answer (refusal 1 0 0) 0 → Writes end a s out r out
  core_short end e {out} q = writes_as q (write_short a s end (lent-short t n records given e) out)

  module _ (e : are_long (rooms_by t n) ≡ true) {d : Bool} (told : Told (GoodReading a t) d) where
    long : enough s ≡ true
    long = lent-long t n records given e

    same_report : Fit a → (end : Terminator) → report_text a t end ≡ report_text a s end
    unfolding report_text
    same_report f end =
        ap
        (λ (l : List Acceleration). relined end (take a.text t.text) ++ (heads_text a.rounds a.colour a.values end ++ (flat (ended_by end) (map acceleration_line l) ++ flat (ended_by end) (map player_line (players_in (seven_of t) a.rounds a.players)))))
        (first-records t n records given e a.accelerations f.accelerations)

    -- ---- 18
    pub core_unread : (end : End) → d ≡ false → {out : List ℕ} {r : Written} → r ≡ written_answer (refusal 18 0 0) 0 → Writes end a s out r out
    core_unread end f {out} q = writes_as q (write_unread a s long (lent_bad t n records given e told f) end out)

    -- the terminator that the code is told, and the statement's
    module _ (h : d ≡ true) (ending : Terminator) (end : End) (same : as_end ending ≡ end) where
      good : GoodReading a s
      good = lent-good t n records given e told h

      wide : length (written end (held a s good.tables.text.lines)) ≡ report_wide a t.text ending
      wide = ap (λ (v : End). length (written v (held a s good.tables.text.lines))) (sym same) ∙ report_wide_lem a s long good ending

      -- ---- 19
      pub core_room : {out : List ℕ} {w : ℕ} {r : Written} → w ≡ report_wide a t.text ending → length out < w → r ≡ written_answer (refusal 19 0 0) 0 → Writes end a s out r out
      core_room {out} {w} f l q = writes_as q (write_room a s long good end out (let k = wide in omega arith))

      -- ---- the bytes, and their length
      pub core_whole : {out out' : List ℕ} {next : ℕ} {r : Written} → Puts (report_text a t ending) (report_wide a t.text ending) 0 out out' next → r ≡ written_answer no_refusal next → Writes end a s out r out'
      core_whole {out} {out'} {next} {r} p q =
          let bytes = same_report (good_fit good) ending ∙ report_is a s long good ending ∙ ap (λ (v : End). written v (held a s good.tables.text.lines)) same in
          let put = puts_as bytes (sym wide) refl p in
          writes_as (q ∙ ap (written_answer no_refusal) (put.ends ∙ zero-add _)) (write_whole a s long good end out out' (let l = put.room in omega arith) (puts_holds put))
