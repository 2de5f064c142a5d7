-- What the demands say of every writing and every question: their numbers, their first denial, the bytes, the values. Assumes nothing.
use mathlib.Core.Path.{◌≡◌, refl, sym, ap, ap₂, ◌∙◌, subst}
use mathlib.Core.Logic.{◌↔◌}
use mathlib.Core.Bool.{true, false, cond}
use mathlib.Core.List.{List, [], ◌∷◌, ◌++◌}
use Prim.Native.Nat.{ℕ, ◌+◌, ◌-◌, ◌≤◌, ◌<◌}
use native.Mathlib.Omega.{arith}
use lib.Dec.{eqb}
use lib.ListN.{length, get_or, take, drop, length-drop, take-append-drop}
use lib.Seq.{get_or-drop, ext_get_or}
use Rattle.kit.specs.Lists.{among}
use Rattle.kit.specs.First.{FirstIn}
use Rattle.kit.specs.Table.{Holds}
use Rattle.kit.proofs.Bools.{clash}
use Rattle.kit.proofs.Firsts.{first_unique, none_first}
use Rattle.types.specs.declared.Answer.{Answer}
use Rattle.types.specs.declared.Written.{Written}
use Rattle.types.specs.declared.Score.{Score}
use Rattle.types.specs.declared.Place.{Place}
use Rattle.law.specs.Lines.{End}
use Rattle.law.specs.Tournament.{Tournament}
use Rattle.law.specs.Spelling.{SpellsFile}
use Rattle.law.specs.Tables.{Tables, Lent, enough}
use Rattle.law.specs.Refusals.{refusal, no_refusal}
use Rattle.law.specs.Writing.{written, longest, earned_before, acceleration_for}
use Rattle.law.specs.Calls.{Reads, Reading, Denial, tables-short, no_reading, out_short, no_place, denial_of, WriterDenies, writer_denials, written_answer, Writes, write_refused, write_done, QuestionDenies, question_denials, score_answer, Asks, ask_refused, ask_done}
use Rattle.law.proofs.TwoReadings.{one_tournament_a_reading}
use Rattle.written.proofs.Spelled.{written-spells}
use Rattle.written.proofs.Lengths.{written-long}
use Rattle.written.proofs.Readings.{reading_has, one_reading, accepted_read}
use Rattle.demands.proofs.ReadBack.{denial-number, bytes-are, fits, wrote}
use Rattle.demands.proofs.OfReadings.{read_held}

-- ---- the denials of writer and question, by their numbers
denial_by : ℕ → Denial
denial_by n = cond (eqb n 1) tables-short (cond (eqb n 18) no_reading (cond (eqb n 19) out_short no_place))

denial-again : (d : Denial) → denial_by (denial_of d).number ≡ d
unfolding denial_by
denial-again tables-short = refl
denial-again no_reading = refl
denial-again out_short = refl
denial-again no_place = refl

same-denial : (d e : Denial) → (denial_of d).number ≡ (denial_of e).number → d ≡ e
same-denial d e h = sym (denial-again d) ∙ ap denial_by h ∙ denial-again e

-- the first of three: 1, 18 and the call's own
module _ (P : Denial → Type 0) (last : Denial) where
  pub short-first : P tables-short → FirstIn P (tables-short ∷ no_reading ∷ last ∷ []) tables-short
  short-first h = record { before = []; after = no_reading ∷ last ∷ []; stands = refl; none_before = tt; holds = h }

  pub unread_first : (P tables-short → ⊥) → P no_reading → FirstIn P (tables-short ∷ no_reading ∷ last ∷ []) no_reading
  unread_first n h = record { before = tables-short ∷ []; after = last ∷ []; stands = refl; none_before = (n, tt); holds = h }

  pub last_first : (P tables-short → ⊥) → (P no_reading → ⊥) → P last → FirstIn P (tables-short ∷ no_reading ∷ last ∷ []) last
  last_first n m h = record { before = tables-short ∷ no_reading ∷ []; after = []; stands = refl; none_before = (n, (m, tt)); holds = h }

-- ---- bytes over what stood there
laid-over : (bytes before after : List ℕ) → length bytes ≤ length before → Holds 0 (length bytes) (λ i. get_or bytes i 0) before after → after ≡ bytes ++ drop (length bytes) before
laid-over bytes before after room h =
    let n = length bytes in
    let e : length (drop n after) ≡ length (drop n before) = length-drop n after ∙ ap (λ (m : ℕ). m - n) h.long ∙ sym (length-drop n before) in
    sym (take-append-drop n after)
    ∙ ap₂ (λ (x y : List ℕ). x ++ y) (bytes-are bytes before after room h)
    (ext_get_or 0 (drop n after) (drop n before) e (λ i l. get_or-drop n after i 0 ∙ h.rest (n + i) (omega arith) ∙ sym (get_or-drop n before i 0)))

module _ (end : End) (a : Answer) (tables : Tables) (before : List ℕ) (w : Written) (after : List ℕ) where
  abbrev Denies : Denial → Type 0
  Denies = WriterDenies end a tables (length before)

  writer_number : (d : Denial) → Denies d → among (denial_of d).number (0 ∷ 1 ∷ 18 ∷ 19 ∷ []) ≡ true
  writer_number tables-short h = refl
  writer_number no_reading h = refl
  writer_number out_short h = refl
  writer_number no_place h = absurd h

  pub write_number : Writes end a tables before w after → among w.number (0 ∷ 1 ∷ 18 ∷ 19 ∷ []) ≡ true
  unfolding written_answer
  write_number (write_refused r) = subst (λ (v : Written). among v.number (0 ∷ 1 ∷ 18 ∷ 19 ∷ []) ≡ true) (sym r.says) (writer_number r.denial r.first.holds)
  write_number (write_done r) = subst (λ (v : Written). among v.number (0 ∷ 1 ∷ 18 ∷ 19 ∷ []) ≡ true) (sym r.says) refl

  pub write_first : Writes end a tables before w after → 1 ≤ w.number → (d : Denial) × FirstIn Denies writer_denials d × (w ≡ written_answer (denial_of d) 0)
  unfolding written_answer
  write_first (write_refused r) n = (r.denial, r.first, r.says)
  write_first (write_done r) n = let e = ap (λ (v : Written). v.number) r.says in absurd (omega arith)

  pub write_untouched : Writes end a tables before w after → 1 ≤ w.number → after ≡ before
  unfolding written_answer
  write_untouched (write_refused r) n = r.untouched
  write_untouched (write_done r) n = let e = ap (λ (v : Written). v.number) r.says in absurd (omega arith)

  pub write_exactly : Writes end a tables before w after → (d : Denial) → (w ≡ written_answer (denial_of d) 0) ↔ FirstIn Denies writer_denials d
  unfolding written_answer
  write_exactly (write_refused r) d = (
    λ e. subst (FirstIn Denies writer_denials) (same-denial r.denial d (ap (λ (v : Written). v.number) (sym r.says ∙ e))) r.first,
    λ f. r.says ∙ ap (λ (d : Denial). written_answer (denial_of d) 0) (first_unique Denies r.first f),
  )
  write_exactly (write_done r) d = (
    λ e.
        let n = ap (λ (v : Written). v.number) (sym r.says ∙ e) in
        let m = denial-number d in
        absurd (omega arith),
    λ f. absurd (none_first Denies r.no_denial f),
  )

  pub write_short : Writes end a tables before w after → enough tables ≡ false → (w ≡ written_answer (refusal 1 0 0) 0) × (after ≡ before)
  unfolding written_answer
  write_short h e =
      let s = (write_exactly h tables-short).1 (short-first Denies out_short e) in
      (s, write_untouched h (let n = ap (λ (v : Written). v.number) s in omega arith))

  pub write_bytes : Writes end a tables before w after → w.number ≡ 0 → (file : List ℕ) × (t : Tournament) × Reading a tables file t
      × (w ≡ written_answer no_refusal (length (written end t))) × (after ≡ written end t ++ drop (length (written end t)) before)
  unfolding written_answer
  write_bytes (write_refused r) n =
      let e = ap (λ (v : Written). v.number) r.says in
      let m = denial-number r.denial in
      absurd (omega arith)
  write_bytes (write_done r) n =
      (r.file, r.t, r.reading, r.says, laid-over (written end r.t) before after (fits end a tables before w after r) r.bytes)

  -- given room, nothing denies a reading
  write_room : Writes end a tables before w after → (file : List ℕ) (t : Tournament) → Reading a tables file t → length (written end t) ≤ length before → w.number ≡ 0
  unfolding written_answer
  write_room (write_done r) file t k room = ap (λ (v : Written). v.number) r.says
  write_room (write_refused r) file t k room = absurd (go r.denial r.first.holds)
    where
      go : (d : Denial) → Denies d → ⊥
      go tables-short h = clash (sym h ∙ (reading_has a tables file t k).1.long)
      go no_reading h = h file t k
      go out_short h =
          let e = one_reading a tables h.file file h.t t h.reading k in
          let s = subst (λ (u : Tournament). length before < length (written end u)) e h.short in
          omega arith
      go no_place h = h

  pub write_spells : Writes end a tables before w after → (file : List ℕ) (t : Tournament) → Reading a tables file t → length (written end t) ≤ length before
      → (w.number ≡ 0) × SpellsFile (take w.length after) t
  write_spells h file t k room =
      let n = write_room h file t k room in
      let q = wrote end a tables before w after h n in
      let l = (reading_has a tables file t k).0 in
      let e : q.u ≡ t = one_tournament_a_reading q.u t q.lawful l (sym q.says ∙ (reading_has a tables file t k).1.says) tables tables tables q.holds (reading_has a tables file t k).1.holds in
      (n, subst (λ (f : List ℕ). SpellsFile f t) (sym (q.bytes ∙ ap (written end) e)) (written-spells end t l))

-- ---- what was read is written, given room for the longest
pub read_written : (file : List ℕ) (before : Lent) (a : Answer) (after : Lent) → Reads file before a after → a.number ≡ 0
    → (end : End) (out : List ℕ) → longest end ≤ length out → (w : Written) (x : List ℕ) → Writes end a after.tables out w x → w.number ≡ 0
read_written file before a after r n end out room w x h =
    let k = accepted_read file before a after r n in
    let l = written-long end k.t k.lawful in
    (write_spells end a after.tables out w x h file k.t (read_held file before a after r n k.t k.spells).2 (omega arith)).0

-- ---- the question
module _ (a : Answer) (tables : Tables) (place : Place) (round : ℕ) (s : Score) where
  abbrev Denied : Denial → Type 0
  Denied = QuestionDenies a tables place.0 round

  question_number : (d : Denial) → Denied d → among (denial_of d).number (0 ∷ 1 ∷ 18 ∷ 20 ∷ []) ≡ true
  question_number tables-short h = refl
  question_number no_reading h = refl
  question_number out_short h = absurd h
  question_number no_place h = refl

  pub ask_number : Asks a tables place round s → among s.number (0 ∷ 1 ∷ 18 ∷ 20 ∷ []) ≡ true
  unfolding score_answer
  ask_number (ask_refused r) = subst (λ (v : Score). among v.number (0 ∷ 1 ∷ 18 ∷ 20 ∷ []) ≡ true) (sym r.says) (question_number r.denial r.first.holds)
  ask_number (ask_done r) = subst (λ (v : Score). among v.number (0 ∷ 1 ∷ 18 ∷ 20 ∷ []) ≡ true) (sym r.says) refl

  pub ask_first : Asks a tables place round s → 1 ≤ s.number → (d : Denial) × FirstIn Denied question_denials d × (s ≡ score_answer (denial_of d) 0 0)
  unfolding score_answer
  ask_first (ask_refused r) n = (r.denial, r.first, r.says)
  ask_first (ask_done r) n = let e = ap (λ (v : Score). v.number) r.says in absurd (omega arith)

  pub ask_exactly : Asks a tables place round s → (d : Denial) → (s ≡ score_answer (denial_of d) 0 0) ↔ FirstIn Denied question_denials d
  unfolding score_answer
  ask_exactly (ask_refused r) d = (
    λ e. subst (FirstIn Denied question_denials) (same-denial r.denial d (ap (λ (v : Score). v.number) (sym r.says ∙ e))) r.first,
    λ f. r.says ∙ ap (λ (d : Denial). score_answer (denial_of d) 0 0) (first_unique Denied r.first f),
  )
  ask_exactly (ask_done r) d = (
    λ e.
        let n = ap (λ (v : Score). v.number) (sym r.says ∙ e) in
        let m = denial-number d in
        absurd (omega arith),
    λ f. absurd (none_first Denied r.no_denial f),
  )

  pub ask_short : Asks a tables place round s → enough tables ≡ false → s ≡ score_answer (refusal 1 0 0) 0 0
  ask_short h e = (ask_exactly h tables-short).1 (short-first Denied no_place e)

  pub ask_values : Asks a tables place round s → s.number ≡ 0 → (file : List ℕ) × (t : Tournament) × Reading a tables file t
      × (s ≡ score_answer no_refusal (earned_before t place.0 round) (acceleration_for t place.0 round))
  unfolding score_answer
  ask_values (ask_refused r) n =
      let e = ap (λ (v : Score). v.number) r.says in
      let m = denial-number r.denial in
      absurd (omega arith)
  ask_values (ask_done r) n = (r.file, r.t, r.reading, r.says)
