-- What a reading leaves in answer and tables is listed as the statement says of the file. Assumes nothing.
use mathlib.Core.Path.{◌≡◌, refl, sym, ap, ◌∙◌, subst}
use mathlib.Core.Bool.{Bool, true, cond}
use mathlib.Core.List.{List, ◌++◌}
use Prim.Native.Nat.{ℕ, zero, suc, ◌+◌, ◌-◌, ◌≤◌, ◌<◌}
use native.Mathlib.Nat.{le_refl}
use native.Mathlib.Numerals.{sub-one}
use native.Mathlib.Omega.{arith}
use borrow.Author.Tests.{ne_eqb}
use lib.ListN.{length, get_or, take, get_or-map}
use lib.Seq.{take-suc, take_all, take-length, paste}
use Rattle.kit.specs.Ascii.{ascii}
use Rattle.kit.specs.Lists.{flat}
use Rattle.kit.proofs.Firsts.{all_of_at}
use Rattle.kit.proofs.Lists.{flat_snoc}
use Rattle.types.specs.declared.Answer.{Answer}
use Rattle.law.specs.Sizes.{most_players, most_rounds}
use Rattle.law.specs.Tournament.{Entry, Player, Tournament}
use Rattle.law.specs.Entries.{no_entry, no_player, player_at, entry_of, bye-or-game, mutual_pairing, fitting_results, one_U}
use Rattle.law.specs.Lawful.{Lawful, LawfulPlayer}
use Rattle.law.specs.Tables.{Tables, Lent, entry_cells, cell_of, place_in, round_in, content_of, HoldAll, answer_of, enough_lent}
use Rattle.law.specs.Refusals.{LineFault, bad_byte, no_cr, too_long, not_listed, bad_field, again, too_many, FileFault, incomplete, past_142, shared, unlawful, wrong_sum_lem, Label, too_short, too_big, at_line_lem, of_file, Refusal, line_fault_number, file_fault_number, refusal_of, Outcome, refused, accepted, Judged}
use Rattle.law.specs.Calls.{refused_answer, Leaves, Reads}
use Rattle.law.proofs.Judges.{accepted_lawful, one_outcome}
use Rattle.listing.specs.Put.{Put}
use Rattle.listing.specs.Listing.{Six, lf, entry_field, entry_fields, standing, player_line, player_lines, answer_line, accepted_listing, refused_listing, listing}
use Rattle.listing.specs.Outcomes.{entry_text, player_text, outcome_listing, six_of, Lists}

module _ (t : Tournament) (lawful : Lawful t) {b x : Tables} (holds : HoldAll (content_of t) b x) where
  -- ---- one cell of the entries
  entry_at : (part : Entry → ℕ) (place k : ℕ) → place < most_players → k < most_rounds
      → part (entry_of (round_in (cell_of place (suc k))) (player_at t (place_in (cell_of place (suc k))))) ≡ part (get_or (player_at t place).entries k no_entry)
  entry_at part place k p l =
      let e : suc k - 1 ≡ k = sub-one (suc k) in
      let a : place_in (cell_of place (suc k)) ≡ place = omega arith in
      let c : round_in (cell_of place (suc k)) - 1 ≡ k = omega arith in
      ap (λ (q : ℕ). part (get_or (player_at t q).entries (round_in (cell_of place (suc k)) - 1) no_entry)) a ∙
      ap (λ (j : ℕ). part (get_or (player_at t place).entries j no_entry)) c

  in_cells : (place k : ℕ) → place < most_players → k < most_rounds → cell_of place (suc k) < entry_cells
  in_cells place k p l = let e : suc k - 1 ≡ k = sub-one (suc k) in omega arith

  -- ---- a player's entries
  fields_told : (place k : ℕ) → place < most_players → k ≤ most_rounds → k ≤ length (player_at t place).entries
      → entry_fields x.opponents x.colours x.results place k ≡ flat entry_text (take k (player_at t place).entries)
  unfolding entry_fields flat content_of
  fields_told place zero p r l = refl
  fields_told place (suc k) p r l =
      let es : List Entry = (player_at t place).entries in
      let i : ℕ = cell_of place (suc k) in
      let m : k < most_rounds = omega arith in
      let inside : i < entry_cells = in_cells place k p m in
      ap (λ (f : List ℕ). f ++ entry_field (get_or x.opponents i 0) (get_or x.colours i 0) (get_or x.results i 0))
      (fields_told place k p (omega arith) (omega arith)) ∙
      ap (λ (n : ℕ). flat entry_text (take k es) ++ entry_field n (get_or x.colours i 0) (get_or x.results i 0))
      (holds.opponents.cells i inside ∙ entry_at (λ e. e.id) place k p m) ∙
      ap (λ (n : ℕ). flat entry_text (take k es) ++ entry_field (get_or es k no_entry).id n (get_or x.results i 0))
      (holds.colours.cells i inside ∙ entry_at (λ e. e.colour) place k p m) ∙
      ap (λ (n : ℕ). flat entry_text (take k es) ++ entry_field (get_or es k no_entry).id (get_or es k no_entry).colour n)
      (holds.results.cells i inside ∙ entry_at (λ e. e.result) place k p m) ∙
      sym (flat_snoc entry_text (take k es) (get_or es k no_entry)) ∙ ap (flat entry_text) (sym (take-suc es k no_entry (omega arith)))

  -- ---- a player's line
  line-told : (place : ℕ) → place < length t.players → player_line (six_of x) t.rounds place ≡ player_text (player_at t place)
  unfolding player_line player_text content_of
  line-told place l =
      let p : Player = player_at t place in
      let few : place < most_players = let z = lawful.players_fit in omega arith in
      let long : length p.entries ≡ t.rounds = (all_of_at (LawfulPlayer t.rounds) no_player t.players lawful.players place l).entries in
      let rest : List ℕ = entry_fields x.opponents x.colours x.results place t.rounds in
      ap (λ (n : ℕ). standing n (get_or x.points place 0) (get_or x.ranks place 0) ++ rest ++ lf)
      (holds.starts.cells place few ∙ get_or-map (λ q. q.start) t.players place no_player) ∙
      ap (λ (n : ℕ). standing p.start n (get_or x.ranks place 0) ++ rest ++ lf)
      (holds.points.cells place few ∙ get_or-map (λ q. q.points) t.players place no_player) ∙
      ap (λ (n : ℕ). standing p.start p.points n ++ rest ++ lf)
      (holds.ranks.cells place few ∙ get_or-map (λ q. q.rank) t.players place no_player) ∙
      ap (λ (f : List ℕ). standing p.start p.points p.rank ++ f ++ lf)
      (fields_told place t.rounds few lawful.rounds (omega arith) ∙ ap (flat entry_text) (take_all t.rounds p.entries (omega arith)))

  lines-told : (n : ℕ) → n ≤ length t.players → player_lines (six_of x) t.rounds n ≡ flat player_text (take n t.players)
  unfolding player_lines flat
  lines-told zero l = refl
  lines-told (suc n) l =
      ap (λ (f : List ℕ). f ++ player_line (six_of x) t.rounds n) (lines-told n (omega arith)) ∙
      ap (λ (f : List ℕ). flat player_text (take n t.players) ++ f) (line-told n (omega arith)) ∙
      sym (flat_snoc player_text (take n t.players) (player_at t n)) ∙ ap (flat player_text) (sym (take-suc t.players n no_player (omega arith)))

  accepted-told : (ps rs : List ℕ) → listing (answer_of t) (six_of x) ≡ outcome_listing (accepted t ps rs)
  unfolding listing answer_of outcome_listing
  accepted-told ps rs =
      ap (λ (f : List ℕ). answer_line (ascii "accepted") (length t.players) t.rounds (length t.accelerations) ++ f)
      (lines-told (length t.players) (le_refl (length t.players)) ∙ ap (flat player_text) (take-length t.players))

-- ---- a refusal has a number
line-numbered : (f : LineFault) → line_fault_number f ≡ 0 → ⊥
line-numbered bad_byte z = omega (arith, z)
line-numbered no_cr z = omega (arith, z)
line-numbered too_long z = omega (arith, z)
line-numbered not_listed z = omega (arith, z)
line-numbered bad_field z = omega (arith, z)
line-numbered again z = omega (arith, z)
line-numbered too_many z = omega (arith, z)

file-numbered : (f : FileFault) → file_fault_number f ≡ 0 → ⊥
file-numbered incomplete z = omega (arith, z)
file-numbered past_142 z = omega (arith, z)
file-numbered (unlawful bye-or-game) z = omega (arith, z)
file-numbered (unlawful mutual_pairing) z = omega (arith, z)
file-numbered (unlawful fitting_results) z = omega (arith, z)
file-numbered (unlawful one_U) z = omega (arith, z)
file-numbered wrong_sum_lem z = omega (arith, z)
file-numbered shared z = omega (arith, z)

label-numbered : (l : Label) → (refusal_of l).number ≡ 0 → ⊥
label-numbered too_short z = omega (arith, z)
label-numbered too_big z = omega (arith, z)
label-numbered (at_line_lem f before l) z = line-numbered f z
label-numbered (of_file f s r) z = file-numbered f z

refused-told : (q : Refusal) (x : Six) → (q.number ≡ 0 → ⊥) → listing (refused_answer q) x ≡ outcome_listing (refused q)
unfolding listing refused_answer outcome_listing
refused-told q x f =
    ap (λ (b : Bool). cond b (accepted_listing (refused_answer q) x) (refused_listing (refused_answer q))) (ne_eqb q.number 0 f)

pub refused-numbered : {file : List ℕ} {q : Refusal} → Judged true file (refused q) → q.number ≡ 0 → ⊥
refused-numbered j z = label-numbered j.label (sym (ap (λ (u : Refusal). u.number) j.says) ∙ z)

-- ---- what a reading leaves, listed
told : (file : List ℕ) (o : Outcome) (b : Lent) (a : Answer) (x : Lent) → Judged true file o → Leaves o b a x → listing a (six_of x.tables) ≡ outcome_listing o
told file (refused q) b a x j l =
    ap (λ (u : Answer). listing u (six_of x.tables)) l.0 ∙
    refused-told q (six_of x.tables) (refused-numbered j)
told file (accepted t ps rs) b a x j l =
    ap (λ (u : Answer). listing u (six_of x.tables)) l.0 ∙ accepted-told t (accepted_lawful true file t ps rs j).1 l.1.tables ps rs

pub read_and-listed : {file : List ℕ} {b : Lent} {a : Answer} {x : Lent} {t : List ℕ} {e : ℕ} {u : List ℕ} → enough_lent b ≡ true → Reads file b a x
    → Put (listing a (six_of x.tables)) 0 t e u → Lists file t e u
read_and-listed {file} {b} {a} {x} {t} {e} {u} long r p =
    let j : Judged true file r.outcome = subst (λ (v : Bool). Judged v file r.outcome) long r.judged in
    record { outcome = r.outcome; judged = j; bytes = subst (λ (l : List ℕ). Put l 0 t e u) (told file r.outcome b a x j r.leaves) p }

-- ---- a file has one listing
pub lists_once : {file before : List ℕ} {e : ℕ} {u : List ℕ} {e' : ℕ} {u' : List ℕ} → Lists file before e u → Lists file before e' u' → (e ≡ e') × (u ≡ u')
lists_once {file} {before} p q =
    let o : p.outcome ≡ q.outcome = one_outcome true file p.outcome q.outcome p.judged q.judged in (
      p.bytes.ends ∙ ap (λ (k : Outcome). 0 + length (outcome_listing k)) o ∙ sym q.bytes.ends,
      p.bytes.written ∙ ap (λ (k : Outcome). paste before 0 (outcome_listing k) (length (outcome_listing k))) o ∙ sym q.bytes.written,
    )
