-- What the demands say of every reading: its number, its first fault, what a refusal clears, and what an acceptance holds. Assumes nothing.
use mathlib.Core.Path.{◌≡◌, refl, sym, ap, ◌∙◌, subst}
use mathlib.Core.Logic.{◌↔◌}
use mathlib.Core.Bool.{Bool, true, false}
use mathlib.Core.List.{List, [], ◌∷◌, map}
use Prim.Native.Nat.{ℕ, ◌≤◌}
use native.Mathlib.Omega.{arith}
use lib.ListN.{length}
use Rattle.kit.specs.Lists.{between, all, among, is_empty, Each}
use Rattle.kit.specs.Table.{Holds}
use Rattle.kit.proofs.Bools.{clash, within, among-all}
use Rattle.types.specs.declared.Answer.{Answer}
use Rattle.law.specs.Sizes.{most_file}
use Rattle.law.specs.Lines.{crlf, Line, Lines}
use Rattle.law.specs.Accelerations.{acceleration_code}
use Rattle.law.specs.Players.{player_code}
use Rattle.law.specs.Items.{Item}
use Rattle.law.specs.Tournament.{Player, Tournament, tournament_of}
use Rattle.law.specs.Lawful.{Lawful}
use Rattle.law.specs.Spelling.{SpellsLine, SpellsFile}
use Rattle.law.specs.Tables.{Tables, Lent, enough_lent, Content, content_of, lines_content, HoldAll, HoldLent, answer_of}
use Rattle.law.specs.Refusals.{Label, too_short, too_big, at_line_lem, of_file, line_fault_number, line_faults, file_fault_number, file_faults, lines_of, Refusal, refusal, refusal_of, Outcome, refused, accepted, Refused, Judged}
use Rattle.law.specs.Writing.{written}
use Rattle.law.specs.Calls.{refused_answer, Cleared, Leaves, Reads, Reading}
use Rattle.law.proofs.Cut.{one_lines}
use Rattle.law.proofs.LinesRead.{tested_line}
use Rattle.law.proofs.Accepts.{tested_file, one_tournament}
use Rattle.law.proofs.Judges.{one_outcome, accepted_lawful, accepted-long}
use Rattle.law.proofs.ReadsOnce.{reads-some, reads_lawful}
use Rattle.law.proofs.Edges.{short-untouched}
use Rattle.written.proofs.Spelled.{written-spells}
use Rattle.written.proofs.Lengths.{written-long}
use Rattle.written.proofs.Readings.{accepted_read}

-- ---- 1 to 17
numbered : (n : ℕ) (l : List ℕ) → among n l ≡ true → all (between 1 17) l ≡ true → (1 ≤ n) × (n ≤ 17)
numbered n l h k = within 1 17 n (among-all (between 1 17) n l h k)

label-number : (x : Label) → (1 ≤ (refusal_of x).number) × ((refusal_of x).number ≤ 17)
label-number too_short = (omega arith, omega arith)
label-number too_big = (omega arith, omega arith)
label-number (at_line_lem f b l) = numbered (line_fault_number f) (map line_fault_number line_faults) (tested_line f) refl
label-number (of_file f s r) = numbered (file_fault_number f) (map file_fault_number file_faults) (tested_file f) refl

-- ---- an answer says one refusal
refused_says : (x y : Refusal) → refused_answer x ≡ refused_answer y → x ≡ y
unfolding refused_answer
refused_says x y e = λ i. record { number = ap (λ (a : Answer). a.number) e i; line = ap (λ (a : Answer). a.line.0) e i; round = ap (λ (a : Answer). a.round) e i }

-- an acceptance has players, a refusal none
not_both : (t : Tournament) (x : Refusal) → Lawful t → answer_of t ≡ refused_answer x → ⊥
unfolding answer_of refused_answer
not_both t x h e = go t.players h.players_there (ap (λ (a : Answer). a.players) e)
  where
    go : (l : List Player) → is_empty l ≡ false → length l ≡ 0 → ⊥
    go [] n e = clash (sym n)
    go (p ∷ l) n e = omega arith

module _ (file : List ℕ) (before : Lent) (a : Answer) (after : Lent) (r : Reads file before a after) where
  pub read_number : a.number ≤ 17
  unfolding refused_answer answer_of
  read_number = go r.outcome r.judged r.leaves
    where
      go : (o : Outcome) → Judged (enough_lent before) file o → Leaves o before a after → a.number ≤ 17
      go (refused x) j l =
          let e = ap (λ (a : Answer). a.number) l.0 ∙ ap (λ (x : Refusal). x.number) j.says in
          let k = (label-number j.label).1 in
          omega arith
      go (accepted t ps rs) j l = let e = ap (λ (a : Answer). a.number) l.0 in omega arith

  -- a refusal is the first fault's, and clears
  pub read_first : 1 ≤ a.number → (x : Refusal) × Refused (enough_lent before) file x × (a ≡ refused_answer x) × Cleared (enough_lent before) before after
  unfolding answer_of
  read_first n = go r.outcome r.judged r.leaves
    where
      go : (o : Outcome) → Judged (enough_lent before) file o → Leaves o before a after → (x : Refusal) × Refused (enough_lent before) file x × (a ≡ refused_answer x) × Cleared (enough_lent before) before after
      go (refused x) j l = (x, j, l.0, l.1)
      go (accepted t ps rs) j l = let e = ap (λ (a : Answer). a.number) l.0 in absurd (omega arith)

  pub read_short : enough_lent before ≡ false → (a ≡ refused_answer (refusal 1 0 0)) × (after ≡ before)
  unfolding refused_answer
  read_short e =
      let s = short-untouched file before e a after r in
      let n = s.0 in
      let k = read_first (omega arith) in
      let says = k.2 in
      let x : k.0 ≡ refusal 1 0 0 = λ i.
      record {
        number = (sym (ap (λ (a : Answer). a.number) says) ∙ s.0) i;
        line = (sym (ap (λ (a : Answer). a.line.0) says) ∙ s.1) i;
        round = (sym (ap (λ (a : Answer). a.round) says) ∙ s.2) i;
      } in
      (says ∙ ap refused_answer x, s.3)

  pub read_exactly : (x : Refusal) → (a ≡ refused_answer x) ↔ Refused (enough_lent before) file x
  read_exactly x = (
    λ e. go r.outcome r.judged r.leaves e,
    λ h. (subst (λ (o : Outcome). Leaves o before a after) (one_outcome (enough_lent before) file r.outcome (refused x) r.judged h) r.leaves).0,
  )
    where
      go : (o : Outcome) → Judged (enough_lent before) file o → Leaves o before a after → a ≡ refused_answer x → Refused (enough_lent before) file x
      go (refused y) j l e = subst (Refused (enough_lent before) file) (refused_says y x (sym l.0 ∙ e)) j
      go (accepted t ps rs) j l e = absurd (not_both t x (accepted_lawful (enough_lent before) file t ps rs j).1 (sym l.0 ∙ e))

  -- an acceptance holds what the lines spell
  pub read_columns : a.number ≡ 0 → (lines : List Line) × (items : List Item) × Lines file lines × Each SpellsLine lines items
      × (a ≡ answer_of (tournament_of items)) × HoldLent (content_of (tournament_of items)) (lines_content (lines_of player_code 0 lines) (lines_of acceleration_code 0 lines)) before after
  unfolding refused_answer
  read_columns n = go r.outcome r.judged r.leaves
    where
      go : (o : Outcome) → Judged (enough_lent before) file o → Leaves o before a after
          → (lines : List Line) × (items : List Item) × Lines file lines × Each SpellsLine lines items
          × (a ≡ answer_of (tournament_of items)) × HoldLent (content_of (tournament_of items)) (lines_content (lines_of player_code 0 lines) (lines_of acceleration_code 0 lines)) before after
      go (refused x) j l =
          let e = ap (λ (a : Answer). a.number) l.0 ∙ ap (λ (x : Refusal). x.number) j.says in
          let k = (label-number j.label).0 in
          absurd (omega arith)
      go (accepted t ps rs) j l =
          let s = j.spells in
          let lines = j.lines in
          let items = s.items in
          let h = subst (λ (ls : List Line). Each SpellsLine ls items) (one_lines file s.lines lines s.are j.are) s.spelled in
          let e : t ≡ tournament_of items = s.tournament in
          let held = subst (λ (u : Tournament). HoldLent (content_of u) (lines_content ps rs) before after) e l.1 in
          let numbered = subst (λ (x : List ℕ). HoldLent (content_of (tournament_of items)) (lines_content x rs) before after) j.player_lines_lem held in (
            lines,
            items,
            j.are,
            h,
            l.0 ∙ ap answer_of e,
            subst (λ (x : List ℕ). HoldLent (content_of (tournament_of items)) (lines_content (lines_of player_code 0 lines) x) before after) j.acceleration_lines numbered,
          )

-- ---- accepted exactly when a lawful tournament is spelled
pub accepts_exactly : (file : List ℕ) (before : Lent) (a : Answer) (after : Lent) → Reads file before a after → enough_lent before ≡ true → length file ≤ most_file
    → (a.number ≡ 0) ↔ ((t : Tournament) × SpellsFile file t × Lawful t)
unfolding answer_of
accepts_exactly file before a after r long small = (
  λ n. let k = accepted_read file before a after r n in (k.t, k.spells, k.lawful),
  λ h. ap (λ (v : Answer). v.number) (reads_lawful file h.0 before long small h.1 h.2 a after r).says,
)

-- ---- what was read is held: reading the file again into what it left changes nothing
holds_still : {A : Type 0} (d : A) (n : ℕ) (content : ℕ → A) (before after : List A) → Holds d n content before after → Holds d n content after after
holds_still d n content before after h = record { long = refl; cells = h.cells; rest = λ i l. refl }

all_hold_still : (c : Content) (before after : Tables) → HoldAll c before after → HoldAll c after after
all_hold_still c b x h =
    record {
      starts = holds_still _ _ c.starts b.starts x.starts h.starts;
      points = holds_still _ _ c.points b.points x.points h.points;
      ranks = holds_still _ _ c.ranks b.ranks x.ranks h.ranks;
      kept = holds_still _ _ c.kept b.kept x.kept h.kept;
      opponents = holds_still _ _ c.opponents b.opponents x.opponents h.opponents;
      colours = holds_still _ _ c.colours b.colours x.colours h.colours;
      results = holds_still _ _ c.results b.results x.results h.results;
      text = holds_still _ _ c.text b.text x.text h.text;
      accelerations = holds_still _ _ c.accelerations b.accelerations x.accelerations h.accelerations;
    }

still_long : (c : Content) (before : Lent) (after : Tables) → HoldAll c before.tables after → enough_lent before ≡ true → enough_lent (record { tables = after; lines = before.lines }) ≡ true
unfolding enough_lent
still_long c before after h e =
    rw (h.starts.long, h.points.long, h.ranks.long, h.kept.long, h.opponents.long, h.colours.long, h.results.long, h.text.long, h.accelerations.long) e

pub read_held : (file : List ℕ) (before : Lent) (a : Answer) (after : Lent) → Reads file before a after → a.number ≡ 0 → (t : Tournament) → SpellsFile file t
    → (a ≡ answer_of t) × HoldAll (content_of t) before.tables after.tables × Reading a after.tables file t
unfolding refused_answer
read_held file before a after r n t s = go r.outcome r.judged r.leaves
  where
    go : (o : Outcome) → Judged (enough_lent before) file o → Leaves o before a after → (a ≡ answer_of t) × HoldAll (content_of t) before.tables after.tables × Reading a after.tables file t
    go (refused x) j l =
        let e = ap (λ (a : Answer). a.number) l.0 ∙ ap (λ (x : Refusal). x.number) j.says in
        let k = (label-number j.label).0 in
        absurd (omega arith)
    go (accepted u ps rs) j l =
        let e = one_tournament file u t j.spells s in
        let long = accepted-long (enough_lent before) file u ps rs j in
        let h = l.1.tables in (
          l.0 ∙ ap answer_of e,
          subst (λ (u : Tournament). HoldAll (content_of u) before.tables after.tables) e h,
          record {
            lines_before = before.lines;
            lines_after = after.lines;
            reads =
                record {
                  outcome = accepted u ps rs;
                  judged = subst (λ (b : Bool). Judged b file (accepted u ps rs)) (long ∙ sym (still_long (content_of u) before after.tables h long)) j;
                  leaves = (l.0, record { tables = all_hold_still (content_of u) before.tables after.tables h; lines = l.1.lines });
                };
            accepts = n;
            spells = s;
          },
        )

-- ---- each lawful tournament is read from what the writer puts out for it
pub spelled : (t : Tournament) → Lawful t → (file : List ℕ) × (length file ≤ most_file) × SpellsFile file t
spelled t h = (written crlf t, (let l = written-long crlf t h in omega arith), written-spells crlf t h)

pub read_each : (t : Tournament) → Lawful t → (before : Lent) → enough_lent before ≡ true → (file : List ℕ) × (a : Answer) × (after : Lent) × Reads file before a after × Reading a after.tables file t
read_each t h before long =
    let s = spelled t h in
    let r = reads-some s.0 before in
    let n = (accepts_exactly s.0 before r.0 r.1 r.2 long s.1).1 (t, s.2, h) in
    (s.0, r.0, r.1, r.2, (read_held s.0 before r.0 r.1 r.2 n t s.2).2)
