-- `Reads` permits one answer and one content of every lent cell for each input, whatever the lengths, and permits one. Assumes nothing.
use mathlib.Core.Path.{◌≡◌, refl, sym, ◌∙◌, subst}
use mathlib.Core.Bool.{Bool, true, false}
use mathlib.Core.List.{List, [], ◌∷◌}
use Prim.Native.Nat.{ℕ, ◌≤◌}
use lib.Dec.{leb}
use lib.ListN.{length}
use borrow.Author.Tests.{leb-true}
use Rattle.kit.specs.First.{AllOf}
use Rattle.kit.proofs.Bools.{and}
use Rattle.kit.proofs.Tables.{one_content, filled, filled-holds}
use Rattle.types.specs.declared.Answer.{Answer}
use Rattle.law.specs.Sizes.{most_file, most_players, most_accelerations, most_text}
use Rattle.law.specs.Tournament.{Tournament}
use Rattle.law.specs.Lawful.{Lawful, no_acceleration}
use Rattle.law.specs.Spelling.{SpellsFile}
use Rattle.law.specs.Tables.{Tables, Lent, kept_cells, entry_cells, line_cells, rooms, are_long, enough, enough_lent, Content, content_of, lines_content, zeros, HoldAll, HoldLent, answer_of}
use Rattle.law.specs.Refusals.{Outcome, refused, accepted, Judged}
use Rattle.law.specs.Calls.{refused_answer, Cleared, Leaves, Reads}
use Rattle.law.proofs.Judges.{outcome_of, judged, one_outcome, lawful_accepted, accepted-long}

-- ---- one content
module _ (c : Content) (before : Tables) where
  pub one_tables : (x y : Tables) → HoldAll c before x → HoldAll c before y → x ≡ y
  one_tables x y h k = λ i.
      record {
        starts = one_content 0 most_players c.starts before.starts x.starts y.starts h.starts k.starts i;
        points = one_content 0 most_players c.points before.points x.points y.points h.points k.points i;
        ranks = one_content 0 most_players c.ranks before.ranks x.ranks y.ranks h.ranks k.ranks i;
        kept = one_content 0 kept_cells c.kept before.kept x.kept y.kept h.kept k.kept i;
        opponents = one_content 0 entry_cells c.opponents before.opponents x.opponents y.opponents h.opponents k.opponents i;
        colours = one_content 0 entry_cells c.colours before.colours x.colours y.colours h.colours k.colours i;
        results = one_content 0 entry_cells c.results before.results x.results y.results h.results k.results i;
        text = one_content 0 most_text c.text before.text x.text y.text h.text k.text i;
        accelerations = one_content no_acceleration most_accelerations c.accelerations before.accelerations x.accelerations y.accelerations h.accelerations k.accelerations i;
      }

pub one_lent : (c : Content) (n : ℕ → ℕ) (before x y : Lent) → HoldLent c n before x → HoldLent c n before y → x ≡ y
one_lent c n before x y h k = λ i.
    record {
      tables = one_tables c before.tables x.tables y.tables h.tables k.tables i;
      lines = one_content 0 line_cells n before.lines x.lines y.lines h.lines k.lines i;
    }

one_cleared : (b : Bool) (before x y : Lent) → Cleared b before x → Cleared b before y → x ≡ y
one_cleared true before x y h k = one_lent zeros (λ i. 0) before x y h k
one_cleared false before x y h k = h ∙ sym k

one_left : (o : Outcome) (before : Lent) (a b : Answer) (x y : Lent) → Leaves o before a x → Leaves o before b y → (a ≡ b) × (x ≡ y)
one_left (refused r) before a b x y h k = (h.0 ∙ sym k.0, one_cleared (enough_lent before) before x y h.1 k.1)
one_left (accepted t ps rs) before a b x y h k = (h.0 ∙ sym k.0, one_lent (content_of t) (lines_content ps rs) before x y h.1 k.1)

pub reads-once : (file : List ℕ) (before : Lent) (a b : Answer) (x y : Lent) → Reads file before a x → Reads file before b y → (a ≡ b) × (x ≡ y)
reads-once file before a b x y h k =
    let e = one_outcome (enough_lent before) file h.outcome k.outcome h.judged k.judged in
    one_left k.outcome before a b x y (subst (λ (o : Outcome). Leaves o before a x) e h.leaves) k.leaves

-- ---- there is one: the tables with that content
pub record Rooms (t : Tables) : Type 0 where
  pub starts : most_players ≤ length t.starts
  pub points : most_players ≤ length t.points
  pub ranks : most_players ≤ length t.ranks
  pub kept : kept_cells ≤ length t.kept
  pub opponents : entry_cells ≤ length t.opponents
  pub colours : entry_cells ≤ length t.colours
  pub results : entry_cells ≤ length t.results
  pub text : most_text ≤ length t.text
  pub accelerations : most_accelerations ≤ length t.accelerations

rooms-all : (l : List (ℕ × ℕ)) → are_long l ≡ true → AllOf (λ (x : ℕ × ℕ). x.0 ≤ x.1) l
rooms-all [] h = tt
rooms-all (x ∷ l) h = let k = and (leb x.0 x.1) (are_long l) h in (leb-true x.0 x.1 k.0, rooms-all l k.1)

pub rooms-are : (t : Tables) → enough t ≡ true → Rooms t
unfolding enough
rooms-are t h =
    let a = rooms-all (rooms t) h in
    record {
      starts = a.0;
      points = a.1.0;
      ranks = a.1.1.0;
      kept = a.1.1.1.0;
      opponents = a.1.1.1.1.0;
      colours = a.1.1.1.1.1.0;
      results = a.1.1.1.1.1.1.0;
      text = a.1.1.1.1.1.1.1.0;
      accelerations = a.1.1.1.1.1.1.1.1.0;
    }

pub lent-enough : (t : Lent) → enough_lent t ≡ true → (line_cells ≤ length t.lines) × (enough t.tables ≡ true)
unfolding enough enough_lent
lent-enough t h = let k = and (leb line_cells (length t.lines)) (are_long (rooms t.tables)) h in (leb-true line_cells (length t.lines) k.0, k.1)

abbrev pub fill_tables : Content → Tables → Tables
fill_tables c t =
    record {
      starts = filled 0 most_players c.starts t.starts;
      points = filled 0 most_players c.points t.points;
      ranks = filled 0 most_players c.ranks t.ranks;
      kept = filled 0 kept_cells c.kept t.kept;
      opponents = filled 0 entry_cells c.opponents t.opponents;
      colours = filled 0 entry_cells c.colours t.colours;
      results = filled 0 entry_cells c.results t.results;
      text = filled 0 most_text c.text t.text;
      accelerations = filled no_acceleration most_accelerations c.accelerations t.accelerations;
    }

pub filled-tables : (c : Content) (t : Tables) → Rooms t → HoldAll c t (fill_tables c t)
filled-tables c t r =
    record {
      starts = filled-holds 0 most_players c.starts t.starts r.starts;
      points = filled-holds 0 most_players c.points t.points r.points;
      ranks = filled-holds 0 most_players c.ranks t.ranks r.ranks;
      kept = filled-holds 0 kept_cells c.kept t.kept r.kept;
      opponents = filled-holds 0 entry_cells c.opponents t.opponents r.opponents;
      colours = filled-holds 0 entry_cells c.colours t.colours r.colours;
      results = filled-holds 0 entry_cells c.results t.results r.results;
      text = filled-holds 0 most_text c.text t.text r.text;
      accelerations = filled-holds no_acceleration most_accelerations c.accelerations t.accelerations r.accelerations;
    }

pub some-lent : (c : Content) (n : ℕ → ℕ) (before : Lent) → enough_lent before ≡ true → (after : Lent) × HoldLent c n before after
some-lent c n before h =
    let k = lent-enough before h in (
      record { tables = fill_tables c before.tables; lines = filled 0 line_cells n before.lines },
      record { tables = filled-tables c before.tables (rooms-are before.tables k.1); lines = filled-holds 0 line_cells n before.lines k.0 },
    )

some_cleared : (before : Lent) (b : Bool) → enough_lent before ≡ b → (after : Lent) × Cleared b before after
some_cleared before true e = some-lent zeros (λ i. 0) before e
some_cleared before false e = (before, refl)

some_left : (file : List ℕ) (before : Lent) (o : Outcome) → Judged (enough_lent before) file o → (a : Answer) × (after : Lent) × Leaves o before a after
some_left file before (refused r) j = let k = some_cleared before (enough_lent before) refl in (refused_answer r, k.0, (refl, k.1))
some_left file before (accepted t ps rs) j =
    let k = some-lent (content_of t) (lines_content ps rs) before (accepted-long (enough_lent before) file t ps rs j) in
    (answer_of t, k.0, (refl, k.1))

pub reads-some : (file : List ℕ) (before : Lent) → (a : Answer) × (after : Lent) × Reads file before a after
reads-some file before =
    let o = outcome_of (enough_lent before) file in
    let j = judged (enough_lent before) file in
    let k = some_left file before o j in
    (k.0, k.1, record { outcome = o; judged = j; leaves = k.2 })

-- ---- demand 3 of the call: the tables and the answer then hold the tournament that the file spells
pub record HoldsOf (t : Tournament) (before : Lent) (answer : Answer) (after : Lent) : Type 0 where
  pub says : answer ≡ answer_of t
  pub of_players : List ℕ
  pub of_accelerations : List ℕ
  pub holds : HoldLent (content_of t) (lines_content of_players of_accelerations) before after

pub reads_lawful : (file : List ℕ) (t : Tournament) (before : Lent) → enough_lent before ≡ true → length file ≤ most_file → SpellsFile file t → Lawful t
    → (a : Answer) (after : Lent) → Reads file before a after → HoldsOf t before a after
reads_lawful file t before long small s k a after r =
    let q = lawful_accepted file t small s k in
    let j = subst (λ (b : Bool). Judged b file r.outcome) long r.judged in
    let e = one_outcome true file r.outcome (accepted t q.0 q.1) j q.2 in
    let l = subst (λ (o : Outcome). Leaves o before a after) e r.leaves in
    record { says = l.0; of_players = q.0; of_accelerations = q.1; holds = l.1 }
