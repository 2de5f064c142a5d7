-- The outcome for a file, computed; it is the one that the statement allows. Each refusal is given exactly when its label is the first fault. Assumes nothing.
use mathlib.Core.Path.{◌≡◌, refl, sym, ap, ◌∙◌, subst}
use mathlib.Core.Logic.{◌↔◌}
use mathlib.Core.Bool.{Bool, true, false}
use mathlib.Core.Option.{Option, none, some}
use mathlib.Core.List.{List}
use Prim.Native.Nat.{ℕ, ◌≤◌}
use lib.ListN.{length}
use Rattle.kit.specs.Lists.{first, Each}
use Rattle.kit.specs.First.{NoneOf, FirstIn}
use Rattle.kit.specs.Decides.{Decides}
use Rattle.kit.proofs.Bools.{is_so}
use Rattle.kit.proofs.Decided.{unique}
use Rattle.kit.proofs.Firsts.{firsts, none_found, found_none}
use Rattle.law.specs.Sizes.{most_file}
use Rattle.law.specs.Lines.{Line, Lines}
use Rattle.law.specs.Accelerations.{acceleration_code}
use Rattle.law.specs.Players.{player_code}
use Rattle.law.specs.Items.{Item}
use Rattle.law.specs.Tournament.{Tournament, tournament_of}
use Rattle.law.specs.Lawful.{Lawful}
use Rattle.law.specs.Spelling.{SpellsLine, SpellsFile}
use Rattle.law.specs.Refusals.{lines_of, Label, IsFault, labels, Refusal, refusal, refusal_of, Outcome, refused, accepted, Refused, Accepted, Judged}
use Rattle.law.proofs.Cut.{cut, lines_are, lines_unique, one_lines}
use Rattle.law.proofs.Faults.{line_items, lines-spelled, test_label, is_fault, faults}
use Rattle.law.proofs.Accepts.{no_fault_lawful, lawful_no_fault, one_tournament}

-- ---- the function
abbrev pub accepted_as : List Line → Option (List Item) → Outcome
accepted_as ls none = refused (refusal 0 0 0)
accepted_as ls (some is) = accepted (tournament_of is) (lines_of player_code 0 ls) (lines_of acceleration_code 0 ls)

abbrev pub outcome_by : List Line → Option (List Item) → Option Label → Outcome
outcome_by ls o none = accepted_as ls o
outcome_by ls o (some x) = refused (refusal_of x)

abbrev pub outcome_in : Bool → ℕ → List Line → Option (List Item) → Outcome
outcome_in long n ls o = outcome_by ls o (first (test_label long n o) (labels ls))

unfoldable pub outcome_of : Bool → List ℕ → Outcome
outcome_of long file = outcome_in long (length file) (cut false file) (line_items (cut false file))

-- ---- it is permitted
pub judged : (long : Bool) (file : List ℕ) → Judged long file (outcome_of long file)
unfolding outcome_of
judged long file = go (first (is_fault long file ls) (labels ls)) refl
  where
    ls : List Line
    ls = cut false file

    go : (o : Option Label) → first (is_fault long file ls) (labels ls) ≡ o → Judged long file (outcome_by ls (line_items ls) o)
    go (some x) e = record { lines = ls; are = lines_are file; label = x; first = (firsts (faults long file ls)).sound (labels ls) x e; says = refl }
    go none e =
        let n = none_found (faults long file ls) (labels ls) e in
        let k = no_fault_lawful file ls (lines_are file) long n in
        let s = k.1 in
        let u = lines_unique file s.lines s.are in
        let h : Each SpellsLine ls s.items = subst (λ (x : List Line). Each SpellsLine x s.items) (sym u) s.spelled in
        let q = lines-spelled.complete ls s.items h in
        let a : Accepted long file (tournament_of s.items) (lines_of player_code 0 ls) (lines_of acceleration_code 0 ls) = record {
          lines = ls;
          are = lines_are file;
          no_fault = n;
          spells = subst (SpellsFile file) s.tournament s;
          player_lines_lem = refl;
          acceleration_lines = refl;
        } in
        subst (λ (x : Option (List Item)). Judged long file (accepted_as ls x)) (sym q) a

-- ---- and no other
refused_is : (long : Bool) (file : List ℕ) (x : Refusal) → Refused long file x → outcome_of long file ≡ refused x
unfolding outcome_of
refused_is long file x r =
    let f = subst (λ (ls : List Line). FirstIn (IsFault long file ls) (labels ls) r.label) (sym (lines_unique file r.lines r.are)) r.first in
    rw ((firsts (faults long file (cut false file))).complete (labels (cut false file)) r.label f) (ap refused (sym r.says))

accepted_is : (long : Bool) (file : List ℕ) (t : Tournament) (ps rs : List ℕ) → Accepted long file t ps rs → outcome_of long file ≡ accepted t ps rs
unfolding outcome_of
accepted_is long file t ps rs a =
    let u = lines_unique file a.lines a.are in
    let n = subst (λ (ls : List Line). NoneOf (IsFault long file ls) (labels ls)) (sym u) a.no_fault in
    let s = a.spells in
    let h : Each SpellsLine (cut false file) s.items = subst (λ (x : List Line). Each SpellsLine x s.items) (sym (lines_unique file s.lines s.are)) s.spelled in
    let q = lines-spelled.complete (cut false file) s.items h in
    let e : tournament_of s.items ≡ t = sym s.tournament in
    let p : lines_of player_code 0 (cut false file) ≡ ps = ap (lines_of player_code 0) u ∙ sym a.player_lines_lem in
    let c : lines_of acceleration_code 0 (cut false file) ≡ rs = ap (lines_of acceleration_code 0) u ∙ sym a.acceleration_lines in
    rw (found_none (faults long file (cut false file)) (labels (cut false file)) n, q) (λ i. accepted (e i) (p i) (c i))

pub is_judged : (long : Bool) (file : List ℕ) (o : Outcome) → Judged long file o → outcome_of long file ≡ o
is_judged long file (refused x) h = refused_is long file x h
is_judged long file (accepted t ps rs) h = accepted_is long file t ps rs h

-- the outcome is decided
pub outcome : (long : Bool) → Decides (Judged long) (λ file. some (outcome_of long file))
outcome long =
    record {
      sound = λ file o e. let u : outcome_of long file ≡ o = cc in subst (Judged long file) u (judged long file);
      complete = λ file o h. ap some (is_judged long file o h);
    }

pub one_outcome : (long : Bool) (file : List ℕ) (o p : Outcome) → Judged long file o → Judged long file p → o ≡ p
one_outcome long file o p h k = unique (outcome long) file o p h k

-- ---- demand 3: with tables that are long enough, a file of at most 65,535 bytes is accepted exactly when it spells a lawful tournament, as that one
pub accepted_lawful : (long : Bool) (file : List ℕ) (t : Tournament) (ps rs : List ℕ) → Accepted long file t ps rs → SpellsFile file t × Lawful t
accepted_lawful long file t ps rs a =
    let k = no_fault_lawful file a.lines a.are long a.no_fault in
    (a.spells, subst Lawful (one_tournament file k.0 t k.1 a.spells) k.2)

pub lawful_accepted : (file : List ℕ) (t : Tournament) → length file ≤ most_file → SpellsFile file t → Lawful t → (ps : List ℕ) × (rs : List ℕ) × Accepted true file t ps rs
lawful_accepted file t small s k =
    let ls = s.lines in (
      lines_of player_code 0 ls,
      lines_of acceleration_code 0 ls,
      record { lines = ls; are = s.are; no_fault = lawful_no_fault file ls s.are t small s k; spells = s; player_lines_lem = refl; acceleration_lines = refl },
    )

-- and only where the tables are long enough
pub accepted-long : (long : Bool) (file : List ℕ) (t : Tournament) (ps rs : List ℕ) → Accepted long file t ps rs → long ≡ true
unfolding labels
accepted-long long file t ps rs a = is_so long a.no_fault.0

-- ---- each refusal is given exactly when its label is the first fault: by one law for all numbers
pub refused_exactly : (long : Bool) (file : List ℕ) (ls : List Line) → Lines file ls → (x : Refusal)
    → Judged long file (refused x) ↔ ((label : Label) × FirstIn (IsFault long file ls) (labels ls) label × (x ≡ refusal_of label))
refused_exactly long file ls are x = (
  λ r. (r.label, subst (λ (k : List Line). FirstIn (IsFault long file k) (labels k) r.label) (one_lines file r.lines ls r.are are) r.first, r.says),
  λ h. record { lines = ls; are = are; label = h.0; first = h.1; says = h.2 },
)
