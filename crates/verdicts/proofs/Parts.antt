-- What was found, as a refusal. Assumes nothing.
use mathlib.Core.Path.{◌≡◌, refl, sym, ap, ap₂, ◌∙◌}
use mathlib.Core.Option.{Option, none, some}
use mathlib.Core.List.{List}
use Prim.Native.Nat.{ℕ, ◌*◌}
use lib.ListN.{get_or}
use Rattle.std.specs.Prelude.{Result, Ok, Err}
use Rattle.std.specs.Result.{IsErrAnd}
use Rattle.kit.specs.Decides.{to, or_else}
use Rattle.types.specs.declared.Refusal as types
use Rattle.law.specs.Sizes.{most_rounds}
use Rattle.law.specs.Entries.{Law, bye-or-game, mutual_pairing, fitting_results, one_U}
use Rattle.law.specs.Refusals.{Refusal, refusal, file_fault_number, unlawful}
use Rattle.join.specs.Grid.{first_from}
use Rattle.join.specs.Store.{Nine}
use Rattle.join.specs.Check.{place_at, round_at, broken_cell, at_player, broken_by}
use Rattle.checks.specs.Laws.{four}
use Rattle.checks.proofs.Kept.{first_in}
use Rattle.verdicts.specs.Verdict.{stated, refusal_in, unlawful_in}

-- the exit of a `?`: the refusal is handed on
pub handed : {A : Type 0} (r : Result A types.Refusal) (e : types.Refusal) → IsErrAnd r (λ d. d ≡ e) → refusal_in r ≡ some (stated e)
handed (Ok a) e h = absurd h
handed (Err d) e h = ap (λ (x : types.Refusal). some (stated x)) h

pub nothing_found : (f : ℕ → Refusal) (o : Option ℕ) → o ≡ none → none ≡ to f o
nothing_found f o q = sym (ap (to f) q)

pub one_found : (f : ℕ → Refusal) (o : Option ℕ) (k : ℕ) → o ≡ some k → {x : Refusal} → x ≡ f k → some x ≡ to f o
one_found f o k q e = ap some e ∙ sym (ap (to f) q)

pub turn_found : (number : ℕ) (lines : List ℕ) (o : Option ℕ) (k : ℕ) → o ≡ some k → (line round : ℕ) → line ≡ get_or lines (place_at k) 0 → round ≡ round_at k
    → some (refusal number line round) ≡ to (at_player number lines) o
turn_found number lines o k q line round p r = one_found (at_player number lines) o k q (ap₂ (λ (a b : ℕ). refusal number a b) p r)

-- ---- one check after another: the first that refuses, or the others
pub or-first : (o p : Option Refusal) {x : Refusal} → some x ≡ o → some x ≡ or_else o p
or-first o p e = rw (sym e) refl

pub or-next : (o p : Option Refusal) {x : Option Refusal} → none ≡ o → x ≡ p → x ≡ or_else o p
or-next o p e h = rw (sym e) h

-- ---- 12 to 15, from the four tables and the lines
pub broken_in : (law : Law) (n R : ℕ) (y : Nine) {starts opponents colours results lines : List ℕ}
    → y.starts ≡ starts → y.opponents ≡ opponents → y.colours ≡ colours → y.results ≡ results → y.lines ≡ lines → {x : Option Refusal}
    → x ≡ to (at_player (file_fault_number (unlawful law)) lines) (first_from (broken_cell law n R (four starts opponents colours results)) 0 (n * most_rounds))
    → x ≡ broken_by law n R y
broken_in law n R y e0 e1 e2 e3 e4 h =
    h
    ∙ rw (sym e0, sym e1, sym e2, sym e3, sym e4)
    (ap (to (at_player (file_fault_number (unlawful law)) y.lines)) (first_in law n R y (n * most_rounds)))

-- nothing where no law is broken
pub none_in : (n R : ℕ) (y : Nine) {starts opponents colours results : List ℕ} → y.starts ≡ starts → y.opponents ≡ opponents → y.colours ≡ colours → y.results ≡ results
    → ((law : Law) → first_from (broken_cell law n R (four starts opponents colours results)) 0 (n * most_rounds) ≡ none) → none ≡ unlawful_in n R y
none_in n R y e0 e1 e2 e3 h = sym whole
  where
    none_by : (law : Law) → broken_by law n R y ≡ none
    none_by law =
        let four-none : first_from (broken_cell law n R (four y.starts y.opponents y.colours y.results)) 0 (n * most_rounds) ≡ none = rw (e0, e1, e2, e3) (h law) in
        ap (to (at_player (file_fault_number (unlawful law)) y.lines)) (sym (first_in law n R y (n * most_rounds)) ∙ four-none)

    whole : unlawful_in n R y ≡ none
    whole = rw (none_by bye-or-game, none_by mutual_pairing, none_by fitting_results, none_by one_U) refl
