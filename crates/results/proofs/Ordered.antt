-- The place of a byte among the results, that what fits is two of the eight or two that are unknown, and tables that are computed from their rule. Assumes nothing.
use mathlib.Core.Path.{◌≡◌, refl, sym, ap, ap₂, ◌∙◌}
use mathlib.Core.Bool.{Bool, true, false, ◌&&◌, ◌||◌}
use mathlib.Core.List.{List, [], map}
use Prim.Native.Nat.{ℕ, ◌≤◌, ◌<◌}
use borrow.Author.Tests.{eqb-true, lt-ltb, le-ltb}
use lib.Dec.{eqb}
use lib.ListN.{length, get_or}
use Rattle.kit.specs.Lists.{among, from}
use Rattle.kit.proofs.Bools.{clash, and, both_ways, not_so, any_append}
use Rattle.kit.proofs.Lists.{made_at}
use Rattle.kit.proofs.Pairs.{listed_either}
use Rattle.kit.proofs.Places.{place-most, place_at, place-first}
use Rattle.law.specs.Players.{game_results, unknown_result, held_game_results}
use Rattle.law.specs.Entries.{fitting_pairs, fits}
use Rattle.join.specs.Check.{worth_by}
use Rattle.results.specs.Order.{other_results, all_results, result_at, result_place, IsGrid, IsOrder, AreWorths}

-- ---- places in the order
pub place-low : (c : ℕ) → result_place c ≤ length all_results
unfolding result_place
place-low c = place-most c all_results

listed : (c : ℕ) → result_place c < length game_results → among c game_results ≡ true
unfolding result_place
listed c l = sym (place-first c game_results other_results) ∙ lt-ltb (result_place c) (length game_results) l

unlisted : (c : ℕ) → length game_results ≤ result_place c → among c game_results ≡ false
unfolding result_place
unlisted c l = sym (place-first c game_results other_results) ∙ le-ltb (result_place c) (length game_results) l

there : (c : ℕ) → among c game_results ≡ true → result_at (result_place c) ≡ c
unfolding result_place
there c h = place_at c all_results (any_append (eqb c) game_results other_results ∙ rw (h) refl)

-- ---- what fits is two of the eight, or two that are unknown
abbrev are_unknown : ℕ → ℕ → Bool
are_unknown a b = eqb a unknown_result && eqb b unknown_result

unknown_fit : (a b : ℕ) → are_unknown a b ≡ true → fits a b ≡ true
unfolding fits
unknown_fit a b e =
    let are = and (eqb a unknown_result) (eqb b unknown_result) e in
    rw (eqb-true a unknown_result are.0, eqb-true b unknown_result are.1) refl

pub fits_own : (a b : ℕ) → fits a b ≡ true → among a held_game_results ≡ true
unfolding fits
fits_own a b = listed_either (λ own theirs. among own held_game_results) fitting_pairs refl a b

fits_one_kind : (a b : ℕ) → fits a b ≡ true → are_unknown a b || (among a game_results && among b game_results) ≡ true
unfolding fits
fits_one_kind a b = listed_either (λ own theirs. are_unknown own theirs || (among own game_results && among theirs game_results)) fitting_pairs refl a b

-- an own result that is none of the eight; one that is, and an opponent's that is not
pub own_unlisted : (a b : ℕ) → length game_results ≤ result_place a → are_unknown a b ≡ fits a b
own_unlisted a b l = both_ways (are_unknown a b) (fits a b) (unknown_fit a b) (λ e. go (are_unknown a b) (fits_one_kind a b e))
  where
    go : (v : Bool) → v || (among a game_results && among b game_results) ≡ true → v ≡ true
    go true h = refl
    go false h = clash (sym (unlisted a l) ∙ (and (among a game_results) (among b game_results) h).0)

pub theirs_unlisted : (a b : ℕ) → result_place a < length game_results → length game_results ≤ result_place b → false ≡ fits a b
theirs_unlisted a b k l = sym (not_so (fits a b) (λ e. go (eqb a unknown_result) refl (fits_one_kind a b e)))
  where
    go : (v : Bool) → eqb a unknown_result ≡ v → (v && eqb b unknown_result) || (among a game_results && among b game_results) ≡ true → ⊥
    go true u h = clash (sym (ap (λ (c : ℕ). among c game_results) (eqb-true a unknown_result u)) ∙ listed a k)
    go false u h = clash (sym (unlisted b l) ∙ (and (among a game_results) (among b game_results) h).1)

pub both_listed : {cells : List (List Bool)} → IsGrid cells → (a b : ℕ) {x y : ℕ} → x ≡ result_place a → y ≡ result_place b → x < length game_results → y < length game_results → get_or (get_or cells x []) y false ≡ fits a b
both_listed {cells} g a b {x} {y} p q l m =
    g.each x y l m
    ∙ ap₂ fits (ap result_at p ∙ there a (listed a (rw (p) at l))) (ap result_at q ∙ there b (listed b (rw (q) at m)))

-- ---- tables that are computed from their rule
module _ {A : Type 0} where
  abbrev pub of_rule : ℕ → (ℕ → A) → List A
  of_rule n rule = map rule (from 0 n)

abbrev pub row : ℕ → List Bool
row x = of_rule (length game_results) (λ y. fits (result_at x) (result_at y))

pub is_grid : IsGrid (of_rule (length game_results) row)
is_grid =
    record {
      each =
          λ x y l m.
          ap (λ (r : List Bool). get_or r y false) (made_at row [] (length game_results) x l) ∙ made_at (λ y. fits (result_at x) (result_at y)) false (length game_results) y m;
    }

pub is_order : IsOrder (of_rule 256 result_place)
is_order = record { each = λ c l. made_at result_place 0 256 c l }

-- what stands at each byte's place is what it earns
pub are-worths : (values cells : List ℕ) → of_rule 256 (λ c. get_or cells (result_place c) 0) ≡ of_rule 256 (worth_by values) → AreWorths values cells
are-worths values cells e =
    record {
      each =
          λ c l.
          sym (made_at (λ c. get_or cells (result_place c) 0) 0 256 c l)
          ∙ ap (λ (t : List ℕ). get_or t c 0) e
          ∙ made_at (worth_by values) 0 256 c l;
    }
