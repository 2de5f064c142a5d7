-- After the last line: the number of rounds, the closing pass and the checks, over counts and cells. Means: no part of the statement.
use Rattle.std.specs.Prelude.{◌≡◌, Bool, true, false, cond, ◌&&◌, ◌||◌, not, List, ℕ, ◌+◌, ◌*◌, ◌/◌, ◌%◌, eqb, leb, ltb, get_or}
use Rattle.std.proofs.Math.Option.{Option, none, some}
use Prim.Native.Char.{code}
use Rattle.kit.specs.Ascii.{ascii}
use Rattle.kit.specs.Lists.{among}
use Rattle.kit.specs.Decides.{is_some, to, or_else}
use Rattle.kit.specs.Table.{Holds}
use Rattle.types.specs.declared.Acceleration.{Acceleration}
use Rattle.law.specs.Sizes.{most_players, most_rounds}
use Rattle.law.specs.Accelerations.{shares}
use Rattle.law.specs.Players.{game_colours, unknown_result, held_game_results}
use Rattle.law.specs.Tournament.{Entry}
use Rattle.law.specs.Entries.{is_bye, fits, Law, bye-or-game, mutual_pairing, fitting_results, one_U}
use Rattle.law.specs.Lawful.{no_acceleration}
use Rattle.law.specs.Tables.{entry_cells, cell_of, place_in, round_in}
use Rattle.law.specs.Refusals.{Refusal, refusal, file_fault_number, incomplete, past_142, shared, unlawful, wrong_sum_lem}
use Rattle.join.specs.Store.{Nine, Count, place_of}
use Rattle.join.specs.Grid.{first_from, most_from, sum_from, some_below}

-- ---- turns: player by player, each round by round
abbrev pub place_at : ℕ → ℕ
place_at k = k / most_rounds

abbrev pub round_at : ℕ → ℕ
round_at k = k % most_rounds + 1

-- ---- the number of rounds: 142, or the highest round with a cell that is not zero
abbrev pub is_seen : List ℕ → ℕ → Bool
is_seen colours k = not (eqb (get_or colours (cell_of (place_at k) (round_at k)) 0) 0)

unfoldable pub round_seen : List ℕ → ℕ → ℕ
round_seen colours k = cond (is_seen colours k) (round_at k) 0

unfoldable pub rounds_seen : List ℕ → ℕ → ℕ
rounds_seen colours n = most_from (round_seen colours) 0 (n * most_rounds)

unfoldable pub rounds_found : Count → List ℕ → ℕ
rounds_found c colours = cond c.stated c.rounds (rounds_seen colours c.players)

-- ---- 11: a cell past R that is not zero
unfoldable pub past_cell : ℕ → List ℕ → ℕ → Bool
past_cell R colours k = ltb R (round_at k) && is_seen colours k

-- ---- 17: a record that shares with an earlier one
unfoldable pub shared_record : List Acceleration → ℕ → Bool
shared_record records j = some_below (λ i. shares (get_or records j no_acceleration) (get_or records i no_acceleration)) j

-- ---- the closing pass on one table: a zero cell of a player up to round R becomes d
unfoldable pub closing : ℕ → ℕ → ℕ → ℕ → ℕ → ℕ
closing n R d i c = cond (ltb (place_in i) n && leb (round_in i) R && eqb c 0) d c

-- ---- 12 to 15 at a place and round
unfoldable pub entry_cell : Nine → ℕ → ℕ → Entry
entry_cell t place r = record { id = get_or t.opponents (cell_of place r) 0; colour = get_or t.colours (cell_of place r) 0; result = get_or t.results (cell_of place r) 0 }

abbrev pub asked_at : (ℕ → Bool) → Option ℕ → Bool
asked_at f none = true
asked_at f (some q) = f q

-- over the start numbers, the entry itself, and what the opponent's place holds
unfoldable pub is_game_by : Entry → ℕ → Option ℕ → Bool
is_game_by e start o = not (eqb e.id start) && is_some o && among e.colour game_colours && among e.result held_game_results

unfoldable pub answers_by : ℕ → Entry → Entry → Bool
answers_by start e theirs = eqb theirs.id start && not (eqb theirs.colour e.colour)

unfoldable pub has_uat : List ℕ → ℕ → ℕ → Bool
has_uat results place r = eqb (get_or results (cell_of place r) 0) (code "U")

unfoldable pub keeps_cell : Law → ℕ → Nine → ℕ → ℕ → Bool
keeps_cell bye-or-game n t place r =
    is_bye (entry_cell t place r) || is_game_by (entry_cell t place r) (get_or t.starts place 0) (place_of t.starts n (entry_cell t place r).id)
keeps_cell mutual_pairing n t place r =
    asked_at (λ q. answers_by (get_or t.starts place 0) (entry_cell t place r) (entry_cell t q r)) (place_of t.starts n (entry_cell t place r).id)
keeps_cell fitting_results n t place r =
    asked_at (λ q. fits (entry_cell t place r).result (entry_cell t q r).result) (place_of t.starts n (entry_cell t place r).id)
keeps_cell one_U n t place r =
    not (has_uat t.results place r && some_below (λ q. has_uat t.results q r) place)

unfoldable pub broken_cell : Law → ℕ → ℕ → Nine → ℕ → Bool
broken_cell law n R t k = leb (round_at k) R && not (keeps_cell law n t (place_at k) (round_at k))

-- ---- 16: what results earn by the six values
unfoldable pub worth_by : List ℕ → ℕ → ℕ
worth_by v result =
    cond (among result (ascii "1W+F")) (get_or v 0 0)
    (cond (among result (ascii "=DH")) (get_or v 1 0)
    (cond (among result (ascii "0L")) (get_or v 2 0)
    (cond (among result (ascii "-Z")) (get_or v 3 0)
    (cond (among result (ascii "U")) (get_or v 4 0)
    (cond (eqb result unknown_result) (get_or v 5 0) 0)))))

unfoldable pub sum_at : List ℕ → List ℕ → ℕ → ℕ → ℕ
sum_at v results place R = sum_from (λ j. worth_by v (get_or results (cell_of place (j + 1)) 0)) 0 R

unfoldable pub wrong_sum : List ℕ → List ℕ → List ℕ → ℕ → ℕ → Bool
wrong_sum v points results R place = not (eqb (get_or points place 0) (sum_at v results place R))

-- ---- the verdict: 10, 11, 17, 12 to 16. x: the tables before the closing pass, y: after it
abbrev pub at_player : ℕ → List ℕ → ℕ → Refusal
at_player number lines k = refusal number (get_or lines (place_at k) 0) (round_at k)

abbrev pub broken_by : Law → ℕ → ℕ → Nine → Option Refusal
broken_by law n R y = to (at_player (file_fault_number (unlawful law)) y.lines) (first_from (broken_cell law n R y) 0 (n * most_rounds))

unfoldable pub verdict : Count → ℕ → Nine → Nine → Option Refusal
verdict c R x y =
    or_else (cond (get_or c.seen 0 false && ltb 0 c.players) none (some (refusal (file_fault_number incomplete) 0 0)))
    (or_else (to (at_player (file_fault_number past_142) x.lines) (first_from (past_cell R x.colours) 0 (c.players * most_rounds)))
    (or_else (to (λ j. refusal (file_fault_number shared) (get_or x.lines (most_players + j) 0) 0) (first_from (shared_record c.records) 0 c.accelerations))
    (or_else (broken_by bye-or-game c.players R y)
    (or_else (broken_by mutual_pairing c.players R y)
    (or_else (broken_by fitting_results c.players R y)
    (or_else (broken_by one_U c.players R y)
    (to (λ p. refusal (file_fault_number wrong_sum_lem) (get_or y.lines p 0) 0) (first_from (wrong_sum c.values y.points y.results R) 0 c.players))))))))

-- y is x after the closing pass: a blank entry up to round R is a bye with `-` and `Z`
pub record Closes (n R : ℕ) (x y : Nine) : Type 0 where
  pub starts : y.starts ≡ x.starts
  pub points : y.points ≡ x.points
  pub ranks : y.ranks ≡ x.ranks
  pub kept : y.kept ≡ x.kept
  pub opponents : y.opponents ≡ x.opponents
  pub colours : Holds 0 entry_cells (λ i. closing n R (code "-") i (get_or x.colours i 0)) x.colours y.colours
  pub results : Holds 0 entry_cells (λ i. closing n R (code "Z") i (get_or x.results i 0)) x.results y.results
  pub text : y.text ≡ x.text
  pub lines : y.lines ≡ x.lines
