-- What the step of a 001 line gives, by the tests on its way; and the index with a player more. Assumes nothing.
use mathlib.Core.Path.{◌≡◌, refl, sym, ap, ◌∙◌, subst}
use mathlib.Core.Option.{none, some}
use mathlib.Core.List.{List}
use Prim.Native.Nat.{ℕ, ◌+◌, ◌≤◌, ◌<◌}
use native.Mathlib.Omega.{arith}
use lib.ListN.{length, set}
use borrow.Author.Tests.{lt-ltb, le-ltb}
use Rattle.types.specs.declared.Place.{Place}
use Rattle.kit.proofs.Bools.{within}
use Rattle.law.specs.Sizes.{most_players, most_start}
use Rattle.law.specs.Players.{PlayerLine}
use Rattle.law.proofs.RecordsRead.{player_of, player-line}
use Rattle.join.specs.Run.{on, stop}
use Rattle.join.specs.Store.{Nine, Count, State, state, place_of, store_player, count_player, step_player}
use Rattle.kit.specs.Decides.{to}
use Rattle.fields.specs.Said.{says, or_bad_field}
use Rattle.steps.proofs.Answers.{value_there}
use Rattle.rows.specs.declared.Row.{Row}
use Rattle.rows.specs.Rows.{the_row}
use Rattle.std.specs.Prelude as program
use Rattle.std.specs.Prelude.{Some, None}
use Rattle.index.specs.Index.{as_placed, Indexed}
use Rattle.index.proofs.Told.{told-place, told_nobody}
use Rattle.index.proofs.Indexes.{index_more, low_more}

-- ---- the row of a line
pub record Read (line : List ℕ) (r : Row) : Type 0 where
  pub player : PlayerLine
  pub is : player_of line ≡ some player
  pub row_is : r ≡ the_row player
  pub start_is : r.start.0 ≡ player.start
  pub low : r.start.0 ≤ most_start

pub read_row : (line : List ℕ) (r : Row) → says r ≡ or_bad_field (to the_row (player_of line)) → Read line r
unfolding the_row
read_row line r e =
    let h = value_there the_row (player_of line) r (sym e) in
    let start_is : r.start.0 ≡ h.0.start = ap (λ (x : Row). x.start.0) h.1.1 in
    record { player = h.0; is = h.1.0; row_is = h.1.1; start_is = start_is; low = subst (λ (n : ℕ). n ≤ most_start) (sym start_is) (within 1 most_start h.0.start (player-line.sound line h.0 h.1.0).start_in).1 }

-- ---- the step
module _ (ln : ℕ) (c : Count) (t : Nine) (line : List ℕ) where
  abbrev s : State
  s = state ln c t

  pub player_bad : player_of line ≡ none → stop 7 s ≡ step_player (player_of line) s
  unfolding step_player
  player_bad e = rw e refl

  module _ {r : Row} (f : Read line r) {a : program.Option Place} (told : a ≡ as_placed (place_of t.starts c.players r.start.0)) where
    named : a ≡ as_placed (place_of t.starts c.players f.player.start)
    named = told ∙ ap (λ (n : ℕ). as_placed (place_of t.starts c.players n)) f.start_is

    pub player-again : {place : Place} → a ≡ Some place → stop 8 s ≡ step_player (player_of line) s
    unfolding step_player
    player-again e = rw (f.is, told-place (place_of t.starts c.players f.player.start) named e) refl

    pub player_full : a ≡ None → most_players < c.players + 1 → stop 9 s ≡ step_player (player_of line) s
    unfolding step_player
    player_full e full = rw (f.is, told_nobody (place_of t.starts c.players f.player.start) named e, lt-ltb most_players (c.players + 1) full) refl

    pub player-on : a ≡ None → c.players + 1 ≤ most_players → {d : Count} → d ≡ count_player c → {x : Nine} → x ≡ store_player f.player c.players (ln + 1) t
        → on (state (ln + 1) d x) ≡ step_player (player_of line) s
    unfolding step_player
    player-on e room d-is x-is =
        rw (f.is, told_nobody (place_of t.starts c.players f.player.start) named e, le-ltb most_players (c.players + 1) room, d-is, x-is) refl

-- ---- the index
pub starts_of : (p : PlayerLine) (n ln : ℕ) (t : Nine) {x : Nine} → x ≡ store_player p n ln t → x.starts ≡ set t.starts n p.start
unfolding store_player
starts_of p n ln t e = ap (λ (y : Nine). y.starts) e

pub indexed_more : (starts index : List ℕ) (n start : ℕ) → Indexed starts n index → most_players ≤ length starts → start ≤ most_start → n + 1 ≤ most_players
    → {a : program.Option Place} → a ≡ as_placed (place_of starts n start) → a ≡ None
    → {x y : List ℕ} {m : ℕ} → x ≡ set starts n start → m ≡ n + 1 → y ≡ set index start (n + 1) → Indexed x m y
indexed_more starts index n start h long low room told e x-is m-is y-is =
    rw (x-is, m-is, y-is)
    (record {
      few = room;
      says = index_more h.says (omega arith) start (told_nobody (place_of starts n start) told e);
      low = low_more starts n start h.low (omega arith) low;
    })
