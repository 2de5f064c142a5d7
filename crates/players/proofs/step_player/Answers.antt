-- `players::step_player` meets its contract. Assumes nothing.
use mathlib.Core.Path.{refl, sym, ap, ◌∙◌}
use mathlib.Core.List.{[]}
use Prim.Native.Nat.{ℕ}
use native.Mathlib.Omega.{arith}
use lib.ListN.{set}
use Rattle.kit.specs.Decides.{to}
use Rattle.law.proofs.RecordsRead.{player_of}
use Rattle.join.specs.Store.{store_player, count_player}
use Rattle.rows.specs.Rows.{the_row}
use Rattle.tables.specs.Lent.{nine_of}
use Rattle.steps.specs.Counts.{as_count}
use Rattle.steps.proofs.Answers.{to_none}
use Rattle.steps.proofs.Went.{handed}
use Rattle.players.proofs.Steps.{read_row, player_bad, player-again, player_full, player-on, starts_of, indexed_more}
use Rattle.players.proofs.step_player.Goals as goal

pub returns-in_err-row-clause-step : goal.returns-in_err-row-clause-step
returns-in_err-row-clause-step c =
    let a = c.args in
    λ ln text e. let h = handed (to the_row (player_of a.line.now)) _ _ c.from_residual.ensures.1 c.in_err-row.ensures ln a.counts.now (nine_of a.settled.now a.closing.now a.columns.now text) in
    h.0 ∙ player_bad ln (as_count a.counts.now) (nine_of a.settled.now a.closing.now a.columns.now text) a.line.now (to_none the_row _ h.1)

pub returns-in_default-clause-step : goal.returns-in_default-clause-step
returns-in_default-clause-step c =
    let a = c.args in
    λ ln text e. player-again ln (as_count a.counts.now) (nine_of a.settled.now a.closing.now a.columns.now text) a.line.now (read_row a.line.now _ c.in_ok-row.ensures)
    (c.place_of.ensures a.settled.now.starts.now a.counts.now.players c.requires.says c.requires.low) c.in_default.is

pub returns-then-counts-eq-MOST_PLAYERS-clause-step : goal.returns-then-counts-eq-MOST_PLAYERS-clause-step
returns-then-counts-eq-MOST_PLAYERS-clause-step c =
    let a = c.args in
    λ ln text e. player_full ln (as_count a.counts.now) (nine_of a.settled.now a.closing.now a.columns.now text) a.line.now (read_row a.line.now _ c.in_ok-row.ensures)
    (c.place_of.ensures a.settled.now.starts.now a.counts.now.players c.requires.says c.requires.low) c.in-None.is (omega arith)

pub index_start-requires : goal.index_start-requires
index_start-requires c = ((read_row c.args.line.now _ c.in_ok-row.ensures).low, omega arith)

pub returns-clause-step : goal.returns-clause-step
unfolding count_player
returns-clause-step c =
    let a = c.args in
    let f = read_row a.line.now _ c.in_ok-row.ensures in
    let stored = c.store_player.ensures.stored f.player in
    λ ln text e. player-on ln (as_count a.counts.now) (nine_of a.settled.now a.closing.now a.columns.now text) a.line.now f (c.place_of.ensures a.settled.now.starts.now a.counts.now.players c.requires.says c.requires.low) c.in-None.is (omega arith) refl
    (stored text f.row_is ∙ ap (λ (n : ℕ). store_player f.player a.counts.now.players n (nine_of a.settled.now a.closing.now a.columns.now text)) e)

pub returns-clause-indexed : goal.returns-clause-indexed
returns-clause-indexed c =
    let a = c.args in
    let starts = a.settled.now.starts.now in
    let f = read_row a.line.now _ c.in_ok-row.ensures in
    let stored = c.store_player.ensures.stored f.player [] f.row_is in
    indexed_more starts a.index.now a.counts.now.players _ c.requires (omega arith) f.low (omega arith)
    (c.place_of.ensures starts a.counts.now.players c.requires.says c.requires.low) c.in-None.is
    (starts_of f.player a.counts.now.players a.number.0 (nine_of a.settled.now a.closing.now a.columns.now []) stored ∙ ap (set starts a.counts.now.players) (sym f.start_is)) refl c.index_start.ensures
