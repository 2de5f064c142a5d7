-- `verdicts::first_unlawful` meets its contract. Assumes nothing.
use mathlib.Core.Path.{◌∙◌}
use Rattle.law.specs.Entries.{bye-or-game, mutual_pairing, fitting_results, one_U}
use Rattle.join.specs.Check.{broken_by}
use Rattle.verdicts.proofs.Parts.{handed, or-first, or-next, broken_in, none_in}
use Rattle.verdicts.proofs.first_unlawful.Goals as goal

pub returns-then-all_lawful : goal.returns-then-all_lawful
returns-then-all_lawful c =
    let e = c.args.entries.now in
    λ y e0 e1 e2 e3 e4. none_in e.players e.rounds y e0 e1 e2 e3 (c.all_lawful.ensures c.if-all_lawful.true)

pub returns-in_err-broken : goal.returns-in_err-broken
returns-in_err-broken c =
    let e = c.args.entries.now in
    λ y e0 e1 e2 e3 e4.
    handed _ _ c.from_residual.ensures.1 ∙ or-first (broken_by bye-or-game e.players e.rounds y) _ (broken_in bye-or-game e.players e.rounds y e0 e1 e2 e3 e4 c.in_err-broken.ensures)

pub returns-in_err-broken-2 : goal.returns-in_err-broken-2
returns-in_err-broken-2 c =
    let e = c.args.entries.now in
    λ y e0 e1 e2 e3 e4.
    handed _ _ c.from_residual-in_err-broken-2.ensures.1
    ∙ or-next (broken_by bye-or-game e.players e.rounds y) _ (broken_in bye-or-game e.players e.rounds y e0 e1 e2 e3 e4 c.in_ok-broken.ensures)
    (or-first (broken_by mutual_pairing e.players e.rounds y) _ (broken_in mutual_pairing e.players e.rounds y e0 e1 e2 e3 e4 c.in_err-broken-2.ensures))

pub returns-in_err-broken-3 : goal.returns-in_err-broken-3
returns-in_err-broken-3 c =
    let e = c.args.entries.now in
    λ y e0 e1 e2 e3 e4.
    handed _ _ c.from_residual-in_err-broken-3.ensures.1
    ∙ or-next (broken_by bye-or-game e.players e.rounds y) _ (broken_in bye-or-game e.players e.rounds y e0 e1 e2 e3 e4 c.in_ok-broken.ensures)
    (or-next (broken_by mutual_pairing e.players e.rounds y) _ (broken_in mutual_pairing e.players e.rounds y e0 e1 e2 e3 e4 c.in_ok-broken-2.ensures)
    (or-first (broken_by fitting_results e.players e.rounds y) _ (broken_in fitting_results e.players e.rounds y e0 e1 e2 e3 e4 c.in_err-broken-3.ensures)))

pub returns : goal.returns
returns c =
    let e = c.args.entries.now in
    λ y e0 e1 e2 e3 e4.
    or-next (broken_by bye-or-game e.players e.rounds y) _ (broken_in bye-or-game e.players e.rounds y e0 e1 e2 e3 e4 c.in_ok-broken.ensures)
    (or-next (broken_by mutual_pairing e.players e.rounds y) _ (broken_in mutual_pairing e.players e.rounds y e0 e1 e2 e3 e4 c.in_ok-broken-2.ensures)
    (or-next (broken_by fitting_results e.players e.rounds y) _ (broken_in fitting_results e.players e.rounds y e0 e1 e2 e3 e4 c.in_ok-broken-3.ensures)
    (broken_in one_U e.players e.rounds y e0 e1 e2 e3 e4 c.broken-4.ensures)))
