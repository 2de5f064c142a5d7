-- `results::worth` meets its contract: every byte has a place in the order. Assumes nothing.
use mathlib.Core.Path.{ap, ◌∙◌}
use borrow.Author.Rules.{rules}
use lib.ListN.{get_or}
use Rattle.results.proofs.Ordered.{place-low}
use Rattle.results.proofs.lent.Worths.of.Goals as goal

pub offset_bounds-self-place : goal.offset_bounds-self-place
offset_bounds-self-place c =
    let place = c.args.self.now.is_order.each c.args.res (search rules) in
    search (rules, place, place-low c.args.res)

pub bounds-self-place : goal.bounds-self-place
bounds-self-place c =
    let place = c.args.self.now.is_order.each c.args.res (search rules) in
    search (rules, place, place-low c.args.res)

pub returns : goal.returns
returns c =
    let place = c.args.self.now.is_order.each c.args.res (search rules) in
    ap (λ k. get_or c.args.self.now.cells k 0) place ∙ c.args.self.now.are_worths.each c.args.res (search rules)
