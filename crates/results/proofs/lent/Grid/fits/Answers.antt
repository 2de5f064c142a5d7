-- `results::fits` meets its contract. Assumes nothing.
use mathlib.Core.Path.{◌∙◌}
use native.Mathlib.Omega.{arith}
use Rattle.results.proofs.Ordered.{own_unlisted, theirs_unlisted, both_listed}
use borrow.Author.Rules.{rules}
use Rattle.results.proofs.lent.Grid.fits.Goals as goal

pub returns-then-own-ge-GAMES : goal.returns-then-own-ge-GAMES
returns-then-own-ge-GAMES c =
    let own = c.args.self.now.is_order.each c.args.a (search rules) in
    own_unlisted _ _ (omega (arith, c.if-own-ge-GAMES.true, own))

pub returns-then-theirs-ge-GAMES : goal.returns-then-theirs-ge-GAMES
returns-then-theirs-ge-GAMES c =
    let own = c.args.self.now.is_order.each c.args.a (search rules) in
    let theirs = c.args.self.now.is_order.each c.args.b (search rules) in
    theirs_unlisted _ _ (omega (arith, c.if-own-ge-GAMES.false, own)) (omega (arith, c.if-theirs-ge-GAMES.true, theirs))

pub returns : goal.returns
returns c =
    let own = c.args.self.now.is_order.each c.args.a (search rules) in
    let theirs = c.args.self.now.is_order.each c.args.b (search rules) in
    both_listed c.args.self.now.is_grid _ _ own theirs c.if-own-ge-GAMES.false c.if-theirs-ge-GAMES.false
