-- `texts::stand` meets its contract. Assumes nothing.
use Rattle.std.proofs.Common.{rules}
use Rattle.texts.proofs.KeptLines.{not-kept, stood_again, stands}
use Rattle.texts.proofs.stand.Goals as goal

pub returns-then-not-is_kept_line : goal.returns-then-not-is_kept_line
returns-then-not-is_kept_line c = λ before e. not-kept before c.args.line.now _ e _ c.is_kept_line.ensures c.if-not-is_kept_line.true

pub text_place-place-requires : goal.text_place-place-requires
text_place-place-requires c = (c.is_kept_line.ensures.sound c.if-not-is_kept_line.false).listed

pub returns-then-seen-place : goal.returns-then-seen-place
returns-then-seen-place c =
    λ before e.
    let k = c.is_kept_line.ensures.sound c.if-not-is_kept_line.false in
    stood_again before c.args.line.now _ e k _ c.text_place-place.ensures.0 (search rules)

pub returns : goal.returns
returns c =
    λ before e.
    let k = c.is_kept_line.ensures.sound c.if-not-is_kept_line.false in
    stands before c.args.line.now _ e k _ c.text_place-place.ensures.0 (search rules)
