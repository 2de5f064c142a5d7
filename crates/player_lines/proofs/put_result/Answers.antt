-- `player_lines::put_result` meets its contract. Assumes nothing.
use mathlib.Core.Path.{refl, sym, ap, ◌∙◌}
use mathlib.Core.Bool.{Bool, cond}
use mathlib.Core.List.{[], ◌∷◌}
use Rattle.law.specs.Columns.{blank}
use Rattle.puts.proofs.Puts.{puts_as}
use Rattle.player_lines.proofs.put_result.Goals as goal

pub returns-then-is_unknown : goal.returns-then-is_unknown
returns-then-is_unknown c =
    let test = sym c.is_unknown.ensures ∙ c.if-is_unknown.true in
    puts_as (ap (λ (v : Bool). blank ∷ cond v blank c.args.res ∷ []) (sym test)) refl refl c.put_blanks.ensures

pub returns : goal.returns
returns c =
    let test = sym c.is_unknown.ensures ∙ c.if-is_unknown.false in
    puts_as (ap (λ (v : Bool). blank ∷ cond v blank c.args.res ∷ []) (sym test)) refl refl c.put_letter.ensures
