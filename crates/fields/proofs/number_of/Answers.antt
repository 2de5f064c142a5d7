-- `fields::number_of` meets its contract: the first byte that is not blank says where the digits begin. Assumes nothing.
use mathlib.Core.List.{[], ◌∷◌}
use Rattle.fields.proofs.Fours.{their_number, from_first, from_second}
use Rattle.fields.proofs.number_of.Goals as goal

pub returns-then-a-ne32 : goal.returns-then-a-ne32
returns-then-a-ne32 c =
    let a = c.args in
    their_number (a.a ∷ a.b ∷ a.c ∷ a.d ∷ []) (a.a ∷ a.b ∷ a.c ∷ a.d ∷ []) _ _ (from_first a.a a.b a.c a.d c.if-a-ne32.true) c.four_digits.ensures c.map.ensures.cases

pub returns-then-b-ne32 : goal.returns-then-b-ne32
returns-then-b-ne32 c =
    let a = c.args in
    their_number (a.a ∷ a.b ∷ a.c ∷ a.d ∷ []) (48 ∷ a.b ∷ a.c ∷ a.d ∷ []) _ _ (from_second a.a a.b a.c a.d c.if-a-ne32.false c.if-b-ne32.true) c.four_digits-then-b-ne32.ensures c.map-then-b-ne32.ensures.cases
