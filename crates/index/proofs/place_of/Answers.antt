-- `index::place_of` meets its contract: what the index says at a number, and that no number is above the highest. Assumes nothing.
use mathlib.Core.Path.{sym, ◌∙◌}
use Rattle.index.proofs.Indexes.{above, cell_none, cell_some}
use Rattle.index.proofs.place_of.Goals as goal

pub returns-then-id-gt-MOST_START : goal.returns-then-id-gt-MOST_START
returns-then-id-gt-MOST_START c = λ starts n x low. above starts n _ low c.if-id-gt-MOST_START.true

pub returns-then-place-eq0 : goal.returns-then-place-eq0
returns-then-place-eq0 c = λ starts n x low. cell_none starts n _ _ x c.if-id-gt-MOST_START.false (sym c.from-place.ensures ∙ c.if-place-eq0.true)

pub returns : goal.returns
returns c = λ starts n x low. cell_some starts n _ _ x c.if-id-gt-MOST_START.false _ c.from-place.ensures c.if-place-eq0.false
