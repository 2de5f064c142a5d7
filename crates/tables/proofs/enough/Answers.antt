-- `tables::enough` meets its contract. Assumes nothing.
use lib.Dec.{leb}
use Rattle.law.specs.Sizes.{most_players, most_accelerations, most_text}
use Rattle.law.specs.Tables.{kept_cells, entry_cells}
use Rattle.tables.proofs.Chains.{nine_tests}
use Rattle.tables.proofs.enough.Goals as goal

pub returns : goal.returns
returns c =
    let a = c.args in
    nine_tests (leb most_players a.starts) (leb most_players a.points) (leb most_players a.ranks) (leb kept_cells a.kept) (leb entry_cells a.opponents) (leb entry_cells a.colours) (leb entry_cells a.results) (leb most_text a.text) (leb most_accelerations a.accelerations)
