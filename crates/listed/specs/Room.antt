-- The tables of a room, as lists.
use Rattle.tables.specs.Lent.{nine}
use Rattle.join.specs.Store.{Nine}
use Rattle.listed.specs.declared.room.Room.{Room}

abbrev pub nine_in : Room → Nine
nine_in r = nine r.starts r.points r.ranks r.kept r.opponents r.colours r.results r.text r.lines
