-- What a search answers, by what its pure definition gives. `as_placed` of index is the third of them, for a player.
use Rattle.std.proofs.Math.Option as maybe
use Rattle.std.specs.Prelude.{ℕ, Option, Some, None}
use Rattle.turns.specs.declared.Turn.{Turn}
use Rattle.turns.specs.declared.RecordNumber.{RecordNumber}

abbrev pub as_found_turn : maybe.Option ℕ → Option Turn
as_found_turn maybe.none = None
as_found_turn (maybe.some k) = Some (record { 0 = k })

abbrev pub as_found_record : maybe.Option ℕ → Option RecordNumber
as_found_record maybe.none = None
as_found_record (maybe.some j) = Some (record { 0 = j })
