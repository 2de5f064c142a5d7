-- The listing of a reading, as bytes: "First line: players, rounds, acceleration records. Then start number, points in tenths, rank, one field a round
-- (a bye as `0-U`). A refused file gives one line: `refused`, number, line, round, tabs between."
use Rattle.std.specs.Prelude.{cond, List, [], ◌∷◌, ◌++◌, ℕ, zero, suc, ◌+◌, ◌*◌, eqb, get_or}
use Rattle.kit.specs.Ascii.{ascii}
use Rattle.types.specs.declared.Answer.{Answer}
use Rattle.law.specs.Sizes.{most_players, most_rounds}
use Rattle.law.specs.Tables.{cell_of}
use Rattle.law.specs.Writing.{filled, nothing}

-- the tables that are listed
pub record Six : Type 0 where
  pub starts : List ℕ
  pub points : List ℕ
  pub ranks : List ℕ
  pub opponents : List ℕ
  pub colours : List ℕ
  pub results : List ℕ

-- ---- the bytes
abbrev tab : List ℕ
tab = 9 ∷ []

abbrev pub lf : List ℕ
lf = 10 ∷ []

-- a number in decimal; a count of 32 bits has ten digits at most
unfoldable pub decimal : ℕ → List ℕ
decimal n = filled nothing 10 n

unfoldable pub field : ℕ → List ℕ
field n = tab ++ decimal n

-- "one field a round": id, colour and result
unfoldable pub entry_field : ℕ → ℕ → ℕ → List ℕ
entry_field id colour result = field id ++ (colour ∷ []) ++ (result ∷ [])

-- of a player, from round 1 on
unfoldable pub entry_fields : List ℕ → List ℕ → List ℕ → ℕ → ℕ → List ℕ
entry_fields opponents colours results place zero = []
entry_fields opponents colours results place (suc n) =
    let i = cell_of place (suc n) in
    entry_fields opponents colours results place n ++ entry_field (get_or opponents i 0) (get_or colours i 0) (get_or results i 0)

unfoldable pub standing : ℕ → ℕ → ℕ → List ℕ
standing start points rank = decimal start ++ field points ++ field rank

unfoldable pub player_line : Six → ℕ → ℕ → List ℕ
player_line t rounds place =
    standing (get_or t.starts place 0) (get_or t.points place 0) (get_or t.ranks place 0) ++
    entry_fields t.opponents t.colours t.results place rounds ++ lf

-- the first players' lines
unfoldable pub player_lines : Six → ℕ → ℕ → List ℕ
player_lines t rounds zero = []
player_lines t rounds (suc n) = player_lines t rounds n ++ player_line t rounds n

unfoldable pub answer_line : List ℕ → ℕ → ℕ → ℕ → List ℕ
answer_line word a b c = word ++ field a ++ field b ++ field c ++ lf

abbrev pub accepted_listing : Answer → Six → List ℕ
accepted_listing a t = answer_line (ascii "accepted") a.players a.rounds a.accelerations ++ player_lines t a.rounds a.players

abbrev pub refused_listing : Answer → List ℕ
refused_listing a = answer_line (ascii "refused") a.number a.line.0 a.round

unfoldable pub listing : Answer → Six → List ℕ
listing a t = cond (eqb a.number 0) (accepted_listing a t) (refused_listing a)

-- ---- the most bytes of each: ten digits a number, thirteen bytes an entry with its tab
abbrev pub most_player_line : ℕ
most_player_line = 32 + 13 * most_rounds + 1

abbrev pub most_answer_line : ℕ
most_answer_line = 8 + 3 * 11 + 1

abbrev pub most_listing : ℕ
most_listing = most_answer_line + most_player_line * most_players
