-- A round's entry: byes and games, mutual pairings, results that fit, and what each result earns.
use Rattle.std.specs.Prelude.{Bool, true, cond, ◌&&◌, ◌||◌, not, List, [], ◌∷◌, ℕ, ◌-◌, eqb, get_or, take}
use Rattle.std.proofs.Math.Option.{Option, none, some}
use Prim.Native.Char.{code}
use Rattle.kit.specs.Ascii.{ascii}
use Rattle.kit.specs.Lists.{any, among, is_one_of, first, sum_of}
use Rattle.law.specs.Scoring.{Scoring}
use Rattle.law.specs.Players.{game_colours, bye_results, unknown_result, held_game_results}
use Rattle.law.specs.Tournament.{Entry, Player, Tournament}

-- ---- "Places in the table count from 0", rounds from 1
abbrev pub no_entry : Entry
no_entry = record { id = 0; colour = 0; result = 0 }

abbrev pub no_player : Player
no_player = record { start = 0; kept = []; points = 0; rank = 0; entries = [] }

abbrev pub player_at : Tournament → ℕ → Player
player_at t place = get_or t.players place no_player

abbrev pub entry_of : ℕ → Player → Entry
entry_of r p = get_or p.entries (r - 1) no_entry

-- ---- "A bye: id blank or 0; colour `-` or blank; result H, F, U, Z or blank (blank is Z)": blanks are filled in by `normal`
unfoldable pub is_bye : Entry → Bool
is_bye e = eqb e.id 0 && eqb e.colour (code "-") && among e.result bye_results

-- "A game: id of another player in the file; colour `w` or `b`, small letters only; result one of 1 = 0 W D L + -", or the unknown result, which `normal` fills in for a blank
abbrev pub is_another : Tournament → Player → ℕ → Bool
is_another t p id = not (eqb id p.start) && any (λ q. eqb q.start id) t.players

unfoldable pub is_game : Tournament → Player → Entry → Bool
is_game t p e = is_another t p e.id && among e.colour game_colours && among e.result held_game_results

-- ---- the player whom an entry names, if there is one, and what is asked of that player
abbrev pub opponent : Tournament → Entry → Option Player
opponent t e = first (λ q. eqb q.start e.id) t.players

abbrev pub asked : (Player → Bool) → Option Player → Bool
asked f none = true
asked f (some q) = f q

-- "Mutual: the opponent's entry in that round names this player and has the other colour."
abbrev pub answers : Player → Entry → Entry → Bool
answers p e theirs = eqb theirs.id p.start && not (eqb theirs.colour e.colour)

-- "Results that fit: 1 with 0, = with =, W with L, D with D, + with -, and - with - (nobody came)." Document 02, of results set by the
-- arbiter: "0 with 0 now fits, and = with 0 either way round."; and an unknown result "fits only another unknown"
abbrev pub fitting_pairs : List (List ℕ)
fitting_pairs = ascii "10" ∷ ascii "==" ∷ ascii "WL" ∷ ascii "DD" ∷ ascii "+-" ∷ ascii "--" ∷ ascii "00" ∷ ascii "=0" ∷ (unknown_result ∷ unknown_result ∷ []) ∷ []

unfoldable pub fits : ℕ → ℕ → Bool
fits a b = is_one_of (a ∷ b ∷ []) fitting_pairs || is_one_of (b ∷ a ∷ []) fitting_pairs

abbrev pub has_u : ℕ → Player → Bool
has_u r p = eqb (entry_of r p).result (code "U")

-- ---- what is asked of an entry, by the refusal that says otherwise: 12, 13, 14, 15
pub data Law : Type 0 where
  bye-or-game mutual_pairing fitting_results one_U : Law

unfoldable pub keeps : Tournament → Law → ℕ → ℕ → Bool
keeps t bye-or-game place r =
    is_bye (entry_of r (player_at t place)) || is_game t (player_at t place) (entry_of r (player_at t place))
keeps t mutual_pairing place r =
    asked (λ q. answers (player_at t place) (entry_of r (player_at t place)) (entry_of r q)) (opponent t (entry_of r (player_at t place)))
keeps t fitting_results place r =
    asked (λ q. fits (entry_of r (player_at t place)).result (entry_of r q).result) (opponent t (entry_of r (player_at t place)))
keeps t one_U place r =
    not (has_u r (player_at t place) && any (has_u r) (take place t.players))

-- ---- "Worth: 1, W, +, F earn W; =, D, H earn D; 0, L earn L; -, Z earn A; U earns P." An unknown result "earns X"
unfoldable pub worth : Scoring → ℕ → ℕ
worth s result =
    cond (among result (ascii "1W+F")) s.win
    (cond (among result (ascii "=DH")) s.draw
    (cond (among result (ascii "0L")) s.loss
    (cond (among result (ascii "-Z")) s.absent
    (cond (among result (ascii "U")) s.pairing
    (cond (eqb result unknown_result) s.unknown 0)))))

-- "Acceleration is never part of the stated points."
unfoldable pub earned : Scoring → List Entry → ℕ
earned s entries = sum_of (λ e. worth s e.result) entries

abbrev pub states_sum : Tournament → ℕ → Bool
states_sum t place = eqb (player_at t place).points (earned t.scoring (player_at t place).entries)
