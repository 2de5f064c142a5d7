-- The unknown result: what a blank beside an opponent is held as, and what is written for it. Assumes nothing.
use mathlib.Core.Path.{◌≡◌, refl, ap, ◌∙◌}
use mathlib.Core.Bool.{◌&&◌, and-true}
use Prim.Native.Nat.{ℕ, ◌+◌, ◌*◌, ◌-◌, ◌≤◌, ◌<◌}
use Prim.Native.Char.{code}
use native.Mathlib.Omega.{arith}
use lib.ListN.{length}
use borrow.Author.Tests.{ne_eqb}
use Rattle.kit.specs.Ascii.{ascii}
use Rattle.kit.specs.Lists.{among}
use Rattle.kit.specs.First.{AllOf}
use Rattle.kit.proofs.Firsts.{all_of_at}
use Rattle.law.specs.Columns.{col}
use Rattle.law.specs.Players.{Slot, result_column}
use Rattle.law.specs.Tournament.{Player, Tournament, normal}
use Rattle.law.specs.Entries.{no_player, player_at, entry_of, is_another, is_game}
use Rattle.law.specs.Lawful.{LawfulPlayer, Lawful}
use Rattle.law.specs.Writing.{result_text, player_line}
use Rattle.written.proofs.PlayerLines.{GoodEntry, player-long, player-result}
use Rattle.written.proofs.Spelled.{entries-good}

pub unknown_held : (t : Tournament) (p : Player) (s : Slot) → 1 ≤ s.id → s.result ≡ code " "
    → (normal s ≡ record { id = s.id; colour = s.colour; result = code "?" }) × (is_game t p (normal s) ≡ is_another t p s.id && among s.colour (ascii "wb"))
unfolding normal is_game
unknown_held t p s there blank =
    let some = ne_eqb s.id 0 (λ e. omega arith) in
    (rw (some, blank) refl, rw (some, blank, and-true) refl)

pub unknown_written : (t : Tournament) → Lawful t → (place r : ℕ) → place < length t.players → 1 ≤ r → r ≤ t.rounds → (entry_of r (player_at t place)).result ≡ code "?"
    → (col (player_line (player_at t place)) (89 + 10 * r) ≡ code " ") × (length (player_line (player_at t place)) ≡ 89 + 10 * t.rounds)
unknown_written t h place r l a b e =
    let p : Player = player_at t place in
    let k = all_of_at (LawfulPlayer t.rounds) no_player t.players h.players place l in
    let g = all_of_at (λ (p : Player). AllOf GoodEntry p.entries) no_player t.players (entries-good t h) place l in
    let there : 89 + 10 * r ≡ result_column (1 + (r - 1)) = omega arith in (
      ap (col (player_line p)) there ∙ player-result t.rounds p k h.rounds g (r - 1) (omega arith) ∙ ap result_text e,
      player-long t.rounds p k h.rounds g,
    )
