-- From the parts to the statement: what a writing puts, part by part, is `written`, and how long that is. Assumes nothing.
use mathlib.Core.Path.{◌≡◌, refl, sym, ap, ap₂, ◌∙◌}
use mathlib.Core.Bool.{true}
use mathlib.Core.List.{List, ◌∷◌, ◌++◌, map}
use Prim.Native.Nat.{ℕ, ◌+◌, ◌*◌}
use native.Mathlib.Omega.{arith}
use lib.ListN.{length, length-append}
use Rattle.kit.specs.Lists.{flat}
use Rattle.kit.specs.First.{AllOf}
use Rattle.kit.proofs.Lists.{flat_append, flat-length}
use Rattle.kit.proofs.Firsts.{all_of_each}
use Rattle.law.specs.Lines.{has_no_cr}
use Rattle.law.specs.Text.{ended}
use Rattle.law.specs.Accelerations.{is_acceleration}
use Rattle.law.specs.Tournament.{Player, Tournament}
use Rattle.law.specs.Lawful.{KeptLine, LawfulPlayer, Lawful}
use Rattle.law.specs.Writing.{rounds_line, colour_lines, scoring_line, acceleration_line, player_line, written_lines, written}
use Rattle.written.proofs.Heads.{scoring-long, acceleration-long}
use Rattle.written.proofs.PlayerLines.{GoodEntry, player-long}
use Rattle.written.proofs.Spelled.{entries-good, all-and, of_all, clean_no_cr}
use Rattle.puts.specs.Ends.{as_end, end_text, end_wide, ended_by, relined}
use Rattle.puts.specs.declared.Terminator.{Terminator}
use Rattle.puts.proofs.Ends.{relined-lines}
use Rattle.puts.proofs.Lined.{flat_map}
use Rattle.heads.specs.Lines.{acceleration_wide, scoring_wide}
use Rattle.player_lines.specs.Lines.{player_wide}

-- ---- the parts of what is written, in the file's order
pub written_parts : (end : Terminator) (t : Tournament) → flat (ended_by end) t.text ++ (ended_by end (rounds_line t.rounds) ++ (flat (ended_by end) (colour_lines t.colour) ++ (ended_by end (scoring_line t.scoring) ++ (flat (ended_by end) (map acceleration_line t.accelerations) ++ flat (ended_by end) (map player_line t.players))))) ≡ written (as_end end) t
unfolding written written_lines flat
written_parts end t =
    let accelerations = map acceleration_line t.accelerations in
    let players = map player_line t.players in
    let later = scoring_line t.scoring ∷ (accelerations ++ players) in
    sym
    (flat_append (ended_by end) t.text (rounds_line t.rounds ∷ (colour_lines t.colour ++ later))
    ∙ ap (λ (l : List ℕ). flat (ended_by end) t.text ++ (ended_by end (rounds_line t.rounds) ++ l)) (flat_append (ended_by end) (colour_lines t.colour) later)
    ∙ ap (λ (l : List ℕ). flat (ended_by end) t.text ++ (ended_by end (rounds_line t.rounds) ++ (flat (ended_by end) (colour_lines t.colour) ++ (ended_by end (scoring_line t.scoring) ++ l)))) (flat_append (ended_by end) accelerations players))

-- the text table has its lines ended by CR: with their terminators they are as they are written
pub text-relined : (end : Terminator) (lines : List (List ℕ)) → AllOf KeptLine lines → relined end (flat ended lines) ≡ flat (ended_by end) lines
text-relined end lines h = relined-lines end lines (all_of_each KeptLine (λ l. has_no_cr l ≡ true) (λ l k. clean_no_cr l k.clean) lines h)

-- ---- how many bytes are written
six : (a b c d e f : List ℕ) → length (a ++ (b ++ (c ++ (d ++ (e ++ f))))) ≡ length a + (length b + (length c + (length d + (length e + length f))))
six a b c d e f = simp length-append

ended-wide : (end : Terminator) (line : List ℕ) (w : ℕ) → length line ≡ w → length (ended_by end line) ≡ w + end_wide end
ended-wide end line w e = length-append line (end_text end) ∙ ap (λ (k : ℕ). k + end_wide end) e

-- lines of one width
lines-wide : {A : Type 0} (end : Terminator) (line : A → List ℕ) (w : ℕ) (l : List A) → AllOf (λ a. length (line a) ≡ w) l → length (flat (ended_by end) (map line l)) ≡ length l * (w + end_wide end)
lines-wide end line w l h =
    ap length (sym (flat_map (ended_by end) line l))
    ∙ flat-length (λ a. ended_by end (line a)) (w + end_wide end) l (all_of_each (λ a. length (line a) ≡ w) (λ a. length (ended_by end (line a)) ≡ w + end_wide end) (λ a e. ended-wide end (line a) w e) l h)

pub written-wide : (end : Terminator) (t : Tournament) → Lawful t
    → length (written (as_end end) t) ≡ length (flat (ended_by end) t.text) + (length (rounds_line t.rounds) + end_wide end + (length (flat (ended_by end) (colour_lines t.colour)) + (scoring_wide + end_wide end + (length t.accelerations * (acceleration_wide + end_wide end) + length t.players * (player_wide t.rounds + end_wide end)))))
written-wide end t h =
    let a = ended-wide end (rounds_line t.rounds) (length (rounds_line t.rounds)) refl in
    let b = ended-wide end (scoring_line t.scoring) scoring_wide (scoring-long t.scoring) in
    let c = lines-wide end acceleration_line acceleration_wide t.accelerations
    (all_of_each (λ x. is_acceleration x ≡ true) (λ x. length (acceleration_line x) ≡ acceleration_wide) acceleration-long t.accelerations (of_all is_acceleration t.accelerations h.accelerations)) in
    let d = lines-wide end player_line (player_wide t.rounds) t.players
    (all_of_each (λ p. LawfulPlayer t.rounds p × AllOf GoodEntry p.entries) (λ p. length (player_line p) ≡ player_wide t.rounds) (λ p k. player-long t.rounds p k.0 h.rounds k.1 ∙ omega arith) t.players
    (all-and (LawfulPlayer t.rounds) (λ (p : Player). AllOf GoodEntry p.entries) t.players h.players (entries-good t h))) in
    sym (ap length (written_parts end t))
    ∙ six (flat (ended_by end) t.text) (ended_by end (rounds_line t.rounds)) (flat (ended_by end) (colour_lines t.colour)) (ended_by end (scoring_line t.scoring)) (flat (ended_by end) (map acceleration_line t.accelerations)) (flat (ended_by end) (map player_line t.players))
    ∙ ap₂ (λ (u v : ℕ). length (flat (ended_by end) t.text) + (u + (length (flat (ended_by end) (colour_lines t.colour)) + v))) a (ap₂ ◌+◌ b (ap₂ ◌+◌ c d))
