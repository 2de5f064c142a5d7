-- How wide the parts of the report file are. Assumes nothing.
use mathlib.Core.Path.{◌≡◌, sym, ap, ◌∙◌}
use mathlib.Core.Bool.{Bool, true, false, cond}
use mathlib.Core.List.{List, [], ◌∷◌, append-nil}
use Prim.Native.Nat.{ℕ, ◌+◌, ◌*◌, ◌≤◌, ◌<◌}
use native.Mathlib.Nat.{mul-le-mul}
use native.Mathlib.Omega.{arith}
use lib.Dec.{eqb}
use lib.ListN.{length, get_or, take, length-append}
use borrow.Author.Tests.{eq-eqb, ne_eqb}
use Rattle.kit.specs.Lists.{flat}
use Rattle.types.specs.declared.Answer.{Answer}
use Rattle.law.specs.Sizes.{most_line, most_players}
use Rattle.law.specs.Lines.{CR}
use Rattle.law.specs.Writing.{rounds_line, colour_line}
use Rattle.puts.specs.Ends.{end_text, end_wide, ended_by, kept_text, relined}
use Rattle.puts.specs.declared.Terminator.{Terminator}
use Rattle.puts.proofs.Ends.{end-wide, one_wider, none-wide}
use Rattle.puts.proofs.Numbers.{one_wide, two_wide}
use Rattle.heads.specs.Lines.{acceleration_wide}
use Rattle.heads.proofs.Lines.{rounds-wide}
use Rattle.player_lines.specs.Lines.{player_wide}
use Rattle.writer.specs.Report.{colour_text}

-- ---- 142
pub rounds-short : (n : ℕ) → n < 10 → length (rounds_line n) ≡ 5
rounds-short n l = rounds-wide n ∙ ap (λ (k : ℕ). 4 + k) (one_wide n l)

pub rounds-long : (n : ℕ) → 10 ≤ n → n < 100 → length (rounds_line n) ≡ 6
rounds-long n l m = rounds-wide n ∙ ap (λ (k : ℕ). 4 + k) (two_wide n l m)

-- ---- 152
module _ (colour : ℕ) (end : Terminator) where
  pub colour-none : colour ≡ 0 → colour_text colour end ≡ []
  unfolding flat
  colour-none e = ap (λ (b : Bool). flat (ended_by end) (cond b [] (colour_line colour ∷ []))) (eq-eqb colour 0 e)

  pub colour_known : (colour ≡ 0 → ⊥) → colour_text colour end ≡ ended_by end (colour_line colour)
  unfolding flat
  colour_known e = ap (λ (b : Bool). flat (ended_by end) (cond b [] (colour_line colour ∷ []))) (ne_eqb colour 0 e) ∙ append-nil (ended_by end (colour_line colour))

  pub known_wide : (colour ≡ 0 → ⊥) → length (colour_text colour end) ≡ 5 + end_wide end
  known_wide e = ap length (colour_known e) ∙ length-append (colour_line colour) (end_text end)

-- ---- a byte of the text; the text, of which i bytes are counted
kept-most : (end : Terminator) (c : ℕ) → length (kept_text end c) ≤ 2
kept-most end c = go (eqb c CR)
  where
    go : (b : Bool) → length (cond b (end_text end) (c ∷ [])) ≤ 2
    go true = (end-wide end).1
    go false = omega arith

pub record Counted (end : Terminator) (text : List ℕ) (n wide i : ℕ) : Type 0 where
  pub upto : i ≤ n
  pub is : wide ≡ length (relined end (take i text))
  pub most : wide ≤ i + i

module _ (end : Terminator) (text : List ℕ) (n : ℕ) where
  pub counted_none : Counted end text n 0 0
  counted_none = record { upto = omega arith; is = sym (none-wide end text); most = omega arith }

  pub counted_next : {wide i w : ℕ} → Counted end text n wide i → i < n → n ≤ length text → w ≡ length (kept_text end (get_or text i 0)) → Counted end text n (wide + w) (i + 1)
  counted_next {wide} {i} {w} h l m e =
      let u = h.is in
      let v = h.most in
      let x = one_wider end text i (omega arith) in
      let y = kept-most end (get_or text i 0) in
      record { upto = omega arith; is = omega arith; most = omega arith }

  pub counted_all : {wide i : ℕ} → Counted end text n wide i → n ≤ i → wide ≡ length (relined end (take n text))
  counted_all {wide} {i} h l = let u = h.upto in let k : i ≡ n = omega arith in h.is ∙ ap (λ (j : ℕ). length (relined end (take j text))) k

-- ---- the parts of a report after its heads, and the room from the output's first byte on
module _ (a : Answer) (end : Terminator) where
  abbrev pub records_wide : ℕ
  records_wide = a.accelerations * (acceleration_wide + end_wide end)

  abbrev pub players_wide : ℕ
  players_wide = a.players * (player_wide a.rounds + end_wide end)

pub room_whole : {w l : ℕ} → w ≤ l → 0 + w ≤ l
room_whole r = omega arith

pub room_front : {l : ℕ} (m k : ℕ) → m + k ≤ l → 0 + m ≤ l
room_front m k r = omega arith

-- ---- lines of one width
pub few-wide : (n w : ℕ) → n ≤ most_players → w ≤ most_line + most_line → n * w ≤ most_players * (most_line + most_line)
few-wide n w a b = mul-le-mul a b
