-- A 001 line is its head and its rounds, and the rounds stand one after the other. Assumes nothing.
use mathlib.Core.Path.{◌≡◌, refl, sym, ap, ◌∙◌}
use mathlib.Core.List.{List, [], ◌∷◌, ◌++◌, append_assoc}
use Prim.Native.Nat.{ℕ, suc, ◌+◌, ◌*◌, ◌-◌}
use native.Mathlib.Omega.{arith}
use Rattle.kit.specs.Lists.{flat}
use Rattle.law.specs.Columns.{width, code_field}
use Rattle.law.specs.Players.{player_code, start_field, kept_field, points_field, rank_field, id_column, id_field, entry_colour_column, result_column}
use Rattle.law.specs.Tournament.{Entry, Player}
use Rattle.law.specs.Writing.{Piece, blanks, number, points_text, id_text, result_text, entries_from, player_line, laid}
use Rattle.law.specs.Columns.{blank}
use Rattle.written.proofs.Laid.{end_of}
use Rattle.player_lines.specs.Lines.{entry_text, head_text, head_wide}

laid-append : (c : ℕ) (ps qs : List Piece) → laid c (ps ++ qs) ≡ laid c ps ++ laid (end_of c ps) qs
laid-append c [] qs = refl
laid-append c (x ∷ ps) qs =
    let after : List ℕ = laid (suc x.0.1) ps in
    let more : List ℕ = laid (end_of (suc x.0.1) ps) qs in
    ap (λ (l : List ℕ). blanks (x.0.0 - c) ++ (x.1 ++ l)) (laid-append (suc x.0.1) ps qs)
    ∙ ap (λ (l : List ℕ). blanks (x.0.0 - c) ++ l) (sym (append_assoc x.1 after more))
    ∙ sym (append_assoc (blanks (x.0.0 - c)) (x.1 ++ after) more)

pub player-line : (p : Player) → head_text p.start p.kept p.points p.rank ++ laid (suc head_wide) (entries_from 1 p.entries) ≡ player_line p
player-line p =
    sym
    (laid-append 1
    ((code_field, player_code) ∷ number blanks start_field p.start ∷ (kept_field, p.kept) ∷ (points_field, points_text blank p.points) ∷ number blanks rank_field p.rank ∷ [])
    (entries_from 1 p.entries))

-- a round with those after it, by the blanks before its id, the id's width, the blanks before colour and result, and the column after it
module _ (e : Entry) (ps : List Piece) where
  abbrev round : ℕ → ℕ → ℕ → ℕ → ℕ → List ℕ
  round a w b c k = blanks a ++ (id_text w e.id ++ (blanks b ++ (e.colour ∷ (blanks c ++ (result_text e.result ∷ laid k ps)))))

  round_same : {a w b c k a' w' b' c' k' : ℕ} → a ≡ a' → w ≡ w' → b ≡ b' → c ≡ c' → k ≡ k' → round a w b c k ≡ round a' w' b' c' k'
  round_same p q r s t = cc

pub entries-flat : (r : ℕ) (es : List Entry) → laid (suc head_wide + 10 * r) (entries_from (r + 1) es) ≡ flat entry_text es
unfolding flat
entries-flat r [] = refl
entries-flat r (e ∷ es) =
    round_same e (entries_from (r + 1 + 1) es) {a = id_column (r + 1) - (suc head_wide + 10 * r)} {w = width (id_field (r + 1))} {b = entry_colour_column (r + 1) - suc (id_column (r + 1) + 3)} {c = result_column (r + 1) - suc (entry_colour_column (r + 1))} {k = suc (result_column (r + 1))}
    {a' = 2} {w' = 4} {b' = 1} {c' = 1} {k' = suc head_wide + 10 * (r + 1)}
    (omega arith) (omega arith) (omega arith) (omega arith) (omega arith)
    ∙ ap (λ (l : List ℕ). blanks 2 ++ (id_text 4 e.id ++ (blanks 1 ++ (e.colour ∷ (blanks 1 ++ (result_text e.result ∷ l)))))) (entries-flat (r + 1) es)
    ∙ ap (λ (l : List ℕ). blanks 2 ++ l) (sym (append_assoc (id_text 4 e.id) (blanks 1 ++ (e.colour ∷ (blanks 1 ++ (result_text e.result ∷ [])))) (flat entry_text es)))

pub rounds-flat : (es : List Entry) → flat entry_text es ≡ laid (suc head_wide) (entries_from 1 es)
rounds-flat es = sym (entries-flat 0 es)
