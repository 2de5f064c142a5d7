-- No file that the writer produces is longer than `longest`, so each is a file of at most 65,535 bytes. Assumes nothing.
use mathlib.Core.Path.{◌≡◌, refl, sym, ap, ◌∙◌}
use mathlib.Core.Bool.{Bool, true, false, cond, ◌||◌, not}
use mathlib.Core.Option.{some}
use mathlib.Core.List.{List, [], ◌∷◌, ◌++◌, map}
use Prim.Native.Nat.{ℕ, suc, ◌+◌, ◌*◌, ◌-◌, ◌≤◌}
use native.Mathlib.Nat.{suc-mul, mul-le-mul}
use native.Mathlib.Omega.{arith}
use lib.Dec.{eqb}
use borrow.Author.Tests.{not-true}
use lib.ListN.{length, get_or, length-append, length-map}
use Rattle.kit.specs.Lists.{any, is_one_of, flat}
use Rattle.kit.specs.First.{AllOf}
use Rattle.kit.proofs.Bools.{clash, one_of_texts}
use Rattle.kit.proofs.Lists.{flat_append}
use Rattle.law.specs.Sizes.{most_file}
use Rattle.law.specs.Lines.{End, cr, crlf, end_bytes}
use Rattle.law.specs.Columns.{blank, is_blank, cells, part, code_field, blank_from, after_code}
use Rattle.law.specs.Text.{text_codes, is_name, ended}
use Rattle.law.specs.Accelerations.{is_acceleration}
use Rattle.law.specs.Tournament.{Player, Tournament}
use Rattle.law.specs.Lawful.{KeptLine, LawfulPlayer, Lawful}
use Rattle.law.specs.Writing.{rounds_line, colour_line, colour_lines, scoring_line, acceleration_line, player_line, written_lines, written, longest}
use Rattle.law.proofs.Seats.{text-listed}
use Rattle.written.proofs.Heads.{rounds-long, scoring-long, acceleration-long}
use Rattle.written.proofs.PlayerLines.{GoodEntry, player-long}
use Rattle.written.proofs.Spelled.{entries-good, all-and, of_all}

-- the bytes of some lines, each with its CR
abbrev bytes : List (List ℕ) → ℕ
bytes ls = length (flat ended ls)

bytes-append : (k l : List (List ℕ)) → bytes (k ++ l) ≡ bytes k + bytes l
bytes-append k l = ap length (flat_append ended k l) ∙ length-append (flat ended k) (flat ended l)

bytes-cons : (x : List ℕ) (l : List (List ℕ)) → bytes (x ∷ l) ≡ length x + 1 + bytes l
unfolding flat
bytes-cons x l = length-append (ended x) (flat ended l) ∙ ap (λ (n : ℕ). n + bytes l) (length-append x _)

-- lines of at most w columns
bytes-map : {A : Type 0} (P : A → Type 0) (line : A → List ℕ) (w : ℕ) → ((a : A) → P a → length (line a) ≤ w) → (l : List A) → AllOf P l → bytes (map line l) ≤ length l * (w + 1)
unfolding flat
bytes-map P line w f [] h = omega arith
bytes-map P line w f (a ∷ l) h =
    let e = bytes-cons (line a) (map line l) in
    let k = f a h.0 in
    let ih = bytes-map P line w f l h.1 in
    rw suc-mul (omega arith)

colour-bytes : (c : ℕ) → bytes (colour_lines c) ≤ 6
unfolding flat
colour-bytes c = go (eqb c 0)
  where
    go : (b : Bool) → bytes (cond b [] (colour_line c ∷ [])) ≤ 6
    go true = omega arith
    go false = omega arith

-- with CR alone: "58,000 + 2,048 + 1,024 + 69 = 61,141 bytes"
written-cr : (t : Tournament) → Lawful t → length (written cr t) ≤ longest cr
unfolding written written_lines
written-cr t h =
    let accelerations = map acceleration_line t.accelerations in
    let players = map player_line t.players in
    let tail = scoring_line t.scoring ∷ (accelerations ++ players) in
    let a = bytes-append t.text (rounds_line t.rounds ∷ (colour_lines t.colour ++ tail)) in
    let b = bytes-cons (rounds_line t.rounds) (colour_lines t.colour ++ tail) in
    let c = bytes-append (colour_lines t.colour) tail in
    let d = bytes-cons (scoring_line t.scoring) (accelerations ++ players) in
    let e = bytes-append accelerations players in
    let u = h.text_fits in
    let v = rounds-long t.rounds h.rounds in
    let w = colour-bytes t.colour in
    let x = scoring-long t.scoring in
    let y = bytes-map (λ a. is_acceleration a ≡ true) acceleration_line 31 (λ a q. let l = acceleration-long a q in omega arith) t.accelerations (of_all is_acceleration t.accelerations h.accelerations) in
    let z = bytes-map (λ (p : Player). LawfulPlayer t.rounds p × AllOf GoodEntry p.entries) player_line 289
    (λ p k. let l = player-long t.rounds p k.0 h.rounds k.1 in let r = h.rounds in omega arith)
    t.players (all-and (LawfulPlayer t.rounds) (λ (p : Player). AllOf GoodEntry p.entries) t.players h.players (entries-good t h)) in
    let m = h.accelerations_fit in
    let n = h.players_fit in
    omega arith

-- ---- another terminator: so many bytes more a line
abbrev more : End → ℕ
more e = length (end_bytes (some e)) - 1

bytes_more : (e : End) (ls : List (List ℕ)) → length (flat (λ line. line ++ end_bytes (some e)) ls) ≡ bytes ls + length ls * more e
unfolding flat
bytes_more e [] = omega arith
bytes_more e (x ∷ ls) =
    let a = length-append (x ++ end_bytes (some e)) (flat (λ line. line ++ end_bytes (some e)) ls) in
    let b = length-append x (end_bytes (some e)) in
    let c = bytes-cons x ls in
    let d = bytes_more e ls in
    let w : length (end_bytes (some e)) ≡ 1 + more e = one e in
    rw suc-mul (omega arith)
  where
    one : (e : End) → length (end_bytes (some e)) ≡ 1 + more e
    one cr = refl
    one crlf = refl

-- ---- how many lines there are: a line of text has its code, and 012 has more
code_long : (line : List ℕ) → is_one_of (part code_field line) text_codes ≡ true → 3 ≤ length line
unfolding cells
code_long [] h = clash h
code_long (a ∷ []) h = clash (one_of_texts (λ l. not (is_blank (get_or l 2 blank))) (part code_field (a ∷ [])) text_codes h refl)
code_long (a ∷ b ∷ []) h = clash (one_of_texts (λ l. not (is_blank (get_or l 2 blank))) (part code_field (a ∷ b ∷ [])) text_codes h refl)
code_long (a ∷ b ∷ c ∷ l) h = omega arith

line-long : (line : List ℕ) → KeptLine line → 3 ≤ length line
line-long line k = code_long line (text-listed line k.listed)

after-long : (line : List ℕ) → blank_from (suc after_code) line ≡ false → 5 ≤ length line
after-long [] h = clash (sym h)
after-long (a ∷ []) h = clash (sym h)
after-long (a ∷ b ∷ []) h = clash (sym h)
after-long (a ∷ b ∷ c ∷ []) h = clash (sym h)
after-long (a ∷ b ∷ c ∷ d ∷ []) h = clash (sym h)
after-long (a ∷ b ∷ c ∷ d ∷ e ∷ l) h = omega arith

name-long : (line : List ℕ) → KeptLine line → is_name line ≡ true → 5 ≤ length line
name-long line k n = after-long line (go (is_name line) n k.itself.name)
  where
    go : (v : Bool) → v ≡ true → not v || not (blank_from (suc after_code) line) ≡ true → blank_from (suc after_code) line ≡ false
    go true e h = not-true _ h
    go false e h = clash e

few : (ls : List (List ℕ)) → AllOf KeptLine ls → 4 * length ls ≤ bytes ls
unfolding flat
few [] h = omega arith
few (x ∷ ls) h = let a = line-long x h.0 in let b = bytes-cons x ls in let c = few ls h.1 in omega arith

-- so that 2,048 bytes hold at most 511 of them
fewer : (ls : List (List ℕ)) → AllOf KeptLine ls → any is_name ls ≡ true → 4 * length ls + 2 ≤ bytes ls
fewer [] h e = clash e
fewer (x ∷ ls) h e = go (is_name x) refl e (fewer ls h.1)
  where
    go : (v : Bool) → is_name x ≡ v → v || any is_name ls ≡ true → (any is_name ls ≡ true → 4 * length ls + 2 ≤ bytes ls) → 4 * suc (length ls) + 2 ≤ bytes (x ∷ ls)
    go true n e ih = let a = name-long x h.0 n in let b = bytes-cons x ls in let c = few ls h.1 in omega arith
    go false n e ih = let a = line-long x h.0 in let b = bytes-cons x ls in let c = ih e in omega arith

colour-line : (c : ℕ) → length (colour_lines c) ≤ 1
colour-line c = go (eqb c 0)
  where
    go : (b : Bool) → length (cond b [] (colour_line c ∷ [])) ≤ 1
    go true = omega arith
    go false = omega arith

lines-few : (t : Tournament) → Lawful t → length (written_lines t) ≤ 746
unfolding written_lines
lines-few t h =
    let accelerations = map acceleration_line t.accelerations in
    let players = map player_line t.players in
    let tail = scoring_line t.scoring ∷ (accelerations ++ players) in
    let a = length-append t.text (rounds_line t.rounds ∷ (colour_lines t.colour ++ tail)) in
    let b = length-append (colour_lines t.colour) tail in
    let c = length-append accelerations players in
    let d = length-map t.accelerations acceleration_line in
    let e = length-map t.players player_line in
    let f = fewer t.text h.text h.named in
    let g = colour-line t.colour in
    let u = h.text_fits in
    let v = h.accelerations_fit in
    let w = h.players_fit in
    omega arith

-- so many bytes more for 746 lines
longest_more : (e : End) → longest cr + 746 * more e ≤ longest e
longest_more cr = omega arith
longest_more crlf = omega arith

pub written-long : (e : End) (t : Tournament) → Lawful t → length (written e t) ≤ longest e
unfolding written
written-long e t h =
    let a = bytes_more e (written_lines t) in
    let b = written-cr t h in
    let r : more e ≤ more e = omega arith in
    let c = mul-le-mul (lines-few t h) r in
    let d = longest_more e in
    omega arith

pub longest-most : (e : End) → longest e ≤ most_file
longest-most cr = omega arith
longest-most crlf = omega arith
