-- `longest` is reached: there is a lawful tournament, with as much of everything as fits, whose written file has so many bytes. Assumes nothing.
use mathlib.Core.Path.{◌≡◌, refl, ap, ◌∙◌}
use mathlib.Core.Bool.{Bool, true, false, not}
use mathlib.Core.Option.{none}
use mathlib.Core.List.{List, [], ◌∷◌, ◌++◌, map}
use Prim.Native.Nat.{ℕ, zero, suc, ◌+◌, ◌-◌, ◌≤◌, ◌<◌}
use Prim.Native.Char.{code}
use native.Mathlib.Omega.{arith}
use lib.ListN.{length, replicate, get_or-replicate}
use borrow.Author.Tests.{not-true}
use Rattle.kit.specs.Ascii.{ascii}
use Rattle.kit.specs.Lists.{from, flat, each_after}
use Rattle.kit.specs.First.{AllOf}
use Rattle.kit.proofs.Bools.{both, in_between}
use Rattle.kit.proofs.Lists.{map-from_at, all_from, from_all}
use Rattle.kit.proofs.Firsts.{all_of_map}
use Rattle.types.specs.declared.Acceleration.{Acceleration}
use Rattle.law.specs.Sizes.{most_players, most_rounds, most_accelerations, most_start}
use Rattle.law.specs.Lines.{End, cr, crlf}
use Rattle.law.specs.Columns.{blank, cells, width}
use Rattle.law.specs.Text.{is_repeated}
use Rattle.law.specs.Scoring.{defaults}
use Rattle.law.specs.Accelerations.{shares}
use Rattle.law.specs.Players.{kept_field}
use Rattle.law.specs.Items.{kind_of}
use Rattle.law.specs.Tournament.{Entry, Player, Tournament}
use Rattle.law.specs.Entries.{no_player, no_entry, player_at, entry_of, is_bye, opponent, Law, bye-or-game, mutual_pairing, fitting_results, one_U, keeps, worth, earned}
use Rattle.law.specs.Lawful.{KeptLine, LawfulPlayer, Sits, shares_earlier, Lawful}
use Rattle.law.specs.Writing.{written_lines, written, longest}
use Rattle.law.proofs.LinesLawful.{kept_line}
use Rattle.law.proofs.RecordsRead.{kept-columns, text-line}
use Rattle.written.proofs.Spelled.{of_all}

-- ---- a list of n times the same
module _ {A : Type 0} (a : A) where
  all_replicate : (P : A → Type 0) → P a → (n : ℕ) → AllOf P (replicate n a)
  all_replicate P h zero = tt
  all_replicate P h (suc n) = (h, all_replicate P h n)

  after-replicate : (f : List A → A → Bool) → ((before : List A) → f before a ≡ true) → (e : List A) (n : ℕ) → each_after f e (replicate n a) ≡ true
  after-replicate f h e zero = refl
  after-replicate f h e (suc n) = both (h e) (after-replicate f h (e ++ (a ∷ [])) n)

-- ---- the tournament: each text line but the name is as short as a line can be, so that 2,048 bytes hold 511 of them
abbrev cup : List ℕ
cup = ascii "012 Cup"

abbrev remark : List ℕ
remark = ascii "112"

abbrev absent : Entry
absent = record { id = 0; colour = code "-"; result = code "Z" }

abbrev absent_player : ℕ → Player
absent_player n = record { start = n; kept = replicate (width kept_field) blank; points = 0; rank = n; entries = replicate most_rounds absent }

abbrev records : List Acceleration
records = map (λ n. record { points = 10; first_round = 1; last_round = most_rounds; first_start = n; last_start = n }) (from 1 most_accelerations)

fullest : Tournament
fullest = record { text = cup ∷ replicate 510 remark; rounds = most_rounds; colour = code "W"; scoring = defaults; accelerations = records; players = map absent_player (from 1 most_players) }

-- ---- it is lawful
records-apart : (j : ℕ) → j < most_accelerations → shares_earlier records j ≡ false
unfolding shares
records-apart j l =
    let apart = of_all (λ i. not (shares_earlier records i)) (from 0 most_accelerations) refl in
    not-true (shares_earlier records j) (from_all (λ i. not (shares_earlier records i) ≡ true) 0 most_accelerations apart j (omega arith) (omega arith))

player_lawful : (n : ℕ) → 1 ≤ n → n < 1 + most_players → LawfulPlayer most_rounds (absent_player n)
unfolding cells
player_lawful n a b =
    let s = in_between 1 most_start n a (omega arith) in
    record { start = s; points = omega arith; rank = s; kept_wide = refl; kept_clean = refl; kept = kept-columns.sound (absent_player n).kept refl; entries = refl }

player_at_lem : (place : ℕ) → place < most_players → player_at fullest place ≡ absent_player (1 + place)
unfolding fullest
player_at_lem = map-from_at absent_player no_player 1 most_players

entry_at : (place r : ℕ) → Sits fullest place r → entry_of r (player_at fullest place) ≡ absent
unfolding fullest
entry_at place r s = ap (entry_of r) (player_at_lem place s.place_in_lem) ∙ get_or-replicate most_rounds (r - 1) absent no_entry (omega arith)

no_opponent : opponent fullest absent ≡ none
unfolding fullest
no_opponent = refl

-- an absence keeps each law: it is a bye, names nobody, and is no U
absence_keeps : (law : Law) (place r : ℕ) → Sits fullest place r → keeps fullest law place r ≡ true
unfolding keeps is_bye
absence_keeps bye-or-game place r s = rw (entry_at place r s) refl
absence_keeps mutual_pairing place r s = rw (entry_at place r s, no_opponent) refl
absence_keeps fitting_results place r s = rw (entry_at place r s, no_opponent) refl
absence_keeps one_U place r s = rw (entry_at place r s) refl

fullest_lawful : Lawful fullest
unfolding fullest flat cells kind_of worth earned
fullest_lawful =
    record {
      text = (kept_line cup cup refl (text-line.sound cup cup refl) refl (omega arith), all_replicate remark KeptLine (kept_line remark remark refl (text-line.sound remark remark refl) refl (omega arith)) 510);
      text_once = after-replicate remark (λ before line. not (is_repeated before line)) (λ before. refl) (cup ∷ []) 510;
      text_fits = omega arith;
      named = refl;
      rounds = omega arith;
      colour = refl;
      scoring = refl;
      accelerations = refl;
      accelerations_fit = omega arith;
      accelerations_apart = records-apart;
      players = all_of_map (LawfulPlayer most_rounds) absent_player (from 1 most_players) (all_from (λ n. LawfulPlayer most_rounds (absent_player n)) 1 most_players player_lawful);
      players_there = refl;
      players_fit = omega arith;
      players_differ = refl;
      entries = absence_keeps;
      sums = λ place l. rw (player_at_lem place l) refl;
    }

-- ---- its file is the longest
fullest_long : (end : End) → length (written end fullest) ≡ longest end
unfolding fullest written written_lines flat
fullest_long cr = refl
fullest_long crlf = refl

pub longest_reached : (end : End) → (t : Tournament) × Lawful t × (length (written end t) ≡ longest end)
longest_reached end = (fullest, fullest_lawful, fullest_long end)
