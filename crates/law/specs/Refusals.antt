-- The refusals 1 to 17: for each label what makes it a fault, its number, line and round, and the order of all labels. The answer is the first that is a fault.
use Rattle.std.specs.Prelude.{◌≡◌, Bool, true, false, ◌&&◌, not, List, [], ◌∷◌, ◌++◌, map, ℕ, ◌+◌, ◌<◌, eqb, leb, ltb, length}
use Rattle.kit.specs.Lists.{all, any, same, is_empty, flat, Each}
use Rattle.kit.specs.First.{NoneOf, FirstIn}
use Rattle.law.specs.Sizes.{most_file, most_line, most_players, most_accelerations, most_text}
use Rattle.law.specs.Lines.{allowed, Line, Lines, is_ended}
use Rattle.law.specs.Columns.{row_of, part, code_field}
use Rattle.law.specs.Text.{is_name, ended, is_repeated}
use Rattle.law.specs.Accelerations.{acceleration_code}
use Rattle.law.specs.Players.{player_code, PlayerLine, every_round}
use Rattle.law.specs.Items.{Item, passed, text, rounds, colour, scoring, acceleration, player, unlisted, kind_of}
use Rattle.law.specs.Tournament.{Tournament, text_in, rounds_in, colour_in, scoring_in, acceleration_in, player_in, tournament_of}
use Rattle.law.specs.Entries.{Law, bye-or-game, mutual_pairing, fitting_results, one_U, keeps, states_sum}
use Rattle.law.specs.Lawful.{shares_earlier}
use Rattle.law.specs.Spelling.{SpellsLine, is_past, SpellsFile}

-- ---- the faults of a line, 3 to 9
pub data LineFault : Type 0 where
  bad_byte no_cr too_long not_listed bad_field again too_many : LineFault

abbrev pub line_faults : List LineFault
line_faults = bad_byte ∷ no_cr ∷ too_long ∷ not_listed ∷ bad_field ∷ again ∷ too_many ∷ []

-- 8: "a once-only record or a start number again", after the items before it
unfoldable pub is_again : List Item → Item → Bool
is_again before passed = false
is_again before (text kept) = is_repeated (flat text_in before) kept
is_again before (rounds n) = not (is_empty (flat rounds_in before))
is_again before (colour c) = not (is_empty (flat colour_in before))
is_again before (scoring given) = not (is_empty (flat scoring_in before))
is_again before (acceleration a) = false
is_again before (player p) = any (λ (q : PlayerLine). eqb q.start p.start) (flat player_in before)

-- 9: "201st player, 33rd 250, text over 2,048"
unfoldable pub is_too_many : List Item → Item → Bool
is_too_many before passed = false
is_too_many before (text kept) = ltb most_text (length (flat ended (flat text_in before)) + length (ended kept))
is_too_many before (rounds n) = false
is_too_many before (colour c) = false
is_too_many before (scoring given) = false
is_too_many before (acceleration a) = ltb most_accelerations (length (flat acceleration_in before) + 1)
is_too_many before (player p) = ltb most_players (length (flat player_in before) + 1)

-- the lines before it spell items, it spells one, and that is so of them
pub record After (so : List Item → Item → Bool) (before : List Line) (l : Line) : Type 0 where
  pub items : List Item
  pub spelled : Each SpellsLine before items
  pub item : Item
  pub here : SpellsLine l item
  pub holds : so items item ≡ true

abbrev pub IsLineFault : LineFault → List Line → Line → Type 0
IsLineFault bad_byte before l = all allowed l.text ≡ false
IsLineFault no_cr before l = is_ended l.end ≡ false
IsLineFault too_long before l = most_line < length (row_of l.text)
IsLineFault not_listed before l = kind_of (row_of l.text) ≡ unlisted
IsLineFault bad_field before l = (i : Item) → SpellsLine l i → ⊥
IsLineFault again before l = After is_again before l
IsLineFault too_many before l = After is_too_many before l

-- ---- a player or an acceleration record: its place from 0, and its line in the file
pub record Seat : Type 0 where
  pub place : ℕ
  pub line : ℕ

abbrev pub only_if : Bool → ℕ → List ℕ
only_if true n = n ∷ []
only_if false n = []

-- the numbers of the lines with a code, after n others: "Lines count from 1, passed-over ones too"
unfoldable pub lines_of : List ℕ → ℕ → List Line → List ℕ
lines_of code n [] = []
lines_of code n (l ∷ ls) = only_if (same (part code_field (row_of l.text)) code) (n + 1) ++ lines_of code (n + 1) ls

abbrev pub seats_from : ℕ → List ℕ → List Seat
seats_from place [] = []
seats_from place (n ∷ ns) = record { place = place; line = n } ∷ seats_from (place + 1) ns

abbrev pub player_seats : List Line → List Seat
player_seats lines = seats_from 0 (lines_of player_code 0 lines)

abbrev pub acceleration_seats : List Line → List Seat
acceleration_seats lines = seats_from 0 (lines_of acceleration_code 0 lines)

-- ---- the faults of the file as a whole: 10, 11, 17 and 12 to 16
pub data FileFault : Type 0 where
  incomplete past_142 shared : FileFault
  unlawful : Law → FileFault
  wrong_sum_lem : FileFault

-- "then 10, 11, 17, 12, 13, 14, 15, 16, each over the whole file before the next"
abbrev pub file_faults : List FileFault
file_faults = incomplete ∷ past_142 ∷ shared ∷ unlawful bye-or-game ∷ unlawful mutual_pairing ∷ unlawful fitting_results ∷ unlawful one_U ∷ wrong_sum_lem ∷ []

-- 10: "no 012 or no 001"
abbrev pub is_complete : Tournament → Bool
is_complete t = any is_name t.text && not (is_empty t.players)

-- of the items that all lines spell, at a place and a round
unfoldable pub is_file_fault : List Item → FileFault → ℕ → ℕ → Bool
is_file_fault items incomplete place r = not (is_complete (tournament_of items))
is_file_fault items past_142 place r = is_past items place r
is_file_fault items shared place r = shares_earlier (flat acceleration_in items) place
is_file_fault items (unlawful law) place r = leb r (tournament_of items).rounds && not (keeps (tournament_of items) law place r)
is_file_fault items wrong_sum_lem place r = not (states_sum (tournament_of items) place)

pub record OfItems (lines : List Line) (f : FileFault) (place r : ℕ) : Type 0 where
  pub items : List Item
  pub spelled : Each SpellsLine lines items
  pub holds : is_file_fault items f place r ≡ true

-- ---- all labels: what, and where
pub data Label : Type 0 where
  too_short : Label
  too_big : Label
  at_line_lem : LineFault → List Line → Line → Label
  of_file : FileFault → Seat → ℕ → Label

-- long: no lent table is too short
abbrev pub IsFault : Bool → List ℕ → List Line → Label → Type 0
IsFault long file lines too_short = long ≡ false
IsFault long file lines too_big = most_file < length file
IsFault long file lines (at_line_lem f before l) = IsLineFault f before l
IsFault long file lines (of_file f s r) = OfItems lines f s.place r

-- ---- number, line, round; an acceptance has zero in all three
pub record Refusal : Type 0 where
  pub number : ℕ
  pub line : ℕ
  pub round : ℕ

abbrev pub refusal : ℕ → ℕ → ℕ → Refusal
refusal number line round = record { number = number; line = line; round = round }

abbrev pub no_refusal : Refusal
no_refusal = refusal 0 0 0

abbrev pub line_fault_number : LineFault → ℕ
line_fault_number bad_byte = 3
line_fault_number no_cr = 4
line_fault_number too_long = 5
line_fault_number not_listed = 6
line_fault_number bad_field = 7
line_fault_number again = 8
line_fault_number too_many = 9

abbrev pub file_fault_number : FileFault → ℕ
file_fault_number incomplete = 10
file_fault_number past_142 = 11
file_fault_number (unlawful bye-or-game) = 12
file_fault_number (unlawful mutual_pairing) = 13
file_fault_number (unlawful fitting_results) = 14
file_fault_number (unlawful one_U) = 15
file_fault_number wrong_sum_lem = 16
file_fault_number shared = 17

abbrev pub refusal_of : Label → Refusal
refusal_of too_short = refusal 1 0 0
refusal_of too_big = refusal 2 0 0
refusal_of (at_line_lem f before l) = refusal (line_fault_number f) (length before + 1) 0
refusal_of (of_file f s r) = refusal (file_fault_number f) s.line r

-- ---- "Order: 1, 2; then line by line in file order, each line tested for 3 to 9 in turn; then [the faults of the file]. Within one number the first
-- player in file order counts, then the lowest round."
abbrev pub line_labels : List Line → List Line → List Label
line_labels before [] = []
line_labels before (l ∷ ls) = map (λ f. at_line_lem f before l) line_faults ++ line_labels (before ++ (l ∷ [])) ls

abbrev pub each_round : FileFault → List Seat → List Label
each_round f seats = flat (λ s. map (of_file f s) every_round) seats

abbrev pub each_seat : FileFault → List Seat → List Label
each_seat f seats = map (λ s. of_file f s 0) seats

-- a label of its own for the file as a whole, at no line
abbrev pub nowhere : Seat
nowhere = record { place = 0; line = 0 }

abbrev pub labels_of : List Seat → List Seat → FileFault → List Label
labels_of players accelerations incomplete = of_file incomplete nowhere 0 ∷ []
labels_of players accelerations past_142 = each_round past_142 players
labels_of players accelerations shared = each_seat shared accelerations
labels_of players accelerations (unlawful law) = each_round (unlawful law) players
labels_of players accelerations wrong_sum_lem = each_seat wrong_sum_lem players

unfoldable pub labels : List Line → List Label
labels lines = too_short ∷ too_big ∷ (line_labels [] lines ++ flat (labels_of (player_seats lines) (acceleration_seats lines)) file_faults)

-- ---- the outcome for a file: refused by its first fault; or accepted, with no fault, as the tournament that it spells
pub data Outcome : Type 0 where
  refused : Refusal → Outcome
  accepted : Tournament → List ℕ → List ℕ → Outcome

pub record Refused (long : Bool) (file : List ℕ) (x : Refusal) : Type 0 where
  pub lines : List Line
  pub are : Lines file lines
  pub label : Label
  pub first : FirstIn (IsFault long file lines) (labels lines) label
  pub says : x ≡ refusal_of label

pub record Accepted (long : Bool) (file : List ℕ) (t : Tournament) (of_players of_accelerations : List ℕ) : Type 0 where
  pub lines : List Line
  pub are : Lines file lines
  pub no_fault : NoneOf (IsFault long file lines) (labels lines)
  pub spells : SpellsFile file t
  pub player_lines_lem : of_players ≡ lines_of player_code 0 lines
  pub acceleration_lines : of_accelerations ≡ lines_of acceleration_code 0 lines

abbrev pub Judged : Bool → List ℕ → Outcome → Type 0
Judged long file (refused x) = Refused long file x
Judged long file (accepted t of_players of_accelerations) = Accepted long file t of_players of_accelerations
