-- The faults tested: a test for each label, and that it decides the statement's fault. Assumes nothing.
use mathlib.Core.Path.{◌≡◌, refl, ap}
use mathlib.Core.Bool.{Bool, true, false, not}
use mathlib.Core.Option.{Option, none, some}
use mathlib.Core.List.{List}
use Prim.Native.Nat.{ℕ}
use lib.Dec.{ltb}
use lib.ListN.{length}
use borrow.Author.Tests.{ltb-true, lt-ltb, not-true}
use Rattle.kit.specs.Lists.{all, Each}
use Rattle.kit.specs.Decides.{Decides, Tests, is_some, each}
use Rattle.kit.proofs.Bools.{clash}
use Rattle.kit.proofs.Decided.{on, listed, unspelled}
use Rattle.law.specs.Sizes.{most_file, most_line}
use Rattle.law.specs.Lines.{allowed, Line, is_ended}
use Rattle.law.specs.Columns.{row_of}
use Rattle.law.specs.Items.{Item, Kind, passed_over, kept-text, 142-record, 152-record, 162-record, 250-record, 001-record, unlisted, kind_of}
use Rattle.law.specs.Spelling.{SpellsLine}
use Rattle.law.specs.Refusals.{LineFault, bad_byte, no_cr, too_long, not_listed, bad_field, again, too_many, is_again, is_too_many, After, IsLineFault, FileFault, is_file_fault, OfItems, Label, too_short, too_big, at_line_lem, of_file, IsFault}
use Rattle.law.proofs.RecordsRead.{item_of, item}

-- ---- what the lines spell
abbrev pub line_item : Line → Option Item
line_item l = item_of (row_of l.text)

pub line : Decides SpellsLine line_item
line = on item (λ (l : Line). row_of l.text)

abbrev pub line_items : List Line → Option (List Item)
line_items ls = each line_item ls

pub lines-spelled : Decides (Each SpellsLine) line_items
lines-spelled = listed line

-- ---- the tests
abbrev pub is_unlisted : Kind → Bool
is_unlisted passed_over = false
is_unlisted kept-text = false
is_unlisted 142-record = false
is_unlisted 152-record = false
is_unlisted 162-record = false
is_unlisted 250-record = false
is_unlisted 001-record = false
is_unlisted unlisted = true

abbrev pub test_after : (List Item → Item → Bool) → Option (List Item) → Option Item → Bool
test_after so none i = false
test_after so (some is) none = false
test_after so (some is) (some i) = so is i

abbrev pub test_line : LineFault → List Line → Line → Bool
test_line bad_byte before l = not (all allowed l.text)
test_line no_cr before l = not (is_ended l.end)
test_line too_long before l = ltb most_line (length (row_of l.text))
test_line not_listed before l = is_unlisted (kind_of (row_of l.text))
test_line bad_field before l = not (is_some (line_item l))
test_line again before l = test_after is_again (line_items before) (line_item l)
test_line too_many before l = test_after is_too_many (line_items before) (line_item l)

abbrev pub test_file : Option (List Item) → FileFault → ℕ → ℕ → Bool
test_file none f place r = false
test_file (some is) f place r = is_file_fault is f place r

-- o: what all lines spell
abbrev pub test_label : Bool → ℕ → Option (List Item) → Label → Bool
test_label long n o too_short = not long
test_label long n o too_big = ltb most_file n
test_label long n o (at_line_lem f before l) = test_line f before l
test_label long n o (of_file f s r) = test_file o f s.place r

-- ---- they decide the faults
unlisted_is : (k : Kind) → is_unlisted k ≡ true → k ≡ unlisted
unlisted_is passed_over e = clash e
unlisted_is kept-text e = clash e
unlisted_is 142-record e = clash e
unlisted_is 152-record e = clash e
unlisted_is 162-record e = clash e
unlisted_is 250-record e = clash e
unlisted_is 001-record e = clash e
unlisted_is unlisted e = refl

module _ (so : List Item → Item → Bool) where
  after-sound : (before : List Line) (l : Line) → test_after so (line_items before) (line_item l) ≡ true → After so before l
  after-sound before l e = go (line_items before) (line_item l) refl refl e
    where
      go : (o : Option (List Item)) (q : Option Item) → line_items before ≡ o → line_item l ≡ q → test_after so o q ≡ true → After so before l
      go none q a b e = clash e
      go (some is) none a b e = clash e
      go (some is) (some i) a b e = record { items = is; spelled = lines-spelled.sound before is a; item = i; here = line.sound l i b; holds = e }

  after-complete : (before : List Line) (l : Line) → After so before l → test_after so (line_items before) (line_item l) ≡ true
  after-complete before l h = rw (lines-spelled.complete before h.items h.spelled, line.complete l h.item h.here) h.holds

line-sound : (f : LineFault) (before : List Line) (l : Line) → test_line f before l ≡ true → IsLineFault f before l
line-sound bad_byte before l e = not-true (all allowed l.text) e
line-sound no_cr before l e = not-true (is_ended l.end) e
line-sound too_long before l e = ltb-true most_line (length (row_of l.text)) e
line-sound not_listed before l e = unlisted_is (kind_of (row_of l.text)) e
line-sound bad_field before l e = (unspelled line).sound l e
line-sound again before l e = after-sound is_again before l e
line-sound too_many before l e = after-sound is_too_many before l e

line-complete : (f : LineFault) (before : List Line) (l : Line) → IsLineFault f before l → test_line f before l ≡ true
line-complete bad_byte before l h = ap not h
line-complete no_cr before l h = ap not h
line-complete too_long before l h = lt-ltb most_line (length (row_of l.text)) h
line-complete not_listed before l h = ap is_unlisted h
line-complete bad_field before l h = (unspelled line).complete l h
line-complete again before l h = after-complete is_again before l h
line-complete too_many before l h = after-complete is_too_many before l h

file-sound : (ls : List Line) (f : FileFault) (place r : ℕ) → test_file (line_items ls) f place r ≡ true → OfItems ls f place r
file-sound ls f place r e = go (line_items ls) refl e
  where
    go : (o : Option (List Item)) → line_items ls ≡ o → test_file o f place r ≡ true → OfItems ls f place r
    go none a e = clash e
    go (some is) a e = record { items = is; spelled = lines-spelled.sound ls is a; holds = e }

file-complete : (ls : List Line) (f : FileFault) (place r : ℕ) → OfItems ls f place r → test_file (line_items ls) f place r ≡ true
file-complete ls f place r h = rw (lines-spelled.complete ls h.items h.spelled) h.holds

module _ (long : Bool) (file : List ℕ) (ls : List Line) where
  abbrev pub is_fault : Label → Bool
  is_fault = test_label long (length file) (line_items ls)

  label-sound : (x : Label) → is_fault x ≡ true → IsFault long file ls x
  label-sound too_short e = not-true long e
  label-sound too_big e = ltb-true most_file (length file) e
  label-sound (at_line_lem f before l) e = line-sound f before l e
  label-sound (of_file f s r) e = file-sound ls f s.place r e

  label-complete : (x : Label) → IsFault long file ls x → is_fault x ≡ true
  label-complete too_short h = ap not h
  label-complete too_big h = lt-ltb most_file (length file) h
  label-complete (at_line_lem f before l) h = line-complete f before l h
  label-complete (of_file f s r) h = file-complete ls f s.place r h

  -- every label's fault is decided by its test
  pub faults : Tests (IsFault long file ls) is_fault
  faults = record { sound = label-sound; complete = label-complete }
