-- From what is said of a text line back to what was decided. Assumes nothing.
use mathlib.Core.Path.{◌≡◌, refl, sym, ap, ◌∙◌}
use mathlib.Core.Option.{Option, none, some}
use mathlib.Core.List.{List, ◌++◌}
use Prim.Native.Nat.{ℕ, ◌+◌, ◌≤◌}
use native.Mathlib.Omega.{arith}
use lib.ListN.{length, take, replicate, length-append}
use lib.Seq.{take_at}
use Rattle.kit.specs.Decides.{to}
use Rattle.kit.proofs.Decided.{no_some}
use Rattle.law.specs.Columns.{blank}
use Rattle.law.specs.Text.{Trimmed}
use Rattle.law.proofs.RecordsRead.{text_of, text-line}
use Rattle.fields.specs.Said.{says, or_bad_field}
use Rattle.fields.proofs.Cases.{never}

-- a kept text line is the first n bytes of its line
pub record Front (row : List ℕ) (n : ℕ) : Type 0 where
  pub kept : List ℕ
  pub is : text_of row ≡ some kept
  pub long : n ≡ length kept
  pub front : take n row ≡ kept
  pub within : n ≤ length row

-- a value that is made of what was decided
pub value_there : {A B : Type 0} (f : A → B) (o : Option A) (v : B) → or_bad_field (to f o) ≡ says v → (a : A) × ((o ≡ some a) × (v ≡ f a))
value_there f (some a) v e = let u : v ≡ f a = cc in (a, (refl, u))
value_there f none v e = never (sym e)

pub to_none : {A B : Type 0} (f : A → B) (o : Option A) → to f o ≡ none → o ≡ none
to_none f (some a) e = no_some (sym e)
to_none f none e = refl

pub front_of : (row : List ℕ) (n : ℕ) → or_bad_field (to length (text_of row)) ≡ says n → Front row n
front_of row n e =
    record {
      kept = a;
      is = h.1.0;
      long = h.1.1;
      front = ap (take n) whole ∙ take_at a (replicate blanks blank) n (sym h.1.1);
      within = let u : length row ≡ length a + length (replicate blanks blank) = ap length whole ∙ length-append a (replicate blanks blank) in omega (arith, h.1.1, u);
    }
  where
    h : (a : List ℕ) × ((text_of row ≡ some a) × (n ≡ length a))
    h = value_there length (text_of row) n e

    a : List ℕ
    a = h.0

    t : Trimmed row a
    t = (text-line.sound row a h.1.0).kept_is

    blanks : ℕ
    blanks = t.blanks

    whole : row ≡ a ++ replicate blanks blank
    whole = t.text
