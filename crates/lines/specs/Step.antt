-- What a step of the cursor says: the lines of what is left are the line that it found and the lines from the next cursor on.
use Rattle.std.specs.Prelude.{◌≡◌, true, false, cond, List, [], ◌∷◌, ℕ, suc, ◌-◌, ◌≤◌, ◌<◌, length, get_or, take, drop, Option, Some, None, Result, Ok, Err}
use Rattle.kit.specs.Lists.{all}
use Rattle.law.specs.Lines.{CR, Line, is_ended, starts_with_lf, allowed}
use Rattle.law.proofs.Cut.{cut, end_for}
use Rattle.types.specs.declared.Fault.{Fault}
use Rattle.types.specs.Faults.{number_of}
use Rattle.lines.specs.declared.Line.{Line as Found}

-- no CR from at up to r
abbrev pub NoCR : List ℕ → ℕ → ℕ → Type 0
NoCR file at r = (k : ℕ) → k < r → at ≤ k → get_or file k 0 ≡ CR → ⊥

-- r is the place of the first CR from at on, or the length
pub record CRFrom (file : List ℕ) (at r : ℕ) : Type 0 where
  pub after : at ≤ r
  pub within : r ≤ length file
  pub none_before : NoCR file at r
  pub there : r < length file → get_or file r 0 ≡ CR

-- the bytes from at up to r are allowed
abbrev pub Clean : List ℕ → ℕ → ℕ → Type 0
Clean file at r = (k : ℕ) → k < r → at ≤ k → allowed (get_or file k 0) ≡ true

-- r is the place of the first byte from at on, before to, that is not allowed, or to
pub record Stop (file : List ℕ) (at to r : ℕ) : Type 0 where
  pub after : at ≤ r
  pub within : r ≤ to
  pub clean : Clean file at r
  pub there : r < to → allowed (get_or file r 0) ≡ false

-- what is refused of a line before anything else: 3, then 4
abbrev pub byte_fault : Line → ℕ
byte_fault l = cond (all allowed l.text) (cond (is_ended l.end) 0 4) 3

-- the first line is refused by that number
pub record FaultAt (file : List ℕ) (at number : ℕ) : Type 0 where
  pub line : Line
  pub others : List Line
  pub lines : cut false (drop at file) ≡ line ∷ others
  pub fault : byte_fault line ≡ number

-- a line of allowed bytes with its terminator; next is the place past that
pub record WholeAt (file : List ℕ) (at from to next : ℕ) : Type 0 where
  pub start : from ≡ at
  pub forward : at ≤ to
  pub past : to < next
  pub within : next ≤ length file
  pub clean : all allowed (take (to - from) (drop from file)) ≡ true
  pub lines : cut false (drop at file) ≡ record { text = take (to - from) (drop from file); end = end_for (starts_with_lf (drop (suc to) file)) } ∷ cut false (drop next file)

unfoldable pub StepMeans : List ℕ → ℕ → Result (Option Found) Fault → Type 0
StepMeans file at (Ok None) = cut false (drop at file) ≡ []
StepMeans file at (Ok (Some line)) = WholeAt file at line.from line.to line.next.at
StepMeans file at (Err fault) = FaultAt file at (number_of fault)
