-- For tables that are long enough: answer and tables are the reading of a lawful tournament exactly when their cells are good, and it is the one that they hold. Assumes nothing.
use mathlib.Core.Path.{◌≡◌, sym, ap, ◌∙◌, subst}
use mathlib.Core.Logic.{◌↔◌}
use mathlib.Core.Bool.{true}
use mathlib.Core.List.{List}
use Prim.Native.Nat.{ℕ}
use lib.ListN.{take}
use Rattle.kit.specs.Lists.{flat}
use Rattle.types.specs.declared.Answer.{Answer}
use Rattle.law.specs.Text.{ended}
use Rattle.law.specs.Tournament.{Tournament}
use Rattle.law.specs.Lawful.{Lawful}
use Rattle.law.specs.Tables.{Tables, enough, answer_of}
use Rattle.law.specs.Calls.{NoReading}
use Rattle.law.proofs.ReadsOnce.{rooms-are}
use Rattle.law.proofs.TwoReadings.{same_lines, one_tournament_a_reading}
use Rattle.written.proofs.Readings.{Has, no_reading}
use Rattle.texts.specs.Kept.{KeptText}
use Rattle.readings.specs.Good.{GoodReading}
use Rattle.readings.specs.Held.{held}
use Rattle.readings.proofs.HeldLawful.{held_lawful, held_has}
use Rattle.readings.proofs.HasGood.{text_is, good-reading}

-- ---- bytes are kept lines in one way, so answer and tables hold one tournament
pub one_text : (bytes : List ℕ) (j k : KeptText bytes) → j.lines ≡ k.lines
one_text bytes j k = same_lines j.lines k.lines j.good k.good (sym j.are ∙ k.are)

-- ---- good cells: the tournament that they hold is lawful and has this reading, however its text is known to be kept lines
pub held-good : (a : Answer) (t : Tables) → enough t ≡ true → GoodReading a t → (k : KeptText (take a.text t.text)) → Lawful (held a t k.lines) × Has (held a t k.lines) a t
held-good a t long g k = (held_lawful a t long g k, held_has a t long g k)

pub good_has : (a : Answer) (t : Tables) → enough t ≡ true → (g : GoodReading a t) → Lawful (held a t g.tables.text.lines) × Has (held a t g.tables.text.lines) a t
good_has a t long g = held-good a t long g g.tables.text

-- ---- a lawful tournament's reading: good cells
pub has_good : (a : Answer) (t : Tables) (u : Tournament) → Lawful u → Has u a t → GoodReading a t
has_good a t u l h = subst (λ (b : Answer). GoodReading b t) (sym h.says) (good-reading t u l (rooms-are t h.long) h.holds)

-- its kept text, in its own lines
has_text : (a : Answer) (t : Tables) (u : Tournament) → Lawful u → Has u a t → take a.text t.text ≡ flat ended u.text
unfolding answer_of
has_text a t u l h = ap (λ (b : Answer). take b.text t.text) h.says ∙ text_is t u l (rooms-are t h.long) h.holds

-- and it is the one that they hold
pub held_is : (a : Answer) (t : Tables) (u : Tournament) → Lawful u → Has u a t → u ≡ held a t u.text
held_is a t u l h =
    let k : KeptText (take a.text t.text) = record { lines = u.text; are = has_text a t u l h; good = l.text; once = l.text_once; named = l.named } in
    let g = has_good a t u l h in
    let m = held_has a t h.long g k in
    one_tournament_a_reading u (held a t u.text) l (held_lawful a t h.long g k) (sym h.says ∙ m.says) t t t h.holds m.holds

-- ---- 18: "no accepted file has this reading", over cells
pub no_good : (a : Answer) (t : Tables) → enough t ≡ true → NoReading a t ↔ (GoodReading a t → ⊥)
no_good a t long = (
  λ none g. let q = good_has a t long g in (no_reading a t).0 none (held a t g.tables.text.lines) q.0 q.1,
  λ bad. (no_reading a t).1 (λ u l h. bad (has_good a t u l h)),
)
