-- A line by itself, and after others: what each test says of it. Assumes nothing.
use mathlib.Core.Path.{◌≡◌, refl, sym, ap, ap₂, ◌∙◌}
use mathlib.Core.Bool.{Bool, true, false, ◌&&◌, not}
use mathlib.Core.Option.{Option, some}
use mathlib.Core.List.{List}
use Prim.Native.Nat.{ℕ}
use lib.Dec.{eqb}
use lib.ListN.{length, get_or, take, set}
use lib.Seq.{take-length}
use borrow.Author.Tests.{eqb-true, eq-eqb}
use Rattle.kit.specs.Decides.{to}
use Rattle.kit.proofs.Bools.{clash}
use Rattle.law.specs.Columns.{part, code_field}
use Rattle.law.specs.Text.{text_codes, SpellsText, is_repeated}
use Rattle.law.specs.Lawful.{KeptLine}
use Rattle.law.proofs.RecordsRead.{text_of, text-line}
use Rattle.law.proofs.Seats.{text-listed}
use Rattle.fields.specs.Said.{says, refuses, or_bad_field}
use Rattle.fields.proofs.Cases.{never}
use Rattle.join.specs.Store.{code_place}
use Rattle.join.proofs.Codes.{seen_of, repeated_is, seen_more}
use Rattle.steps.proofs.Answers.{front_of}
use Rattle.texts.specs.Kept.{Told}
use Rattle.texts.specs.Stood.{StandsAfter}
use Rattle.texts.proofs.Told.{told_no}

-- ---- a line by itself
module _ (line : List ℕ) where
  -- a line of which n bytes are kept
  pub whole-told : (n : ℕ) → says n ≡ or_bad_field (to length (text_of line)) → Told (SpellsText line line) (eqb n (length line))
  whole-told n e =
      let f = front_of line n (sym e) in
      record {
        sound = λ q. text-line.sound line line (f.is ∙ ap some (sym f.front ∙ ap (λ (m : ℕ). take m line) (eqb-true n (length line) q) ∙ take-length line));
        complete = λ l.
            let u : some f.kept ≡ some line = sym f.is ∙ text-line.complete line line l in
            let v : f.kept ≡ line = cc in
            eq-eqb n (length line) (f.long ∙ ap length v);
      }

  -- and one that is no text
  pub whole_not : {k : ℕ} → refuses k ≡ or_bad_field (to length (text_of line)) → Told (SpellsText line line) false
  whole_not {k} e = told_no (λ l. never (sym (e ∙ ap (λ (o : Option (List ℕ)). or_bad_field (to length o)) (text-line.complete line line l))))

-- ---- a line after others, whose codes are seen
module _ (before : List (List ℕ)) (line : List ℕ) (seen : List Bool) (e : seen ≡ seen_of before) where
  pub not-kept : (r : Bool) → Told (KeptLine line) r → r ≡ false → StandsAfter before line false seen
  not-kept r t h = record { told = told_no (λ k. clash (sym h ∙ t.complete k.0)); seen_is = clash }

  -- p is the place of its code
  module _ (kept : KeptLine line) (p : ℕ) (q : p ≡ code_place (part code_field line) 0 text_codes) where
    again : not (eqb p 9) && get_or seen p false ≡ is_repeated before line
    again = ap₂ (λ (k : ℕ) (v : List Bool). not (eqb k 9) && get_or v k false) q e ∙ repeated_is line (text-listed line kept.listed) before

    pub stood_again : not (eqb p 9) && get_or seen p false ≡ true → StandsAfter before line false seen
    stood_again h = record { told = told_no (λ k. clash (sym k.1 ∙ sym again ∙ h)); seen_is = clash }

    pub stands : not (eqb p 9) && get_or seen p false ≡ false → StandsAfter before line true (set seen p true)
    stands h =
        record {
          told = record { sound = λ _. (kept, sym again ∙ h); complete = λ _. refl };
          seen_is = λ _. ap₂ (λ (v : List Bool) (k : ℕ). set v k true) e q ∙ sym (seen_more line (text-listed line kept.listed) before);
        }
