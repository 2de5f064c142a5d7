-- The bytes of each terminator, and the kept text with its terminators. Assumes nothing.
use mathlib.Core.Path.{◌≡◌, refl, sym, ap, ap₂, subst, ◌∙◌}
use mathlib.Core.Bool.{true, not}
use mathlib.Core.List.{List, [], ◌∷◌, ◌++◌, append_assoc, append-nil}
use Prim.Native.Nat.{ℕ, ◌+◌, ◌≤◌, ◌<◌}
use native.Mathlib.Omega.{arith}
use lib.Dec.{eqb}
use lib.ListN.{length, get_or, take, drop, length-append, take-append-drop}
use lib.Seq.{take-suc, take_all}
use native.Mathlib.Numerals.{add-one}
use borrow.Author.Tests.{not-true, eq-eqb, ne_eqb}
use Rattle.kit.specs.Lists.{flat}
use Rattle.kit.specs.First.{AllOf}
use Rattle.kit.proofs.Bools.{and}
use Rattle.law.specs.Lines.{CR, LF, has_no_cr}
use Rattle.law.specs.Text.{ended}
use Rattle.puts.specs.Puts.{Puts}
use Rattle.puts.proofs.Puts.{puts_as, puts_none, puts_then}
use Rattle.puts.specs.Ends.{end_text, end_wide, ended_by, kept_text, relined}
use Rattle.puts.specs.declared.Terminator.{Terminator}
use Rattle.puts.specs.declared.Terminator.TheVariants as terminator

-- how wide they are
pub end-wide : (e : Terminator) → (1 ≤ end_wide e) × (end_wide e ≤ 2)
end-wide terminator.CrLf = (omega arith, omega arith)
end-wide terminator.Cr = (omega arith, omega arith)

pub crlf-wide : {e : Terminator} → e ≡ terminator.CrLf → end_wide e ≡ 2
crlf-wide h = ap end_wide h

pub cr-wide : {e : Terminator} → e ≡ terminator.Cr → end_wide e ≡ 1
cr-wide h = ap end_wide h

-- ---- the kept text
relined-append : (e : Terminator) (a b : List ℕ) → relined e (a ++ b) ≡ relined e a ++ relined e b
unfolding relined
relined-append e [] b = refl
relined-append e (c ∷ a) b = ap (λ (l : List ℕ). kept_text e c ++ l) (relined-append e a b) ∙ sym (append_assoc (kept_text e c) (relined e a) (relined e b))

relined-none : (e : Terminator) → relined e [] ≡ []
unfolding relined
relined-none e = refl

-- a line has no CR of its own
relined-line : (e : Terminator) (l : List ℕ) → has_no_cr l ≡ true → relined e l ≡ l
unfolding relined
relined-line e [] h = refl
relined-line e (c ∷ l) h =
    let k = and (not (eqb c CR)) (has_no_cr l) h in
    rw (not-true (eqb c CR) k.0) (ap (λ (m : List ℕ). c ∷ m) (relined-line e l k.1))

relined-end : (e : Terminator) → relined e (CR ∷ []) ≡ end_text e
unfolding relined
relined-end e = append-nil (end_text e)

-- both terminators by one argument: the lines of the table, with CR after each, become the lines with their terminator
pub relined-lines : (e : Terminator) (ls : List (List ℕ)) → AllOf (λ l. has_no_cr l ≡ true) ls → relined e (flat ended ls) ≡ flat (ended_by e) ls
unfolding flat
relined-lines e [] h = relined-none e
relined-lines e (l ∷ ls) h =
    relined-append e (ended l) (flat ended ls)
    ∙ ap₂ (λ (a b : List ℕ). a ++ b) (relined-append e l (CR ∷ []) ∙ ap₂ (λ (a b : List ℕ). a ++ b) (relined-line e l h.0) (relined-end e)) (relined-lines e ls h.1)

-- ---- what is put for a terminator
pub put_crlf : {e : Terminator} → e ≡ terminator.CrLf → {at r : ℕ} {x y : List ℕ} → Puts (CR ∷ LF ∷ []) 2 at x y r → Puts (end_text e) (end_wide e) at x y r
put_crlf h {at} {r} {x} {y} p = subst (λ (e : Terminator). Puts (end_text e) (end_wide e) at x y r) (sym h) p

pub put_cr : {e : Terminator} → e ≡ terminator.Cr → {at r : ℕ} {x y : List ℕ} → Puts (CR ∷ []) 1 at x y r → Puts (end_text e) (end_wide e) at x y r
put_cr h {at} {r} {x} {y} p = subst (λ (e : Terminator). Puts (end_text e) (end_wide e) at x y r) (sym h) p

-- ---- a byte of the kept text
pub kept-cr : (e : Terminator) (c : ℕ) → c ≡ CR → end_text e ≡ kept_text e c
kept-cr e c h = rw (eq-eqb c CR h) refl

pub kept_byte : (e : Terminator) (c : ℕ) → (c ≡ CR → ⊥) → c ∷ [] ≡ kept_text e c
kept_byte e c h = rw (ne_eqb c CR h) refl

-- one byte more, and how wide that is
module _ (e : Terminator) (text : List ℕ) where
  one_more : (i : ℕ) → i < length text → relined e (take (i + 1) text) ≡ relined e (take i text) ++ kept_text e (get_or text i 0)
  unfolding relined
  one_more i l =
      ap (relined e) (ap (λ (k : ℕ). take k text) (add-one i) ∙ take-suc text i 0 l)
      ∙ relined-append e (take i text) (get_or text i 0 ∷ [])
      ∙ ap (λ (m : List ℕ). relined e (take i text) ++ m) (append-nil (kept_text e (get_or text i 0)))

  pub one_wider : (i : ℕ) → i < length text → length (relined e (take (i + 1) text)) ≡ length (relined e (take i text)) + length (kept_text e (get_or text i 0))
  one_wider i l = ap length (one_more i l) ∙ length-append (relined e (take i text)) (kept_text e (get_or text i 0))

  pub none-wide : length (relined e (take 0 text)) ≡ 0
  unfolding relined
  none-wide = refl

-- ---- the kept text, of which i bytes are put
pub record Relined (e : Terminator) (text : List ℕ) (at : ℕ) (x y : List ℕ) (next i : ℕ) : Type 0 where
  pub put : Puts (relined e (take i text)) (length (relined e (take i text))) at x y next

module _ (e : Terminator) (text : List ℕ) (at : ℕ) (x : List ℕ) where
  pub relined-start : at ≤ length x → Relined e text at x x at 0
  unfolding relined
  relined-start l = record { put = puts_none l }

  pub relined-next : {y z : List ℕ} {next next' i : ℕ} → Relined e text at x y next i → i < length text
      → Puts (kept_text e (get_or text i 0)) (length (kept_text e (get_or text i 0))) next y z next' → Relined e text at x z next' (i + 1)
  relined-next {y} {z} {next} {next'} {i} h l p =
      record { put = puts_as (sym (one_more e text i l)) (sym (one_wider e text i l)) refl (puts_then h.put p) }

  pub relined-all : {y : List ℕ} {next i : ℕ} → Relined e text at x y next i → length text ≤ i → Puts (relined e text) (length (relined e text)) at x y next
  relined-all {y} {next} {i} h l = let k : take i text ≡ text = take_all i text l in puts_as (ap (relined e) k) (ap (λ (t : List ℕ). length (relined e t)) k) refl h.put

  -- there is room for the next byte
  pub relined-room : {y : List ℕ} {next i : ℕ} → Relined e text at x y next i → i < length text → at + length (relined e text) ≤ length x → next + length (kept_text e (get_or text i 0)) ≤ length y
  relined-room {y} {next} {i} h l r =
      let a = one_wider e text i l in
      let b = ap length (ap (relined e) (sym (take-append-drop (i + 1) text)) ∙ relined-append e (take (i + 1) text) (drop (i + 1) text)) ∙ length-append (relined e (take (i + 1) text)) (relined e (drop (i + 1) text)) in
      let c = h.put.ends in
      let d = h.put.long in
      omega arith
