-- Bytes put one after the other, however many they are: none, and then more.
-- Assumes nothing.
use mathlib.Core.Path.{refl, sym}
use mathlib.Core.List.{List, [], ◌++◌}
use Prim.Native.Nat.{ℕ, ◌≤◌}
use lib.ListN.{length, length-append}
use Rattle.puts.proofs.Puts.{puts_as, puts_none, puts_then}
use Rattle.listing.specs.Put.{Put}

pub put_none : (at : ℕ) (t : List ℕ) → at ≤ length t → Put [] at t at t
put_none at t h = puts_none h

pub put_then : {a b : List ℕ} {at : ℕ} {t : List ℕ} {e : ℕ} {u : List ℕ} {e' : ℕ} {u' : List ℕ} → Put a at t e u → Put b e u e' u' → Put (a ++ b) at t e' u'
put_then {a} {b} p q = puts_as refl (sym (length-append a b)) refl (puts_then p q)
