-- Laws of what is put: nothing, one byte, one after the other; what stays as it was. Assumes nothing.
use mathlib.Core.Path.{◌≡◌, refl, sym, ap, ap₂, ◌∙◌, subst}
use mathlib.Core.List.{List, [], ◌∷◌, ◌++◌, append_assoc, append-nil}
use Prim.Native.Nat.{ℕ, suc, ◌+◌, ◌-◌, ◌≤◌, ◌<◌}
use native.Mathlib.Nat.{zero-add, add_assoc}
use native.Mathlib.Numerals.{add-one}
use native.Mathlib.Omega.{arith}
use lib.ListN.{length, get_or, set, take, drop, length-append, length-set, get_or-append}
use lib.Seq.{paste, paste-zero, take-paste, drop-paste, take_all, drop-drop, append_snoc, set_split, set-append_left, take-set-lt, drop-set-lt, length-take-le, get_or-append-add, get_or-drop}
use Rattle.kit.specs.Table.{Holds}
use Rattle.puts.specs.Puts.{Puts}

-- ---- the same said otherwise
pub puts_as : {a b : List ℕ} {m n at i j : ℕ} {x y : List ℕ} → a ≡ b → m ≡ n → i ≡ j → Puts a m at x y i → Puts b n at x y j
puts_as {a} {b} {m} {n} {at} {i} {j} {x} {y} e f g p =
    record {
      wide = ap length (sym e) ∙ p.wide ∙ f;
      room = let r = p.room in omega arith;
      long = p.long;
      ends = let r = p.ends in omega arith;
      written = p.written ∙ ap₂ (paste x at) e f;
    }

pub puts_at : {a : List ℕ} {n at at' j : ℕ} {x y : List ℕ} → at ≡ at' → Puts a n at x y j → Puts a n at' x y j
puts_at {a} {n} {at} {at'} {j} {x} {y} e p = subst (λ (k : ℕ). Puts a n k x y j) e p

-- ---- nothing, and one byte
pub puts_none : {at : ℕ} {x : List ℕ} → at ≤ length x → Puts [] 0 at x x at
puts_none {at} {x} l = record { wide = refl; room = omega arith; long = refl; ends = omega arith; written = paste-zero x at [] }

pub puts_byte : {at v : ℕ} {x : List ℕ} → at < length x → Puts (v ∷ []) 1 at x (set x at v) (at + 1)
puts_byte {at} {v} {x} l =
    record {
      wide = refl;
      room = omega arith;
      long = length-set x at v;
      ends = refl;
      written = set_split x at v l ∙ sym (append_snoc (take at x) v (drop (suc at) x)) ∙ ap (λ (k : ℕ). take at x ++ (v ∷ []) ++ drop k x) (sym (add-one at));
    }

-- ---- some, and then others
module _ {a b : List ℕ} {n m at i j : ℕ} {x y z : List ℕ} (p : Puts a n at x y i) (q : Puts b m i y z j) where
  same-room : at + n + m ≤ length x
  same-room = let r = p.room in let l = p.long in let e = p.ends in let s = q.room in omega arith

  both_wide : length (a ++ b) ≡ n + m
  both_wide = length-append a b ∙ ap₂ ◌+◌ p.wide q.wide

  front : take i y ≡ take at x ++ a
  front =
      ap₂ take p.ends p.written
      ∙ take-paste x at a n (let r = p.room in omega arith) (let w = p.wide in omega arith)
      ∙ ap (λ (u : List ℕ). take at x ++ u) (take_all n a (let w = p.wide in omega arith))

  behind : drop (i + m) y ≡ drop (at + (n + m)) x
  behind =
      sym (drop-drop m i y)
      ∙ ap (drop m) (ap₂ drop p.ends p.written ∙ drop-paste x at a n (let r = p.room in omega arith) (let w = p.wide in omega arith))
      ∙ drop-drop m (at + n) x
      ∙ ap (λ (k : ℕ). drop k x) (add_assoc at n m)

  pub puts_then : Puts (a ++ b) (n + m) at x z j
  puts_then =
      record {
        wide = both_wide;
        room = let r = same-room in omega arith;
        long = q.long ∙ p.long;
        ends = let e = p.ends in let f = q.ends in omega arith;
        written =
            q.written
            ∙ ap₂ (λ (u v : List ℕ). u ++ take m b ++ v) front behind
            ∙ ap (λ (u : List ℕ). take at x ++ a ++ u ++ drop (at + (n + m)) x) (take_all m b (let w = q.wide in omega arith))
            ∙ ap (λ (u : List ℕ). u ++ drop (at + (n + m)) x) (append_assoc (take at x) a b)
            ∙ ap (λ (u : List ℕ). take at x ++ u ++ drop (at + (n + m)) x) (sym (take_all (n + m) (a ++ b) (let w = both_wide in omega arith)));
      }

-- ---- room for what is put next: n bytes are put of n + w, or of n + (m + k), for which there was room
module _ {a : List ℕ} {n at i : ℕ} {x y : List ℕ} (p : Puts a n at x y i) where
  pub room-left : (w : ℕ) → at + (n + w) ≤ length x → i + w ≤ length y
  room-left w r = let l = p.long in let e = p.ends in omega arith

  pub room_next : (m k : ℕ) → at + (n + (m + k)) ≤ length x → i + m ≤ length y
  room_next m k r = let l = p.long in let e = p.ends in omega arith

-- a field has a column
pub a_column : (w : ℕ) → 1 ≤ suc w
a_column w = omega arith

-- one byte before them, put after them
pub puts_before : {a : List ℕ} {n at j v : ℕ} {x y : List ℕ} → Puts a n (at + 1) x y j → Puts (v ∷ a) (n + 1) at x (set y at v) j
puts_before {a} {n} {at} {j} {v} {x} {y} p =
    let r = p.room in
    let l : at < length x = omega arith in
    let d : List ℕ = drop (at + 1 + n) x in
    let t : at < length (take (at + 1) x) = rw (length-take-le (at + 1) x (omega arith)) (omega arith) in
    let first : set y at v ≡ set (take (at + 1) x ++ (take n a ++ d)) at v =
    ap (λ (u : List ℕ). set u at v) (p.written ∙ append_assoc (take (at + 1) x) (take n a) d) in
    let moved : set (take (at + 1) x ++ (take n a ++ d)) at v ≡ paste (set x at v) (at + 1) a n =
    set-append_left (take (at + 1) x) (take n a ++ d) at v t
    ∙ ap₂ (λ (u w : List ℕ). u ++ (take n a ++ w)) (sym (take-set-lt (at + 1) x at v (omega arith))) (sym (drop-set-lt (at + 1 + n) x at v (omega arith)))
    ∙ sym (append_assoc (take (at + 1) (set x at v)) (take n a) (drop (at + 1 + n) (set x at v))) in
    let later : Puts a n (at + 1) (set x at v) (set y at v) j =
    record {
      wide = p.wide;
      room = rw (length-set x at v) r;
      long = length-set y at v ∙ p.long ∙ sym (length-set x at v);
      ends = p.ends;
      written = first ∙ moved;
    } in
    puts_as refl (omega arith) refl (puts_then (puts_byte l) later)

-- the last piece of a line that is laid out has nothing after it
pub puts_last : {a : List ℕ} {n at j : ℕ} {x y : List ℕ} → Puts a n at x y j → Puts (a ++ []) n at x y j
puts_last {a} p = puts_as (sym (append-nil a)) refl refl p

-- from the front on: what the statement says of the output after a writing
pub puts_holds : {a : List ℕ} {n j : ℕ} {x y : List ℕ} → Puts a n 0 x y j → Holds 0 (length a) (λ i. get_or a i 0) x y
puts_holds {a} {n} {j} {x} {y} p =
    let r = p.room in
    let w = p.wide in
    let whole : y ≡ a ++ drop n x = p.written ∙ ap₂ (λ (u : List ℕ) (k : ℕ). u ++ drop k x) (take_all n a (omega arith)) (zero-add n) in
    record {
      long = p.long;
      cells = λ i l. ap (λ (u : List ℕ). get_or u i 0) whole ∙ get_or-append a (drop n x) 0 i l;
      rest = λ i l.
          let e : i ≡ length a + (i - n) = omega arith in
          let f : n + (i - n) ≡ i = omega arith in
          ap₂ (λ (u : List ℕ) (k : ℕ). get_or u k 0) whole e ∙ get_or-append-add a (drop n x) (i - n) 0 ∙ get_or-drop n x (i - n) 0 ∙ ap (λ (k : ℕ). get_or x k 0) f;
    }
