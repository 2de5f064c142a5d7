-- The laws of Holds: one content, and that there is one. Assumes nothing.
use mathlib.Core.Path.{◌≡◌, refl, sym, ap, ◌∙◌}
use mathlib.Core.List.{List, ◌++◌, map}
use Prim.Native.Nat.{ℕ, ◌+◌, ◌-◌, ◌≤◌, ◌<◌}
use native.Mathlib.Decide.{dec_lt}
use native.Mathlib.Omega.{arith}
use lib.ListN.{length, get_or, drop, length-append, length-drop, get_or-append}
use lib.Seq.{ext_get_or, get_or-append-add, get_or-drop}
use Rattle.kit.specs.Lists.{from}
use Rattle.kit.specs.Table.{Holds}
use Rattle.kit.proofs.Lists.{made_length, made_at}

module _ {A : Type 0} (d : A) (n : ℕ) (f : ℕ → A) where
  -- two contents that it allows are equal
  pub one_content : (b x y : List A) → Holds d n f b x → Holds d n f b y → x ≡ y
  one_content b x y h k = ext_get_or d x y (h.long ∙ sym k.long) λ i _. at i (dec_lt i n)
    where
      at : (i : ℕ) → Dec (i < n) → get_or x i d ≡ get_or y i d
      at i (yes l) = h.cells i l ∙ sym (k.cells i l)
      at i (no l) = h.rest i (omega arith) ∙ sym (k.rest i (omega arith))

  -- the table with that content
  abbrev pub filled : List A → List A
  filled b = map f (from 0 n) ++ drop n b

  wide : length (map f (from 0 n)) ≡ n
  wide = made_length f n 0

  pub filled-holds : (b : List A) → n ≤ length b → Holds d n f b (filled b)
  filled-holds b room =
      record {
        long = length-append (map f (from 0 n)) (drop n b) ∙ (let u = wide in let v = length-drop n b in omega arith);
        cells = λ i l. get_or-append (map f (from 0 n)) (drop n b) d i (let u = wide in omega arith) ∙ made_at f d n i l;
        rest = λ i l.
            let e : i ≡ length (map f (from 0 n)) + (i - n) = let u = wide in omega arith in
            let g : n + (i - n) ≡ i = omega arith in
            ap (λ (j : ℕ). get_or (filled b) j d) e ∙ get_or-append-add (map f (from 0 n)) (drop n b) (i - n) d ∙ get_or-drop n b (i - n) d ∙ ap (λ (j : ℕ). get_or b j d) g;
      }

-- a table that is as it was has held its content already
pub holds_same : {A : Type 0} (d : A) (n : ℕ) (f : ℕ → A) (b : List A) → ((i : ℕ) → i < n → get_or b i d ≡ f i) → Holds d n f b b
holds_same d n f b h = record { long = refl; cells = h; rest = λ i _. refl }
