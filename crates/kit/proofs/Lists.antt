-- Laws on runs of numbers, on lists laid one after the other, and on what is asked of each after those before it. Assumes nothing.
use mathlib.Core.Path.{◌≡◌, refl, sym, ap, ◌∙◌, subst}
use mathlib.Core.Bool.{Bool, true, false, cond, ◌&&◌, ◌||◌, not}
use mathlib.Core.List.{List, [], ◌∷◌, ◌++◌, map, append_assoc, append-nil}
use Prim.Native.Nat.{ℕ, zero, suc, ◌+◌, ◌*◌, ◌≤◌, ◌<◌}
use native.Mathlib.Decide.{ℕ_discrete}
use native.Mathlib.Nat.{add-zero, zero-add, zero-mul, suc-mul}
use native.Mathlib.Omega.{arith}
use lib.ListN.{length, get_or, length-append, length-map, get_or-append}
use lib.Seq.{append_snoc, get_or-append-add}
use lib.Dec.{ltb}
use borrow.Author.Tests.{not-true, ltb-false, le-ltb}
use Rattle.kit.specs.Lists.{any, is_empty, at_most_one, from, flat, each_after, top}
use Rattle.kit.specs.First.{AllOf}
use Rattle.kit.proofs.Bools.{clash, and, both}

pub length_from : (i n : ℕ) → length (from i n) ≡ n
length_from i zero = refl
length_from i (suc n) = ap suc (length_from (i + 1) n)

pub map-from_at : {A : Type 0} (f : ℕ → A) (d : A) (i n k : ℕ) → k < n → get_or (map f (from i n)) k d ≡ f (i + k)
map-from_at f d i zero k l = absurd (omega arith)
map-from_at f d i (suc n) zero l = ap f (sym (add-zero i))
map-from_at f d i (suc n) (suc k) l = map-from_at f d (i + 1) n k (omega arith) ∙ ap f (omega arith)

-- a list that is made of n numbers in a row, and the cells of one that is made of the first
module _ {A : Type 0} (f : ℕ → A) where
  pub made_length : (n i : ℕ) → length (map f (from i n)) ≡ n
  made_length n i = length-map (from i n) f ∙ length_from i n

  pub made_at : (d : A) (n i : ℕ) → i < n → get_or (map f (from 0 n)) i d ≡ f i
  made_at d n i l = map-from_at f d 0 n i l ∙ ap f (zero-add i)

-- of every number of a run
module _ (P : ℕ → Type 0) where
  pub all_from : (i n : ℕ) → ((k : ℕ) → i ≤ k → k < i + n → P k) → AllOf P (from i n)
  all_from i zero h = tt
  all_from i (suc n) h = (h i (omega arith) (omega arith), all_from (i + 1) n (λ k a b. h k (omega arith) (omega arith)))

  pub from_all : (i n : ℕ) → AllOf P (from i n) → (k : ℕ) → i ≤ k → k < i + n → P k
  from_all i zero h k a b = absurd (omega arith)
  from_all i (suc n) h k a b = go (ℕ_discrete i k) (from_all (i + 1) n h.1 k)
    where
      go : Dec (i ≡ k) → (i + 1 ≤ k → k < i + 1 + n → P k) → P k
      go (yes e) ih = subst P e h.0
      go (no e) ih = let z : i ≡ k → ⊥ = e in ih (omega arith) (omega arith)

-- ---- lists laid one after the other
module _ {A B : Type 0} (f : A → List B) where
  pub flat_append : (l m : List A) → flat f (l ++ m) ≡ flat f l ++ flat f m
  unfolding flat
  flat_append [] m = refl
  flat_append (x ∷ l) m = ap (λ (u : List B). f x ++ u) (flat_append l m) ∙ sym (append_assoc (f x) (flat f l) (flat f m))

  pub flat_snoc : (l : List A) (x : A) → flat f (l ++ (x ∷ [])) ≡ flat f l ++ f x
  unfolding flat
  flat_snoc l x = flat_append l (x ∷ []) ∙ ap (λ (u : List B). flat f l ++ u) (append-nil (f x))

-- lists of one width laid one after the other
module _ {A B : Type 0} (f : A → List B) (w : ℕ) where
  pub flat-length : (l : List A) → AllOf (λ x. length (f x) ≡ w) l → length (flat f l) ≡ length l * w
  unfolding flat
  flat-length [] h = sym (zero-mul w)
  flat-length (x ∷ l) h = let z = h.0 in let y = flat-length l h.1 in rw (length-append, suc-mul) (omega arith)

  pub flat_at : (d : A) (e : B) (l : List A) → AllOf (λ x. length (f x) ≡ w) l → (p r : ℕ) → p < length l → r < w → get_or (flat f l) (p * w + r) e ≡ get_or (f (get_or l p d)) r e
  unfolding flat
  flat_at d e [] h p r a c = absurd (omega arith)
  flat_at d e (x ∷ l) h zero r a c = let z = h.0 in rw (zero-mul, zero-add) (get_or-append (f x) (flat f l) e r (omega arith))
  flat_at d e (x ∷ l) h (suc p) r a c =
      let z = h.0 in
      let q : suc p * w + r ≡ length (f x) + (p * w + r) = rw suc-mul (omega arith) in
      rw q (get_or-append-add (f x) (flat f l) (p * w + r) e ∙ flat_at d e l h.1 p r (omega arith) c)

-- ---- the highest number that passes a test
pub top-low : (t : ℕ → Bool) (m : ℕ) → top t m ≤ m
unfolding top
top-low t zero = omega arith
top-low t (suc m) = go (t (suc m)) (top-low t m)
  where
    go : (v : Bool) → top t m ≤ m → cond v (suc m) (top t m) ≤ suc m
    go true h = omega arith
    go false h = omega arith

pub top-past : (t : ℕ → Bool) (m r : ℕ) → top t m < r → r ≤ m → t r ≡ false
unfolding top
top-past t zero r a b = absurd (omega arith)
top-past t (suc m) r a b = go (t (suc m)) refl a (top-past t m r) (ℕ_discrete r (suc m))
  where
    go : (v : Bool) → t (suc m) ≡ v → cond v (suc m) (top t m) < r → (top t m < r → r ≤ m → t r ≡ false) → Dec (r ≡ suc m) → t r ≡ false
    go true e a ih d = absurd (omega arith)
    go false e a ih (yes q) = rw q e
    go false e a ih (no q) = let z : r ≡ suc m → ⊥ = q in ih a (omega arith)

-- ---- what is asked of each after those before it
module _ {A : Type 0} (f g : List A → A → Bool) where
  pub after_both : (e l : List A) → each_after (λ b x. f b x && g b x) e l ≡ each_after f e l && each_after g e l
  after_both e [] = refl
  after_both e (x ∷ l) = rw (after_both (e ++ (x ∷ [])) l) (four (f e x) (g e x) (each_after f (e ++ (x ∷ [])) l) (each_after g (e ++ (x ∷ [])) l))
    where
      four : (a b c d : Bool) → (a && b) && (c && d) ≡ (a && c) && (b && d)
      four true true c d = refl
      four true false true d = refl
      four true false false d = refl
      four false b c d = refl

  pub after_same : ((b : List A) (x : A) → f b x ≡ g b x) → (e l : List A) → each_after f e l ≡ each_after g e l
  after_same h e [] = refl
  after_same h e (x ∷ l) = rw (h e x, after_same h (e ++ (x ∷ [])) l) refl

-- asked of what each element adds, of which there is at most one, after what those before it added
module _ {A B : Type 0} (g : A → List B) (small : (a : A) → at_most_one (g a) ≡ true) (f : List B → B → Bool) where
  pub after_added : (e l : List A) → each_after (λ b a. not (any (f (flat g b)) (g a))) e l ≡ each_after (λ b x. not (f b x)) (flat g e) (flat g l)
  unfolding flat
  after_added e [] = refl
  after_added e (a ∷ l) = go (g a) (small a) (after_added (e ++ (a ∷ [])) l ∙ ap (λ (b : List B). each_after (λ b x. not (f b x)) b (flat g l)) (flat_snoc g e a))
    where
      go : (xs : List B) → at_most_one xs ≡ true → each_after (λ b a. not (any (f (flat g b)) (g a))) (e ++ (a ∷ [])) l ≡ each_after (λ b x. not (f b x)) (flat g e ++ xs) (flat g l)
          → not (any (f (flat g e)) xs) && each_after (λ b a. not (any (f (flat g b)) (g a))) (e ++ (a ∷ [])) l ≡ each_after (λ b x. not (f b x)) (flat g e) (xs ++ flat g l)
      go [] s ih = ih ∙ ap (λ (b : List B). each_after (λ b x. not (f b x)) b (flat g l)) (append-nil (flat g e))
      go (x ∷ []) s ih = rw ih (or-false (f (flat g e) x))
        where
          or-false : (v : Bool) → not (v || false) && each_after (λ b x. not (f b x)) (flat g e ++ (x ∷ [])) (flat g l) ≡ not v && each_after (λ b x. not (f b x)) (flat g e ++ (x ∷ [])) (flat g l)
          or-false true = refl
          or-false false = refl
      go (x ∷ y ∷ xs) s ih = clash s

-- none before each: there is at most one
pub after_none : {A : Type 0} (l : List A) → each_after (λ b x. not (not (is_empty b))) [] l ≡ at_most_one l
after_none [] = refl
after_none (x ∷ []) = refl
after_none (x ∷ y ∷ l) = refl

-- each fits with those before it: all fit together
module _ {A : Type 0} (most : ℕ) (w : A → ℕ) (total : List A → ℕ) (total-snoc : (l : List A) (x : A) → total (l ++ (x ∷ [])) ≡ total l + w x) where
  abbrev fits_after : List A → A → Bool
  fits_after b x = not (ltb most (total b + w x))

  pub all_fit : (e l : List A) → total e ≤ most → each_after fits_after e l ≡ true → total (e ++ l) ≤ most
  all_fit e [] h t = rw append-nil h
  all_fit e (x ∷ l) h t =
      let k = and (fits_after e x) (each_after fits_after (e ++ (x ∷ [])) l) t in
      let s = ltb-false most (total e + w x) (not-true (ltb most (total e + w x)) k.0) in
      let u : total (e ++ (x ∷ [])) ≤ most = rw (total-snoc e x) s in
      rw (append_snoc e x l) at (all_fit (e ++ (x ∷ [])) l u k.1)

  total_grows : (e l : List A) → total e ≤ total (e ++ l)
  total_grows e [] = rw append-nil (omega arith)
  total_grows e (x ∷ l) =
      let s = total-snoc e x in
      let g = rw (append_snoc e x l) at (total_grows (e ++ (x ∷ [])) l) in
      omega arith

  pub fit_all : (e l : List A) → total (e ++ l) ≤ most → each_after fits_after e l ≡ true
  fit_all e [] h = refl
  fit_all e (x ∷ l) h =
      let s = total-snoc e x in
      let h' : total ((e ++ (x ∷ [])) ++ l) ≤ most = rw (append_snoc e x l) h in
      let g = total_grows (e ++ (x ∷ [])) l in
      both (ap not (le-ltb most (total e + w x) (omega arith))) (fit_all (e ++ (x ∷ [])) l h')

-- ---- of the images of a list
module _ {A B : Type 0} (h : A → B) where
  pub map-append : (k l : List A) → map h (k ++ l) ≡ map h k ++ map h l
  map-append [] l = refl
  map-append (x ∷ k) l = ap (λ (m : List B). h x ∷ m) (map-append k l)

  pub any-map : (f : B → Bool) (l : List A) → any f (map h l) ≡ any (λ x. f (h x)) l
  any-map f [] = refl
  any-map f (x ∷ l) = ap (λ (v : Bool). f (h x) || v) (any-map f l)

  pub after_map : (f : List B → B → Bool) (e l : List A) → each_after f (map h e) (map h l) ≡ each_after (λ b x. f (map h b) (h x)) e l
  after_map f e [] = refl
  after_map f e (x ∷ l) = ap (λ (v : Bool). f (map h e) (h x) && v) (ap (λ (b : List B). each_after f b (map h l)) (sym (map-append e (x ∷ []))) ∙ after_map f (e ++ (x ∷ [])) l)
