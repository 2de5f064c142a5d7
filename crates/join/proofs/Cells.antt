-- The laws of Holds that a store needs: one cell, a list that grows, two lists in one table, a row of a grid, a pass. Over any number of cells. Assumes nothing.
use mathlib.Core.Path.{◌≡◌, refl, sym, ap, ◌∙◌, subst}
use mathlib.Core.Bool.{cond}
use mathlib.Core.List.{List, [], ◌∷◌, ◌++◌, append-nil, map}
use Prim.Native.Nat.{ℕ, zero, suc, ◌+◌, ◌-◌, ◌≤◌, ◌<◌}
use native.Mathlib.Decide.{dec_lt, ℕ_discrete}
use native.Mathlib.Omega.{arith}
use borrow.Author.Tests.{lt-ltb, le-ltb}
use lib.Dec.{ltb}
use lib.ListN.{length, get_or, set, take, drop, length-set, length-append, get_or-append, get_or-eq_default, get_or-map}
use lib.Seq.{get_or-set_same, get_or-set_other, get_or-append_seam, append_snoc, sets, sets-eq, paste, take-length}
use Rattle.kit.specs.Table.{Holds}
use Rattle.join.specs.Grid.{Order, put_row, entry_in}

module _ {A : Type 0} {d : A} {n : ℕ} {f : ℕ → A} (g : ℕ → A) {b x : List A} (h : Holds d n f b x) where
  -- the same content by another name
  pub holds_as : ((i : ℕ) → i < n → f i ≡ g i) → Holds d n g b x
  holds_as e = record { long = h.long; cells = λ i l. h.cells i l ∙ e i l; rest = h.rest }

  -- a pass over the whole table
  pub holds_then : {y : List A} → Holds d n g x y → Holds d n g b y
  holds_then k = record { long = k.long ∙ h.long; cells = k.cells; rest = λ i l. k.rest i l ∙ h.rest i l }

  -- one cell
  pub holds-set : n ≤ length b → (k : ℕ) (v : A) → k < n → v ≡ g k → ((i : ℕ) → i < n → (i ≡ k → ⊥) → f i ≡ g i) → Holds d n g b (set x k v)
  holds-set room k v l e others =
      record {
        long = length-set x k v ∙ h.long;
        cells = λ i m. at i m (ℕ_discrete i k);
        rest = λ i m. get_or-set_other x k i v d (λ p. omega arith) ∙ h.rest i m;
      }
    where
      at : (i : ℕ) → i < n → Dec (i ≡ k) → get_or (set x k v) i d ≡ g i
      at i m (yes p) = rw p (get_or-set_same x k v d (let z = h.long in omega arith) ∙ e)
      at i m (no p) = get_or-set_other x k i v d p ∙ h.cells i m ∙ others i m p

-- ---- a list that grows, d after it
pub snoc_other : {A : Type 0} (d : A) (l : List A) (a : A) (i : ℕ) → (i ≡ length l → ⊥) → get_or l i d ≡ get_or (l ++ (a ∷ [])) i d
snoc_other d l a i p = go (dec_lt i (length l))
  where
    go : Dec (i < length l) → get_or l i d ≡ get_or (l ++ (a ∷ [])) i d
    go (yes m) = sym (get_or-append l (a ∷ []) d i m)
    go (no m) =
        let q : i ≡ length l → ⊥ = p in
        get_or-eq_default l d {n = i} (omega arith) ∙ sym (get_or-eq_default (l ++ (a ∷ [])) d {n = i} (rw (length-append l (a ∷ [])) (omega arith)))

module _ {A : Type 0} (d : A) (n : ℕ) (b : List A) (room : n ≤ length b) where
  abbrev listed : List A → ℕ → A
  listed l i = get_or l i d

  pub holds_snoc : (l x : List A) (a : A) → Holds d n (listed l) b x → length l < n → Holds d n (listed (l ++ (a ∷ []))) b (set x (length l) a)
  holds_snoc l x a h m = holds-set (listed (l ++ (a ∷ []))) h room (length l) a m (sym (get_or-append_seam l a [] d)) (λ i _ p. snoc_other d l a i p)

  holds_sets : (v l x : List A) → Holds d n (listed l) b x → length l + length v ≤ n → Holds d n (listed (l ++ v)) b (sets x (length l) v)
  holds_sets [] l x h m = rw append-nil h
  holds_sets (a ∷ v) l x h m =
      let e : length (l ++ (a ∷ [])) ≡ suc (length l) = length-append l (a ∷ []) ∙ omega arith in
      let s : Holds d n (listed ((l ++ (a ∷ [])) ++ v)) b (sets (set x (length l) a) (length (l ++ (a ∷ []))) v) =
      holds_sets v (l ++ (a ∷ [])) (set x (length l) a) (holds_snoc l x a h (omega arith)) (omega arith) in
      rw (append_snoc l a v, e) at s

  pub holds-append : (v l x : List A) → Holds d n (listed l) b x → length l + length v ≤ n → Holds d n (listed (l ++ v)) b (paste x (length l) v (length v))
  holds-append v l x h m =
      let z = h.long in
      let e : sets x (length l) v ≡ paste x (length l) v (length v) = sets-eq v x (length l) (omega arith) ∙ ap (λ (u : List A). take (length l) x ++ u ++ drop (length l + length v) x) (sym (take-length v)) in
      subst (Holds d n (listed (l ++ v)) b) e (holds_sets v l x h m)

-- ---- two lists in one table, the second from cell m on
abbrev pub two_lists : ℕ → List ℕ → List ℕ → ℕ → ℕ
two_lists m l a i = cond (ltb i m) (get_or l i 0) (get_or a (i - m) 0)

module _ (n m : ℕ) (b : List ℕ) (room : n ≤ length b) (l a x : List ℕ) (h : Holds 0 n (two_lists m l a) b x) where
  pub first_grows : (v : ℕ) → length l < m → m ≤ n → Holds 0 n (two_lists m (l ++ (v ∷ [])) a) b (set x (length l) v)
  first_grows v k q =
      holds-set (two_lists m (l ++ (v ∷ [])) a) h room (length l) v (omega arith)
      (sym (rw (lt-ltb (length l) m k) (get_or-append_seam l v [] 0)))
      (λ i _ p. ap (λ (w : ℕ). cond (ltb i m) w (get_or a (i - m) 0)) (snoc_other 0 l v i p))

  pub second_grows : (v : ℕ) → m + length a < n → Holds 0 n (two_lists m l (a ++ (v ∷ []))) b (set x (m + length a) v)
  second_grows v k =
      let e : m + length a - m ≡ length a = omega arith in
      holds-set (two_lists m l (a ++ (v ∷ []))) h room (m + length a) v k
      (sym (rw (le-ltb (m + length a) m (omega arith), e) (get_or-append_seam a v [] 0)))
      (λ i _ p. other i p (dec_lt i m))
    where
      other : (i : ℕ) → (i ≡ m + length a → ⊥) → Dec (i < m) → two_lists m l a i ≡ two_lists m l (a ++ (v ∷ [])) i
      other i p (yes q) = rw (lt-ltb i m q)
      other i p (no q) =
          let z : i < m → ⊥ = q in
          let far : i - m ≡ length a → ⊥ = λ r. p (omega arith) in
          rw (le-ltb i m (omega arith)) (snoc_other 0 a v (i - m) far)

-- ---- a grid of cells, in any order
module _ {n places rounds : ℕ} {cell : ℕ → ℕ → ℕ} {place round : ℕ → ℕ} (o : Order n places rounds cell place round) where
  pub grid_at : (e : ℕ → ℕ → ℕ) (b x : List ℕ) → Holds 0 n (λ i. e (place i) (round i)) b x → (p r : ℕ) → p < places → 1 ≤ r → r ≤ rounds → get_or x (cell p r) 0 ≡ e p r
  grid_at e b x h p r l m k = h.cells (cell p r) (o.within p r l m k) ∙ rw (o.place_of p r l m k, o.round_of p r l m k)

  -- y is x with the first k of v in the cells of place p
  record Rowed (x : List ℕ) (p : ℕ) (v : List ℕ) (k : ℕ) (y : List ℕ) : Type 0 where
    long : length y ≡ length x
    own : (r : ℕ) → 1 ≤ r → r ≤ k → get_or y (cell p r) 0 ≡ get_or v (r - 1) 0
    same : (i : ℕ) → ((r : ℕ) → 1 ≤ r → r ≤ k → i ≡ cell p r → ⊥) → get_or y i 0 ≡ get_or x i 0

  rowed : (x : List ℕ) (p : ℕ) (v : List ℕ) → n ≤ length x → p < places → (k : ℕ) → k ≤ rounds → Rowed x p v k (put_row 0 cell x p v k)
  unfolding put_row
  rowed x p v room l zero m = record { long = refl; own = λ r a c. absurd (omega arith); same = λ i _. refl }
  rowed x p v room l (suc k) m =
      let y : List ℕ = put_row 0 cell x p v k in
      let ih : Rowed x p v k y = rowed x p v room l k (omega arith) in
      let inn : cell p (suc k) < length y = let z = ih.long in let w = o.within p (suc k) l (omega arith) m in omega arith in
      record {
        long = length-set y (cell p (suc k)) (get_or v k 0) ∙ ih.long;
        own = λ r a c. own y ih inn r a c (ℕ_discrete r (suc k));
        same = λ i no. get_or-set_other y (cell p (suc k)) i (get_or v k 0) 0 (no (suc k) (omega arith) (omega arith)) ∙ ih.same i (λ r a c. no r a (omega arith));
      }
    where
      own : (y : List ℕ) → Rowed x p v k y → cell p (suc k) < length y → (r : ℕ) → 1 ≤ r → r ≤ suc k → Dec (r ≡ suc k) → get_or (set y (cell p (suc k)) (get_or v k 0)) (cell p r) 0 ≡ get_or v (r - 1) 0
      own y ih inn r a c (yes e) = rw e (get_or-set_same y (cell p (suc k)) (get_or v k 0) 0 inn ∙ ap (λ (j : ℕ). get_or v j 0) (omega arith))
      own y ih inn r a c (no e) =
          let f : r ≡ suc k → ⊥ = e in
          let far : cell p r ≡ cell p (suc k) → ⊥ = λ q. f (sym (o.round_of p r l a (omega arith)) ∙ ap round q ∙ o.round_of p (suc k) l (omega arith) m) in
          get_or-set_other y (cell p (suc k)) (cell p r) (get_or v k 0) 0 far ∙ ih.own r a (omega arith)

  -- a row put at place p
  pub grid_row : (e g : ℕ → ℕ → ℕ) (b x : List ℕ) → n ≤ length b → (p : ℕ) → p < places → (v : List ℕ)
      → Holds 0 n (λ i. e (place i) (round i)) b x
      → ((r : ℕ) → 1 ≤ r → r ≤ rounds → get_or v (r - 1) 0 ≡ g p r)
      → ((q r : ℕ) → (q ≡ p → ⊥) → e q r ≡ g q r)
      → Holds 0 n (λ i. g (place i) (round i)) b (put_row 0 cell x p v rounds)
  grid_row e g b x room p l v h own others =
      record {
        long = w.long ∙ h.long;
        cells = λ i m. at i m (ℕ_discrete (place i) p);
        rest = λ i m. w.same i (λ r a c q. let z = o.within p r l a c in omega arith) ∙ h.rest i m;
      }
    where
      w : Rowed x p v rounds (put_row 0 cell x p v rounds)
      w = rowed x p v (let z = h.long in omega arith) l rounds (omega arith)

      at : (i : ℕ) → i < n → Dec (place i ≡ p) → get_or (put_row 0 cell x p v rounds) i 0 ≡ g (place i) (round i)
      at i m (yes e) =
          let r = o.round_in i m in
          let there : cell p (round i) ≡ i = rw (← e) (o.back i m) in
          rw (there) at (w.own (round i) r.0 r.1) ∙ own (round i) r.0 r.1 ∙ rw e
      at i m (no d) = w.same i (λ r a c q. d (ap place q ∙ o.place_of p r l a c)) ∙ h.cells i m ∙ others (place i) (round i) d

  -- a row of values after those that are there: part of each value, 0 where there is none
  pub grid_snoc : {E : Type 0} (part : E → ℕ) (absent : E) → part absent ≡ 0 → (es : List (List E)) (b x : List ℕ) → n ≤ length b → length es < places → (v : List E)
      → Holds 0 n (λ i. entry_in part absent es (place i) (round i)) b x
      → Holds 0 n (λ i. entry_in part absent (es ++ (v ∷ [])) (place i) (round i)) b (put_row 0 cell x (length es) (map part v) rounds)
  grid_snoc {E} part absent z es b x room l v h =
      grid_row (entry_in part absent es) (entry_in part absent (es ++ (v ∷ []))) b x room (length es) l (map part v) h
      (λ r a c. ap (get_or (map part v) (r - 1)) (sym z) ∙ get_or-map part v (r - 1) absent ∙ ap (λ (u : List E). part (get_or u (r - 1) absent)) (sym (get_or-append_seam es v [] [])))
      (λ q r d. ap (λ (u : List E). part (get_or u (r - 1) absent)) (snoc_other [] es v q d))
