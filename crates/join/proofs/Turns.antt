-- Labels player by player and round by round, listed by turn. Assumes nothing.
use mathlib.Core.Path.{◌≡◌, refl, sym, ap, ap₂, ◌∙◌}
use mathlib.Core.List.{List, [], ◌∷◌, ◌++◌, map}
use Prim.Native.Nat.{ℕ, zero, suc, ◌+◌, ◌*◌, ◌≤◌, ◌<◌}
use native.Mathlib.Nat.{zero-add}
use native.Mathlib.Omega.{arith}
use lib.ListN.{length, get_or}
use Rattle.kit.specs.Lists.{from, flat}
use Rattle.kit.proofs.Lists.{map-append}
use Rattle.law.specs.Sizes.{most_rounds}
use Rattle.law.specs.Players.{every_round}
use Rattle.law.specs.Refusals.{Seat, seats_from, FileFault, of_file, each_round, each_seat}
use Rattle.law.proofs.Seats.{seat}
use Rattle.join.specs.Check.{place_at, round_at}

from-append : (i m n : ℕ) → from i (m + n) ≡ from i m ++ from (i + m) n
from-append i zero n = ap₂ from (omega arith) (zero-add n)
from-append i (suc m) n =
    let e : suc m + n ≡ suc (m + n) = omega arith in
    let f : i + 1 + m ≡ i + suc m = omega arith in
    ap (from i) e ∙ ap (λ (l : List ℕ). i ∷ l) (from-append (i + 1) m n ∙ ap (λ (j : ℕ). from (i + 1) m ++ from j n) f)

module _ {L : Type 0} (g : ℕ → ℕ → L) where
  abbrev turn : ℕ → L
  turn k = g (place_at k) (round_at k)

  one_player : (p i j : ℕ) → i + j ≤ most_rounds → map (g p) (from (i + 1) j) ≡ map turn (from (p * most_rounds + i) j)
  one_player p i zero l = refl
  one_player p i (suc j) l =
      let a : place_at (p * most_rounds + i) ≡ p = omega arith in
      let b : round_at (p * most_rounds + i) ≡ i + 1 = omega arith in
      let c : p * most_rounds + i + 1 ≡ p * most_rounds + (i + 1) = omega arith in
      ap₂ (λ (x : L) (l : List L). x ∷ l) (sym (ap₂ g a b)) (one_player p (i + 1) j (omega arith) ∙ ap (λ (k : ℕ). map turn (from k j)) (sym c))

  pub turns : (m p : ℕ) → flat (λ q. map (g q) every_round) (from p m) ≡ map turn (from (p * most_rounds) (m * most_rounds))
  unfolding flat
  turns zero p = refl
  turns (suc m) p =
      let a : suc m * most_rounds ≡ most_rounds + m * most_rounds = omega arith in
      let b : (p + 1) * most_rounds ≡ p * most_rounds + most_rounds = omega arith in
      let z : p * most_rounds + 0 ≡ p * most_rounds = omega arith in
      ap₂ (λ (x y : List L). x ++ y) (one_player p 0 most_rounds (omega arith) ∙ ap (λ (k : ℕ). map turn (from k most_rounds)) z) (turns m (p + 1) ∙ ap (λ (k : ℕ). map turn (from k (m * most_rounds))) b)
      ∙ sym (ap (λ (k : ℕ). map turn (from (p * most_rounds) k)) a ∙ ap (map turn) (from-append (p * most_rounds) most_rounds (m * most_rounds)) ∙ map-append turn (from (p * most_rounds) most_rounds) (from (p * most_rounds + most_rounds) (m * most_rounds)))

-- ---- the seats by place
seats_from_lem : (ns ms : List ℕ) (p : ℕ) → ((k : ℕ) → k < length ms → get_or ns (p + k) 0 ≡ get_or ms k 0) → seats_from p ms ≡ map (λ q. seat q ns) (from p (length ms))
seats_from_lem ns [] p h = refl
seats_from_lem ns (n ∷ ms) p h =
    let e : get_or ns p 0 ≡ n = ap (λ (k : ℕ). get_or ns k 0) (omega arith) ∙ h 0 (omega arith) in
    ap₂ (λ (x : Seat) (l : List Seat). x ∷ l) (λ i. record { place = p; line = sym e i }) (seats_from_lem ns ms (p + 1) (λ k l. ap (λ (j : ℕ). get_or ns j 0) (omega arith) ∙ h (suc k) (omega arith)))

pub seats_are : (ns : List ℕ) → seats_from 0 ns ≡ map (λ q. seat q ns) (from 0 (length ns))
seats_are ns = seats_from_lem ns ns 0 (λ k l. ap (λ (j : ℕ). get_or ns j 0) (zero-add k))

flat_map : {A B C : Type 0} (f : B → List C) (h : A → B) (l : List A) → flat f (map h l) ≡ flat (λ a. f (h a)) l
unfolding flat
flat_map f h [] = refl
flat_map f h (a ∷ l) = ap (λ (r : List _). f (h a) ++ r) (flat_map f h l)

map-map : {A B C : Type 0} (f : B → C) (h : A → B) (l : List A) → map f (map h l) ≡ map (λ a. f (h a)) l
map-map f h [] = refl
map-map f h (a ∷ l) = ap (λ (r : List _). f (h a) ∷ r) (map-map f h l)

pub rounds-listed : (f : FileFault) (ns : List ℕ) → each_round f (seats_from 0 ns) ≡ map (λ k. of_file f (seat (place_at k) ns) (round_at k)) (from 0 (length ns * most_rounds))
rounds-listed f ns =
    ap (each_round f) (seats_are ns) ∙ flat_map (λ s. map (of_file f s) every_round) (λ q. seat q ns) (from 0 (length ns)) ∙ turns (λ p r. of_file f (seat p ns) r) (length ns) 0

pub places_listed : (f : FileFault) (ns : List ℕ) → each_seat f (seats_from 0 ns) ≡ map (λ p. of_file f (seat p ns) 0) (from 0 (length ns))
places_listed f ns = ap (each_seat f) (seats_are ns) ∙ map-map (λ s. of_file f s 0) (λ q. seat q ns) (from 0 (length ns))
