-- The closing pass: raw cells become the entries of the tournament, and the number of rounds is found from them. Assumes nothing.
use mathlib.Core.Path.{◌≡◌, refl, sym, ap, ◌∙◌, subst}
use mathlib.Core.Bool.{Bool, true, false, cond, ◌&&◌, not}
use mathlib.Core.List.{List, [], ◌∷◌, map}
use Prim.Native.Nat.{ℕ, zero, suc, ◌+◌, ◌*◌, ◌-◌, ◌≤◌, ◌<◌}
use Prim.Native.Char.{code}
use native.Mathlib.Decide.{dec_lt, dec_le, ℕ_discrete}
use native.Mathlib.Omega.{arith}
use borrow.Author.Tests.{lt-ltb, le-ltb, le-leb, lt-leb, eq-eqb, ne_eqb}
use lib.Dec.{eqb, leb, ltb}
use lib.ListN.{length, get_or, take, length-map, length-take, get_or-map, get_or-eq_default}
use lib.Seq.{get_or-take, length-take-le}
use Rattle.kit.specs.Lists.{any}
use Rattle.kit.specs.First.{AllOf}
use Rattle.kit.specs.Table.{Holds}
use Rattle.kit.proofs.Firsts.{all_of_at}
use Rattle.law.specs.Sizes.{most_players, most_rounds}
use Rattle.law.specs.Columns.{blank, is_blank, part}
use Rattle.law.specs.Players.{unknown_result, Slot, PlayerLine}
use Rattle.law.specs.Tournament.{Entry, Player, blank_as, normal, no_slot, slot_at, used_rounds, player_of}
use Rattle.law.specs.Entries.{no_entry, no_player, entry_of}
use Rattle.law.specs.Spelling.{no_line}
use Rattle.law.specs.Tables.{entry_cells, place_in, round_in}
use Rattle.join.specs.Grid.{entry_in}
use Rattle.join.specs.Store.{raw_cell, raw_cells}
use Rattle.join.specs.Kept.{raw_grid}
use Rattle.join.specs.Check.{place_at, round_at, is_seen, round_seen, rounds_seen, closing}
use Rattle.join.proofs.Cells.{grid_at}
use Rattle.join.proofs.Firsts.{any_at, any_of, top-most}
use Rattle.join.proofs.Keeps.{by_player}

-- ---- what a spelled slot is
pub record WellSlot (s : Slot) : Type 0 where
  pub blank_is : s.used ≡ false → (s.id ≡ 0) × (s.colour ≡ blank) × (s.result ≡ blank)
  pub colour_there : 0 < s.colour
  pub result_there : 0 < s.result

pub record WellLine (p : PlayerLine) : Type 0 where
  pub slots : length p.slots ≡ most_rounds
  pub well : AllOf WellSlot p.slots

abbrev pub the_bye : Entry
the_bye = record { id = 0; colour = code "-"; result = code "Z" }

-- ---- the normal form
normal-blank : (s : Slot) → WellSlot s → s.used ≡ false → normal s ≡ the_bye
unfolding normal
normal-blank s w e = let u = w.blank_is e in rw (u.0, u.1, u.2)

blank_as_some : (d c : ℕ) → 0 < d → 0 < c → blank_as d c ≡ 0 → ⊥
blank_as_some d c a b = go (is_blank c)
  where
    go : (v : Bool) → cond v d c ≡ 0 → ⊥
    go true e = omega arith
    go false e = omega arith

pub normal-colour : (s : Slot) → WellSlot s → (normal s).colour ≡ 0 → ⊥
unfolding normal
normal-colour s w = go (eqb s.id 0)
  where
    go : (v : Bool) → (cond {A = Entry} v (record { id = 0; colour = blank_as (code "-") s.colour; result = blank_as (code "Z") s.result }) (record { id = s.id; colour = s.colour; result = blank_as unknown_result s.result })).colour ≡ 0 → ⊥
    go true e = blank_as_some (code "-") s.colour (omega arith) w.colour_there e
    go false e = let k = w.colour_there in omega arith

pub normal-result : (s : Slot) → WellSlot s → (normal s).result ≡ 0 → ⊥
unfolding normal
normal-result s w = go (eqb s.id 0)
  where
    go : (v : Bool) → (cond {A = Entry} v (record { id = 0; colour = blank_as (code "-") s.colour; result = blank_as (code "Z") s.result }) (record { id = s.id; colour = s.colour; result = blank_as unknown_result s.result })).result ≡ 0 → ⊥
    go true e = blank_as_some (code "Z") s.result (omega arith) w.result_there e
    go false e = blank_as_some unknown_result s.result (omega arith) w.result_there e

-- ---- lists by index
pub map_at : {A B : Type 0} (f : A → B) (d : A) (e : B) (l : List A) (k : ℕ) → k < length l → get_or (map f l) k e ≡ f (get_or l k d)
map_at f d e [] k m = absurd (omega arith)
map_at f d e (x ∷ l) zero m = refl
map_at f d e (x ∷ l) (suc k) m = map_at f d e l k (omega arith)

-- what is stored at a place and round, wherever they are
raw_at : (part : Entry → ℕ) (rows : List PlayerLine) (p r : ℕ) → entry_in part no_entry (map raw_cells rows) p r ≡ part (raw_cell (slot_at r (get_or rows p no_line)))
raw_at part rows p r =
    ap (λ (u : List Entry). part (get_or u (r - 1) no_entry)) (get_or-map raw_cells rows p no_line)
    ∙ ap part (get_or-map raw_cell (get_or rows p no_line).slots (r - 1) no_slot)

-- no slot is used past R
abbrev pub NonePast : ℕ → List PlayerLine → Type 0
NonePast R rows = (p r : ℕ) → p < length rows → R < r → r ≤ most_rounds → (slot_at r (get_or rows p no_line)).used ≡ false

module _ (R : ℕ) (rows : List PlayerLine) (small : R ≤ most_rounds) (well : AllOf WellLine rows) where
  abbrev made : List Player
  made = map (player_of R) rows

  entry_at : (p r : ℕ) → Entry
  entry_at p r = entry_of r (get_or made p no_player)

  made_at : (p : ℕ) → p < length rows → get_or made p no_player ≡ player_of R (get_or rows p no_line)
  made_at p l = map_at (player_of R) no_line no_player rows p l

  entry_in_lem : (p r : ℕ) → p < length rows → 1 ≤ r → r ≤ R → entry_at p r ≡ normal (slot_at r (get_or rows p no_line))
  unfolding entry_at
  entry_in_lem p r l a b =
      let q : PlayerLine = get_or rows p no_line in
      let w : WellLine q = all_of_at WellLine no_line rows well p l in
      let n = w.slots in
      let m : length (take R q.slots) ≡ R = length-take-le R q.slots (omega arith) in
      ap (entry_of r) (made_at p l) ∙ map_at normal no_slot no_entry (take R q.slots) (r - 1) (omega arith) ∙ ap normal (get_or-take R q.slots (r - 1) no_slot (omega arith))

  entry_past : (p r : ℕ) → R < r → entry_at p r ≡ no_entry
  unfolding entry_at
  entry_past p r a = go (dec_lt p (length rows))
    where
      go : Dec (p < length rows) → entry_of r (get_or made p no_player) ≡ no_entry
      go (yes l) =
          ap (entry_of r) (made_at p l)
          ∙ get_or-eq_default (map normal (take R (get_or rows p no_line).slots)) no_entry {n = r - 1} (simp (length-map, length-take) (omega arith))
      go (no l) = ap (entry_of r) (get_or-eq_default made no_player {n = p} (simp length-map (omega arith))) ∙ get_or-eq_default [] no_entry {n = r - 1} (omega arith)

  entry-none : (p r : ℕ) → length rows ≤ p → entry_at p r ≡ no_entry
  unfolding entry_at
  entry-none p r a = ap (entry_of r) (get_or-eq_default made no_player {n = p} (simp length-map (omega arith))) ∙ get_or-eq_default [] no_entry {n = r - 1} (omega arith)

  -- ---- the pass, for any part of an entry whose stored form is 0 for blanks alone
  module _ (past : NonePast R rows) (part : Entry → ℕ) (zero-none : part no_entry ≡ 0) (some-used : (s : Slot) → WellSlot s → part (normal s) ≡ 0 → part the_bye ≡ 0) where
    shut : (p r : ℕ) → 1 ≤ r → r ≤ most_rounds → (s : Slot) → s ≡ slot_at r (get_or rows p no_line)
        → cond (ltb p (length rows) && leb r R && eqb (part (raw_cell s)) 0) (part the_bye) (part (raw_cell s)) ≡ part (entry_at p r)
    shut p r a b s e = go (dec_lt p (length rows)) (dec_le r R) s.used refl
      where
        well_slot : p < length rows → WellSlot s
        well_slot l =
            let w : WellLine (get_or rows p no_line) = all_of_at WellLine no_line rows well p l in
            let n = w.slots in
            subst WellSlot (sym e) (all_of_at WellSlot no_slot (get_or rows p no_line).slots w.well (r - 1) (omega arith))

        raw : (v : Bool) → s.used ≡ v → part (raw_cell s) ≡ part (cond v (normal s) no_entry)
        raw v q = ap (λ (u : Bool). part (cond u (normal s) no_entry)) q

        used : p < length rows → Dec (part (normal s) ≡ 0) → cond (eqb (part (normal s)) 0) (part the_bye) (part (normal s)) ≡ part (normal s)
        used l (yes z) = rw (eq-eqb (part (normal s)) 0 z) (some-used s (well_slot l) z ∙ sym z)
        used l (no z) = rw (ne_eqb (part (normal s)) 0 z)

        go : Dec (p < length rows) → Dec (r ≤ R) → (v : Bool) → s.used ≡ v
            → cond (ltb p (length rows) && leb r R && eqb (part (raw_cell s)) 0) (part the_bye) (part (raw_cell s)) ≡ part (entry_at p r)
        go (yes l) (yes m) true q =
            rw (lt-ltb p (length rows) l, le-leb r R m, raw true q) (used l (ℕ_discrete (part (normal s)) 0) ∙ ap (λ (x : Slot). part (normal x)) e ∙ ap part (sym (entry_in_lem p r l a m)))
        go (yes l) (yes m) false q =
            rw (lt-ltb p (length rows) l, le-leb r R m, raw false q, eq-eqb (part no_entry) 0 zero-none) (ap part (sym (normal-blank s (well_slot l) q)) ∙ ap (λ (x : Slot). part (normal x)) e ∙ ap part (sym (entry_in_lem p r l a m)))
        go (yes l) (no m) v q =
            let z : r ≤ R → ⊥ = m in
            let f : s.used ≡ false = ap (λ (x : Slot). x.used) e ∙ past p r l (omega arith) b in
            rw (lt-ltb p (length rows) l, lt-leb r R (omega arith), raw false f) (ap part (sym (entry_past p r (omega arith))))
        go (no l) d v q =
            let z : p < length rows → ⊥ = l in
            let f : s.used ≡ false = ap (λ (x : Slot). x.used) e ∙ rw (get_or-eq_default rows no_line {n = p} (omega arith)) (ap (λ (x : Slot). x.used) (get_or-eq_default [] no_slot {n = r - 1} (omega arith))) in
            rw (le-ltb p (length rows) (omega arith), raw false f) (ap part (sym (entry-none p r (omega arith))))

    pub closed : (i : ℕ) → i < entry_cells → closing (length rows) R (part the_bye) i (raw_grid part rows i) ≡ part (entry_of (round_in i) (get_or made (place_in i) no_player))
    unfolding closing entry_at
    closed i l = rw (raw_at part rows (place_in i) (round_in i)) (shut (place_in i) (round_in i) (omega arith) (omega arith) (slot_at (round_in i) (get_or rows (place_in i) no_line)) refl)

-- a table of which the pass changes nothing
pub closing-zero : (n R i c : ℕ) → closing n R 0 i c ≡ c
unfolding closing
closing-zero n R i c = go (ltb (place_in i) n && leb (round_in i) R) (ℕ_discrete c 0)
  where
    go : (v : Bool) → Dec (c ≡ 0) → cond (v && eqb c 0) 0 c ≡ c
    go true (yes e) = rw (eq-eqb c 0 e) (sym e)
    go true (no e) = rw (ne_eqb c 0 e)
    go false d = refl

-- ---- a colour cell before the closing pass is zero where the slot is wholly blank, and there alone
module _ (rows : List PlayerLine) (few : length rows ≤ most_players) (well : AllOf WellLine rows) (b x : List ℕ) (h : Holds 0 entry_cells (raw_grid (λ e. e.colour) rows) b x) where
  pub seen_cell : (k : ℕ) → k < length rows * most_rounds → is_seen x k ≡ (slot_at (round_at k) (get_or rows (place_at k) no_line)).used
  seen_cell k l =
      let p : ℕ = place_at k in
      let r : ℕ = round_at k in
      let w : WellLine (get_or rows p no_line) = all_of_at WellLine no_line rows well p (omega arith) in
      let n = w.slots in
      let s : WellSlot (slot_at r (get_or rows p no_line)) = all_of_at WellSlot no_slot (get_or rows p no_line).slots w.well (r - 1) (omega arith) in
      ap (λ (v : ℕ). not (eqb v 0)) (grid_at by_player (entry_in (λ e. e.colour) no_entry (map raw_cells rows)) b x h p r (omega arith) (omega arith) (omega arith) ∙ raw_at (λ e. e.colour) rows p r)
      ∙ go (slot_at r (get_or rows p no_line)) s
    where
      go : (s : Slot) → WellSlot s → not (eqb (raw_cell s).colour 0) ≡ s.used
      go s w = at s.used
        where
          at : (v : Bool) → not (eqb (cond v (normal s) no_entry).colour 0) ≡ v
          at true = rw (ne_eqb (normal s).colour 0 (normal-colour s w))
          at false = refl

  -- where 142 is missing
  pub rounds-seen : rounds_seen x (length rows) ≡ used_rounds rows
  unfolding rounds_seen used_rounds round_seen
  rounds-seen = top-most (λ r. any (λ p. (slot_at r p).used) rows) most_rounds (round_seen x) (length rows * most_rounds) small holds found
    where
      seen : (k : ℕ) → k < length rows * most_rounds → round_seen x k ≡ cond (slot_at (round_at k) (get_or rows (place_at k) no_line)).used (round_at k) 0
      seen k l = ap (λ (v : Bool). cond v (round_at k) 0) (seen_cell k l)

      small : (k : ℕ) → k < length rows * most_rounds → round_seen x k ≤ most_rounds
      small k l = go (is_seen x k)
        where
          go : (v : Bool) → cond v (round_at k) 0 ≤ most_rounds
          go true = omega arith
          go false = omega arith

      holds : (k : ℕ) → k < length rows * most_rounds → 1 ≤ round_seen x k → any (λ p. (slot_at (round_seen x k) p).used) rows ≡ true
      holds k l m = rw (seen k l) (go (slot_at (round_at k) (get_or rows (place_at k) no_line)).used refl (rw (seen k l) at m))
        where
          go : (v : Bool) → (slot_at (round_at k) (get_or rows (place_at k) no_line)).used ≡ v → 1 ≤ cond v (round_at k) 0 → any (λ p. (slot_at (cond v (round_at k) 0) p).used) rows ≡ true
          go true e m = any_of (λ p. (slot_at (round_at k) p).used) no_line rows (place_at k) (omega arith) e
          go false e m = absurd (omega arith)

      found : (r : ℕ) → 1 ≤ r → r ≤ most_rounds → any (λ p. (slot_at r p).used) rows ≡ true → (k : ℕ) × (k < length rows * most_rounds) × (round_seen x k ≡ r)
      found r a c e =
          let u = any_at (λ p. (slot_at r p).used) no_line rows e in
          let k : ℕ = u.0 * most_rounds + (r - 1) in
          let l : k < length rows * most_rounds = omega (arith, u.1) in
          let p : place_at k ≡ u.0 = omega arith in
          let q : round_at k ≡ r = omega arith in
          (k, l, seen k l ∙ rw (p, q, u.2))
