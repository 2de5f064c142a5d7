-- `Writes` and `Asks` permit an answer for every input: whether some lawful tournament has a reading is decided, by trying every file that the writer could have produced. Assumes nothing.
use mathlib.Core.Path.{◌≡◌, refl, sym, ap, ◌∙◌, subst}
use mathlib.Core.Bool.{Bool, true, false, ◌&&◌, not}
use mathlib.Core.Option.{Option, none, some}
use mathlib.Core.List.{List, [], ◌∷◌, ◌++◌}
use Prim.Native.Nat.{ℕ, zero, suc, ◌≤◌, ◌<◌}
use native.Mathlib.Omega.{arith}
use native.Mathlib.Decide.{ℕ_discrete, dec_lt}
use lib.Dec.{eqb, leb, ltb}
use lib.ListN.{length, get_or, drop}
use borrow.Author.Tests.{lt-ltb, ltb-true}
use Rattle.kit.specs.Lists.{between, all, same}
use Rattle.kit.specs.Decides.{is_some}
use Rattle.kit.specs.Table.{Holds}
use Rattle.kit.proofs.Bools.{clash, and, both, within, same_is, is_same, all_append}
use Rattle.types.specs.declared.Acceleration.{Acceleration}
use Rattle.types.specs.declared.Answer.{Answer}
use Rattle.types.specs.declared.Written.{Written}
use Rattle.types.specs.declared.Score.{Score}
use Rattle.types.specs.declared.Place.{Place}
use Rattle.law.specs.Sizes.{most_line, most_players, most_accelerations, most_text}
use Rattle.law.specs.Lines.{allowed, End, cr, crlf, Line, end_bytes, joined, is_ended}
use Rattle.law.specs.Columns.{row_of}
use Rattle.law.specs.Tournament.{Tournament}
use Rattle.law.specs.Lawful.{Lawful, no_acceleration}
use Rattle.law.specs.Spelling.{is_sound, SpellsFile}
use Rattle.law.specs.Tables.{Tables, kept_cells, entry_cells, enough, Content, content_of, HoldAll, answer_of}
use Rattle.law.specs.Writing.{written, longest}
use Rattle.law.specs.Calls.{Reading, NoReading, Writes, Asks}
use Rattle.law.proofs.Accepts.{one_tournament}
use Rattle.law.proofs.RepliesRight as replies
use Rattle.law.proofs.RepliesRight.{IsReadingOf, short_unread}
use Rattle.law.proofs.LawfulTested.{spelled_by, file, is_lawful, lawful}
use Rattle.written.proofs.Spelled.{written-spells}
use Rattle.written.proofs.Lengths.{written-long}
use Rattle.written.proofs.Readings.{Has, has_reading, no_reading as unread}

-- ---- decisions put together
dec_both : {A B : Type 0} → Dec A → Dec B → Dec (A × B)
dec_both (yes a) (yes b) = yes (a, b)
dec_both (yes a) (no n) = no (λ k. n k.1)
dec_both (no n) b = no (λ k. n k.0)

dec_as : {A B : Type 0} → (A → B) → (B → A) → Dec A → Dec B
dec_as f g (yes a) = yes (f a)
dec_as f g (no n) = no (λ b. n (g b))

-- ---- of every number below n
dec_below : (P : ℕ → Type 0) → ((i : ℕ) → Dec (P i)) → (n : ℕ) → Dec ((i : ℕ) → i < n → P i)
dec_below P d zero = yes (λ i l. absurd (omega arith))
dec_below P d (suc n) = dec_as join part (dec_both (dec_below P d n) (d n))
  where
    join : ((i : ℕ) → i < n → P i) × P n → (i : ℕ) → i < suc n → P i
    join k i l = go (dec_lt i n)
      where
        go : Dec (i < n) → P i
        go (yes m) = k.0 i m
        go (no m) = let e : n ≡ i = omega arith in subst P e k.1

    part : ((i : ℕ) → i < suc n → P i) → ((i : ℕ) → i < n → P i) × P n
    part h = (λ i l. h i (omega arith), h n (omega arith))

-- ---- of some number below m
record Below (Q : ℕ → Type 0) (m : ℕ) : Type 0 where
  number : ℕ
  small : number < m
  holds : Q number

some_below : (Q : ℕ → Type 0) → ((c : ℕ) → Dec (Q c)) → (m : ℕ) → Dec (Below Q m)
some_below Q d zero = no (λ b. let l = b.small in omega arith)
some_below Q d (suc m) = go (some_below Q d m) (d m)
  where
    go : Dec (Below Q m) → Dec (Q m) → Dec (Below Q (suc m))
    go (yes b) q = yes (record { number = b.number; small = (let l = b.small in omega arith); holds = b.holds })
    go (no n) (yes q) = yes (record { number = m; small = omega arith; holds = q })
    go (no n) (no k) = no (λ b. at b (dec_lt b.number m))
      where
        at : (b : Below Q (suc m)) → Dec (b.number < m) → ⊥
        at b (yes l) = n (record { number = b.number; small = l; holds = b.holds })
        at b (no l) = let s = b.small in let e : b.number ≡ m = omega arith in k (subst Q e b.holds)

-- ---- of some list of at most n numbers below m
record Short (P : List ℕ → Type 0) (m n : ℕ) : Type 0 where
  list : List ℕ
  short : length list ≤ n
  small : all (λ c. ltb c m) list ≡ true
  holds : P list

some_list : (m n : ℕ) (P : List ℕ → Type 0) → ((l : List ℕ) → Dec (P l)) → Dec (Short P m n)
some_list m zero P d = go (d [])
  where
    go : Dec (P []) → Dec (Short P m zero)
    go (yes p) = yes (record { list = []; short = omega arith; small = refl; holds = p })
    go (no n) = no (λ s. at s.list s.short s.holds)
      where
        at : (l : List ℕ) → length l ≤ 0 → P l → ⊥
        at [] e p = n p
        at (c ∷ l) e p = omega arith
some_list m (suc n) P d = go (d []) (some_below (λ c. Short (λ l. P (c ∷ l)) m n) (λ c. some_list m n (λ l. P (c ∷ l)) (λ l. d (c ∷ l))) m)
  where
    go : Dec (P []) → Dec (Below (λ c. Short (λ l. P (c ∷ l)) m n) m) → Dec (Short P m (suc n))
    go (yes p) b = yes (record { list = []; short = omega arith; small = refl; holds = p })
    go (no z) (yes b) =
        let s = b.holds in
        yes (record { list = b.number ∷ s.list; short = (let l = s.short in omega arith); small = both (lt-ltb b.number m b.small) s.small; holds = s.holds })
    go (no z) (no w) = no (λ s. at s.list s.short s.small s.holds)
      where
        at : (l : List ℕ) → length l ≤ suc n → all (λ c. ltb c m) l ≡ true → P l → ⊥
        at [] e k p = z p
        at (c ∷ l) e k p =
            let q = and (ltb c m) (all (λ c. ltb c m) l) k in
            w (record { number = c; small = ltb-true c m q.0; holds = record { list = l; short = omega arith; small = q.1; holds = p } })

-- ---- equal texts, records, answers
dec_texts : (x y : List ℕ) → Dec (x ≡ y)
dec_texts x y = go (same x y) refl
  where
    go : (b : Bool) → same x y ≡ b → Dec (x ≡ y)
    go true e = yes (same_is x y e)
    go false e = no (λ h. clash (sym e ∙ ap (same x) (sym h) ∙ is_same x))

abbrev record_parts : Acceleration → List ℕ
record_parts a = a.points ∷ a.first_round ∷ a.last_round ∷ a.first_start ∷ a.last_start ∷ []

dec_records : (x y : Acceleration) → Dec (x ≡ y)
dec_records x y = dec_as whole (ap record_parts) (dec_texts (record_parts x) (record_parts y))
  where
    whole : record_parts x ≡ record_parts y → x ≡ y
    whole e = λ i. record { points = at 0 i; first_round = at 1 i; last_round = at 2 i; first_start = at 3 i; last_start = at 4 i }
      where
        at : (k : ℕ) → get_or (record_parts x) k 0 ≡ get_or (record_parts y) k 0
        at k = ap (λ (l : List ℕ). get_or l k 0) e

abbrev answer_parts : Answer → List ℕ
answer_parts a = a.number ∷ a.line.0 ∷ a.round ∷ a.players ∷ a.rounds ∷ a.accelerations ∷ a.text ∷ a.colour ∷ a.values

dec_answers : (x y : Answer) → Dec (x ≡ y)
dec_answers x y = dec_as whole (ap answer_parts) (dec_texts (answer_parts x) (answer_parts y))
  where
    whole : answer_parts x ≡ answer_parts y → x ≡ y
    whole e = λ i.
        record {
          number = at 0 i;
          line = record { 0 = at 1 i };
          round = at 2 i;
          players = at 3 i;
          rounds = at 4 i;
          accelerations = at 5 i;
          text = at 6 i;
          colour = at 7 i;
          values = ap (drop 8) e i;
        }
      where
        at : (k : ℕ) → get_or (answer_parts x) k 0 ≡ get_or (answer_parts y) k 0
        at k = ap (λ (l : List ℕ). get_or l k 0) e

-- ---- what tables hold
dec_holds : {A : Type 0} → ((x y : A) → Dec (x ≡ y)) → (d : A) (n : ℕ) (content : ℕ → A) (x : List A) → Dec (Holds d n content x x)
dec_holds eq d n content x = dec_as (λ h. record { long = refl; cells = h; rest = λ i l. refl }) (λ h. h.cells) (dec_below (λ i. get_or x i d ≡ content i) (λ i. eq (get_or x i d) (content i)) n)

dec_all : (c : Content) (t : Tables) → Dec (HoldAll c t t)
dec_all c t =
    dec_as
    (λ h. record { starts = h.0; points = h.1.0; ranks = h.1.1.0; kept = h.1.1.1.0; opponents = h.1.1.1.1.0; colours = h.1.1.1.1.1.0; results = h.1.1.1.1.1.1.0; text = h.1.1.1.1.1.1.1.0; accelerations = h.1.1.1.1.1.1.1.1 })
    (λ h. (h.starts, (h.points, (h.ranks, (h.kept, (h.opponents, (h.colours, (h.results, (h.text, h.accelerations)))))))))
    (dec_both (dec_holds ℕ_discrete 0 most_players c.starts t.starts)
    (dec_both (dec_holds ℕ_discrete 0 most_players c.points t.points)
    (dec_both (dec_holds ℕ_discrete 0 most_players c.ranks t.ranks)
    (dec_both (dec_holds ℕ_discrete 0 kept_cells c.kept t.kept)
    (dec_both (dec_holds ℕ_discrete 0 entry_cells c.opponents t.opponents)
    (dec_both (dec_holds ℕ_discrete 0 entry_cells c.colours t.colours)
    (dec_both (dec_holds ℕ_discrete 0 entry_cells c.results t.results)
    (dec_both (dec_holds ℕ_discrete 0 most_text c.text t.text)
    (dec_holds dec_records no_acceleration most_accelerations c.accelerations t.accelerations)))))))))

-- ---- the bytes of a file that spells a tournament
line_small : (l : Line) (r : List ℕ) → is_sound l ≡ true → all (λ c. ltb c 256) r ≡ true → all (λ c. ltb c 256) (l.text ++ (end_bytes l.end ++ r)) ≡ true
line_small l r h k =
    let s = (and (all allowed l.text && is_ended l.end) (leb (length (row_of l.text)) most_line) h).0 in
    all_append (λ c. ltb c 256) l.text (end_bytes l.end ++ r) (text l.text (and (all allowed l.text) (is_ended l.end) s).0) (all_append (λ c. ltb c 256) (end_bytes l.end) r (end l.end) k)
  where
    text : (x : List ℕ) → all allowed x ≡ true → all (λ c. ltb c 256) x ≡ true
    text [] e = refl
    text (c ∷ x) e =
        let q = and (allowed c) (all allowed x) e in
        let w = (within 32 255 c (and (between 32 255 c) (not (eqb c 127)) q.0).0).1 in
        both (lt-ltb c 256 (omega arith)) (text x q.1)

    end : (e : Option End) → all (λ c. ltb c 256) (end_bytes e) ≡ true
    end none = refl
    end (some cr) = refl
    end (some crlf) = refl

lines-small : (ls : List Line) → all is_sound ls ≡ true → all (λ c. ltb c 256) (joined ls) ≡ true
lines-small [] h = refl
lines-small (l ∷ ls) h = let k = and (is_sound l) (all is_sound ls) h in line_small l (joined ls) k.0 (lines-small ls k.1)

spelled-small : (f : List ℕ) (t : Tournament) → SpellsFile f t → all (λ c. ltb c 256) f ≡ true
spelled-small f t s = subst (λ (x : List ℕ). all (λ c. ltb c 256) x ≡ true) (sym s.are.bytes) (lines-small s.lines s.sound)

-- ---- whether some lawful tournament has a reading
module _ (a : Answer) (t : Tables) (long : enough t ≡ true) where
  record HadBy (u : Tournament) : Type 0 where
    lawful_is : Lawful u
    has : Has u a t

  dec_had : (u : Tournament) → Dec (HadBy u)
  dec_had u = dec_as (λ k. record { lawful_is = k.0; has = record { long = long; says = k.1.0; holds = k.1.1 } }) (λ k. (k.lawful_is, (k.has.says, k.has.holds)))
      (dec_both (go (is_lawful u) refl) (dec_both (dec_answers a (answer_of u)) (dec_all (content_of u) t)))
    where
      go : (b : Bool) → is_lawful u ≡ b → Dec (Lawful u)
      go true e = yes (lawful.sound u e)
      go false e = no (λ l. clash (sym e ∙ lawful.complete u l))

  record Spelled (f : List ℕ) : Type 0 where
    u : Tournament
    spells : SpellsFile f u
    had : HadBy u

  dec_spelled : (f : List ℕ) → Dec (Spelled f)
  dec_spelled f = go (spelled_by f) refl
    where
      go : (o : Option Tournament) → spelled_by f ≡ o → Dec (Spelled f)
      go none e = no (λ k. let q = file.complete f k.u k.spells in clash (ap is_some (sym e ∙ q)))
      go (some u) e = by (dec_had u)
        where
          by : Dec (HadBy u) → Dec (Spelled f)
          by (yes h) = yes (record { u = u; spells = file.sound f u e; had = h })
          by (no n) = no (λ k. n (subst HadBy (one_tournament f k.u u k.spells (file.sound f u e)) k.had))

  pub data Whether : Type 0 where
    reading_of : (u : Tournament) → Reading a t (written cr u) u → Whether
    no_reading_of : NoReading a t → Whether

  pub whether : Whether
  whether = go (some_list 256 (longest cr) Spelled dec_spelled)
    where
      go : Dec (Short Spelled 256 (longest cr)) → Whether
      go (yes s) = let k = s.holds in reading_of k.u (has_reading a t k.u k.had.lawful_is k.had.has)
      go (no n) =
          no_reading_of
          ((unread a t).1
          (λ u l h.
          let s = written-spells cr u l in
          n (record { list = written cr u; short = written-long cr u l; small = spelled-small (written cr u) u s; holds = record { u = u; spells = s; had = record { lawful_is = l; has = h } } })))

-- ---- so an answer and tables are a reading of some tournament, or of none, and `law` answers either
read_or-not : (a : Answer) (t : Tables) → (o : Option Tournament) × IsReadingOf a t o
read_or-not a t = go (enough t) refl
  where
    go : (b : Bool) → enough t ≡ b → (o : Option Tournament) × IsReadingOf a t o
    go false e = (none, short_unread a t e)
    go true e = by (whether a t e)
      where
        by : Whether a t e → (o : Option Tournament) × IsReadingOf a t o
        by (no_reading_of n) = (none, n)
        by (reading_of u r) = (some u, (written cr u, r))

pub writes-some : (end : End) (a : Answer) (t : Tables) (before : List ℕ) → (w : Written) × (after : List ℕ) × Writes end a t before w after
writes-some end a t before = let r = read_or-not a t in replies.writes-some a t end r.0 r.1 before

pub asks_some : (a : Answer) (t : Tables) (place : Place) (round : ℕ) → (s : Score) × Asks a t place round s
asks_some a t place round = let r = read_or-not a t in replies.asks_some a t r.0 r.1 place round
