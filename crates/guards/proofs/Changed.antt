-- Tables and answer that no accepted file has, over every content: writer and question answer 18, whatever the line ends, the room, the place and the round. Assumes nothing.
use mathlib.Core.Path.{◌≡◌, refl, sym, ap, ◌∙◌, subst}
use mathlib.Core.Bool.{Bool, true, false, ◌||◌, and-false}
use mathlib.Core.Option.{none}
use mathlib.Core.List.{List, [], ◌∷◌, map}
use Prim.Native.Nat.{ℕ, zero, suc, ◌<◌, ◌≤◌}
use Prim.Native.Char.{code}
use native.Mathlib.Omega.{arith}
use lib.Dec.{eqb, leb}
use lib.ListN.{length, get_or, get_or-eq_default}
use borrow.Author.Tests.{eqb-true}
use Rattle.kit.specs.Ascii.{ascii}
use Rattle.kit.specs.Lists.{all, any, among, flat}
use Rattle.kit.specs.First.{AllOf}
use Rattle.kit.proofs.Bools.{clash, not_so}
use Rattle.kit.proofs.Firsts.{all_of_at, found_of}
use Rattle.types.specs.declared.Answer.{Answer}
use Rattle.types.specs.declared.Written.{Written}
use Rattle.types.specs.declared.Score.{Score}
use Rattle.types.specs.declared.Place.{Place}
use Rattle.law.specs.Sizes.{most_players, most_text, most_points, is_start}
use Rattle.law.specs.Lines.{End}
use Rattle.law.specs.Heads.{initial_colours}
use Rattle.law.specs.Tournament.{Entry, Player, Tournament}
use Rattle.law.specs.Text.{ended}
use Rattle.law.specs.Entries.{no_player, player_at, entry_of, is_bye, is_game, bye-or-game, keeps}
use Rattle.law.specs.Lawful.{LawfulPlayer, Sits, Lawful}
use Rattle.law.specs.Tables.{Tables, enough, entry_cells, place_in, round_in, content_of, answer_of}
use Rattle.law.specs.Calls.{NoReading, written_answer, Writes, score_answer, Asks}
use Rattle.law.proofs.Readings.{reading_has}
use Rattle.law.proofs.Replies.{write_of, ask_of}
use Rattle.law.proofs.RepliesRight.{writes_as, asks_as}

pub record Denied (answer : Answer) (tables : Tables) : Type 0 where
  pub writer : (end : End) (out : List ℕ) (w : Written) (x : List ℕ) → Writes end answer tables out w x → w.number ≡ 18
  pub question : (place : Place) (round : ℕ) (s : Score) → Asks answer tables place round s → s.number ≡ 18

start_at : (l : List Player) (i : ℕ) → get_or (map (λ (p : Player). p.start) l) i 0 ≡ (get_or l i no_player).start
start_at [] i = refl
start_at (p ∷ l) zero = refl
start_at (p ∷ l) (suc i) = start_at l i

no_start-zero : (R : ℕ) (ps : List Player) → AllOf (LawfulPlayer R) ps → any (λ q. eqb q.start 0) ps ≡ false
no_start-zero R ps k = not_so (any (λ q. eqb q.start 0) ps) (λ e.
    let q = found_of (LawfulPlayer R) (λ q. eqb q.start 0) ps k e in
    clash (sym (ap is_start (eqb-true q.0.start 0 q.1)) ∙ q.2.start))

module _ (answer : Answer) (tables : Tables) (long : enough tables ≡ true) where
  denied : NoReading answer tables → Denied answer tables
  unfolding written_answer score_answer
  denied n =
      record {
        writer = λ end out w x k. ap (λ (w : Written). w.number) (writes_as answer tables none n end out w x k).0 ∙ ap (λ (b : Bool). (write_of end b none (length out)).number) long;
        question = λ place round s k. ap (λ (s : Score). s.number) (asks_as answer tables none n place round s k) ∙ ap (λ (b : Bool). (ask_of b none place.0 round).number) long;
      }

  -- an unused cell that is not zero: of the start numbers, the opponents, the text
  pub unused_start : (i : ℕ) → answer.players ≤ i → i < most_players → (get_or tables.starts i 0 ≡ 0 → ⊥) → Denied answer tables
  unfolding content_of answer_of
  unused_start i past inside there = denied (λ file t r.
      let h = (reading_has answer tables file t r).1 in
      let n : length t.players ≤ i = subst (λ (a : Answer). a.players ≤ i) h.says past in
      there (h.holds.starts.cells i inside ∙ start_at t.players i ∙ ap (λ (p : Player). p.start) (get_or-eq_default t.players no_player n)))

  pub unused_opponent : (i : ℕ) → answer.players ≤ place_in i → i < entry_cells → (get_or tables.opponents i 0 ≡ 0 → ⊥) → Denied answer tables
  unfolding content_of answer_of
  unused_opponent i past inside there = denied (λ file t r.
      let h = (reading_has answer tables file t r).1 in
      let n : length t.players ≤ place_in i = subst (λ (a : Answer). a.players ≤ place_in i) h.says past in
      there (h.holds.opponents.cells i inside ∙ ap (λ (p : Player). (entry_of (round_in i) p).id) (get_or-eq_default t.players no_player n)))

  pub unused_text : (i : ℕ) → answer.text ≤ i → i < most_text → (get_or tables.text i 0 ≡ 0 → ⊥) → Denied answer tables
  unfolding content_of answer_of
  unused_text i past inside there = denied (λ file t r.
      let h = (reading_has answer tables file t r).1 in
      there (h.holds.text.cells i inside ∙ get_or-eq_default (flat ended t.text) 0 (subst (λ (a : Answer). a.text ≤ i) h.says past)))

  -- a player counted who has no start number, as by an answer with one player more
  pub no_start : (i : ℕ) → i < answer.players → i < most_players → get_or tables.starts i 0 ≡ 0 → Denied answer tables
  unfolding content_of answer_of
  no_start i counted inside none-there = denied (λ file t r.
      let k = reading_has answer tables file t r in
      let h = k.1 in
      let n : i < length t.players = subst (λ (a : Answer). i < a.players) h.says counted in
      let s = (all_of_at (LawfulPlayer t.rounds) no_player t.players k.0.players i n).start in
      let z : (get_or t.players i no_player).start ≡ 0 = sym (start_at t.players i) ∙ sym (h.holds.starts.cells i inside) ∙ none-there in
      clash (sym (ap is_start z) ∙ s))

  -- an initial colour that 152 does not give, a value that no points field has
  pub no_colour : eqb answer.colour 0 || among answer.colour initial_colours ≡ false → Denied answer tables
  unfolding answer_of
  no_colour e = denied (λ file t r.
      let k = reading_has answer tables file t r in
      clash (sym e ∙ ap (λ (a : Answer). eqb a.colour 0 || among a.colour initial_colours) k.1.says ∙ k.0.colour))

  pub no_value : all (λ v. leb v most_points) answer.values ≡ false → Denied answer tables
  unfolding answer_of
  no_value e = denied (λ file t r.
      let k = reading_has answer tables file t r in
      clash (sym e ∙ ap (λ (a : Answer). all (λ v. leb v most_points) a.values) k.1.says ∙ k.0.scoring))

  -- an entry in use that is neither bye nor game by the id and the result in its cells
  module _ (i : ℕ) (counted : place_in i < answer.players) (in_rounds : round_in i ≤ answer.rounds) (inside : i < entry_cells) where
    neither : ((t : Tournament) (p : Player) (e : Entry) → Lawful t → e.id ≡ get_or tables.opponents i 0 → e.result ≡ get_or tables.results i 0 → is_bye e || is_game t p e ≡ false) → Denied answer tables
    unfolding content_of answer_of keeps
    neither is_none = denied (λ file t r.
        let k = reading_has answer tables file t r in
        let h = k.1 in
        let p : Player = player_at t (place_in i) in
        let sits : Sits t (place_in i) (round_in i) =
        record {
          place_in_lem = subst (λ (a : Answer). place_in i < a.players) h.says counted;
          round_low = omega arith;
          round_high = subst (λ (a : Answer). round_in i ≤ a.rounds) h.says in_rounds;
        } in
        clash (sym (is_none t p (entry_of (round_in i) p) k.0 (sym (h.holds.opponents.cells i inside)) (sym (h.holds.results.cells i inside))) ∙ k.0.entries bye-or-game (place_in i) (round_in i) sits))

    -- an unknown result where there is no opponent
    pub unknown-bye : get_or tables.opponents i 0 ≡ 0 → get_or tables.results i 0 ≡ code "?" → Denied answer tables
    unfolding is_bye is_game
    unknown-bye nobody unknown = neither (λ t p e law id-is result-is.
        rw (id-is, nobody, result-is, unknown, no_start-zero t.rounds t.players law.players) (simp and-false))

    -- a byte that no entry has for a result: a small letter, or the blank that a line has for an unknown one
    pub no_result : among (get_or tables.results i 0) (ascii "?1=0WDL+-") ≡ false → among (get_or tables.results i 0) (ascii "HFUZ") ≡ false → Denied answer tables
    unfolding is_bye is_game
    no_result no-game no-bye = neither (λ t p e law id-is result-is. rw (result-is, no-game, no-bye) (simp and-false))
