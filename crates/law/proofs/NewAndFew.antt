-- 8 and 9 line by line are what is asked of the whole: nothing stands twice, and all fits. Assumes nothing.
use mathlib.Core.Path.{◌≡◌, refl, sym, ap, ◌∙◌}
use mathlib.Core.Bool.{Bool, true, false, ◌&&◌, ◌||◌, not}
use mathlib.Core.List.{List, [], ◌∷◌, ◌++◌, map}
use Prim.Native.Nat.{ℕ, ◌+◌, ◌≤◌}
use native.Mathlib.Omega.{arith}
use lib.Dec.{eqb, ltb}
use lib.ListN.{length, length-append}
use Rattle.kit.specs.Lists.{any, is_empty, at_most_one, each_after, flat}
use Rattle.kit.proofs.Bools.{and, both}
use Rattle.kit.proofs.Lists.{flat_snoc, after_both, after_same, after_added, after_none, all_fit, fit_all, any-map, after_map}
use Rattle.law.specs.Sizes.{most_players, most_accelerations, most_text}
use Rattle.law.specs.Text.{ended, is_repeated}
use Rattle.law.specs.Players.{PlayerLine}
use Rattle.law.specs.Items.{Item, passed, text, rounds, colour, scoring, acceleration, player}
use Rattle.law.specs.Tournament.{text_in, rounds_in, colour_in, scoring_in, acceleration_in, player_in, player_of}
use Rattle.law.specs.Lawful.{is_taken}
use Rattle.law.specs.Refusals.{is_again, is_too_many}
use Rattle.law.proofs.LinesRead.{is_new, is_few}

-- ---- an item adds at most one thing of a sort
one_text : (i : Item) → at_most_one (text_in i) ≡ true
one_text passed = refl
one_text (text a) = refl
one_text (rounds n) = refl
one_text (colour c) = refl
one_text (scoring g) = refl
one_text (acceleration a) = refl
one_text (player p) = refl

one_rounds : (i : Item) → at_most_one (rounds_in i) ≡ true
one_rounds passed = refl
one_rounds (text a) = refl
one_rounds (rounds n) = refl
one_rounds (colour c) = refl
one_rounds (scoring g) = refl
one_rounds (acceleration a) = refl
one_rounds (player p) = refl

one_colour : (i : Item) → at_most_one (colour_in i) ≡ true
one_colour passed = refl
one_colour (text a) = refl
one_colour (rounds n) = refl
one_colour (colour c) = refl
one_colour (scoring g) = refl
one_colour (acceleration a) = refl
one_colour (player p) = refl

one_scoring : (i : Item) → at_most_one (scoring_in i) ≡ true
one_scoring passed = refl
one_scoring (text a) = refl
one_scoring (rounds n) = refl
one_scoring (colour c) = refl
one_scoring (scoring g) = refl
one_scoring (acceleration a) = refl
one_scoring (player p) = refl

one_acceleration : (i : Item) → at_most_one (acceleration_in i) ≡ true
one_acceleration passed = refl
one_acceleration (text a) = refl
one_acceleration (rounds n) = refl
one_acceleration (colour c) = refl
one_acceleration (scoring g) = refl
one_acceleration (acceleration a) = refl
one_acceleration (player p) = refl

one_player : (i : Item) → at_most_one (player_in i) ≡ true
one_player passed = refl
one_player (text a) = refl
one_player (rounds n) = refl
one_player (colour c) = refl
one_player (scoring g) = refl
one_player (acceleration a) = refl
one_player (player p) = refl

-- ---- 8
abbrev some-before : {A : Type 0} → List A → A → Bool
some-before b x = not (is_empty b)

abbrev same_start : List PlayerLine → PlayerLine → Bool
same_start b p = any (λ (q : PlayerLine). eqb q.start p.start) b

-- what an item adds of a sort passes a test after what those before it added
abbrev none_added : {A : Type 0} → (Item → List A) → (List A → A → Bool) → List Item → Item → Bool
none_added add f b i = not (any (f (flat add b)) (add i))

new_is : (b : List Item) (i : Item)
    → is_new b i ≡ none_added text_in is_repeated b i && (none_added rounds_in some-before b i && (none_added colour_in some-before b i && (none_added scoring_in some-before b i && none_added player_in same_start b i)))
unfolding is_again
new_is b passed = refl
new_is b (text a) = last (is_repeated (flat text_in b) a)
  where
    last : (v : Bool) → not v ≡ not (v || false) && true
    last true = refl
    last false = refl
new_is b (rounds n) = last (is_empty (flat rounds_in b))
  where
    last : (v : Bool) → not (not v) ≡ not (not v || false) && true
    last true = refl
    last false = refl
new_is b (colour c) = last (is_empty (flat colour_in b))
  where
    last : (v : Bool) → not (not v) ≡ not (not v || false) && true
    last true = refl
    last false = refl
new_is b (scoring g) = last (is_empty (flat scoring_in b))
  where
    last : (v : Bool) → not (not v) ≡ not (not v || false) && true
    last true = refl
    last false = refl
new_is b (acceleration a) = refl
new_is b (player p) = last (same_start (flat player_in b) p)
  where
    last : (v : Bool) → not v ≡ not (v || false)
    last true = refl
    last false = refl

-- nothing stands twice
pub record Once (is : List Item) : Type 0 where
  pub text : each_after (λ b a. not (is_repeated b a)) [] (flat text_in is) ≡ true
  pub rounds : at_most_one (flat rounds_in is) ≡ true
  pub colour : at_most_one (flat colour_in is) ≡ true
  pub scoring : at_most_one (flat scoring_in is) ≡ true
  pub players : each_after (λ b p. not (same_start b p)) [] (flat player_in is) ≡ true

module _ (is : List Item) where
  added : {A : Type 0} (add : Item → List A) (small : (i : Item) → at_most_one (add i) ≡ true) (f : List A → A → Bool)
      → each_after (none_added add f) [] is ≡ each_after (λ b x. not (f b x)) [] (flat add is)
  unfolding flat
  added add small f = after_added add small f [] is

  new_splits : each_after is_new [] is
      ≡ each_after (none_added text_in is_repeated) [] is && (each_after (none_added rounds_in some-before) [] is && (each_after (none_added colour_in some-before) [] is && (each_after (none_added scoring_in some-before) [] is && each_after (none_added player_in same_start) [] is)))
  new_splits =
      after_same is_new (λ b i. none_added text_in is_repeated b i && (none_added rounds_in some-before b i && (none_added colour_in some-before b i && (none_added scoring_in some-before b i && none_added player_in same_start b i)))) new_is [] is
      ∙ after_both (none_added text_in is_repeated) (λ b i. none_added rounds_in some-before b i && (none_added colour_in some-before b i && (none_added scoring_in some-before b i && none_added player_in same_start b i))) [] is
      ∙ ap (λ (v : Bool). each_after (none_added text_in is_repeated) [] is && v)
      (after_both (none_added rounds_in some-before) (λ b i. none_added colour_in some-before b i && (none_added scoring_in some-before b i && none_added player_in same_start b i)) [] is
      ∙ ap (λ (v : Bool). each_after (none_added rounds_in some-before) [] is && v)
      (after_both (none_added colour_in some-before) (λ b i. none_added scoring_in some-before b i && none_added player_in same_start b i) [] is
      ∙ ap (λ (v : Bool). each_after (none_added colour_in some-before) [] is && v) (after_both (none_added scoring_in some-before) (none_added player_in same_start) [] is)))

  pub new-once : each_after is_new [] is ≡ true → Once is
  new-once h =
      let a = and (each_after (none_added text_in is_repeated) [] is) _ (sym new_splits ∙ h) in
      let b = and (each_after (none_added rounds_in some-before) [] is) _ a.1 in
      let c = and (each_after (none_added colour_in some-before) [] is) _ b.1 in
      let d = and (each_after (none_added scoring_in some-before) [] is) _ c.1 in
      record {
        text = sym (added text_in one_text is_repeated) ∙ a.0;
        rounds = sym (after_none (flat rounds_in is)) ∙ sym (added rounds_in one_rounds some-before) ∙ b.0;
        colour = sym (after_none (flat colour_in is)) ∙ sym (added colour_in one_colour some-before) ∙ c.0;
        scoring = sym (after_none (flat scoring_in is)) ∙ sym (added scoring_in one_scoring some-before) ∙ d.0;
        players = sym (added player_in one_player same_start) ∙ d.1;
      }

  pub once-new : Once is → each_after is_new [] is ≡ true
  once-new o =
      new_splits
      ∙ both (added text_in one_text is_repeated ∙ o.text)
      (both (added rounds_in one_rounds some-before ∙ after_none (flat rounds_in is) ∙ o.rounds)
      (both (added colour_in one_colour some-before ∙ after_none (flat colour_in is) ∙ o.colour)
      (both (added scoring_in one_scoring some-before ∙ after_none (flat scoring_in is) ∙ o.scoring) (added player_in one_player same_start ∙ o.players))))

-- start numbers are the players' own
pub differ_same : (R : ℕ) (l : List PlayerLine) → each_after (λ b p. not (is_taken b p)) [] (map (player_of R) l) ≡ each_after (λ b p. not (same_start b p)) [] l
differ_same R l =
    after_map (player_of R) (λ b p. not (is_taken b p)) [] l
    ∙ after_same (λ b p. not (is_taken (map (player_of R) b) (player_of R p))) (λ b p. not (same_start b p)) (λ b p. ap not (any-map (player_of R) (λ q. eqb q.start p.start) b)) [] l

-- ---- 9
abbrev text_over : List (List ℕ) → List ℕ → Bool
text_over b a = ltb most_text (length (flat ended b) + length (ended a))

abbrev count_over : {A : Type 0} → ℕ → List A → A → Bool
count_over most b x = ltb most (length b + 1)

few_is : (b : List Item) (i : Item) → is_few b i ≡ none_added text_in text_over b i && (none_added acceleration_in (count_over most_accelerations) b i && none_added player_in (count_over most_players) b i)
unfolding is_too_many
few_is b passed = refl
few_is b (text a) = last (text_over (flat text_in b) a)
  where
    last : (v : Bool) → not v ≡ not (v || false) && true
    last true = refl
    last false = refl
few_is b (rounds n) = refl
few_is b (colour c) = refl
few_is b (scoring g) = refl
few_is b (acceleration a) = last (count_over most_accelerations (flat acceleration_in b) a)
  where
    last : (v : Bool) → not v ≡ not (v || false) && true
    last true = refl
    last false = refl
few_is b (player p) = last (count_over most_players (flat player_in b) p)
  where
    last : (v : Bool) → not v ≡ not (v || false)
    last true = refl
    last false = refl

-- all fits
pub record AllFit (is : List Item) : Type 0 where
  pub text : length (flat ended (flat text_in is)) ≤ most_text
  pub accelerations : length (flat acceleration_in is) ≤ most_accelerations
  pub players : length (flat player_in is) ≤ most_players

text_snoc : (l : List (List ℕ)) (x : List ℕ) → length (flat ended (l ++ (x ∷ []))) ≡ length (flat ended l) + length (ended x)
text_snoc l x = ap length (flat_snoc ended l x) ∙ length-append (flat ended l) (ended x)

count_snoc : {A : Type 0} (l : List A) (x : A) → length (l ++ (x ∷ [])) ≡ length l + 1
count_snoc l x = length-append l (x ∷ [])

module _ (is : List Item) where
  few_splits : each_after is_few [] is
      ≡ each_after (none_added text_in text_over) [] is && (each_after (none_added acceleration_in (count_over most_accelerations)) [] is && each_after (none_added player_in (count_over most_players)) [] is)
  few_splits =
      after_same is_few (λ b i. none_added text_in text_over b i && (none_added acceleration_in (count_over most_accelerations) b i && none_added player_in (count_over most_players) b i)) few_is [] is
      ∙ after_both (none_added text_in text_over) (λ b i. none_added acceleration_in (count_over most_accelerations) b i && none_added player_in (count_over most_players) b i) [] is
      ∙ ap (λ (v : Bool). each_after (none_added text_in text_over) [] is && v) (after_both (none_added acceleration_in (count_over most_accelerations)) (none_added player_in (count_over most_players)) [] is)

  pub few-fits : each_after is_few [] is ≡ true → AllFit is
  unfolding flat
  few-fits h =
      let a = and (each_after (none_added text_in text_over) [] is) _ (sym few_splits ∙ h) in
      let b = and (each_after (none_added acceleration_in (count_over most_accelerations)) [] is) _ a.1 in
      record {
        text = all_fit most_text (λ x. length (ended x)) (λ l. length (flat ended l)) text_snoc [] (flat text_in is) (omega arith) (sym (added is text_in one_text text_over) ∙ a.0);
        accelerations = all_fit most_accelerations (λ x. 1) length count_snoc [] (flat acceleration_in is) (omega arith) (sym (added is acceleration_in one_acceleration (count_over most_accelerations)) ∙ b.0);
        players = all_fit most_players (λ x. 1) length count_snoc [] (flat player_in is) (omega arith) (sym (added is player_in one_player (count_over most_players)) ∙ b.1);
      }

  pub fits-few : AllFit is → each_after is_few [] is ≡ true
  fits-few f =
      few_splits
      ∙ both (added is text_in one_text text_over ∙ fit_all most_text (λ x. length (ended x)) (λ l. length (flat ended l)) text_snoc [] (flat text_in is) f.text)
      (both (added is acceleration_in one_acceleration (count_over most_accelerations) ∙ fit_all most_accelerations (λ x. 1) length count_snoc [] (flat acceleration_in is) f.accelerations)
      (added is player_in one_player (count_over most_players) ∙ fit_all most_players (λ x. 1) length count_snoc [] (flat player_in is) f.players))
