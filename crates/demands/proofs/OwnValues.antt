-- A letter that no 162 gives: its default, and of P and X the event's own W and D. Assumes nothing.
use mathlib.Core.Path.{◌≡◌, sym, ap, ◌∙◌}
use mathlib.Core.Bool.{Bool, false, cond}
use mathlib.Core.List.{List, []}
use Prim.Native.Nat.{ℕ}
use Prim.Native.Char.{code}
use Rattle.kit.specs.Lists.{among, flat, only_or}
use Rattle.law.specs.Scoring.{defaults, letters_of, given_or, own_win, own_draw, scoring_of}
use Rattle.law.specs.Items.{Item}
use Rattle.law.specs.Tournament.{scoring_in, tournament_of}
use Rattle.law.proofs.Values.{given_else}
use Rattle.demands.specs.Demands.{NotGiven}

not-given : (d letter : ℕ) (given : List (ℕ × ℕ)) → among letter (letters_of given) ≡ false → given_or d letter given ≡ d
not-given d letter given h = sym (given_else d d letter given) ∙ ap (λ (b : Bool). cond b (given_or d letter given) d) h

module _ (items : List Item) where
  abbrev given : List (ℕ × ℕ)
  given = only_or [] (flat scoring_in items)

  pub default_values : (NotGiven (code "W") items → (tournament_of items).scoring.win ≡ 10) × (NotGiven (code "D") items → (tournament_of items).scoring.draw ≡ 5)
      × (NotGiven (code "L") items → (tournament_of items).scoring.loss ≡ 0) × (NotGiven (code "A") items → (tournament_of items).scoring.absent ≡ 0)
  unfolding tournament_of scoring_of
  default_values =
      (not-given defaults.win (code "W") given, not-given defaults.draw (code "D") given, not-given defaults.loss (code "L") given, not-given defaults.absent (code "A") given)

  pub own_pairing : NotGiven (code "P") items → (tournament_of items).scoring.pairing ≡ (tournament_of items).scoring.win
  unfolding tournament_of scoring_of
  own_pairing h = not-given (own_win given) (code "P") given h

  pub own_unknown : NotGiven (code "X") items → (tournament_of items).scoring.unknown ≡ (tournament_of items).scoring.draw
  unfolding tournament_of scoring_of
  own_unknown h = not-given (own_draw given) (code "X") given h
