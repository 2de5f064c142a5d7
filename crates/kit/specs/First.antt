-- The first of a list of which a proposition holds. Nothing has to decide the proposition.
use Rattle.std.specs.Prelude.{◌≡◌, List, [], ◌∷◌, ◌++◌}

module _ {L : Type 0} where
  abbrev pub AllOf : (L → Type 0) → List L → Type 0
  AllOf P [] = Unit {0}
  AllOf P (x ∷ l) = P x × AllOf P l

  abbrev pub NoneOf : (L → Type 0) → List L → Type 0
  NoneOf P = AllOf (λ x. P x → ⊥)

  -- x stands in the list, P holds of it and of none before it
  pub record FirstIn (P : L → Type 0) (l : List L) (x : L) : Type 0 where
    pub before : List L
    pub after : List L
    pub stands : l ≡ before ++ (x ∷ after)
    pub none_before : NoneOf P before
    pub holds : P x
