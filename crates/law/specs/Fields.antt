-- What a field spells: each definition says what its columns look like.
use Rattle.std.specs.Prelude.{◌≡◌, ◌⊎◌, Bool, true, false, ◌&&◌, ◌||◌, List, [], ◌∷◌, ◌++◌, ℕ, ◌+◌, ◌*◌, ◌-◌, eqb, replicate}
use Prim.Native.Char.{code}
use Rattle.kit.specs.Lists.{between, all}
use Rattle.law.specs.Columns.{blank, is_blank}

abbrev pub is_digit : ℕ → Bool
is_digit c = between (code "0") (code "9") c

abbrev pub digit_value : ℕ → ℕ
digit_value c = c - code "0"

-- what digits are worth after digits that are worth n
abbrev pub decimal_from : ℕ → List ℕ → ℕ
decimal_from n [] = n
decimal_from n (d ∷ ds) = decimal_from (n * 10 + digit_value d) ds

-- "Number field: blanks, then digits up to the last column of the field, at least one digit."
pub record SpellsNumber (field : List ℕ) (n : ℕ) : Type 0 where
  pub blanks : ℕ
  pub first : ℕ
  pub others : List ℕ
  pub text : field ≡ replicate blanks blank ++ (first ∷ others)
  pub digits : all is_digit (first ∷ others) ≡ true
  pub value : n ≡ decimal_from 0 (first ∷ others)

-- "Points field (the format written 11.5): four columns: a digit or blank, a digit, `.`, a digit. Points are whole tenths"; a blank is no tens
abbrev pub is_tens : ℕ → Bool
is_tens c = is_blank c || is_digit c

pub record SpellsPoints (field : List ℕ) (points : ℕ) : Type 0 where
  pub tens : ℕ
  pub units : ℕ
  pub tenths : ℕ
  pub text : field ≡ tens ∷ units ∷ code "." ∷ tenths ∷ []
  pub digits : is_tens tens && is_digit units && is_digit tenths ≡ true
  pub value : points ≡ digit_value tens * 100 + digit_value units * 10 + digit_value tenths

-- "one to three digits from column 5, then only blanks", as many as the field has columns
pub record SpellsLeading (field : List ℕ) (n : ℕ) : Type 0 where
  pub first : ℕ
  pub others : List ℕ
  pub blanks : ℕ
  pub text : field ≡ first ∷ (others ++ replicate blanks blank)
  pub digits : all is_digit (first ∷ others) ≡ true
  pub value : n ≡ decimal_from 0 (first ∷ others)

-- a number field, or blank, which is 0: a round's id, a rating
abbrev pub SpellsNumberOrBlank : List ℕ → ℕ → Type 0
SpellsNumberOrBlank field n = SpellsNumber field n ⊎ ((all is_blank field ≡ true) × (n ≡ 0))

-- a shape, in which 0 stands for any digit
abbrev pub has_shape : List ℕ → List ℕ → Bool
has_shape [] [] = true
has_shape [] (c ∷ l) = false
has_shape (s ∷ shape) [] = false
has_shape (s ∷ shape) (c ∷ l) = (eqb s c || (eqb s (code "0") && is_digit c)) && has_shape shape l
