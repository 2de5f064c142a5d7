-- A test that is asked of each number from one up to another. Means: no part of the statement.
use Rattle.std.specs.Prelude.{◌≡◌, Bool, true, false, ℕ, ◌≤◌, ◌<◌}

-- it may be asked of each
abbrev pub Anywhere : (ℕ → Type 0) → ℕ → ℕ → Type 0
Anywhere pre from to = (i : ℕ) → from ≤ i → i < to → pre i

-- each passes, or one does not; post: what an asking can answer
pub record Every (post : ℕ → Bool → Type 0) (from to : ℕ) (good : Bool) : Type 0 where
  pub all : good ≡ true → (i : ℕ) → from ≤ i → i < to → post i true
  pub some : good ≡ false → (i : ℕ) × (from ≤ i) × (i < to) × post i false
