-- A lent table: what its first n cells hold; the others, and its length, are as before. d is what a cell past the end reads as.
use Rattle.std.specs.Prelude.{◌≡◌, List, ℕ, ◌≤◌, ◌<◌, length, get_or}

pub record Holds {A : Type 0} (d : A) (n : ℕ) (content : ℕ → A) (before after : List A) : Type 0 where
  pub long : length after ≡ length before
  pub cells : (i : ℕ) → i < n → get_or after i d ≡ content i
  pub rest : (i : ℕ) → n ≤ i → get_or after i d ≡ get_or before i d
