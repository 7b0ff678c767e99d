-- Octets that are the same.
use Rattle.std.specs.Prelude.{ℕ, ◌+◌, ◌≤◌, ◌<◌, ◌≡◌, Bool, true, false, List, length, take, get_or}

-- two parts are as long, and their octets up to a place are the same
pub record Agree (a b : List ℕ) (i : ℕ) : Type 0 where
  pub long : length a ≡ length b
  pub inside : i ≤ length a
  pub each : (k : ℕ) → k < i → get_or a k 0 ≡ get_or b k 0

-- whether n octets from a place on are the same; if not, the parts are not
pub record Block (a b : List ℕ) (at n : ℕ) (so : Bool) : Type 0 where
  pub yes : so ≡ true → (k : ℕ) → at ≤ k → k < at + n → get_or a k 0 ≡ get_or b k 0
  pub no : so ≡ false → a ≡ b → ⊥

-- where it is said so, the first m octets of b are there, and are the first n of a
pub record Copied (a : List ℕ) (n : ℕ) (b : List ℕ) (m : ℕ) (so : Bool) : Type 0 where
  pub lent : so ≡ true → m ≤ length b
  pub same : so ≡ true → take n a ≡ take m b
