-- How far octets begin what is not there, for the place that is told of a text (S 7.3).
use Rattle.std.specs.Prelude.{ℕ, ◌+◌, ◌≡◌, List, drop}
use Rattle.automaton.specs.Begun.{digits_on, begun, begun_after}

-- digits, and what follows them; their value is not asked for
pub record DigitsOn (src : List ℕ) (at r : ℕ) : Type 0 where
  pub is : r ≡ at + digits_on (drop at src)

-- a verbatim string
pub record StringBegins (src : List ℕ) (at r : ℕ) : Type 0 where
  pub is : r ≡ at + begun (drop at src)

-- the bracket after a hint, and its string
pub record HintBegins (src : List ℕ) (to r : ℕ) : Type 0 where
  pub is : r ≡ to + begun_after (drop to src)
