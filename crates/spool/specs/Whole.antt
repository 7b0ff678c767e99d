-- What a whole addition needs.
use Rattle.std.specs.Prelude.{ℕ, ◌+◌, ◌≤◌, length}
use Rattle.groups.specs.Octets.{Wide}
use Rattle.model.specs.Limits.{max_canonical}
use Rattle.spools.specs.Groups.{groups}

-- room for the groups of a length, at a place of an area of a size
pub record Grouped (size at octets count : ℕ) : Type 0 where
  pub wide : Wide octets count
  pub small : octets ≤ max_canonical
  pub room : at + count ≤ size

-- room for an entry
pub record Room (size at lent octets : ℕ) : Type 0 where
  pub within : octets ≤ lent
  pub small : octets ≤ max_canonical
  pub room : at + (length (groups octets) + octets) ≤ size
