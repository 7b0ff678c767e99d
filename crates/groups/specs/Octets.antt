-- An entry that is to be added: its length, and its octets.
use Rattle.std.specs.Prelude.{ℕ, ◌+◌, ◌≤◌, ◌≡◌, length}
use Rattle.model.specs.Limits.{max_canonical}
use Rattle.spools.specs.Groups.{groups}

-- n has r groups, at most 3
pub record Wide (n r : ℕ) : Type 0 where
  pub is : r ≡ length (groups n)
  pub few : r ≤ 3

-- a sheet of so many octets, of those lent, whose length has so many groups
pub record Entried (lent octets groups : ℕ) : Type 0 where
  pub within : octets ≤ lent
  pub small : octets ≤ max_canonical
  pub wide : Wide octets groups

-- an entry of so many octets, for a sheet of so many
pub record Long (octets r : ℕ) : Type 0 where
  pub is : r ≡ length (groups octets) + octets
  pub few : r ≤ octets + 3
