-- What is told of an octet that may have no value, where the grammar has a number in its place.
use Rattle.std.specs.Prelude.{ℕ, ◌<◌, ◌≡◌, Option, Some, None}

-- v, which is below n; or none, where v is n
abbrev pub Value : ℕ → ℕ → Option ℕ → Type 0
Value n v (Some d) = (d ≡ v) × (d < n)
Value n v None = n ≡ v
