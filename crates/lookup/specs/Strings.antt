-- Strings without hints, by spans.
use Rattle.std.specs.Prelude.{ℕ, ◌≤◌, List}
use Rattle.sheets.specs.Places.{start_of, end_of}
use Rattle.lookup.specs.Tokens.{part_of}

-- a span lies in a text of n octets
pub record Span (n r : ℕ) : Type 0 where
  pub ordered : start_of r ≤ end_of r
  pub ended : end_of r ≤ n

-- its octets
abbrev pub spanned : List ℕ → ℕ → List ℕ
spanned src r = part_of src (start_of r) (end_of r)
