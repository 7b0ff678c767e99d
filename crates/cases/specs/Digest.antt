-- The digest of a buffer's elements (reference/README.md).
use Rattle.std.specs.Prelude.{ℕ, ◌+◌, ◌*◌, ◌%◌, List, [], ◌∷◌}

abbrev pub stepped : ℕ → ℕ → ℕ
stepped h x = (h * 65599 + x + 1) % 4294967291

unfoldable pub digested : ℕ → List ℕ → ℕ
digested h [] = h
digested h (x ∷ l) = digested (stepped h x) l
