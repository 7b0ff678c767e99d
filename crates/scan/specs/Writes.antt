-- Octets written into lent space.
use Rattle.std.specs.Prelude.{ℕ, ◌+◌, ◌≡◌, List, length}
use Rattle.std.proofs.lemmas.List.Edits.{sets}

-- the octets x stand from `pos` to `next`, and nothing else has changed
pub record Wrote (x : List ℕ) (pos : ℕ) (before after : List ℕ) (next : ℕ) : Type 0 where
  pub place : next ≡ pos + length x
  pub same : after ≡ sets before pos x
