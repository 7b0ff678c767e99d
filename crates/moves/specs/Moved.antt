-- How far a move has got.
use Rattle.std.specs.Prelude.{ℕ, ◌+◌, ◌-◌, ◌≤◌, ◌≡◌, List, length, take, drop}
use Rattle.std.proofs.lemmas.List.Edits.{sets}

-- up: what was stored so far, onto the list as it was
pub record Raising (l₀ : List ℕ) (from to delta : ℕ) (l : List ℕ) (j : ℕ) : Type 0 where
  pub low : from ≤ j
  pub high : j ≤ to
  pub long : length l ≡ length l₀
  pub is : l ≡ sets l₀ (j + delta) (take (to - j) (drop j l₀))

-- down: the octets not yet moved are as they were, and storing them gives the whole
pub record Lowering (l₀ : List ℕ) (from to delta : ℕ) (l : List ℕ) (j : ℕ) : Type 0 where
  pub low : from ≤ j
  pub high : j ≤ to
  pub long : length l ≡ length l₀
  pub rest : drop j l ≡ drop j l₀
  pub same : sets l (j - delta) (take (to - j) (drop j l₀)) ≡ sets l₀ (from - delta) (take (to - from) (drop from l₀))
