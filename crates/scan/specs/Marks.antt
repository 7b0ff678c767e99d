-- What stands up to a closing mark, read step by step. The reader f is the model's, as `marked 35` or `between 125 unbase []`:
-- f s is what s gives up to the closing mark.
use Rattle.std.specs.Prelude.{ℕ, ◌+◌, ◌≤◌, ◌<◌, ◌≡◌, List, ◌++◌, length, drop}
use Rattle.model.specs.Strings.{Read, got, bind}

-- what f reads from `at` on is g, and then what it reads from `next` on
pub record Stretch (f : List ℕ → Read (List ℕ)) (src : List ℕ) (at : ℕ) (g : List ℕ) (next : ℕ) : Type 0 where
  pub on : at ≤ next
  pub few : at + length g ≤ next
  pub within : next ≤ length src
  pub more : f (drop at src) ≡ bind (f (drop next src)) (λ d k. got (g ++ d) k)

-- the same, where at least an octet of the source is passed
pub record Chunk (f : List ℕ → Read (List ℕ)) (src : List ℕ) (at : ℕ) (g : List ℕ) (next : ℕ) : Type 0 where
  pub on : at < next
  pub few : at + length g ≤ next
  pub within : next ≤ length src
  pub more : f (drop at src) ≡ bind (f (drop next src)) (λ d k. got (g ++ d) k)

-- g, and the closing mark
pub record Last (f : List ℕ → Read (List ℕ)) (src : List ℕ) (at : ℕ) (g : List ℕ) (next : ℕ) : Type 0 where
  pub on : at < next
  pub within : next ≤ length src
  pub ends : f (drop at src) ≡ got g (drop next src)
