-- Where a text goes wrong (S 7.3), without an automaton. `place` is this number (crate automaton, `place-largest`).
use Rattle.std.specs.Prelude.{ℕ, ◌≤◌, ◌≡◌, List, ◌++◌, length, take}
use Rattle.model.specs.Tree.{Tree, canon}

-- S 7.3: these octets begin some canonical form, of any depth and length
pub record Begins (s : List ℕ) : Type 0 where
  pub tree : Tree
  pub rest : List ℕ
  pub is : s ++ rest ≡ canon tree

-- S 7.3: p is the largest number of first octets that do
pub record Largest (s : List ℕ) (p : ℕ) : Type 0 where
  pub within : p ≤ length s
  pub begins : Begins (take p s)
  pub largest : (q : ℕ) → q ≤ length s → Begins (take q s) → q ≤ p
