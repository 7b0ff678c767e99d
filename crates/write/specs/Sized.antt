-- Row 6 of what is written out (S 8.2).
use Rattle.std.specs.Prelude.{ℕ, ◌+◌, ◌*◌, ◌≤◌, ◌≡◌, List, length, ltb}
use Rattle.std.proofs.Math.Option.{some}
use Rattle.base.specs.Choice.{pick}
use Rattle.model.specs.Answers.{Output, unwritten, settled, sheet_tree}
use Rattle.model.specs.Limits.{refusal_size}
use Rattle.model.specs.Tree.{Tree}
use Rattle.answers.specs.Cases.{output}
use Rattle.std.specs.Prelude.{Ok}

-- octets that go out where there is room for them
unfoldable pub sized : List ℕ → List ℕ → Output
sized x out = pick (ltb (length out) (length x)) (unwritten refusal_size out) (output (Ok (length x)) (settled out 0 x))

-- the octets up to the length are a sheet
pub record Good (canonical : List ℕ) (len : ℕ) : Type 0 where
  pub tree : Tree
  pub is : sheet_tree canonical len ≡ some tree

-- scratch for form 3 of a sheet of n octets, and for what a block may overrun
pub record Roomy (n : ℕ) (scratch : List ℕ) : Type 0 where
  pub room : 2 * n + 64 ≤ length scratch
