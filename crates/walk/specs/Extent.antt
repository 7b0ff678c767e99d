-- What measuring a text tells of the tree that it means.
use Rattle.std.specs.Prelude.{ℕ, ◌≡◌, length, Result, Ok, Err}
use Rattle.std.proofs.Math.Option.{Option, none, some}
use Rattle.model.specs.Tree.{Tree, canon, nodes, depth}
use Rattle.walk.specs.declared.Extent.{Extent}
use Rattle.walk.specs.declared.Broken.{Broken}

pub record Wholly (o : Option Tree) (len count deep : ℕ) : Type 0 where
  pub tree : Tree
  pub is : o ≡ some tree
  pub long : len ≡ length (canon tree)
  pub counted : count ≡ nodes tree
  pub deepest : deep ≡ depth tree

-- what measuring a text answers: the sizes of the tree that it means, or the place that is told where it means none
abbrev pub Measured : Type 0
Measured = Result Extent Broken

abbrev pub extent : ℕ → ℕ → ℕ → Extent
extent len count deep = record { len = len; nodes = count; depth = deep }

abbrev pub Whole : ℕ → ℕ → ℕ → Measured
Whole len count deep = Ok (extent len count deep)

abbrev pub Refused : ℕ → Measured
Refused p = Err (record { place = p })

unfoldable pub Measures : Option Tree → Measured → Type 0
Measures o (Ok x) = Wholly o x.len x.nodes x.depth
Measures o (Err x) = o ≡ none
