-- What comes, with its canonical octets at the front of scratch, put where the change takes place.
use Rattle.std.specs.Prelude.{ℕ, ◌≤◌, ◌≡◌, Bool, List, take}
use Rattle.std.proofs.Math.Option.{some}
use Rattle.model.specs.Limits.{max_canonical}
use Rattle.model.specs.Tree.{Tree, Forest, canons}
use Rattle.plan.specs.Asked.{given}
use Rattle.plan.specs.Planned.{Sized, Small}
use Rattle.plan.specs.declared.Asked.{Asked}
use Rattle.walk.specs.declared.Extent.{Extent}
use Rattle.answers.specs.Cases.{Reading}
use Rattle.editor.specs.Given.{GivesTree}

-- g has these sizes, and where it is no longer than a sheet its canonical form stands at the front
pub record Standing (scratch : List ℕ) (text : Extent) (g : Forest) : Type 0 where
  pub sized : Sized g text
  pub octets : text.len ≤ max_canonical → take text.len scratch ≡ canons g

-- what the change puts in
pub record Placeable (a : Asked) (scratch : List ℕ) (text : Extent) : Type 0 where
  pub tree : Tree
  pub is : Standing scratch text (given a tree)
  pub small : Small text

-- the answer, the octets and the notes are those of the change, by every tree that stands there
pub record Placed (a : Asked) (scratch : List ℕ) (text : Extent) (c c' : List ℕ) (len count n : ℕ) (own : Bool) (notes' : List ℕ) (r : Reading) : Type 0 where
  pub is : (u : Tree) → Standing scratch text (given a u) → GivesTree a (some u) c len count n own c' notes' r
