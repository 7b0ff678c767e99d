-- The notes of a sheet at a spot of which something else comes to stand.
use Rattle.std.specs.Prelude.{ℕ, ◌-◌, ◌≤◌, ◌<◌, ◌≡◌, List, length}
use Rattle.model.specs.Edit.{one}
use Rattle.model.specs.Limits.{max_depth}
use Rattle.model.specs.Tree.{Tree, Forest, canon, canons, nodes, nodess, depth}
use Rattle.tables.specs.Told.{Holds}
use Rattle.edits.specs.Moves.{Change}
use Rattle.splice.specs.Moved.{Fit}
use Rattle.splice.specs.declared.notes.Growth.{Growth}

-- what gives way, of any number of nodes in the octets from `start` to `end`, and what comes, which is a tree or nothing
pub record Renotable (octets notes : List ℕ) (first start end count : ℕ) (b : Growth) : Type 0 where
  pub old : Tree
  pub new : Tree
  pub given : ℕ
  pub level : ℕ
  pub comes : Forest
  pub text : Tree
  pub change : Change old new first given start (end - start) level comes
  pub single : 0 < count → comes ≡ one text
  pub ordered : start ≤ end
  pub is : octets ≡ canons comes
  pub counted : count ≡ nodess comes
  pub held : Holds notes b.held old
  pub old_long : b.old ≡ length (canon old)
  pub new_long : b.len ≡ length (canon new)
  pub new_counted : b.count ≡ nodes new
  pub deep : depth new ≤ max_depth
  pub fit : Fit b
  pub room : b.count ≤ length notes

-- they are those of the new tree
pub record Renoted (octets notes : List ℕ) (first start end count : ℕ) (b : Growth) (after : List ℕ) : Type 0 where
  pub held : (w : Renotable octets notes first start end count b) → Holds after b.count w.new
