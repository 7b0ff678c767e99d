-- What rewriting a sheet in place needs, and what it leaves.
use Rattle.std.specs.Prelude.{ℕ, ◌+◌, ◌*◌, ◌-◌, ◌≤◌, ◌≡◌, List, replicate}
use Rattle.std.proofs.lemmas.List.Edits.{sets}
use Rattle.model.specs.Tree.{Tree}
use Rattle.model.specs.Table.{width, table_of}
use Rattle.model.specs.Limits.{most_nodes}
use Rattle.model.specs.Answers.{settled}
use Rattle.tables.specs.Told.{Holds}
use Rattle.answers.specs.declared.Sizes.{Sizes}

-- n octets can take the place of those from `start` to `end` of a sheet of len octets
pub record Movable (room start end len n : ℕ) : Type 0 where
  pub ordered : start ≤ end
  pub ended : end ≤ len
  pub lent : len ≤ room
  pub fits : start + n + (len - end) ≤ room

-- old octets and new are lent
pub record Ending (room old len : ℕ) : Type 0 where
  pub lent : len ≤ room
  pub old_lent : old ≤ room

pub record Ended (canonical : List ℕ) (old len count : ℕ) (canonical' : List ℕ) (r : Sizes) : Type 0 where
  pub octets : canonical' ≡ sets canonical len (replicate (old - len) 0)
  pub tells : r ≡ record { length = len; nodes = count }

-- ---- the table

-- the notes are a tree's, and old records and new have room in so many numbers
pub record Retellable (notes : List ℕ) (numbers held count : ℕ) : Type 0 where
  pub tree : Tree
  pub is : Holds notes count tree
  pub few : (count ≤ most_nodes) × (held ≤ most_nodes)
  pub recorded : width * count ≤ numbers
  pub old_recorded : width * held ≤ numbers

pub record Retold (notes : List ℕ) (held count : ℕ) (table table' : List ℕ) : Type 0 where
  pub is : (t : Tree) → Holds notes count t → table' ≡ settled table (width * held) (table_of t)
