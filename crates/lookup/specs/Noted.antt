-- A sheet by its notes.
use Rattle.std.specs.Prelude.{ℕ, ◌≤◌, ◌<◌, min, ◌≡◌, Bool, true, not, List}
use Rattle.std.proofs.Math.Option.{some}
use Rattle.base.specs.Choice.{pick, is_none}
use Rattle.model.specs.Tree.{Tree}
use Rattle.model.specs.Limits.{most_nodes}
use Rattle.model.specs.Table.{records}
use Rattle.model.specs.Answers.{sheet_tree, own_tree, hint_part, data_part}
use Rattle.tables.specs.Told.{Holds, Readable}
use Rattle.answers.specs.Cases.{placed}
use Rattle.answers.specs.Cases.{Place}

-- the first len octets are a sheet of count nodes, these are its notes, and of n records there are enough
pub record Sheet (c : List ℕ) (len count n : ℕ) (notes : List ℕ) : Type 0 where
  pub tree : Tree
  pub is : sheet_tree c len ≡ some tree
  pub held : Holds notes count tree
  pub lent : count ≤ n

-- notes for every sheet of this node count
pub record Notes (count room : ℕ) : Type 0 where
  pub enough : min count most_nodes ≤ room

-- whether a table is the sheet's own; and where it is, these are the sheet's notes
pub record Owned (c : List ℕ) (len : ℕ) (table : List ℕ) (count : ℕ) (notes : List ℕ) (own : Bool) : Type 0 where
  pub tells : own ≡ not (is_none (own_tree c len table count))
  pub sheet : own ≡ true → Sheet c len count (records table) notes

-- a truth value that tells whether a table is a sheet's own; and where it is, the notes are the sheet's
pub record Owning (c : List ℕ) (len : ℕ) (table : List ℕ) (count : ℕ) (notes : List ℕ) (own : Bool) : Type 0 where
  pub tells : own ≡ not (is_none (own_tree c len table count))
  pub held : (t : Tree) → own_tree c len table count ≡ some t → Holds notes count t

-- where they are told to be a sheet's, the notes can be read
pub record Readables (notes : List ℕ) (count : ℕ) (own : Bool) : Type 0 where
  pub read : own ≡ true → (i : ℕ) → i < count → Readable notes i

-- the place of a node's hint or data, in every sheet and table of which the truth value tells
pub record ShowsPlace (notes : List ℕ) (count node : ℕ) (own hinted : Bool) (r : Place) : Type 0 where
  pub is : (c : List ℕ) (len : ℕ) (table : List ℕ) → Owning c len table count notes own → placed r ≡ pick hinted (hint_part c len table count node) (data_part c len table count node)
