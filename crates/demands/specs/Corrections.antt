-- S 15 for replacing, inserting and removing: the conditions of each, and the one notion of an accepted correction.
use Rattle.std.specs.Prelude.{ℕ, ◌-◌, ◌≤◌, ◌<◌, ◌≡◌, Bool, true, false, List, length}
use Rattle.std.proofs.Math.Option.{some}
use Rattle.model.specs.Answers.{no_form, own_tree, Outcome, filled}
use Rattle.model.specs.Decode.{decode}
use Rattle.model.specs.Edit.{insert}
use Rattle.model.specs.Limits.{max_source}
use Rattle.model.specs.Node.{node_at, has_place}
use Rattle.model.specs.Table.{row_of}
use Rattle.model.specs.Tree.{Tree, Forest}
use Rattle.edits.specs.Moves.{Change}
use Rattle.edits.specs.Place.{around}
use Rattle.demands.specs.Conditions.{Room}

-- an accepted correction of a sheet with its own table, of tree `old`, to tree `now`. The entry is n nodes from node k on, the octets
-- from octet s to octet e, in `lists` lists: those nodes before it of which `holding` says so. It gives way to `new`. An insertion's entry
-- starts and ends at its place in the old sheet (S 15.1), so that n is 0 and s is e
pub record Correction (canonical table : List ℕ) (len count : ℕ) (old now : Tree) (k n s e : ℕ) (new : Forest) (holding : ℕ → Bool) (answer : Outcome) : Type 0 where
  pub lists : ℕ
  pub own : own_tree canonical len table count ≡ some old
  pub room : Room now canonical table
  pub is : answer ≡ filled now len count canonical table
  pub ordered : s ≤ e
  pub change : Change old now k n s (e - s) lists new
  pub held : (j : ℕ) → j < k → holding j ≡ around s e (row_of old j)

-- S 8.7, 15.2: the text's tree may become the element of number k of the list that the node is
pub record Insertable (form : ℕ) (text canonical table : List ℕ) (len count node k : ℕ) : Type 0 where
  pub new : Tree
  pub old : Tree
  pub known : no_form form ≡ false
  pub short : length text ≤ max_source
  pub valid : decode form text ≡ some new
  pub own : own_tree canonical len table count ≡ some old
  pub present : node < count
  -- row 9 does not apply
  pub place : has_place (node_at old node) k ≡ true
  pub room : Room (insert old node k new) canonical table

-- S 8.8, 15.2: the node may be removed; there is no text to judge
pub record Removable (canonical table : List ℕ) (len count node : ℕ) : Type 0 where
  pub old : Tree
  pub own : own_tree canonical len table count ≡ some old
  pub present : node < count
  pub inner : 0 < node
