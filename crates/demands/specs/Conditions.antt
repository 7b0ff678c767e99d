-- The conditions of reading and of correcting (S 14.4, 15.2), and the first row of a list of checks that applies.
use Rattle.std.specs.Prelude.{ℕ, ◌*◌, ◌≤◌, ◌<◌, ◌≡◌, true, false, List, [], ◌∷◌, ◌++◌, length, take, drop}
use Rattle.std.proofs.Math.Option.{some}
use Rattle.model.specs.Answers.{Check, when, no_form, own_tree, Outcome}
use Rattle.model.specs.Decode.{decode}
use Rattle.model.specs.Edit.{replace}
use Rattle.model.specs.Grammar.{Language, rules}
use Rattle.model.specs.Limits.{max_source, max_depth, max_canonical}
use Rattle.model.specs.Table.{width, records}
use Rattle.model.specs.Tree.{Tree, canon, nodes, depth}

-- S 6.1, rows 4 to 6: the tree fits, and has room in what is lent
pub record Room (t : Tree) (canonical table : List ℕ) : Type 0 where
  pub shallow : depth t ≤ max_depth
  pub recorded : nodes t ≤ records table
  pub small : length (canon t) ≤ max_canonical
  pub roomy : length (canon t) ≤ length canonical

-- S 14.4: a text that is read, with its tree in the form's language
pub record Allowed (form : ℕ) (source canonical table : List ℕ) : Type 0 where
  pub tree : Tree
  pub language : Language rules form source tree
  pub short : length source ≤ max_source
  pub room : Room tree canonical table

-- S 15.2, of replacing: the conditions under which it is accepted
pub record Conditions (form : ℕ) (text canonical table : List ℕ) (len count node : ℕ) : Type 0 where
  pub new : Tree
  pub old : Tree
  -- rows 1 to 3: the form is known, and the text not too long and in its language
  pub known : no_form form ≡ false
  pub short : length text ≤ max_source
  pub valid : decode form text ≡ some new
  -- row 7: the sheet has its own table
  pub own : own_tree canonical len table count ≡ some old
  -- row 8: the node exists
  pub present : node < count
  -- rows 4 to 6, of the corrected tree
  pub room : Room (replace old node new) canonical table

-- none of the checks applies
pub data Quiet : List Check → Type 0 where
  no-check : Quiet []
  not-applying : {n : ℕ} {cs : List Check} → Quiet cs → Quiet (when n false ∷ cs)

-- S 14.3: the row n is the first that applies
pub record First (cs : List Check) (n : ℕ) : Type 0 where
  pub before : List Check
  pub after : List Check
  pub is : cs ≡ before ++ (when n true ∷ after)
  pub quiet : Quiet before

-- S 15.3: length and node count, octets up to that length and records up to that count are those of the reading
pub record SameResult (corrected fresh : Outcome) : Type 0 where
  pub accepted : fresh.number ≡ 0
  pub octets : corrected.octets ≡ fresh.octets
  pub count : corrected.count ≡ fresh.count
  pub canonical : take corrected.octets corrected.canonical ≡ take fresh.octets fresh.canonical
  pub table : take (width * corrected.count) corrected.table ≡ take (width * fresh.count) fresh.table

-- the numbers of node j's record in a lent table
unfoldable pub record_at : List ℕ → ℕ → List ℕ
record_at table j = take width (drop (width * j) table)
