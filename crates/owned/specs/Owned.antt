-- Octets gone through beside the notes that records claim.
use Rattle.std.specs.Prelude.{ℕ, ◌≤◌, ◌<◌, ◌≡◌, Bool, true, false, List, length, get_or}
use Rattle.std.proofs.Math.Option.{some}
use Rattle.model.specs.Decode.{decode₁}
use Rattle.model.specs.Limits.{max_depth, max_canonical, most_nodes}
use Rattle.model.specs.Table.{recorded, row_of, parent_of}
use Rattle.model.specs.Tree.{Tree, nodes, depth}
use Rattle.tables.specs.Claimed.{record_by, Claim}

-- the record that a note tells
abbrev pub told : List ℕ → ℕ → List ℕ
told notes i = record_by (get_or notes i 0)

-- S 1.4: the octets are a tree's canonical form, within the depth, n is its node count, and the first n notes tell its records
pub record Own (src notes : List ℕ) (n : ℕ) (t : Tree) : Type 0 where
  pub is : decode₁ src ≡ some t
  pub deep : depth t ≤ max_depth
  pub counted : n ≡ nodes t
  pub each : (i : ℕ) → i < n → told notes i ≡ recorded (row_of t i) (parent_of t i)

pub record Owned (src notes : List ℕ) (n : ℕ) : Type 0 where
  pub tree : Tree
  pub own : Own src notes n tree

-- n notes are lent, and no more than a sheet can have; each is one that a record can claim
pub record Checkable (src notes : List ℕ) (n : ℕ) : Type 0 where
  pub short : length src ≤ max_canonical
  pub few : n ≤ most_nodes
  pub fits : n ≤ length notes
  pub claimed : (i : ℕ) → i < n → Claim (told notes i) (get_or notes i 0)

-- whether it is so
pub record Checked (src notes : List ℕ) (n : ℕ) (r : Bool) : Type 0 where
  pub yes : r ≡ true → Owned src notes n
  pub no : r ≡ false → (t : Tree) → Own src notes n t → ⊥
