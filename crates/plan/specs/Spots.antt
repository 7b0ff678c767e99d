-- Where a change takes place, found by notes: the nodes that give way, their octets, and the lists around them.
use Rattle.std.specs.Prelude.{ℕ, zero, suc, ◌+◌, ◌-◌, ◌≤◌, ◌<◌, ◌≡◌, Bool, true, false, not, List, take, ltb, Option, Some, None, Result, Ok, Err}
use Rattle.std.proofs.Math.Option.{none, some}
use Rattle.base.specs.Choice.{pick, is_none}
use Rattle.model.specs.Tree.{Tree, nodes}
use Rattle.model.specs.Table.{rows, row_of}
use Rattle.model.specs.Limits.{most_nodes}
use Rattle.model.specs.Answers.{own_tree, unchanged_at}
use Rattle.sheets.specs.Places.{shift}
use Rattle.tables.specs.Told.{row_at, Readable, Holds}
use Rattle.edits.specs.Levels.{holders}
use Rattle.edits.specs.Element.{element, placed, place_octet}
use Rattle.edits.specs.Moves.{Change}
use Rattle.plan.specs.Asked.{changed, given, node_of, placeless, change_tree}
use Rattle.plan.specs.declared.Asked.{Asked}
use Rattle.plan.specs.declared.Spot.{Spot}
use Rattle.answers.specs.Refusals.{number_of, place_in}
use Rattle.answers.specs.declared.refusal.Refusal.{Refusal}
use Rattle.answers.specs.declared.refusal.Refusal.TheVariants.{NoNode, NoPlace}

abbrev pub Found : Type 0
Found = Result Spot Refusal

abbrev pub found : ℕ → ℕ → ℕ → ℕ → ℕ → Found
found first n start end level = Ok (record { first = first; count = n; start = start; end = end; level = level })

-- ---- a node

-- the notes before a node are there
pub record Recorded (room node : ℕ) : Type 0 where
  pub few : node ≤ most_nodes
  pub fits : node ≤ room

-- of n notes from note j on, those that count node k among theirs, onto a number of them
unfoldable pub levels : List ℕ → ℕ → ℕ → ℕ → ℕ → ℕ
levels notes k zero j level = level
levels notes k (suc n) j level = levels notes k n (suc j) (pick (ltb (k - j) (row_at notes j).count) (level + 1) level)

pub record Levels (notes : List ℕ) (node level : ℕ) : Type 0 where
  pub is : level ≡ levels notes node node 0 0
  pub few : level ≤ node

-- node k of a tree stands from `start` to `end`, has n nodes, and so many lists are around it
pub record NodeAt (start end n level : ℕ) (t : Tree) (k : ℕ) : Type 0 where
  pub begins : start ≡ (row_of t k).start
  pub ends : end ≡ (row_of t k).end
  pub has : n ≡ (row_of t k).count
  pub lies : level ≡ holders (take k (rows t 0)) 0 k
  pub low : level ≤ k

-- the notes of a sheet, which fits
pub record Kept (notes : List ℕ) (count : ℕ) : Type 0 where
  pub tree : Tree
  pub held : Holds notes count tree
  pub few : count ≤ most_nodes

-- the node is told, in every tree that has these notes
pub record EntryAt (notes : List ℕ) (count node first n start end level : ℕ) : Type 0 where
  pub is : first ≡ node
  pub inside : node < count
  pub at : (t : Tree) → Holds notes count t → NodeAt start end n level t node

-- or there is none
pub record NoEntry (count node : ℕ) (f : Refusal) : Type 0 where
  pub row : f ≡ NoNode
  pub beyond : count ≤ node

unfoldable pub Entry : List ℕ → ℕ → ℕ → Found → Type 0
Entry notes count node (Ok s) = EntryAt notes count node s.first s.count s.start s.end s.level
Entry notes count node (Err f) = NoEntry count node f

-- ---- the k-th element of a list

-- how many nodes a note tells
pub record Counts (notes : List ℕ) (node r : ℕ) : Type 0 where
  pub is : r ≡ (row_at notes node).count
  pub few : r ≤ shift

-- the notes up to one are there
pub record Hoppable (room end from : ℕ) : Type 0 where
  pub fits : end ≤ room
  pub few : end ≤ most_nodes
  pub near : from ≤ end

-- over k elements from one on, the node that is reached before the list ends
unfoldable pub Hops : List ℕ → ℕ → ℕ → ℕ → Option ℕ → Type 0
Hops notes end k from (Some j) = element (row_at notes) end k from ≡ some j
Hops notes end k from None = element (row_at notes) end k from ≡ none

-- the note of the element, if there is one
pub record Shown (notes : List ℕ) (first end : ℕ) : Type 0 where
  pub readable : first < end → Readable notes first

-- its place, of no nodes and no octets
pub record SlotAt (notes : List ℕ) (count node k first n start end level : ℕ) : Type 0 where
  pub is : placed (row_at notes) node k ≡ some first
  pub none : n ≡ 0
  pub empty : end ≡ start
  pub begins : start ≡ place_octet (row_at notes) node first
  pub lies : (t : Tree) → Holds notes count t → level ≡ holders (take node (rows t 0)) 0 node + 1
  pub low : level ≤ node + 1

-- or there is none
pub record NoSlot (notes : List ℕ) (node k : ℕ) (f : Refusal) : Type 0 where
  pub row : f ≡ NoPlace
  pub is : placed (row_at notes) node k ≡ none

unfoldable pub Slot : List ℕ → ℕ → ℕ → ℕ → Found → Type 0
Slot notes count node k (Ok s) = SlotAt notes count node k s.first s.count s.start s.end s.level
Slot notes count node k (Err f) = NoSlot notes node k f

-- ---- the spot of a change

-- n nodes from the first on, the octets from `start` to `end`, give way, under so many lists
pub record SpotOf (first n start end level : ℕ) (a : Asked) (t : Tree) : Type 0 where
  pub ordered : start ≤ end
  pub low : level ≤ nodes t
  pub change : (u : Tree) → Change t (changed a t u) first n start (end - start) level (given a u)

-- it is told, in every tree that has these notes
pub record Finding (notes : List ℕ) (count : ℕ) (own : Bool) (a : Asked) (first n start end level : ℕ) : Type 0 where
  pub good : own ≡ true
  pub inside : node_of a < count
  pub has : (t : Tree) → Holds notes count t → placeless a t ≡ false
  pub spot : (t : Tree) → Holds notes count t → SpotOf first n start end level a t

-- row 7, 8 or 9 applies, whatever is put in, to every sheet with these notes
pub record Refusing (notes : List ℕ) (count : ℕ) (own : Bool) (a : Asked) (f : Refusal) : Type 0 where
  pub is : (c : List ℕ) (len : ℕ) (table : List ℕ) → own ≡ not (is_none (own_tree c len table count))
      → ((t : Tree) → own_tree c len table count ≡ some t → Holds notes count t)
      → (u : Tree) → change_tree a (some u) c len table count ≡ unchanged_at (number_of f) (place_in f) c table

unfoldable pub Finds : List ℕ → ℕ → Bool → Asked → Found → Type 0
Finds notes count own a (Ok s) = Finding notes count own a s.first s.count s.start s.end s.level
Finds notes count own a (Err f) = Refusing notes count own a f

pub record Findable (notes : List ℕ) (count : ℕ) (own : Bool) : Type 0 where
  pub kept : own ≡ true → Kept notes count
