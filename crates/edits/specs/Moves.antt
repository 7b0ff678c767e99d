-- What a change at one place does to a tree's octets, node count and records: one notion for every edit of a tree.
use Rattle.std.specs.Prelude.{ℕ, ◌+◌, ◌≤◌, ◌≡◌, ◌++◌, map, length, take, drop}
use Rattle.model.specs.Table.{Row, rows, rowss}
use Rattle.model.specs.Tree.{Tree, Forest, canon, canons, nodes, nodess}
use Rattle.model.specs.Edit.{one}
use Rattle.edits.specs.Place.{Place, fill, before, number, level, moved, kept}

-- the one notion of a change, for replacing, inserting and removing alike: t' is t, where what stood at a place has given way to the
-- forest g. At it stood n nodes from node k on, l octets from octet s on, in d lists
pub record Change (t t' : Tree) (k n s l d : ℕ) (g : Forest) : Type 0 where
  pub place : Place
  pub old : Forest
  pub was : one t ≡ fill place old
  pub is : one t' ≡ fill place g
  pub at : number place ≡ k
  pub some : nodess old ≡ n
  pub start : length (before place) ≡ s
  pub long : length (canons old) ≡ l
  pub deep : level place ≡ d

-- t' is t, where the n nodes from node k on, which are the l octets from octet s on, have given way to the forest g
pub record Moves (t t' : Tree) (k n s l : ℕ) (g : Forest) : Type 0 where
  pub nodes_in : k + n ≤ nodes t
  pub octets_in : s + l ≤ length (canon t)
  -- S 15.4: octets before the start and from the end on
  pub octets : canon t' ≡ take s (canon t) ++ (canons g ++ drop (s + l) (canon t))
  pub count : nodes t' + n ≡ nodes t + nodess g
  pub table : rows t' 0 ≡ map (kept s l (length (canons g)) n (nodess g)) (take k (rows t 0)) ++ (rowss g s ++ map (moved l (length (canons g))) (drop (k + n) (rows t 0)))

-- S 15.5: the record of a list around, where the octets grow from l to l' and the nodes from n to n'
pub record Grows (r r' : Row) (l l' n n' : ℕ) : Type 0 where
  pub kind : r'.kind ≡ r.kind
  pub start : r'.start ≡ r.start
  pub hint_start : r'.hint_start ≡ r.hint_start
  pub hint_end : r'.hint_end ≡ r.hint_end
  pub data_start : r'.data_start ≡ r.data_start
  pub end : r'.end + l ≡ r.end + l'
  pub data_end : r'.data_end + l ≡ r.data_end + l'
  pub count : r'.count + n ≡ r.count + n'

-- S 15.6: the record of a node behind the entry, where the octets grow from l to l'. Without a hint both hint numbers are 0 (S 4.2), so
-- these move only where there is a hint
pub record Shifts (r r' : Row) (l l' : ℕ) : Type 0 where
  pub kind : r'.kind ≡ r.kind
  pub count : r'.count ≡ r.count
  pub start : r'.start + l ≡ r.start + l'
  pub end : r'.end + l ≡ r.end + l'
  pub data_start : r'.data_start + l ≡ r.data_start + l'
  pub data_end : r'.data_end + l ≡ r.data_end + l'
  pub with_hint : r.kind ≡ 1 → (r'.hint_start + l ≡ r.hint_start + l') × (r'.hint_end + l ≡ r.hint_end + l')
  pub without_hint : (r.kind ≡ 1 → ⊥) → (r'.hint_start ≡ r.hint_start) × (r'.hint_end ≡ r.hint_end)
