-- A sheet and its records gone through one record at a time: each claims a note, and once all have, the octets bear the notes out or don't.
use Rattle.std.specs.Prelude.{ℕ, ◌+◌, ◌*◌, ◌≤◌, ◌<◌, ◌≡◌, Bool, true, false, not, List, length, take, get_or, eqb}
use Rattle.std.proofs.Math.Option.{some}
use Rattle.base.specs.Choice.{pick, is_none}
use Rattle.model.specs.Answers.{own_tree}
use Rattle.model.specs.Decode.{decode₁}
use Rattle.model.specs.Limits.{most_nodes, max_canonical, max_depth}
use Rattle.model.specs.Table.{width, table_of, records}
use Rattle.model.specs.Tree.{Tree, nodes, depth}
use Rattle.walk.specs.Events.{record_at}
use Rattle.tables.specs.Claimed.{record_by, Claim}
use Rattle.tables.specs.Told.{Holds}
use Rattle.lookup.specs.Noted.{Owned}

-- the number of the record that is next
abbrev pub node_of : ℕ → ℕ
node_of s = s

-- octets and records are lent for a sheet of these sizes, and e is the state past its n nodes
pub record Sized (octets len room n e : ℕ) : Type 0 where
  pub is : e ≡ n
  pub lent : len ≤ octets
  pub short : len ≤ max_canonical
  pub long : 0 < len
  pub few : n ≤ most_nodes
  pub recorded : n ≤ room

-- 0 where no such sheet has its own records here
pub record Bounded (octets len room n e : ℕ) : Type 0 where
  pub some : (e ≡ 0 → ⊥) → Sized octets len room n e
  pub none : e ≡ 0 → (c table : List ℕ) → length c ≡ octets → records table ≡ room → false ≡ not (is_none (own_tree c len table n))

-- S 1.4, by the state s at which a sheet's records are gone through: all claimed a note, and the octets bear them out
unfoldable pub answers : ℕ → ℕ → ℕ → Bool
answers e len s = pick (eqb e 0) false (eqb s (e + len))

-- ---- octets and a table, judged

-- S 1.4: the octets are a tree's canonical form, within the depth, n is its node count, and the first n records are its table
pub record OwnTable (src table : List ℕ) (n : ℕ) (t : Tree) : Type 0 where
  pub is : decode₁ src ≡ some t
  pub deep : depth t ≤ max_depth
  pub counted : n ≡ nodes t
  pub same : take (width * n) table ≡ table_of t

pub record Borne (src table : List ℕ) (n : ℕ) (notes : List ℕ) : Type 0 where
  pub tree : Tree
  pub own : OwnTable src table n tree
  pub held : Holds notes n tree

-- whether it is so; where it is, these are the tree's notes
pub record Judged (src table : List ℕ) (n : ℕ) (notes : List ℕ) (r : Bool) : Type 0 where
  pub yes : r ≡ true → Borne src table n notes
  pub no : r ≡ false → (t : Tree) → OwnTable src table n t → ⊥

-- ---- a record more

-- the first k records claim these notes
abbrev pub Claims : List ℕ → List ℕ → ℕ → Type 0
Claims table notes k = (i : ℕ) → i < k → Claim (record_at table i) (get_or notes i 0)

-- the state of a record that claims none
abbrev pub lost : ℕ
lost = 18446744073709551615

-- (of the record r nothing is asked: any may come)
pub record Turnable (c : List ℕ) (len : ℕ) (r : List ℕ) (n : ℕ) (notes : List ℕ) (s : ℕ) : Type 0 where
  pub lent : len ≤ length c
  pub short : len ≤ max_canonical
  pub some : s < n
  pub few : n ≤ most_nodes
  pub fits : n ≤ length notes
  pub claimed : (i : ℕ) → i < s → Claim (record_by (get_or notes i 0)) (get_or notes i 0)

-- in every table of which r is the next record: its note is kept, or it is known whether the table is the sheet's own
pub record Turned (c : List ℕ) (len : ℕ) (r : List ℕ) (n : ℕ) (notes : List ℕ) (s : ℕ) (notes' : List ℕ) (s' : ℕ) : Type 0 where
  pub further : s < s'
  pub low : s' < n → (table : List ℕ) → record_at table s ≡ r → Claims table notes s → Claims table notes' s'
  pub high : n ≤ s' → (table : List ℕ) → width * n ≤ length table → record_at table s ≡ r → Claims table notes s → Judged (take len c) table n notes' (eqb s' (n + len))

-- the note m is one that a record can claim
pub record Passable (c : List ℕ) (len n : ℕ) (notes : List ℕ) (m s : ℕ) : Type 0 where
  pub r : List ℕ
  pub ready : Turnable c len r n notes s
  pub claimed : Claim r m

-- for every record that claims it
pub record Passed (c : List ℕ) (len n : ℕ) (notes : List ℕ) (m s : ℕ) (notes' : List ℕ) (s' : ℕ) : Type 0 where
  pub on : (r : List ℕ) → Claim r m → Turned c len r n notes s notes' s'

pub record Low (c : List ℕ) (len : ℕ) (table : List ℕ) (n e : ℕ) (notes : List ℕ) (s : ℕ) : Type 0 where
  pub sized : Sized (length c) len (records table) n e
  pub fits : n ≤ length notes
  pub claims : Claims table notes s

-- a record is to come, or it is known whether the table is the sheet's own
pub record Goes (c : List ℕ) (len : ℕ) (table : List ℕ) (n e : ℕ) (notes : List ℕ) (s : ℕ) : Type 0 where
  pub low : s < e → Low c len table n e notes s
  pub high : e ≤ s → Owned c len table n notes (answers e len s)
