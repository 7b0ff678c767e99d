-- Notes where nodes move, and the lists around grow.
use Rattle.std.specs.Prelude.{ℕ, ◌+◌, ◌*◌, ◌-◌, ◌/◌, ◌≤◌, ◌<◌, ◌≡◌, Bool, true, false, List, length, get_or, eqb, ltb, leb}
use Rattle.std.proofs.Math.Option.{some}
use Rattle.base.specs.Choice.{pick}
use Rattle.model.specs.Decode.{decode₁}
use Rattle.model.specs.Limits.{max_depth, most_nodes, max_source, max_canonical}
use Rattle.model.specs.Tree.{Tree, nodes, depth}
use Rattle.sheets.specs.Notes.{list_mark, noted}
use Rattle.sheets.specs.Places.{shift}
use Rattle.tables.specs.Told.{end_part, third_part}
use Rattle.edits.specs.Levels.{latest}
use Rattle.splice.specs.declared.notes.Growth.{Growth}

-- ---- one note

-- what a note grows by where its data move by one octet; where its hint does besides, or its list has one node more; and where the list
-- around it has the next number
abbrev pub span : ℕ
span = shift + 1

abbrev pub third : ℕ
third = shift * shift

abbrev pub top : ℕ
top = shift * shift * shift

-- so small that a note and what it grows by fit 64 bits
abbrev pub roomy : ℕ
roomy = 16384 * top

-- the note of a node whose data move by l' less l, and that of one whose hint does besides
abbrev pub plainly : ℕ → ℕ → ℕ → ℕ
plainly m l l' = m + l' * span - l * span

abbrev pub hintedly : ℕ → ℕ → ℕ → ℕ
hintedly m l l' = plainly m l l' + l' * third - l * third

unfoldable pub moved_note : ℕ → ℕ → ℕ → ℕ
moved_note m l l' = pick (eqb (third_part m) 0) (plainly m l l') (pick (ltb (third_part m) list_mark) (hintedly m l l') (plainly m l l'))

-- S 15.6: that of a node behind a spot that begins at node k; the list around it keeps its number where it begins before the spot
unfoldable pub later_note : ℕ → ℕ → Growth → ℕ
later_note m k b = pick (ltb (m / top) k) (moved_note m b.old b.len) (moved_note m b.old b.len + b.count * top - b.held * top)

-- that of a node that comes, where its tree comes to stand at `start` and the number of the list around it grows by `up`
unfoldable pub own_note : ℕ → ℕ → ℕ → ℕ
own_note m start up = moved_note m 0 start + up * top

-- S 15.5: whether a node before a spot that ends at e is a list around it
unfoldable pub list_over : ℕ → ℕ → Bool
list_over m e = pick (ltb (third_part m) list_mark) false (leb e (end_part m))

-- its note then
abbrev pub grown_note : ℕ → Growth → ℕ
grown_note m b = m + (b.len + b.count * third) - (b.old + b.held * third)

-- S 15.5, earlier records: they stay, or are those of the lists around
unfoldable pub kept_note : ℕ → ℕ → Growth → ℕ
kept_note m e b = pick (list_over m e) (grown_note m b) m

-- both are sheets
pub record Fit (b : Growth) : Type 0 where
  pub short : (b.old ≤ max_canonical) × (b.len ≤ max_canonical)
  pub few : (b.held ≤ most_nodes) × (b.count ≤ most_nodes)

-- no difference is below 0
pub record Moving (m l l' : ℕ) : Type 0 where
  pub small : m < roomy
  pub short : (l ≤ max_source) × (l' ≤ max_source)
  pub low : l * span ≤ m + l' * span
  pub hinted : (third_part m ≡ 0 → ⊥) → third_part m < list_mark → l * third ≤ plainly m l l' + l' * third

pub record Later (m k : ℕ) (b : Growth) : Type 0 where
  pub fit : Fit b
  pub moving : Moving m b.old b.len
  pub low : k ≤ m / top → b.held * top ≤ moved_note m b.old b.len + b.count * top

pub record Owning (m start up : ℕ) : Type 0 where
  pub small : m < roomy
  pub short : start ≤ max_source
  pub few : up ≤ most_nodes

pub record Growing (m : ℕ) (b : Growth) : Type 0 where
  pub fit : Fit b
  pub small : m < roomy
  pub low : b.old + b.held * third ≤ m + (b.len + b.count * third)

-- ---- the notes before a spot

abbrev pub over_at : List ℕ → ℕ → ℕ → Bool
over_at notes e i = list_over (get_or notes i 0) e

pub record Growable (notes : List ℕ) (first e : ℕ) (b : Growth) : Type 0 where
  pub fits : first ≤ length notes
  pub each : (i : ℕ) → i < first → over_at notes e i ≡ true → Growing (get_or notes i 0) b

-- those before j are done
pub record Growths (notes : List ℕ) (e : ℕ) (b : Growth) (j : ℕ) (after : List ℕ) : Type 0 where
  pub long : length after ≡ length notes
  pub done : (i : ℕ) → i < j → get_or after i 0 ≡ kept_note (get_or notes i 0) e b
  pub rest : (i : ℕ) → j ≤ i → get_or after i 0 ≡ get_or notes i 0

-- the innermost list around is told
pub record Grown (notes : List ℕ) (first e : ℕ) (b : Growth) (after : List ℕ) (up : ℕ) : Type 0 where
  pub grew : Growths notes e b first after
  pub inner : up ≡ latest (over_at notes e) first 0 0
  pub near : up ≤ first

-- ---- n notes behind it

pub record Shiftable (notes : List ℕ) (first from to n : ℕ) (b : Growth) : Type 0 where
  pub was : from + n ≤ length notes
  pub fits : to + n ≤ length notes
  pub each : (i : ℕ) → i < n → Later (get_or notes (from + i) 0) first b

pub record Shifted (notes : List ℕ) (first from to n : ℕ) (b : Growth) (after : List ℕ) : Type 0 where
  pub long : length after ≡ length notes
  pub before : (i : ℕ) → i < from → i < to → get_or after i 0 ≡ get_or notes i 0
  pub done : (i : ℕ) → i < n → get_or after (to + i) 0 ≡ later_note (get_or notes (from + i) 0) first b

-- ---- the notes of what comes

-- the first node stands in the list `up`, and the others have parents of their own tree
abbrev pub own_at : List ℕ → ℕ → ℕ → ℕ → ℕ → ℕ
own_at notes start first up i = own_note (get_or notes i 0) start (pick (eqb i 0) up first)

pub record Puttable (notes : List ℕ) (start first up : ℕ) : Type 0 where
  pub small : (i : ℕ) → i < length notes → get_or notes i 0 < roomy
  pub short : start ≤ max_source
  pub few : (first ≤ most_nodes) × (up ≤ most_nodes)

pub record Put (notes : List ℕ) (start first up : ℕ) (after : List ℕ) : Type 0 where
  pub long : length after ≡ length notes
  pub done : (i : ℕ) → i < length notes → get_or after i 0 ≡ own_at notes start first up i

-- the octets of a tree of n nodes
pub record Coming (octets : List ℕ) (n : ℕ) (t : Tree) : Type 0 where
  pub is : decode₁ octets ≡ some t
  pub deep : depth t ≤ max_depth
  pub counted : n ≡ nodes t

pub record Comes (octets : List ℕ) (n : ℕ) : Type 0 where
  pub tree : Tree
  pub is : Coming octets n tree

pub record Enterable (octets : List ℕ) (n start first up : ℕ) : Type 0 where
  pub comes : 0 < n → Comes octets n
  pub few : (n ≤ most_nodes) × (first ≤ most_nodes) × (up ≤ most_nodes)
  pub long : length octets ≤ max_source
  pub short : start ≤ max_source

pub record Entered (octets : List ℕ) (n start first up : ℕ) (after : List ℕ) : Type 0 where
  pub long : length after ≡ n
  pub done : (t : Tree) → Coming octets n t → (i : ℕ) → i < n → get_or after i 0 ≡ own_at (noted t) start first up i
