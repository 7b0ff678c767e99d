-- The row that a note tells; the notes of a tree, and the table that they tell.
use Rattle.std.specs.Prelude.{ℕ, ◌+◌, ◌*◌, ◌-◌, ◌/◌, ◌%◌, ◌≤◌, ◌<◌, ◌≡◌, List, length, take, get_or, ltb, eqb}
use Rattle.std.proofs.lemmas.List.Edits.{sets}
use Rattle.base.specs.Choice.{pick}
use Rattle.model.specs.Limits.{max_source}
use Rattle.model.specs.Table.{Row, width, plain_row, hinted_row, list_row, table_of}
use Rattle.model.specs.Tree.{Tree, digits, canon, nodes}
use Rattle.sheets.specs.Places.{shift}
use Rattle.sheets.specs.Notes.{list_mark, noted}

-- ---- a note's row: a string begins its digits and a colon before its octets

abbrev pub plain_by : ℕ → ℕ → Row
plain_by a b = plain_row (a - length (digits (b - a)) - 1) a b

abbrev pub list_by : ℕ → ℕ → ℕ → Row
list_by a b n = list_row (a - 1) (b + 1) n

-- a bracket, digits and a colon stand between a hint and the octets
abbrev pub hint_end_by : ℕ → ℕ → ℕ
hint_end_by a b = a - length (digits (b - a)) - 2

abbrev pub hinted_by : ℕ → ℕ → ℕ → ℕ → Row
hinted_by a b x y = hinted_row (x - length (digits (y - x)) - 2) x y a b

unfoldable pub row_by : ℕ → ℕ → ℕ → Row
row_by a b x = pick (eqb x 0) (plain_by a b) (pick (ltb x list_mark) (hinted_by a b x (hint_end_by a b)) (list_by a b (x - list_mark)))

-- ---- what a note must be like, so that no difference is below 0

pub record PlainNote (a b : ℕ) : Type 0 where
  pub bodied : a ≤ b
  pub ends : b ≤ max_source
  pub begins : length (digits (b - a)) + 1 ≤ a

pub record ListNote (a b n : ℕ) : Type 0 where
  pub begins : 1 ≤ a
  pub bodied : a ≤ b + 1
  pub ends : b + 1 ≤ max_source
  pub counted : n ≤ max_source

-- octets with a hint before them
pub record TailNote (a b : ℕ) : Type 0 where
  pub bodied : a ≤ b
  pub ends : b ≤ max_source
  pub begins : length (digits (b - a)) + 2 ≤ a

pub record HintNote (a b x y : ℕ) : Type 0 where
  pub begins : length (digits (y - x)) + 2 ≤ x
  pub hinted : x ≤ y
  pub follows : y ≤ a
  pub bodied : a ≤ b
  pub ends : b ≤ max_source

pub record HintedNote (a b x : ℕ) : Type 0 where
  pub tail : TailNote a b
  pub hint : HintNote a b x (hint_end_by a b)

unfoldable pub Sound : ℕ → ℕ → ℕ → Type 0
Sound a b x = pick (eqb x 0) (PlainNote a b) (pick (ltb x list_mark) (HintedNote a b x) (ListNote a b (x - list_mark)))

-- ---- the notes that are lent

abbrev pub start_part : ℕ → ℕ
start_part m = m / shift % shift

abbrev pub end_part : ℕ → ℕ
end_part m = m % shift

abbrev pub third_part : ℕ → ℕ
third_part m = m / shift / shift % shift

abbrev pub parent_part : ℕ → ℕ
parent_part m = m / shift / shift / shift % shift

abbrev pub row_at : List ℕ → ℕ → Row
row_at notes k = row_by (start_part (get_or notes k 0)) (end_part (get_or notes k 0)) (third_part (get_or notes k 0))

pub record Readable (notes : List ℕ) (k : ℕ) : Type 0 where
  pub inside : k < length notes
  pub sound : Sound (start_part (get_or notes k 0)) (end_part (get_or notes k 0)) (third_part (get_or notes k 0))

-- a node is noted, and n is a count that more than a string has
pub record Countable (room k n : ℕ) : Type 0 where
  pub inside : k < room
  pub some : 0 < n
  pub few : n ≤ max_source

-- the first n notes are those of a tree
pub record Holds (notes : List ℕ) (n : ℕ) (t : Tree) : Type 0 where
  pub counted : n ≡ nodes t
  pub kept : take n notes ≡ noted t
  pub short : length (canon t) ≤ max_source

-- the first n notes are those of some tree, and its records have room
pub record Fillable (notes : List ℕ) (n room : ℕ) : Type 0 where
  pub tree : Tree
  pub held : Holds notes n tree
  pub fits : width * n ≤ room

-- the tree's table was written from the front
pub record Filled (notes : List ℕ) (n : ℕ) (before after : List ℕ) : Type 0 where
  pub fills : (t : Tree) → Holds notes n t → after ≡ sets before 0 (table_of t)
