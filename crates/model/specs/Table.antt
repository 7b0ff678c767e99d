-- The node table (S 4).
use Rattle.std.specs.Prelude.{ℕ, ◌+◌, ◌-◌, ◌/◌, List, [], ◌∷◌, ◌++◌, length, get_or}
use Rattle.model.specs.Tree.{Tree, plain, hinted, list, Forest, nil, cons, digits, verbatim, canon, nodes}

-- S 4.1: eight numbers of a record; the ninth, its parent, is said beside them (`parents`)
pub record Row : Type 0 where
  -- 0 string, 1 string with hint, 2 list
  pub kind : ℕ
  pub start : ℕ
  -- one past
  pub end : ℕ
  -- nodes in it counting itself
  pub count : ℕ
  pub hint_start : ℕ
  pub hint_end : ℕ
  pub data_start : ℕ
  pub data_end : ℕ

-- S 4.3: how many numbers a record has in a table that is lent flat
abbrev pub width : ℕ
width = 9

abbrev pub row_numbers : Row → List ℕ
row_numbers r = r.kind ∷ r.start ∷ r.end ∷ r.count ∷ r.hint_start ∷ r.hint_end ∷ r.data_start ∷ r.data_end ∷ []

-- S 4.2: no hint, and 0 for its two numbers
abbrev pub plain_row : ℕ → ℕ → ℕ → Row
plain_row at a e = record { kind = 0; start = at; end = e; count = 1; hint_start = 0; hint_end = 0; data_start = a; data_end = e }

abbrev pub hinted_row : ℕ → ℕ → ℕ → ℕ → ℕ → Row
hinted_row at hs he a e = record { kind = 1; start = at; end = e; count = 1; hint_start = hs; hint_end = he; data_start = a; data_end = e }

-- S 4.2: the data of a list is all inside its parentheses
abbrev pub list_row : ℕ → ℕ → ℕ → Row
list_row at e n = record { kind = 2; start = at; end = e; count = n; hint_start = 0; hint_end = 0; data_start = at + 1; data_end = e - 1 }

-- where the octets of a verbatim string begin, and where they end
abbrev pub body_start : ℕ → List ℕ → ℕ
body_start at d = at + length (digits (length d)) + 1

abbrev pub body_end : ℕ → List ℕ → ℕ
body_end at d = at + length (verbatim d)

-- S 1.3, in the order in which nodes begin: the rows of a tree whose canonical octets begin at a place
unfoldable mutual
  pub rows : Tree → ℕ → List Row
  rows (plain d) at = plain_row at (body_start at d) (body_end at d) ∷ []
  rows (hinted h d) at =
      hinted_row at (body_start (at + 1) h) (body_end (at + 1) h) (body_start (body_end (at + 1) h + 1) d) (body_end (body_end (at + 1) h + 1) d) ∷ []
  rows (list f) at = list_row at (at + length (canon (list f))) (nodes (list f)) ∷ rowss f (at + 1)

  pub rowss : Forest → ℕ → List Row
  rowss nil at = []
  rowss (cons t f) at = rows t at ++ rowss f (at + length (canon t))

-- S 4.1, the number of the list directly around a node, and 0 for node 0: those of a tree whose own number is the first one, and that
-- stands in the list of the second
unfoldable mutual
  pub parents : Tree → ℕ → ℕ → List ℕ
  parents (plain d) own up = up ∷ []
  parents (hinted h d) own up = up ∷ []
  parents (list f) own up = up ∷ parentss f (own + 1) own

  pub parentss : Forest → ℕ → ℕ → List ℕ
  parentss nil own up = []
  parentss (cons t f) own up = parents t own up ++ parentss f (own + nodes t) up

-- a record as nine numbers
abbrev pub recorded : Row → ℕ → List ℕ
recorded r up = row_numbers r ++ (up ∷ [])

-- S 4.3, a table as numbers: rows, each with its parent (there are as many)
unfoldable pub flat : List Row → List ℕ → List ℕ
flat [] ps = []
flat (r ∷ rs) [] = recorded r 0 ++ flat rs []
flat (r ∷ rs) (p ∷ ps) = recorded r p ++ flat rs ps

-- a tree's table; offsets are into its canonical form
unfoldable pub table_of : Tree → List ℕ
table_of t = flat (rows t 0) (parents t 0 0)

-- the row of a node, by its number
abbrev pub row_of : Tree → ℕ → Row
row_of t node = get_or (rows t 0) node (plain_row 0 0 0)

-- the number of the list directly around a node
abbrev pub parent_of : Tree → ℕ → ℕ
parent_of t node = get_or (parents t 0 0) node 0

-- S 4.3, a remainder is never touched: how many records a table of so many numbers has
abbrev pub records : List ℕ → ℕ
records table = length table / width
