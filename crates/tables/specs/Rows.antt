-- A record as the code has it.
use Rattle.std.specs.Prelude.{ℕ, ◌+◌, ◌*◌, ◌<◌, ◌≡◌, List, [], ◌∷◌, ◌++◌, get_or}
use Rattle.model.specs.Table.{width, row_numbers}
use Rattle.tables.specs.declared.rows.Row.{Row}

abbrev pub row_list : Row → List ℕ
row_list r = r.kind ∷ r.start ∷ r.end ∷ r.nodes ∷ r.hint_start ∷ r.hint_end ∷ r.data_start ∷ r.data_end ∷ []

-- with the number of the list around it
abbrev pub record_list : Row → ℕ → List ℕ
record_list r up = row_list r ++ (up ∷ [])

-- it has the numbers of the model's row
abbrev pub RowIs : Row → Rattle.model.specs.Table.Row → Type 0
RowIs r row = row_list r ≡ row_numbers row

-- it has the first eight numbers of a node's record in a table
pub record RowAt (table : List ℕ) (node : ℕ) (r : Row) : Type 0 where
  pub is : (i : ℕ) → i < 8 → get_or (row_list r) i 0 ≡ get_or table (node * width + i) 0
