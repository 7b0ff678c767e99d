-- The lists around a node, counted in a table, for the depth of a corrected tree (S 8.3: row 4 is of that tree).
use Rattle.std.specs.Prelude.{ℕ, zero, suc, ◌+◌, Bool, List, [], ◌∷◌, ltb}
use Rattle.base.specs.Choice.{pick}
use Rattle.model.specs.Table.{Row}

-- of rows that are numbered from i on, how many count node k among theirs
unfoldable pub holders : List Row → ℕ → ℕ → ℕ
holders [] i k = 0
holders (r ∷ rs) i k = pick (ltb k (i + r.count)) 1 0 + holders rs (suc i) k

-- of n places from j on, the last at which a test holds, and `up` where it holds at none: of the nodes before a place, the list directly
-- around it (S 4.1)
unfoldable pub latest : (ℕ → Bool) → ℕ → ℕ → ℕ → ℕ
latest f zero j up = up
latest f (suc n) j up = latest f n (suc j) (pick (f j) j up)
