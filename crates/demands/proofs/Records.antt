-- The record of a node in a lent table.
use Prim.Native.Nat.{ℕ, zero, suc, ◌+◌, ◌*◌, ◌≤◌, ◌<◌}
use native.Mathlib.Omega.{arith}
use mathlib.Core.Path.{◌≡◌, refl, sym, ap, ◌∙◌}
use mathlib.Core.List.{List, [], ◌∷◌, ◌++◌}
use lib.ListN.{length, take, drop, get_or, length-drop, take-append-drop}
use lib.Seq.{take-append-le, drop-append-le}
use Rattle.model.specs.Table.{Row, width, recorded, plain_row, rows, parents, flat, table_of, row_of, parent_of}
use Rattle.model.specs.Tree.{Tree, nodes}
use Rattle.walk.proofs.Tabled.{rows-length, table-length}
use Rattle.demands.specs.Conditions.{record_at}

nine-more : (k : ℕ) → width * suc k ≡ suc (suc (suc (suc (suc (suc (suc (suc (suc (width * k)))))))))
nine-more k = omega arith

flat-record : (rs : List Row) (ps : List ℕ) (j : ℕ) → j < length rs → record_at (flat rs ps) j ≡ recorded (get_or rs j (plain_row 0 0 0)) (get_or ps j 0)
unfolding flat record_at
flat-record [] ps j h = absurd (omega arith)
flat-record (r ∷ rs) [] zero h = refl
flat-record (r ∷ rs) (p ∷ ps) zero h = refl
flat-record (r ∷ rs) [] (suc j) h = rw (nine-more j) (flat-record rs [] j (omega arith))
flat-record (r ∷ rs) (p ∷ ps) (suc j) h = rw (nine-more j) (flat-record rs ps j (omega arith))

-- a lent table that begins with a tree's records has each of them
pub record_of : (t : Tree) (table : List ℕ) (m j : ℕ) → take m table ≡ table_of t → j < nodes t → record_at table j ≡ recorded (row_of t j) (parent_of t j)
unfolding table_of record_at
record_of t table m j e h =
    let a : table ≡ table_of t ++ drop m table = sym (take-append-drop m table) ∙ ap (λ (l : List ℕ). l ++ drop m table) e in
    let b : width * j + width ≤ length (table_of t) = omega (arith, table-length t) in
    ap (λ (l : List ℕ). record_at l j) a
    ∙ ap (take width) (drop-append-le (width * j) (table_of t) (drop m table) (omega arith))
    ∙ take-append-le width (drop (width * j) (table_of t)) (drop m table) (omega (arith, length-drop (width * j) (table_of t)))
    ∙ flat-record (rows t 0) (parents t 0 0) j (omega (arith, rows-length t 0))
