-- The numbers of a record.
use Prim.Native.Nat.{ℕ, ◌+◌, ◌*◌, ◌≤◌, ◌<◌}
use native.Mathlib.Omega.{arith}
use mathlib.Core.Path.{◌≡◌, ap, ◌∙◌}
use mathlib.Core.List.{List}
use lib.ListN.{length, drop, get_or, length-drop}
use lib.Seq.{get_or-take, get_or-drop, length-take-le}
use Rattle.model.specs.Table.{width}
use Rattle.walk.specs.Events.{record_at}

-- the k-th number of a record
pub record-at : (table : List ℕ) (n k : ℕ) → k < 9 → get_or (record_at table n) k 0 ≡ get_or table (n * 9 + k) 0
record-at table n k h =
    let e : 9 * n + k ≡ n * 9 + k = omega arith in
    get_or-take 9 (drop (9 * n) table) k 0 h ∙ get_or-drop (9 * n) table k 0 ∙ ap (λ (i : ℕ). get_or table i 0) e

pub record-length : (table : List ℕ) (n : ℕ) → width * (n + 1) ≤ length table → length (record_at table n) ≡ 9
record-length table n h = length-take-le 9 (drop (9 * n) table) (omega (arith, length-drop (9 * n) table))
