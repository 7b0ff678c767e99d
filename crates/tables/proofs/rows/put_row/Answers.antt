use Prim.Native.Nat.{ℕ, ◌*◌}
use native.Mathlib.Omega.{arith}
use mathlib.Core.Path.{◌≡◌, ap, ◌∙◌}
use lib.ListN.{length-set}
use lib.Seq.{sets}
use Rattle.base.proofs.Stores.{stores-9}
use Rattle.tables.specs.Rows.{record_list}
use Rattle.tables.proofs.rows.put_row.Goals as goal

pub bounds-table-at-2 : goal.bounds-table-at-2
bounds-table-at-2 c = simp length-set (omega arith)

pub bounds-table-at-3 : goal.bounds-table-at-3
bounds-table-at-3 c = simp length-set (omega arith)

pub bounds-table-at-4 : goal.bounds-table-at-4
bounds-table-at-4 c = simp length-set (omega arith)

pub bounds-table-at-5 : goal.bounds-table-at-5
bounds-table-at-5 c = simp length-set (omega arith)

pub bounds-table-at-6 : goal.bounds-table-at-6
bounds-table-at-6 c = simp length-set (omega arith)

pub bounds-table-at-7 : goal.bounds-table-at-7
bounds-table-at-7 c = simp length-set (omega arith)

pub bounds-table-at-8 : goal.bounds-table-at-8
bounds-table-at-8 c = simp length-set (omega arith)

pub bounds-table-at-9 : goal.bounds-table-at-9
bounds-table-at-9 c = simp length-set (omega arith)

pub returns : goal.returns
returns c =
    let i : c.args.node * 9 ≡ 9 * c.args.node = omega arith in
    stores-9 c.args.table.now (c.args.node * 9) _ _ _ _ _ _ _ _ _ ∙ ap (λ (n : ℕ). sets c.args.table.now n (record_list c.args.row c.args.up)) i
