-- A list's note is above its mark by its node count; any other node has one node.
use Prim.Native.Nat.{ℕ, ◌+◌, ◌-◌, ◌≤◌, ◌<◌}
use native.Mathlib.Omega.{arith}
use mathlib.Core.Path.{◌≡◌, sym, ap, ◌∙◌}
use mathlib.Core.List.{List}
use lib.ListN.{get_or}
use lib.Dec.{ltb}
use borrow.Author.Tests.{lt-ltb, le-ltb, eq-eqb, ne_eqb}
use Rattle.base.proofs.Cases.{by_le, by-eq, picked, unpicked}
use Rattle.model.specs.Table.{Row}
use Rattle.sheets.specs.Notes.{list_mark}
use Rattle.tables.specs.Told.{row_by, row_at, third_part}

module _ (a b x n : ℕ) (h : 0 < n) where
  over_by : ltb (list_mark + n) x ≡ ltb n (row_by a b x).count
  unfolding row_by
  over_by =
      by-eq x 0
      (λ z. le-ltb (list_mark + n) x (omega arith) ∙ sym (ap (λ (r : Row). ltb n r.count) (picked _ _ (eq-eqb x 0 z)) ∙ le-ltb n 1 (omega arith)))
      (λ z. by_le list_mark x
      (λ l. by_le x (list_mark + n)
      (λ m. le-ltb (list_mark + n) x m ∙ sym (listed z l ∙ le-ltb n (x - list_mark) (omega arith)))
      (λ m. lt-ltb (list_mark + n) x m ∙ sym (listed z l ∙ lt-ltb n (x - list_mark) (omega arith))))
      (λ l. le-ltb (list_mark + n) x (omega arith)
      ∙ sym (ap (λ (r : Row). ltb n r.count) (unpicked _ _ (ne_eqb x 0 z) ∙ picked _ _ (lt-ltb x list_mark l)) ∙ le-ltb n 1 (omega arith))))
    where
      listed : (x ≡ 0 → ⊥) → list_mark ≤ x → ltb n (row_by a b x).count ≡ ltb n (x - list_mark)
      listed z l = ap (λ (r : Row). ltb n r.count) (unpicked _ _ (ne_eqb x 0 z) ∙ unpicked _ _ (le-ltb x list_mark l))

pub over-is : (notes : List ℕ) (k n : ℕ) → 0 < n → ltb (list_mark + n) (third_part (get_or notes k 0)) ≡ ltb n (row_at notes k).count
over-is notes k n h = over_by _ _ _ n h
