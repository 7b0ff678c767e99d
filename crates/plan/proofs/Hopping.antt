-- Node counts hopped over, by notes.
use Prim.Native.Nat.{ℕ, suc, ◌+◌, ◌-◌, ◌≤◌, ◌<◌}
use native.Mathlib.Omega.{arith}
use mathlib.Core.Path.{◌≡◌, sym, ap, ◌∙◌}
use mathlib.Core.List.{List}
use lib.ListN.{length, get_or}
use lib.Dec.{ltb}
use borrow.Author.Tests.{lt-ltb, le-ltb, eq-eqb, ne_eqb}
use Rattle.base.specs.Choice.{pick}
use Rattle.base.proofs.Cases.{by-eq, picked, unpicked}
use Rattle.model.specs.Table.{Row}
use Rattle.sheets.specs.Notes.{list_mark}
use Rattle.sheets.specs.Places.{shift}
use Rattle.tables.specs.Rows.{RowIs}
use Rattle.tables.specs.Told.{row_by, third_part, row_at, Readable}
use Rattle.tables.specs.declared.rows.Row as coded
use Rattle.edits.specs.Element.{element}
use Rattle.plan.specs.Spots.{Counts, Hoppable, Hops, Shown}
use Rattle.std.specs.Prelude.{Some, None}

-- ---- the node count that a note tells
module _ (a b x : ℕ) where
  string-count : x < list_mark → 1 ≡ (row_by a b x).count
  unfolding row_by
  string-count h =
      by-eq x 0
      (λ z. ap (λ (r : Row). r.count) (sym (picked _ _ (eq-eqb x 0 z))))
      (λ n. ap (λ (r : Row). r.count) (sym (unpicked _ _ (ne_eqb x 0 n) ∙ picked _ _ (lt-ltb x list_mark h))))

  list_count : list_mark ≤ x → x - list_mark ≡ (row_by a b x).count
  unfolding row_by
  list_count h = ap (λ (r : Row). r.count) (sym (unpicked _ _ (ne_eqb x 0 (λ z. omega (arith, z))) ∙ unpicked _ _ (le-ltb x list_mark h)))

module _ (notes : List ℕ) (node : ℕ) where
  pub count-string : third_part (get_or notes node 0) < list_mark → Counts notes node 1
  count-string h = record { is = string-count _ _ (third_part (get_or notes node 0)) h; few = omega arith }

  pub count-list : list_mark ≤ third_part (get_or notes node 0) → Counts notes node (third_part (get_or notes node 0) - list_mark)
  count-list h = record { is = list_count _ _ (third_part (get_or notes node 0)) h; few = omega arith }

-- ---- the loop: hopping on from here, where so many of k elements are past, gives what hopping from the start gives
pub record Hopping (notes : List ℕ) (end k from past j : ℕ) : Type 0 where
  pub same : element (row_at notes) end (k - past) j ≡ element (row_at notes) end k from
  pub near : j ≤ end + shift

module _ (notes : List ℕ) (end k from : ℕ) (g : Hoppable (length notes) end from) where
  pub hop-start : Hopping notes end k from 0 from
  hop-start = let z : k - 0 ≡ k = omega arith in record { same = ap (λ (n : ℕ). element (row_at notes) end n from) z; near = omega (arith, g.near) }

  module _ (past j : ℕ) (v : Hopping notes end k from past j) where
    pub hop-past : past < k → end ≤ j → Hops notes end k from None
    unfolding Hops element
    hop-past h l =
        let z : k - past ≡ suc (k - (past + 1)) = omega arith in
        sym v.same ∙ ap (λ (n : ℕ). element (row_at notes) end n j) z ∙ unpicked _ _ (le-ltb j end l)

    pub hop-end : k ≤ past → Hops notes end k from (Some j)
    unfolding Hops element
    hop-end h = let z : k - past ≡ 0 = omega arith in sym v.same ∙ ap (λ (n : ℕ). element (row_at notes) end n j) z

    module _ (h : past < k) (l : j < end) where
      pub hop-inside : j < length notes
      hop-inside = omega (arith, g.fits)

      pub hop-on : (c : ℕ) → Counts notes j c → Hopping notes end k from (past + 1) (j + c)
      unfolding element
      hop-on c n =
          let z : k - past ≡ suc (k - (past + 1)) = omega arith in
          record {
            same = ap (λ (i : ℕ). element (row_at notes) end (k - (past + 1)) (j + i)) n.is
                ∙ sym (picked _ _ (lt-ltb j end l)) ∙ sym (ap (λ (i : ℕ). element (row_at notes) end i j) z) ∙ v.same;
            near = omega (arith, n.few);
          }

-- ---- the octet where an element begins
module _ (notes : List ℕ) (first end past : ℕ) where
  pub octet-readable : Shown notes first end → first < end → Readable notes first
  octet-readable g h = g.readable h

  pub octet-here : first < end → (row : coded.Row) → RowIs row (row_at notes first) → row.start ≡ pick (ltb first end) (row_at notes first).start past
  octet-here h row is = ap (λ (x : List ℕ). get_or x 1 0) is ∙ sym (picked _ _ (lt-ltb first end h))

  pub octet-past : end ≤ first → past ≡ pick (ltb first end) (row_at notes first).start past
  octet-past h = sym (unpicked _ _ (le-ltb first end h))
