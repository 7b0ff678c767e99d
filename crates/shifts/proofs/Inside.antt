-- A node's record, by its note: its places, and the nodes that it counts.
use Prim.Native.Nat.{ℕ, zero, suc, ◌+◌, ◌-◌, ◌≤◌, ◌<◌}
use native.Mathlib.Omega.{arith}
use mathlib.Core.Path.{◌≡◌, sym, ap, ◌∙◌, subst}
use mathlib.Core.List.{List, ◌++◌}
use lib.ListN.{get_or-append, length, get_or}
use lib.Seq.{get_or-append-add}
use Rattle.base.proofs.Cases.{by_le}
use Rattle.model.specs.Table.{Row, row_numbers, plain_row, rows, rowss, row_of}
use Rattle.model.specs.Tree.{Tree, plain, hinted, list, Forest, nil, cons, canon, nodes, nodess}
use Rattle.walk.proofs.Tabled.{rows-length}
use Rattle.tables.specs.Rows.{row_list, RowIs}
use Rattle.tables.specs.Told.{row_at, Readable, Holds}
use Rattle.tables.specs.declared.rows.Row as coded
use Rattle.tables.proofs.Telling.{holds_row, holds-readable}
use Rattle.lookup.proofs.Shown.{Inside, rows_inside}
use Rattle.shifts.specs.Known.{row_for, Spans, KnownAt}

-- ---- a node counts no more nodes than there are

abbrev none : Row
none = plain_row 0 0 0

mutual
  unfolding rows nodes

  pub rows-counted : (t : Tree) (at i : ℕ) → i < nodes t → i + (get_or (rows t at) i none).count ≤ nodes t
  rows-counted (plain d) at zero h = omega arith
  rows-counted (plain d) at (suc i) h = absurd (omega arith)
  rows-counted (hinted g d) at zero h = omega arith
  rows-counted (hinted g d) at (suc i) h = absurd (omega arith)
  rows-counted (list f) at zero h = omega arith
  rows-counted (list f) at (suc i) h = let w : i + (get_or (rowss f (at + 1)) i none).count ≤ nodess f = rowss-counted f (at + 1) i (omega arith) in omega arith

  rowss-counted : (f : Forest) (at i : ℕ) → i < nodess f → i + (get_or (rowss f at) i none).count ≤ nodess f
  rowss-counted nil at i h = absurd (omega arith)
  rowss-counted (cons t f) at i h =
      by_le (nodes t) i
      (λ p.
      let n : length (rows t at) ≡ nodes t = rows-length t at in
      let e : i ≡ length (rows t at) + (i - nodes t) = omega arith in
      let g : get_or (rows t at ++ rowss f (at + length (canon t))) i none ≡ get_or (rowss f (at + length (canon t))) (i - nodes t) none =
      ap (λ (k : ℕ). get_or (rows t at ++ rowss f (at + length (canon t))) k none) e ∙ get_or-append-add (rows t at) (rowss f (at + length (canon t))) (i - nodes t) none in
      let w : (i - nodes t) + (get_or (rowss f (at + length (canon t))) (i - nodes t) none).count ≤ nodess f = rowss-counted f (at + length (canon t)) (i - nodes t) (omega arith) in
      let z : (get_or (rows t at ++ rowss f (at + length (canon t))) i none).count ≡ (get_or (rowss f (at + length (canon t))) (i - nodes t) none).count = ap (λ (r : Row). r.count) g in
      omega arith)
      (λ p.
      let n : length (rows t at) ≡ nodes t = rows-length t at in
      let g : get_or (rows t at ++ rowss f (at + length (canon t))) i none ≡ get_or (rows t at) i none = get_or-append (rows t at) (rowss f (at + length (canon t))) none i (omega arith) in
      let w : i + (get_or (rows t at) i none).count ≤ nodes t = rows-counted t at i p in
      let z : (get_or (rows t at ++ rowss f (at + length (canon t))) i none).count ≡ (get_or (rows t at) i none).count = ap (λ (r : Row). r.count) g in
      omega arith)

-- ---- the code's record

pub row_same : (r : coded.Row) (row : Row) → RowIs r row → row_for r ≡ row
row_same r row e =
    let at : (k : ℕ) → get_or (row_list r) k 0 ≡ get_or (row_numbers row) k 0 = λ k. ap (λ (l : List ℕ). get_or l k 0) e in
    λ i. record { kind = at 0 i; start = at 1 i; end = at 2 i; count = at 3 i; hint_start = at 4 i; hint_end = at 5 i; data_start = at 6 i; data_end = at 7 i }

module _ (c notes : List ℕ) (count node : ℕ) (k : KnownAt c notes count node) where
  pub known-readable : Readable notes node
  known-readable = holds-readable notes count k.known.tree k.known.held node k.inside

  module _ (r : coded.Row) (is : RowIs r (row_at notes node)) where
    -- it is the node's, in every tree of these notes
    pub row_is : (t : Tree) → Holds notes count t → row_for r ≡ row_of t node
    row_is t h = row_same r (row_at notes node) is ∙ holds_row notes count t h node k.inside

    pub row-spans : Spans r (length c)
    row-spans =
        let w : Inside (row_of k.known.tree node) (0 + length (canon k.known.tree)) = rows_inside k.known.tree 0 node in
        let v : Inside (row_for r) (0 + length (canon k.known.tree)) = subst (λ (x : Row). Inside x (0 + length (canon k.known.tree))) (sym (row_is k.known.tree k.known.held)) w in
        record {
          hint_ordered = v.hint;
          hint_ended = omega (arith, v.hinted, k.known.within);
          ordered = v.octets;
          ended = omega (arith, v.ended, k.known.within);
        }

    pub row-counted : node + r.nodes ≤ count
    row-counted =
        let t : Tree = k.known.tree in
        let w : node + (row_of t node).count ≤ nodes t = rows-counted t 0 node (omega (arith, k.inside, k.known.held.counted)) in
        let e : r.nodes ≡ (row_of t node).count = ap (λ (x : Row). x.count) (row_is t k.known.held) in
        omega (arith, k.known.held.counted)
