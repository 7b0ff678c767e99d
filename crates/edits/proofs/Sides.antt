-- The rows beside a place: those before it are of nodes that end before it or of lists around it, those after it begin after it.
use Prim.Native.Nat.{ℕ, zero, suc, ◌+◌, ◌-◌, ◌≤◌, ◌<◌}
use native.Mathlib.Omega.{arith}
use mathlib.Core.Path.{◌≡◌, refl, sym, ap, ap₂, ◌∙◌, subst}
use mathlib.Core.List.{List, [], ◌∷◌, ◌++◌}
use lib.ListN.{length, get_or, length-append, get_or-append}
use lib.Seq.{get_or-append-add}
use Rattle.base.proofs.Cases.{by_le}
use Rattle.model.specs.Edit.{one}
use Rattle.edits.specs.Place.{before, number, past, Place, here, down, fill, after, beyond, lead, trail}
use Rattle.model.specs.Table.{Row, plain_row, rows, rowss, row_of}
use Rattle.model.specs.Tree.{Tree, plain, hinted, list, Forest, nil, cons, canon, canons, nodes, nodess}
use Rattle.walk.proofs.Tabled.{rows-length, rowss-length}
use Rattle.edits.proofs.Rows.{lead-length}
use Rattle.edits.proofs.Whole.{nodes-at, rows_at}

-- row i is that of a node that ends by octet s and by node k
pub record EndsBy (r : Row) (i k s : ℕ) : Type 0 where
  pub octets : r.end ≤ s
  pub nodes : i + r.count ≤ k

-- no number of the row is below octet s, but for the hint numbers of a row without a hint
pub record BeginsFrom (r : Row) (s : ℕ) : Type 0 where
  pub start : s ≤ r.start
  pub end : s ≤ r.end
  pub hint_start : r.kind ≡ 1 → s ≤ r.hint_start
  pub hint_end : r.kind ≡ 1 → s ≤ r.hint_end
  pub data_start : s ≤ r.data_start
  pub data_end : s ≤ r.data_end

-- of two lists, one after the other: what holds of each row, by its number
pub part : (a b : List Row) (i : ℕ) (P : Row → Type 0) → (i < length a → P (get_or a i (plain_row 0 0 0))) → (length a ≤ i → P (get_or b (i - length a) (plain_row 0 0 0))) → P (get_or (a ++ b) i (plain_row 0 0 0))
part a b i P f g =
    by_le (length a) i
    (λ l. let e : length a + (i - length a) ≡ i = omega arith in subst P (sym (get_or-append-add a b (i - length a) (plain_row 0 0 0)) ∙ rw e) (g l))
    (λ l. subst P (sym (get_or-append a b (plain_row 0 0 0) i l)) (f l))

-- ---- the rows of a tree
mutual
  unfolding rows canon nodes

  pub rows_before : (t : Tree) (at i : ℕ) → i < nodes t → EndsBy (get_or (rows t at) i (plain_row 0 0 0)) i (nodes t) (at + length (canon t))
  rows_before (plain d) at zero h = record { octets = omega arith; nodes = omega arith }
  rows_before (plain d) at (suc i) h = absurd (omega arith)
  rows_before (hinted k d) at zero h = record { octets = simp length-append (omega arith); nodes = omega arith }
  rows_before (hinted k d) at (suc i) h = absurd (omega arith)
  rows_before (list f) at zero h = record { octets = omega arith; nodes = omega arith }
  rows_before (list f) at (suc i) h =
      let r = rowss-before f (at + 1) i (omega arith) in
      record { octets = omega (arith, length-append (canons f) (41 ∷ [])); nodes = omega arith }

  rowss-before : (f : Forest) (at i : ℕ) → i < nodess f → EndsBy (get_or (rowss f at) i (plain_row 0 0 0)) i (nodess f) (at + length (canons f))
  rowss-before nil at i h = absurd (omega arith)
  rowss-before (cons t f) at i h =
      let n = rows-length t at in
      let c = length-append (canon t) (canons f) in
      part (rows t at) (rowss f (at + length (canon t))) i (λ (r : Row). EndsBy r i (nodes t + nodess f) (at + length (canon t ++ canons f)))
      (λ l. let r = rows_before t at i (omega arith) in record { octets = omega arith; nodes = omega arith })
      (λ l. let r = rowss-before f (at + length (canon t)) (i - length (rows t at)) (omega arith) in record { octets = omega arith; nodes = omega arith })

from_less : {r : Row} (s s' : ℕ) → s' ≤ s → BeginsFrom r s → BeginsFrom r s'
from_less s s' h b =
    record { start = omega arith; end = omega arith; hint_start = λ e. omega (arith, b.hint_start e); hint_end = λ e. omega (arith, b.hint_end e); data_start = omega arith; data_end = omega arith }

mutual
  unfolding rows canon nodes

  rows-from : (t : Tree) (at i : ℕ) → i < nodes t → BeginsFrom (get_or (rows t at) i (plain_row 0 0 0)) at
  rows-from (plain d) at zero h = record { start = omega arith; end = omega arith; hint_start = λ e. absurd (omega arith); hint_end = λ e. absurd (omega arith); data_start = omega arith; data_end = omega arith }
  rows-from (plain d) at (suc i) h = absurd (omega arith)
  rows-from (hinted k d) at zero h = record { start = omega arith; end = omega arith; hint_start = λ e. omega arith; hint_end = λ e. omega arith; data_start = omega arith; data_end = omega arith }
  rows-from (hinted k d) at (suc i) h = absurd (omega arith)
  rows-from (list f) at zero h =
      record { start = omega arith; end = omega arith; hint_start = λ e. absurd (omega arith); hint_end = λ e. absurd (omega arith); data_start = omega arith; data_end = omega (arith, length-append (canons f) (41 ∷ [])) }
  rows-from (list f) at (suc i) h = from_less (at + 1) at (omega arith) (rowss-from f (at + 1) i (omega arith))

  rowss-from : (f : Forest) (at i : ℕ) → i < nodess f → BeginsFrom (get_or (rowss f at) i (plain_row 0 0 0)) at
  rowss-from nil at i h = absurd (omega arith)
  rowss-from (cons t f) at i h =
      let n = rows-length t at in
      part (rows t at) (rowss f (at + length (canon t))) i (λ (r : Row). BeginsFrom r at)
      (λ l. rows-from t at i (omega arith))
      (λ l. from_less (at + length (canon t)) at (omega arith) (rowss-from f (at + length (canon t)) (i - length (rows t at)) (omega arith)))

-- ---- the rows before a place
-- row i, before node k: of a node that ends before it all, or of a list around the n nodes from k on, the octets from s to e
pub data Side (r : Row) (i k n s e : ℕ) : Type 0 where
  aside : r.end ≤ s → i + r.count ≤ k → Side r i k n s e
  round : r.kind ≡ 2 → r.start < s → e < r.end → k + n ≤ i + r.count → r.data_end + 1 ≡ r.end → Side r i k n s e

side-on : {r : Row} {i k n s e : ℕ} (i' k' q : ℕ) → i' ≡ i + q → k' ≡ k + q → Side r i k n s e → Side r i' k' n s e
side-on i' k' q a b (aside x y) = aside x (omega arith)
side-on i' k' q a b (round x y z w v) = round x y z (omega arith) v

lead-side : (p : Place) (at l n s i : ℕ) → s ≡ at + length (before p) → i < number p → Side (get_or (lead p at l n) i (plain_row 0 0 0)) i (number p) n s (s + l)
unfolding lead before number
lead-side (here b) at l n s i e h = absurd (omega arith)
lead-side (past t p) at l n s i e h =
    let c = length-append (canon t) (before p) in
    let m = rows-length t at in
    part (rows t at) (lead p (at + length (canon t)) l n) i (λ (r : Row). Side r i (nodes t + number p) n s (s + l))
    (λ x. let r = rows_before t at i (omega arith) in aside (omega arith) (omega arith))
    (λ x. side-on i (nodes t + number p) (nodes t) (omega arith) (omega arith) (lead-side p (at + length (canon t)) l n s (i - length (rows t at)) (omega arith) (omega arith)))
lead-side (down p b) at l n s zero e h = round refl (omega arith) (omega arith) (omega arith) (omega arith)
lead-side (down p b) at l n s (suc i) e h = side-on (suc i) (1 + number p) 1 (omega arith) (omega arith) (lead-side p (at + 1) l n s i (omega arith) (omega arith))

-- ---- the rows after a place
trail-length : (p : Place) (at : ℕ) → length (trail p at) ≡ beyond p
unfolding trail beyond
trail-length (here b) at = rowss-length b at
trail-length (past t p) at = trail-length p at
trail-length (down p b) at =
    omega (arith, length-append (trail p at) (rowss b (at + length (after p) + 1)), trail-length p at, rowss-length b (at + length (after p) + 1))

trail-from : (p : Place) (at i : ℕ) → i < beyond p → BeginsFrom (get_or (trail p at) i (plain_row 0 0 0)) at
unfolding trail beyond
trail-from (here b) at i h = rowss-from b at i h
trail-from (past t p) at i h = trail-from p at i h
trail-from (down p b) at i h =
    let n = trail-length p at in
    part (trail p at) (rowss b (at + length (after p) + 1)) i (λ (r : Row). BeginsFrom r at)
    (λ l. trail-from p at i (omega arith))
    (λ l. from_less (at + length (after p) + 1) at (omega arith) (rowss-from b (at + length (after p) + 1) (i - length (trail p at)) (omega arith)))

-- ---- the rows of a tree with a forest at a place
module _ (t : Tree) (p : Place) (g : Forest) (e : one t ≡ fill p g) where
  pub sides : (j : ℕ) → j < number p → Side (row_of t j) j (number p) (nodess g) (length (before p)) (length (before p) + length (canons g))
  sides j h =
      subst (λ (x : Row). Side x j (number p) (nodess g) (length (before p)) (length (before p) + length (canons g)))
      (sym (get_or-append (lead p 0 (length (canons g)) (nodess g)) _ (plain_row 0 0 0) j (omega (arith, lead-length p 0 (length (canons g)) (nodess g)))) ∙ sym (ap (λ (l : List Row). get_or l j (plain_row 0 0 0)) (rows_at t p g e)))
      (lead-side p 0 (length (canons g)) (nodess g) (length (before p)) j (omega arith) h)

  pub sides-after : (j : ℕ) → number p + nodess g ≤ j → j < nodes t → BeginsFrom (row_of t j) (length (before p) + length (canons g))
  sides-after j h i =
      let a = lead p 0 (length (canons g)) (nodess g) in
      let b = rowss g (length (before p)) in
      let c = trail p (length (before p) + length (canons g)) in
      let q = lead-length p 0 (length (canons g)) (nodess g) in
      let w = rowss-length g (length (before p)) in
      let x : length a + (length b + (j - (number p + nodess g))) ≡ j = omega arith in
      subst (λ (r : Row). BeginsFrom r (length (before p) + length (canons g)))
      (sym (get_or-append-add b c (j - (number p + nodess g)) (plain_row 0 0 0))
      ∙ sym (get_or-append-add a (b ++ c) (length b + (j - (number p + nodess g))) (plain_row 0 0 0))
      ∙ ap₂ (λ (l : List Row) (m : ℕ). get_or l m (plain_row 0 0 0)) (sym (rows_at t p g e)) x)
      (trail-from p (length (before p) + length (canons g)) (j - (number p + nodess g)) (omega (arith, nodes-at t p g e)))
