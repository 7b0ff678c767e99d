-- The loop over the notes before a node: it counts the lists around the node.
use Prim.Native.Nat.{ℕ, zero, suc, ◌+◌, ◌-◌, ◌≤◌, ◌<◌}
use native.Mathlib.Omega.{arith}
use native.Mathlib.Nat.{add-zero, zero-add}
use native.Mathlib.Numerals.{add-one}
use mathlib.Core.Path.{◌≡◌, sym, ap, ap₂, ◌∙◌}
use mathlib.Core.Bool.{Bool, true, false}
use mathlib.Core.List.{List}
use lib.ListN.{length, take, drop}
use lib.Seq.{drop-cons}
use lib.Dec.{ltb}
use borrow.Author.Tests.{lt-ltb, le-ltb}
use Rattle.base.specs.Choice.{pick}
use Rattle.base.proofs.Cases.{by_le, picked, unpicked}
use Rattle.model.specs.Table.{Row, plain_row, rows, row_of}
use Rattle.model.specs.Tree.{Tree}
use Rattle.walk.proofs.Tabled.{rows-length}
use Rattle.tables.specs.Told.{row_at, Countable, Holds}
use Rattle.tables.proofs.Telling.{holds_row}
use Rattle.edits.specs.Levels.{holders}
use Rattle.plan.specs.Spots.{Recorded, levels, Levels}

-- ---- the loop: running on from here gives what running from the start gives
pub record Levelling (notes : List ℕ) (node level j : ℕ) : Type 0 where
  pub low : j ≤ node
  pub few : level ≤ j
  pub same : levels notes node (node - j) j level ≡ levels notes node node 0 0

module _ (notes : List ℕ) (node : ℕ) where
  pub level-start : Levelling notes node 0 0
  level-start = let z : node - 0 ≡ node = omega arith in record { low = omega arith; few = omega arith; same = rw z }

  pub level-countable : (level j : ℕ) → Recorded (length notes) node → j < node → Countable (length notes) j (node - j)
  level-countable level j r h = record { inside = omega (arith, r.fits); some = omega arith; few = omega (arith, r.few) }

  module _ (level j : ℕ) (g : Levelling notes node level j) (h : j < node) (b : Bool) (e : b ≡ ltb (node - j) (row_at notes j).count) where
    step : (l : ℕ) → pick b (level + 1) level ≡ l → levels notes node (node - (j + 1)) (j + 1) l ≡ levels notes node node 0 0
    unfolding levels
    step l q =
        let z : node - j ≡ suc (node - (j + 1)) = omega arith in
        ap₂ (λ (k a : ℕ). levels notes node (node - (j + 1)) k a) (add-one j) (sym q ∙ ap (λ (d : Bool). pick d (level + 1) level) e)
        ∙ sym (ap (λ (n : ℕ). levels notes node n j level) z) ∙ g.same

    pub level-held : b ≡ true → Levelling notes node (level + 1) (j + 1)
    level-held y = record { low = omega arith; few = omega (arith, g.few); same = step (level + 1) (picked _ _ y) }

    pub level-aside : b ≡ false → Levelling notes node level (j + 1)
    level-aside y = record { low = omega arith; few = omega (arith, g.few); same = step level (unpicked _ _ y) }

  pub level-end : (level j : ℕ) → Levelling notes node level j → node ≤ j → Levels notes node level
  unfolding levels
  level-end level j g h =
      let z : node - j ≡ 0 = omega arith in
      record { is = sym (ap (λ (n : ℕ). levels notes node n j level) z) ∙ g.same; few = omega (arith, g.few, g.low) }

-- ---- what it counts

-- from record j on, or from node 0 on
after : (k j c : ℕ) → j ≤ k → ltb (k - j) c ≡ ltb k (j + c)
after k j c h =
    by_le c (k - j)
    (λ l. le-ltb (k - j) c l ∙ sym (le-ltb k (j + c) (omega arith)))
    (λ l. lt-ltb (k - j) c l ∙ sym (lt-ltb k (j + c) (omega arith)))

onto : (b : Bool) (level m : ℕ) → pick b (level + 1) level + m ≡ level + (pick {A = ℕ} b 1 0 + m)
onto true level m = omega arith
onto false level m = omega arith

module _ (notes : List ℕ) (count : ℕ) (t : Tree) (g : Holds notes count t) (k : ℕ) (h : k ≤ count) where
  levels-rows : (n j level : ℕ) → j + n ≤ k → levels notes k n j level ≡ level + holders (take n (drop j (rows t 0))) j k
  unfolding levels holders
  levels-rows zero j level l = sym (add-zero level)
  levels-rows (suc n) j level l =
      let d = (row_at notes j).count in
      let q : ltb (k - j) d ≡ ltb k (j + (row_of t j).count) = after k j d (omega arith) ∙ ap (λ (r : Row). ltb k (j + r.count)) (holds_row notes count t g j (omega arith)) in
      levels-rows n (suc j) (pick (ltb (k - j) d) (level + 1) level) (omega arith)
      ∙ onto (ltb (k - j) d) level (holders (take n (drop (suc j) (rows t 0))) (suc j) k)
      ∙ ap (λ (b : Bool). level + (pick {A = ℕ} b 1 0 + holders (take n (drop (suc j) (rows t 0))) (suc j) k)) q
      ∙ ap (λ (x : List Row). level + holders (take (suc n) x) j k) (sym (drop-cons (rows t 0) j (plain_row 0 0 0) (omega (arith, rows-length t 0, g.counted))))

  pub levels-holders : levels notes k k 0 0 ≡ holders (take k (rows t 0)) 0 k
  levels-holders = levels-rows k 0 0 (omega arith) ∙ zero-add _
