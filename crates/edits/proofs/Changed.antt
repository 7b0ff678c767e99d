-- What a change at a place does to octets, records, length, node count and depth (S 15.4 to 15.6), whichever edit makes it.
use Prim.Native.Nat.{ℕ, ◌+◌, ◌-◌, ◌≤◌, ◌<◌, max}
use native.Mathlib.Omega.{arith}
use mathlib.Core.Path.{◌≡◌, refl, sym, ap, ◌∙◌, subst}
use mathlib.Core.Bool.{true, false}
use lib.ListN.{length, get_or}
use lib.Dec.{ltb}
use borrow.Author.Tests.{lt-ltb, le-ltb, eq-eqb, ne_eqb}
use Rattle.base.proofs.Cases.{by_le, differ}
use Rattle.model.specs.Edit.{one}
use Rattle.model.specs.Table.{Row, row_of}
use Rattle.model.specs.Tree.{Tree, Forest, canon, canons, nodes, nodess, depth, depths}
use Rattle.edits.specs.Moves.{Moves, Change, Grows, Shifts}
use Rattle.edits.specs.Node.{holds}
use Rattle.edits.specs.Place.{outer, grown, around}
use Rattle.edits.proofs.Holds.{is-aside, is-around, around-at}
use Rattle.edits.proofs.Moved.{new-length, octet-after, record-aside, record-around, record-after}
use Rattle.edits.proofs.Sides.{BeginsFrom, Side, aside, round, sides, sides-after}
use Rattle.edits.proofs.Whole.{depth-at, moves-at, moves-as}

module _ {t t' : Tree} {k n s l d : ℕ} {g : Forest} (c : Change t t' k n s l d g) where
  pub change-moves : Moves t t' k n s l g
  change-moves = moves-as c.at c.some c.start c.long (moves-at t t' c.place c.old g c.was c.is)

  pub change-at : {d' : ℕ} → d ≡ d' → Change t t' k n s l d' g
  change-at e = record { place = c.place; old = c.old; was = c.was; is = c.is; at = c.at; some = c.some; start = c.start; long = c.long; deep = c.deep ∙ e }

  -- made good again by what stood there
  abbrev pub change-back : Change t' t k (nodess g) s (length (canons g)) d c.old
  change-back = record { place = c.place; old = g; was = c.is; is = c.was; at = c.at; some = refl; start = c.start; long = refl; deep = c.deep }

  -- ---- depth
  pub change-depth : depth t' ≡ max (outer c.place) (d + depths g)
  change-depth = let e = c.deep in depth-at t' c.place g c.is ∙ omega arith

  -- a tree of at most m deep is deeper afterwards only where the lists around the place and what comes to stand there are
  pub change-deep : (m : ℕ) → depth t ≤ m → ltb m (depth t') ≡ ltb m (d + depths g)
  change-deep m h =
      let now = change-depth in
      let was = depth-at t c.place c.old c.was in
      let e = c.deep in
      by_le (d + depths g) m
      (λ i. le-ltb m (depth t') (omega arith) ∙ sym (le-ltb m (d + depths g) i))
      (λ i. lt-ltb m (depth t') (omega arith) ∙ sym (lt-ltb m (d + depths g) i))

  -- and no deeper than it was, where what stands there is no deeper
  pub change-shallow : depths g ≤ depths c.old → depth t' ≤ depth t
  change-shallow h =
      let now = change-depth in
      let was = depth-at t c.place c.old c.was in
      let e = c.deep in
      omega arith

  -- ---- length, node count, and octets after the place, by the new length less the old
  pub change-length : length (canon t') + l ≡ length (canon t) + length (canons g)
  change-length = new-length change-moves

  pub change-nodes : nodes t' + n ≡ nodes t + nodess g
  change-nodes = change-moves.count

  pub change-octet : (i i' : ℕ) → s + l ≤ i → i' + length (canon t) ≡ i + length (canon t') → get_or (canon t') i' 0 ≡ get_or (canon t) i 0
  change-octet i i' h e =
      let x : i' ≡ i + length (canons g) - l = omega (arith, change-length, change-moves.octets_in) in
      ap (λ (n : ℕ). get_or (canon t') n 0) x ∙ octet-after change-moves i h

  -- ---- the rows before the place and after it
  pub change-side : (j : ℕ) → j < k → Side (row_of t j) j k n s (s + l)
  change-side j h = rw (c.at, c.some, c.start, c.long) at (sides t c.place c.old c.was j (omega (arith, c.at)))

  change-later : (j : ℕ) → k + n ≤ j → j < nodes t → BeginsFrom (row_of t j) (s + l)
  change-later j h i = rw (c.start, c.long) at (sides-after t c.place c.old c.was j (omega (arith, c.at, c.some)) i)

  -- those around it are of lists
  pub change-list : (j : ℕ) → j < k → around s (s + l) (row_of t j) ≡ true → (row_of t j).kind ≡ 2
  change-list j h e = by (change-side j h)
    where
      by : Side (row_of t j) j k n s (s + l) → (row_of t j).kind ≡ 2
      by (aside y z) = differ e (is-aside s l (row_of t j) y)
      by (round y z w v q) = y

  -- they are around it afterwards too, and no others are
  pub change-around : (j : ℕ) → j < k → around s (s + length (canons g)) (row_of t' j) ≡ around s (s + l) (row_of t j)
  change-around j h = by (change-side j h)
    where
      by : Side (row_of t j) j k n s (s + l) → around s (s + length (canons g)) (row_of t' j) ≡ around s (s + l) (row_of t j)
      by (aside y z) =
          let e : row_of t' j ≡ row_of t j = record-aside change-moves j h (is-aside s l (row_of t j) y) in
          is-aside s (length (canons g)) (row_of t' j) (omega (arith, ap (λ (r : Row). r.end) e)) ∙ sym (is-aside s l (row_of t j) y)
      by (round y z w v q) =
          let e : row_of t' j ≡ grown l (length (canons g)) n (nodess g) (row_of t j) = record-around change-moves j h (is-around s l (row_of t j) z w) in
          is-around s (length (canons g)) (row_of t' j) (omega (arith, ap (λ (r : Row). r.start) e)) (omega (arith, ap (λ (r : Row). r.end) e)) ∙ sym (is-around s l (row_of t j) z w)

  -- ---- S 15.5: earlier records stay, but for those of the lists around
  pub change-stays : (j : ℕ) → j < k → around s (s + l) (row_of t j) ≡ false → row_of t' j ≡ row_of t j
  change-stays j h e = record-aside change-moves j h e

  -- S 15.5, these change in end and data end by the new length less the old, and in node count by the new node count less the old
  pub change-grows : (j : ℕ) → j < k → around s (s + l) (row_of t j) ≡ true → Grows (row_of t j) (row_of t' j) (length (canon t)) (length (canon t')) (nodes t) (nodes t')
  change-grows j h e =
      subst (λ (r : Row). Grows (row_of t j) r (length (canon t)) (length (canon t')) (nodes t) (nodes t')) (sym (record-around change-moves j h e)) (by (change-side j h))
    where
      by : Side (row_of t j) j k n s (s + l) → Grows (row_of t j) (grown l (length (canons g)) n (nodess g) (row_of t j)) (length (canon t)) (length (canon t')) (nodes t) (nodes t')
      by (aside y z) = differ e (is-aside s l (row_of t j) y)
      by (round y z w v q) =
          let x = change-length in
          record {
            kind = refl;
            start = refl;
            hint_start = refl;
            hint_end = refl;
            data_start = refl;
            end = omega arith;
            data_end = omega arith;
            count = omega (arith, change-nodes);
          }

  -- later records move with their nodes: record j is then record j', where j' is j and the new node count less the old
  pub change-shifts : (j j' : ℕ) → k + n ≤ j → j < nodes t → j' + nodes t ≡ j + nodes t' → Shifts (row_of t j) (row_of t' j') (length (canon t)) (length (canon t'))
  change-shifts j j' h i e =
      let b = change-later j h i in
      let x = change-length in
      let y : j' ≡ j + nodess g - n = omega (arith, change-nodes) in
      subst (λ (r : Row). Shifts (row_of t j) r (length (canon t)) (length (canon t'))) (sym (ap (row_of t') y ∙ record-after change-moves j h i))
      (record {
        kind = refl;
        count = refl;
        start = omega arith;
        end = omega arith;
        data_start = omega arith;
        data_end = omega arith;
        with_hint = λ o. rw (eq-eqb _ _ o) (omega (arith, b.hint_start o), omega (arith, b.hint_end o));
        without_hint = λ o. rw (ne_eqb _ _ o) (refl, refl);
      })

-- ---- where a tree stands at the place, the lists around it are the nodes that hold it by number
pub change-holds : {t t' u : Tree} {k n s l d : ℕ} (c : Change t t' k n s l d (one u)) (j : ℕ) → j < k → holds t' j k ≡ around s (s + l) (row_of t j)
change-holds {t' = t'} {u = u} c j h = sym (rw (c.at, c.start) at (around-at t' c.place u c.is j (omega (arith, c.at)))) ∙ change-around c j h
