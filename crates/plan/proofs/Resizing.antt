-- The sizes of the new tree, whatever is asked.
use Prim.Native.Nat.{ℕ, ◌+◌, ◌-◌, ◌≤◌}
use native.Mathlib.Omega.{arith}
use mathlib.Core.Path.{◌≡◌, sym, ap, ◌∙◌}
use lib.ListN.{length}
use lib.Dec.{ltb}
use Rattle.model.specs.Limits.{max_depth}
use Rattle.model.specs.Tree.{Tree, plain, hinted, list, Forest, nil, cons, canon, nodes, nodess, depth, depths}
use Rattle.edits.specs.Moves.{Moves}
use Rattle.edits.proofs.Changed.{change-moves, change-deep}
use Rattle.edits.proofs.Moved.{new-length}
use Rattle.plan.specs.Asked.{changed, given}
use Rattle.plan.specs.Planned.{Sized, Small, AtSpot, Resizable}
use Rattle.plan.specs.declared.Asked.{Asked}
use Rattle.walk.specs.declared.Extent.{Extent}

-- a tree is at most as deep as it has nodes
mutual
  unfolding depth nodes

  pub depth-few : (t : Tree) → depth t ≤ nodes t
  depth-few (plain d) = omega arith
  depth-few (hinted h d) = omega arith
  depth-few (list f) = omega (arith, depths-few f)

  depths-few : (f : Forest) → depths f ≤ nodess f
  depths-few nil = omega arith
  depths-few (cons t f) = omega (arith, depth-few t, depths-few f)

module _ (len count first n start end level : ℕ) (a : Asked) (t : Tree) (at : AtSpot len count first n start end level a t) where
  pub moves : (u : Tree) → Moves t (changed a t u) first n start (end - start) (given a u)
  moves u = change-moves (at.spot.change u)

  pub ordered : (start ≤ end) × (end ≤ len) × (n ≤ count)
  ordered =
      let m = moves t in
      (at.spot.ordered, omega (arith, at.spot.ordered, m.octets_in, at.long), omega (arith, m.nodes_in, at.counted))

  pub resizable : (text : Extent) → Small text → Resizable len count start end n level text
  resizable text small =
      record {
        ordered = ordered.0;
        ended = ordered.1;
        fewer = ordered.2;
        short = at.short;
        few = at.few;
        low = omega (arith, at.spot.low, at.counted, at.few);
        small = small;
      }

  module _ (u : Tree) (text : Extent) (s : Sized (given a u) text) where
    pub long-is : len - (end - start) + text.len ≡ length (canon (changed a t u))
    long-is =
        let y = new-length (moves u) in
        omega (arith, ordered.0, ordered.1, y, at.long, s.long)

    pub nodes-are : count - n + text.nodes ≡ nodes (changed a t u)
    nodes-are = omega (arith, ordered.2, (moves u).count, at.counted, s.counted)

    pub deep-where : ltb max_depth (level + text.depth) ≡ ltb max_depth (depth (changed a t u))
    deep-where =
        ap (λ (d : ℕ). ltb max_depth (level + d)) s.deepest
        ∙ sym (change-deep (at.spot.change u) max_depth at.shallow)
