-- A node of a tree gives way to a forest: the change that replacing and removing are.
use Prim.Native.Nat.{ℕ, ◌+◌, ◌-◌, ◌≤◌, ◌<◌}
use native.Mathlib.Omega.{arith}
use mathlib.Core.Path.{◌≡◌, refl, sym}
use lib.ListN.{length}
use Rattle.model.specs.Edit.{one}
use Rattle.model.specs.Table.{Row, row_of}
use Rattle.model.specs.Tree.{Tree, Forest, canon, nodes}
use Rattle.edits.specs.Moves.{Change}
use Rattle.edits.specs.Place.{level, fill}
use Rattle.edits.proofs.Changed.{change-moves}
use Rattle.edits.proofs.Whole.{locate, count_at, length_at}

module _ (t : Tree) (node : ℕ) (h : node < nodes t) where
  abbrev entry : Row
  entry = row_of t node

  pub gives-way : (t' : Tree) (g : Forest) → one t' ≡ fill (locate t node h).place g
      → Change t t' node entry.count entry.start (entry.end - entry.start) (level (locate t node h).place) g
  gives-way t' g e =
      let a = locate t node h in
      record {
        place = a.place;
        old = one a.node;
        was = a.is;
        is = e;
        at = a.num;
        some = count_at t node h;
        start = sym a.start;
        long = length_at t node h;
        deep = refl;
      }

  pub node_in_lem : (entry.start ≤ entry.end) × (entry.end ≤ length (canon t)) × (node + entry.count ≤ nodes t)
  node_in_lem =
      let a = locate t node h in
      let m = change-moves (gives-way t (one a.node) a.is) in
      (omega (arith, a.start, a.end), omega (arith, a.start, a.end, m.octets_in), m.nodes_in)
