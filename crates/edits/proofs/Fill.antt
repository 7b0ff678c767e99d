-- What stands at a place, and what stands around it: octets, nodes, depth, rows.
use Prim.Native.Nat.{ℕ, suc, ◌+◌, max}
use native.Mathlib.Omega.{arith}
use mathlib.Core.Path.{◌≡◌}
use mathlib.Core.List.{[], ◌∷◌, ◌++◌, append_assoc}
use lib.ListN.{length, length-append}
use Rattle.edits.specs.Place.{before, number, past, Place, here, down, fill, after, beyond, level, outer, lead, trail}
use Rattle.model.specs.Table.{rowss}
use Rattle.model.specs.Tree.{Forest, canon, canons, nodess, depths}
use Rattle.edits.proofs.Join.{canons-join, nodess-join, depths-join, rowss-join}

pub fill-canons : (p : Place) (g : Forest) → canons (fill p g) ≡ before p ++ (canons g ++ after p)
unfolding fill canons before after
fill-canons (here b) g = canons-join g b
fill-canons (past t p) g = rw (fill-canons p g, append_assoc)
fill-canons (down p b) g = rw (fill-canons p g) (simp append_assoc)

pub fill-nodes : (p : Place) (g : Forest) → nodess (fill p g) ≡ number p + nodess g + beyond p
unfolding fill nodess number beyond
fill-nodes (here b) g = omega (arith, nodess-join g b)
fill-nodes (past t p) g = omega (arith, fill-nodes p g)
fill-nodes (down p b) g = omega (arith, fill-nodes p g)

pub fill-depths : (p : Place) (g : Forest) → depths (fill p g) ≡ max (outer p) (level p + depths g)
unfolding fill depths outer level
fill-depths (here b) g = omega (arith, depths-join g b)
fill-depths (past t p) g = omega (arith, fill-depths p g)
fill-depths (down p b) g = omega (arith, fill-depths p g)

pub fill-length : (p : Place) (g : Forest) → length (canons (fill p g)) ≡ length (before p) + length (canons g) + length (after p)
fill-length p g = rw (fill-canons p g) (simp length-append (omega arith))

pub fill-rows : (p : Place) (g : Forest) (at : ℕ)
    → rowss (fill p g) at ≡ lead p at (length (canons g)) (nodess g) ++ (rowss g (at + length (before p)) ++ trail p (at + length (before p) + length (canons g)))
unfolding fill rowss before after lead trail canons nodess
fill-rows (here b) g at = let e : at + 0 ≡ at = omega arith in rw e (rowss-join g b at)
fill-rows (past t p) g at =
    let e : at + length (canon t ++ before p) ≡ at + length (canon t) + length (before p) = omega (arith, length-append (canon t) (before p)) in
    rw (fill-rows p g, append_assoc, e)
fill-rows (down p b) g at =
    let x : at + suc (length (canons (fill p g) ++ 41 ∷ [])) ≡ at + 1 + length (before p) + length (canons g) + length (after p) + 1
    = omega (arith, length-append (canons (fill p g)) (41 ∷ []), fill-length p g) in
    let n : 1 + nodess (fill p g) ≡ 1 + number p + nodess g + beyond p = omega (arith, fill-nodes p g) in
    let s : at + suc (length (before p)) ≡ at + 1 + length (before p) = omega arith in
    rw (x, n, s, fill-rows p g (at + 1)) (simp append_assoc)
