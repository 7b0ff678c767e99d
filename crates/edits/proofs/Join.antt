-- Two forests, one after the other.
use Prim.Native.Nat.{ℕ, ◌+◌, max}
use native.Mathlib.Omega.{arith}
use mathlib.Core.Path.{◌≡◌, refl, ap}
use mathlib.Core.List.{◌++◌, append_assoc}
use lib.ListN.{length, length-append}
use Rattle.model.specs.Edit.{join}
use Rattle.model.specs.Table.{rowss}
use Rattle.model.specs.Tree.{Forest, nil, cons, canon, canons, nodess, depths}

pub join-nil : (f : Forest) → join f nil ≡ f
unfolding join
join-nil nil = refl
join-nil (cons t f) = ap (cons t) (join-nil f)

pub canons-join : (f g : Forest) → canons (join f g) ≡ canons f ++ canons g
unfolding join canons
canons-join nil g = refl
canons-join (cons t f) g = rw (canons-join f g, append_assoc)

pub nodess-join : (f g : Forest) → nodess (join f g) ≡ nodess f + nodess g
unfolding join nodess
nodess-join nil g = omega arith
nodess-join (cons t f) g = omega (arith, nodess-join f g)

pub depths-join : (f g : Forest) → depths (join f g) ≡ max (depths f) (depths g)
unfolding join depths
depths-join nil g = omega arith
depths-join (cons t f) g = omega (arith, depths-join f g)

pub rowss-join : (f g : Forest) (at : ℕ) → rowss (join f g) at ≡ rowss f at ++ rowss g (at + length (canons f))
unfolding join canons rowss
rowss-join nil g at = let e : at + 0 ≡ at = omega arith in rw e
rowss-join (cons t f) g at =
    let e : at + length (canon t ++ canons f) ≡ at + length (canon t) + length (canons f) = omega (arith, length-append (canon t) (canons f)) in
    rw (rowss-join f g, append_assoc, e)
