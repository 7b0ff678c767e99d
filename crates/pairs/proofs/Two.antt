-- Two places: the whole is what is filled at either, and where each stands does not depend on the other but for its number.
use Prim.Native.Nat.{◌+◌, ◌≤◌}
use native.Mathlib.Omega.{arith}
use mathlib.Core.Path.{◌≡◌, refl, sym, ap, ap₂}
use mathlib.Core.List.{[], ◌∷◌}
use lib.ListN.{length, length-append}
use Rattle.edits.specs.Place.{Place, here, past, down, fill, before, number}
use Rattle.edits.proofs.Fill.{fill-length, fill-nodes}
use Rattle.model.specs.Edit.{join}
use Rattle.model.specs.Tree.{Tree, plain, hinted, list, Forest, nil, cons, canon, canons, nodes, nodess}
use Rattle.model.proofs.Exact.{canon-two}
use Rattle.pairs.specs.Two.{Two, front, further, under, parted, fill_two, pasts, first, second}

fill-pasts : (g : Forest) (q : Place) (h : Forest) → fill (pasts g q) h ≡ join g (fill q h)
unfolding pasts fill join
fill-pasts nil q h = refl
fill-pasts (cons t g) q h = ap (cons t) (fill-pasts g q h)

pub fill-first : (w : Two) (g h : Forest) → fill (first w h) g ≡ fill_two w g h
unfolding first fill fill_two
fill-first (front q) g h = refl
fill-first (further t w) g h = ap (cons t) (fill-first w g h)
fill-first (under w b) g h = ap (λ (f : Forest). cons (list f) b) (fill-first w g h)
fill-first (parted p q) g h = refl

pub fill-second : (w : Two) (g h : Forest) → fill (second w g) h ≡ fill_two w g h
unfolding second fill fill_two
fill-second (front q) g h = fill-pasts g q h
fill-second (further t w) g h = ap (cons t) (fill-second w g h)
fill-second (under w b) g h = ap (λ (f : Forest). cons (list f) b) (fill-second w g h)
fill-second (parted p q) g h = refl

-- the number of the first place is the same, whatever stands at the second
pub number-first : (w : Two) (h h' : Forest) → number (first w h) ≡ number (first w h')
unfolding first number
number-first (front q) h h' = refl
number-first (further t w) h h' = ap (nodes t +◌) (number-first w h h')
number-first (under w b) h h' = ap (1 +◌) (number-first w h h')
number-first (parted p q) h h' = refl

number-pasts : (g : Forest) (q : Place) → number (pasts g q) ≡ nodess g + number q
unfolding pasts number nodess
number-pasts nil q = omega arith
number-pasts (cons t g) q = omega (arith, number-pasts g q)

-- that of the second moves by the change in node count at the first
pub number-second : (w : Two) (g g' : Forest) → number (second w g') + nodess g ≡ number (second w g) + nodess g'
unfolding second number nodes
number-second (front q) g g' = omega (arith, number-pasts g q, number-pasts g' q)
number-second (further t w) g g' = omega (arith, number-second w g g')
number-second (under w b) g g' = omega (arith, number-second w g g')
number-second (parted p q) g g' = omega (arith, fill-nodes p g, fill-nodes p g')

-- ---- two places of one forest, where what stands at the first ends before the second begins
pub record Pair (p q : Place) (g h : Forest) : Type 0 where
  pub two : Two
  pub is-first : p ≡ first two h
  pub is-second : q ≡ second two g

-- a list is longer than what stands before a place in it
list-long : (q : Place) (h : Forest) → 2 + length (before q) + length (canons h) ≤ length (canon (list (fill q h)))
unfolding canon
list-long q h = omega (arith, length-append (canons (fill q h)) (41 ∷ []), fill-length q h)

head : Forest → Tree
head nil = list nil
head (cons t f) = t

tail : Forest → Forest
tail nil = nil
tail (cons t f) = f

elements : Tree → Forest
elements (list f) = f
elements (plain d) = nil
elements (hinted h d) = nil

past-length : (t : Tree) (p : Place) → length (before (past t p)) ≡ length (canon t) + length (before p)
unfolding before
past-length t p = length-append (canon t) (before p)

-- a place past a forest
record Beyond (g : Forest) (q : Place) (b h : Forest) : Type 0 where
  rest : Place
  is : q ≡ pasts g rest
  fills : b ≡ fill rest h

beyond : (g : Forest) (q : Place) (b h : Forest) → join g b ≡ fill q h → length (canons g) ≤ length (before q) → Beyond g q b h
unfolding join pasts fill canons before head tail
beyond nil q b h e l = record { rest = q; is = refl; fills = e }
beyond (cons t g) (here c) b h e l = absurd (omega (arith, canon-two t, length-append (canon t) (canons g)))
beyond (cons t g) (past u q) b h e l =
    let x : t ≡ u = ap head e in
    let y = ap (λ (z : Tree). length (canon z)) x in
    let r : Beyond g q b h = beyond g q b h (ap tail e) (omega (arith, l, past-length u q, length-append (canon t) (canons g), y)) in
    record { rest = r.rest; is = ap₂ past (sym x) r.is; fills = r.fills }
beyond (cons t g) (down q c) b h e l =
    absurd (omega (arith, l, length-append (canon t) (canons g), ap (λ (z : Tree). length (canon z)) (ap head e), list-long q h))

pub find-two : (p q : Place) (g h : Forest) → fill p g ≡ fill q h → length (before p) + length (canons g) ≤ length (before q) → Pair p q g h
unfolding fill before first second head tail elements
find-two (here b) q g h e l =
    let r : Beyond g q b h = beyond g q b h e (omega arith) in
    record { two = front r.rest; is-first = ap here r.fills; is-second = r.is }
find-two (past t p) (here c) g h e l = absurd (omega (arith, past-length t p, canon-two t))
find-two (past t p) (past u q) g h e l =
    let x : t ≡ u = ap head e in
    let y = ap (λ (z : Tree). length (canon z)) x in
    let r : Pair p q g h = find-two p q g h (ap tail e) (omega (arith, l, past-length t p, past-length u q, y)) in
    record { two = further t r.two; is-first = ap (past t) r.is-first; is-second = ap₂ past (sym x) r.is-second }
find-two (past t p) (down q c) g h e l =
    absurd (omega (arith, l, past-length t p, ap (λ (z : Tree). length (canon z)) (ap head e), list-long q h))
find-two (down p b) (here c) g h e l = absurd (omega arith)
find-two (down p b) (past u q) g h e l =
    record { two = parted p q; is-first = ap (down p) (ap tail e); is-second = ap (λ (t : Tree). past t q) (sym (ap head e)) }
find-two (down p b) (down q c) g h e l =
    let r : Pair p q g h = find-two p q g h (ap (λ (f : Forest). elements (head f)) e) (omega arith) in
    record {
      two =
          under r.two b;
      is-first = ap (λ (x : Place). down x b) r.is-first;
      is-second = ap₂ down r.is-second (sym (ap tail e));
    }
