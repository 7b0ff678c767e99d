-- Insertions into one list: two of them, and one with something done to a node inside that list.
use Prim.Native.Nat.{ℕ, zero, suc, ◌+◌, ◌-◌, ◌≤◌, ◌<◌}
use native.Mathlib.Omega.{arith}
use mathlib.Core.Path.{◌≡◌, refl, sym, ap, ap₂, ◌∙◌}
use Rattle.base.proofs.Cases.{by_le}
use Rattle.edits.specs.Place.{Place, here, past, down, fill, number}
use Rattle.edits.proofs.Changes.{insert-across}
use Rattle.edits.proofs.Fill.{fill-nodes}
use Rattle.edits.proofs.Find.{across-at, across-here, across-in, across-past}
use Rattle.edits.proofs.Whole.{Located, locate, nodess-one}
use Rattle.model.specs.Edit.{join, one, within, across, put, put_in, insert}
use Rattle.model.specs.Node.{node_at, elements}
use Rattle.model.specs.Tree.{Tree, list, Forest, nil, cons, nodes, nodess}
use Rattle.pairs.specs.Deeds.{Deed, makes, done, up_to}
use Rattle.pairs.proofs.Apart.{done-across, only}

-- ---- in a forest

put-zero : (f : Forest) (u : Tree) → put f 0 u ≡ cons u f
unfolding put
put-zero nil u = refl
put-zero (cons t f) u = refl

put-nodes : (f : Forest) (k : ℕ) (u : Tree) → nodess (put f k u) ≡ nodess f + nodes u
unfolding put nodess
put-nodes nil k u = omega arith
put-nodes (cons t f) zero u = omega arith
put-nodes (cons t f) (suc k) u = omega (arith, put-nodes f k u)

-- two, of which one comes no later than the other
put-put : (f : Forest) (k m : ℕ) (u v : Tree) → k ≤ m → m ≤ elements f → put (put f m v) k u ≡ put (put f k u) (suc m) v
unfolding put elements
put-put f zero m u v h i = put-zero (put f m v) u ∙ sym (ap (λ (g : Forest). put g (suc m) v) (put-zero f u))
put-put nil (suc k) m u v h i = absurd (omega arith)
put-put (cons t f) (suc k) zero u v h i = absurd (omega arith)
put-put (cons t f) (suc k) (suc m) u v h i = ap (cons t) (put-put f k m u v (omega arith) (omega arith))

pub across-beyond : (e : Tree → Forest) (t : Tree) (f : Forest) (i : ℕ) → nodes t ≤ i
    → across e (cons t f) i ≡ cons t (across e f (i - nodes t))
across-beyond e t f i l =
    let n : nodes t + (i - nodes t) ≡ i = omega arith in
    ap (across e (cons t f)) (sym n) ∙ across-past e t f (i - nodes t)

pub join-elements : (g f : Forest) → elements (join g f) ≡ elements g + elements f
unfolding join elements
join-elements nil f = omega arith
join-elements (cons t g) f = omega (arith, join-elements g f)

-- one at most is gone
one-gone : (e : Tree → Forest) (f : Forest) (i : ℕ) → elements f ≤ elements (across e f i) + 1
unfolding elements
one-gone e nil i = omega arith
one-gone e (cons t f) zero = omega (arith, ap elements (across-here e t f), join-elements (e t) f)
one-gone e (cons t f) (suc i) =
    by_le (nodes t) (suc i)
    (λ l. omega (arith, ap elements (across-beyond e t f (suc i) l), one-gone e f (suc i - nodes t)))
    (λ l. omega (arith, ap elements (across-in e t f i l)))

-- ---- an insertion and a change in one forest

-- a node past the new element
put-later : (e : Tree → Forest) (f : Forest) (k i : ℕ) (u : Tree) → up_to f k ≤ i → i < nodess f
    → put (across e f i) k u ≡ across e (put f k u) (i + nodes u)
unfolding put up_to nodess
put-later e f zero i u h l =
    let n : i + nodes u ≡ nodes u + i = omega arith in
    put-zero (across e f i) u ∙ sym (ap₂ (across e) (put-zero f u) n ∙ across-past e u f i)
put-later e nil (suc k) i u h l = absurd (omega arith)
put-later e (cons t f) (suc k) i u h l =
    let n : (i - nodes t) + nodes u ≡ i + nodes u - nodes t = omega arith in
    ap (λ (g : Forest). put g (suc k) u) (across-beyond e t f i (omega arith))
    ∙ ap (cons t) (put-later e f k (i - nodes t) u (omega arith) (omega arith) ∙ ap (across e (put f k u)) n)
    ∙ sym (across-beyond e t (put f k u) (i + nodes u) (omega arith))

put-join : (g f : Forest) (k : ℕ) (u : Tree) → put (join g f) (elements g + k) u ≡ join g (put f k u)
unfolding put join elements
put-join nil f k u = let n : 0 + k ≡ k = omega arith in ap (λ (j : ℕ). put f j u) n
put-join (cons t g) f k u =
    let n : 1 + elements g + k ≡ suc (elements g + k) = omega arith in
    ap (λ (j : ℕ). put (cons t (join g f)) j u) n ∙ ap (cons t) (put-join g f k u)

some-place : (f : Forest) (k : ℕ) → 0 < up_to f k → 0 < k
unfolding up_to
some-place f zero h = absurd (omega arith)
some-place f (suc k) h = omega arith

-- a node before it: the place is shifted by the change in the number of elements
put-earlier : (e : Tree → Forest) (f : Forest) (k k' i : ℕ) (u : Tree) → i < up_to f k → k' + elements f ≡ k + elements (across e f i)
    → put (across e f i) k' u ≡ across e (put f k u) i
unfolding put up_to elements
put-earlier e f zero k' i u h m = absurd (omega arith)
put-earlier e nil (suc k) k' i u h m = absurd (omega arith)
put-earlier e (cons t f) (suc k) k' zero u h m =
    let n : k' ≡ elements (e t) + k = omega (arith, m, ap elements (across-here e t f), join-elements (e t) f) in
    ap₂ (λ (g : Forest) (j : ℕ). put g j u) (across-here e t f) n ∙ put-join (e t) f k u ∙ sym (across-here e t (put f k u))
put-earlier e (cons t f) (suc k) k' (suc i) u h m =
    by_le (nodes t) (suc i)
    (λ l.
    let c = ap elements (across-beyond e t f (suc i) l) in
    let p : 0 < k = some-place f k (omega arith) in
    let n : k' ≡ suc (k' - 1) = omega (arith, m, c, p, one-gone e f (suc i - nodes t)) in
    ap₂ (λ (g : Forest) (j : ℕ). put g j u) (across-beyond e t f (suc i) l) n
    ∙ ap (cons t) (put-earlier e f k (k' - 1) (suc i - nodes t) u (omega arith) (omega (arith, m, c, n)))
    ∙ sym (across-beyond e t (put f k u) (suc i) l))
    (λ l.
    let n : k' ≡ suc k = omega (arith, m, ap elements (across-in e t f i l)) in
    ap₂ (λ (g : Forest) (j : ℕ). put g j u) (across-in e t f i l) n ∙ sym (across-in e t (put f k u) i l))

-- ---- in a list that stands at a place

pub list-nodes : (f : Forest) → nodes (list f) ≡ 1 + nodess f
unfolding nodes
list-nodes f = refl

-- a node of it
across-under : (e : Tree → Forest) (p : Place) (f : Forest) (i : ℕ) → i < nodess f
    → across e (fill p (one (list f))) (number p + 1 + i) ≡ fill p (one (list (across e f i)))
unfolding fill number join within
across-under e (here b) f i h =
    let n : 0 + 1 + i ≡ suc i = omega arith in
    ap (across e (cons (list f) b)) n ∙ across-in e (list f) b i (omega (arith, list-nodes f))
across-under e (past t p) f i h =
    let n : nodes t + number p + 1 + i ≡ nodes t + (number p + 1 + i) = omega arith in
    ap (across e (cons t (fill p (one (list f))))) n ∙ across-past e t (fill p (one (list f))) (number p + 1 + i)
    ∙ ap (cons t) (across-under e p f i h)
across-under e (down p b) f i h =
    let g : Forest = fill p (one (list f)) in
    let n : 1 + number p + 1 + i ≡ suc (number p + 1 + i) = omega arith in
    ap (across e (cons (list g) b)) n
    ∙ across-in e (list g) b (number p + 1 + i)
    (omega (arith, list-nodes g, fill-nodes p (one (list f)), nodess-one (list f), list-nodes f))
    ∙ ap (λ (x : Forest). cons (list x) b) (across-under e p f i h)

-- it is inside the whole
pub at-nodes : (p : Place) (f : Forest) (s : Tree) → one s ≡ fill p (one (list f)) → number p + 1 + nodess f ≤ nodes s
at-nodes p f s e =
    omega (arith, sym (nodess-one s) ∙ ap nodess e, fill-nodes p (one (list f)), nodess-one (list f), list-nodes f)

-- the list itself
put-at : (p : Place) (f : Forest) (k : ℕ) (u s : Tree) → one s ≡ fill p (one (list f))
    → one (insert s (number p) k u) ≡ fill p (one (list (put f k u)))
unfolding put_in
put-at p f k u s e =
    insert-across s (number p) k u (omega (arith, at-nodes p f s e))
    ∙ ap (λ (x : Forest). across (λ (x : Tree). one (put_in k u x)) x (number p)) e
    ∙ across-at (λ (x : Tree). one (put_in k u x)) p (list f)

-- ---- in a tree: node n is a list of the elements f
module _ (t : Tree) (n : ℕ) (f : Forest) (h : n < nodes t) (is : node_at t n ≡ list f) where
  abbrev l : Located t n
  l = locate t n h

  here-it-is : one t ≡ fill l.place (one (list f))
  here-it-is = l.is ∙ ap (λ (x : Tree). fill l.place (one x)) (sym l.is_node ∙ is)

  at : (j : ℕ) (v s : Tree) (g : Forest) → one s ≡ fill l.place (one (list g))
      → one (insert s n j v) ≡ fill l.place (one (list (put g j v)))
  at j v s g e = ap (λ (m : ℕ). one (insert s m j v)) (sym l.num) ∙ put-at l.place g j v s e

  -- two insertions: the one that comes no earlier in the list has its place shifted by one where it comes second
  pub inserted-either : (k : ℕ) (u : Tree) (m : ℕ) (v : Tree) → k ≤ m → m ≤ elements f
      → insert (insert t n m v) n k u ≡ insert (insert t n k u) n (m + 1) v
  inserted-either k u m v i j =
      let q : m + 1 ≡ suc m = omega arith in
      only (at k u (insert t n m v) (put f m v) (at m v t f here-it-is)
      ∙ ap (λ (g : Forest). fill l.place (one (list g))) (put-put f k m u v i j)
      ∙ sym (ap (λ (z : ℕ). one (insert (insert t n k u) n z v)) q ∙ at (suc m) v (insert t n k u) (put f k u) (at k u t f here-it-is)))

  -- ---- something done to a node inside it
  module _ (d : Deed) (i : ℕ) (b : ℕ) (z : b ≡ n + 1 + i) (o : i < nodess f) where
    deed-at : (s : Tree) (g : Forest) (j b' : ℕ) → b' ≡ n + 1 + j → j < nodess g → one s ≡ fill l.place (one (list g))
        → one (done d s b') ≡ fill l.place (one (list (across (makes d) g j)))
    deed-at s g j b' y q e =
        let w : b' ≡ number l.place + 1 + j = omega (arith, l.num) in
        done-across d s b' (omega arith) (omega (arith, at-nodes l.place g s e))
        ∙ ap₂ (across (makes d)) e w ∙ across-under (makes d) l.place g j q

    -- the list then
    deed-here : one (done d t b) ≡ fill l.place (one (list (across (makes d) f i)))
    deed-here = deed-at t f i b z o here-it-is

    -- the list gives way to the same, whatever it was: what was done inside it is gone with it
    pub outer-wins : (c : Deed) (g : Forest) → ((x : Tree) → makes c x ≡ g) → 0 < n → done c (done d t b) n ≡ done c t n
    outer-wins c g m y =
        let now : Forest = across (makes d) f i in
        only (done-across c (done d t b) n y (omega (arith, l.num, at-nodes l.place now (done d t b) deed-here))
        ∙ ap₂ (across (makes c)) deed-here (sym l.num) ∙ across-at (makes c) l.place (list now)
        ∙ ap (fill l.place) (m (list now) ∙ sym (m l.node)) ∙ sym (done-across c t n y h ∙ l.edited (makes c)))

    -- and an insertion into the list
    module _ (k : ℕ) (u : Tree) where
      -- a node past the new element: its number is shifted where the insertion comes first
      pub inserted-before : up_to f k ≤ i → insert (done d t b) n k u ≡ done d (insert t n k u) (b + nodes u)
      inserted-before q =
          only (at k u (done d t b) (across (makes d) f i) deed-here
          ∙ ap (λ (g : Forest). fill l.place (one (list g))) (put-later (makes d) f k i u q o)
          ∙ sym (deed-at (insert t n k u) (put f k u) (i + nodes u) (b + nodes u) (omega arith)
          (omega (arith, put-nodes f k u)) (at k u t f here-it-is)))

      -- a node before it: the place is shifted by the change in the number of elements where the insertion comes second
      pub inserted-after : (k' : ℕ) → i < up_to f k → k' + elements f ≡ k + elements (across (makes d) f i)
          → insert (done d t b) n k' u ≡ done d (insert t n k u) b
      inserted-after k' q m =
          only (at k' u (done d t b) (across (makes d) f i) deed-here
          ∙ ap (λ (g : Forest). fill l.place (one (list g))) (put-earlier (makes d) f k k' i u q m)
          ∙ sym (deed-at (insert t n k u) (put f k u) i b z (omega (arith, put-nodes f k u)) (at k u t f here-it-is)))
