-- From a node's number to its place; the node at a place, and an edit of it.
use Prim.Native.Nat.{ℕ, zero, suc, ◌+◌, ◌-◌, ◌<◌}
use native.Mathlib.Omega.{arith}
use mathlib.Core.Path.{◌≡◌, refl, sym, ap, ◌∙◌}
use borrow.Author.Tests.{lt-ltb, le-ltb}
use Rattle.base.proofs.Cases.{by_le}
use Rattle.model.specs.Edit.{join, one, within, across}
use Rattle.edits.specs.Place.{number, past, Place, here, down, fill, beyond}
use Rattle.model.specs.Tree.{Tree, plain, hinted, list, Forest, nil, cons, nodes, nodess}
use Rattle.model.specs.Node.{node_in, node_among, node_at}
use Rattle.edits.proofs.Fill.{fill-nodes}

pub nodes-pos : (t : Tree) → 0 < nodes t
unfolding nodes
nodes-pos (plain d) = omega arith
nodes-pos (hinted h d) = omega arith
nodes-pos (list f) = omega arith

-- ---- an edit of a node of a forest: of the first tree itself, inside the first tree, past it
module _ (e : Tree → Forest) (t : Tree) (f : Forest) where
  pub across-here : across e (cons t f) 0 ≡ join (e t) f
  unfolding across
  across-here = rw (lt-ltb 0 (nodes t) (nodes-pos t))

  pub across-in : (k : ℕ) → suc k < nodes t → across e (cons t f) (suc k) ≡ cons (within e t k) f
  unfolding across
  across-in k h = rw (lt-ltb (suc k) (nodes t) h)

  pub across-past : (k : ℕ) → across e (cons t f) (nodes t + k) ≡ cons t (across e f k)
  unfolding across
  across-past k = let x : nodes t + k - nodes t ≡ k = omega arith in rw (le-ltb (nodes t + k) (nodes t) (omega arith), x)

-- ---- a node of a forest, in the same three cases
module _ (t : Tree) (f : Forest) where
  pub node-here : node_among (cons t f) 0 ≡ t
  unfolding node_among
  node-here = rw (lt-ltb 0 (nodes t) (nodes-pos t))

  pub node_in_lem : (k : ℕ) → suc k < nodes t → node_among (cons t f) (suc k) ≡ node_in t k
  unfolding node_among
  node_in_lem k h = rw (lt-ltb (suc k) (nodes t) h)

  pub node-past : (k : ℕ) → node_among (cons t f) (nodes t + k) ≡ node_among f k
  unfolding node_among
  node-past k = let x : nodes t + k - nodes t ≡ k = omega arith in rw (le-ltb (nodes t + k) (nodes t) (omega arith), x)

pub node_at-among : (t : Tree) (f : Forest) (k : ℕ) → k < nodes t → node_among (cons t f) k ≡ node_at t k
unfolding node_at
node_at-among t f zero h = node-here t f
node_at-among t f (suc k) h = node_in_lem t f k h

list-nodes : (p : Place) (g : Forest) → nodes (list (fill p g)) ≡ 1 + (number p + nodess g + beyond p)
unfolding nodes
list-nodes p g = ap (1 +◌) (fill-nodes p g)

-- ---- an edit of the node that stands at a place
pub across-at : (e : Tree → Forest) (p : Place) (x : Tree) → across e (fill p (one x)) (number p) ≡ fill p (e x)
unfolding fill number across join nodess
across-at e (here b) x = across-here e x b
across-at e (past t p) x = across-past e t (fill p (one x)) (number p) ∙ ap (cons t) (across-at e p x)
across-at e (down p b) x =
    let n : 1 + number p ≡ suc (number p) = omega arith in
    rw n (across-in e (list (fill p (one x))) b (number p) (omega (arith, list-nodes p (one x), nodes-pos x)) ∙ ap (λ (f : Forest). cons (list f) b) (across-at e p x))

-- ---- a node of what stands at a place
node-join : (g b : Forest) (i : ℕ) → i < nodess g → node_among (join g b) i ≡ node_among g i
unfolding join nodess
node-join nil b i h = absurd (omega arith)
node-join (cons t g) b i h =
    by_le (nodes t) i
    (λ l. let x : nodes t + (i - nodes t) ≡ i = omega arith in
    rw (← x) (node-past t (join g b) (i - nodes t) ∙ node-join g b (i - nodes t) (omega arith) ∙ sym (node-past t g (i - nodes t))))
    (λ l. node_at-among t (join g b) i l ∙ sym (node_at-among t g i l))

pub node-fill : (p : Place) (g : Forest) (i : ℕ) → i < nodess g → node_among (fill p g) (number p + i) ≡ node_among g i
unfolding fill number node_among
node-fill (here b) g i h = let x : 0 + i ≡ i = omega arith in rw x (node-join g b i h)
node-fill (past t p) g i h =
    let x : nodes t + number p + i ≡ nodes t + (number p + i) = omega arith in
    rw x (node-past t (fill p g) (number p + i) ∙ node-fill p g i h)
node-fill (down p b) g i h =
    let x : 1 + number p + i ≡ suc (number p + i) = omega arith in
    rw x (node_in_lem (list (fill p g)) b (number p + i) (omega (arith, list-nodes p g)) ∙ node-fill p g i h)

pub node_at_lem : (p : Place) (x : Tree) → node_among (fill p (one x)) (number p) ≡ x
unfolding nodess
node_at_lem p x =
    let n : number p + 0 ≡ number p = omega arith in
    rw n at (node-fill p (one x) 0 (omega (arith, nodes-pos x))) ∙ node-here x nil

-- ---- the place of a node
pub record Found (f : Forest) (k : ℕ) : Type 0 where
  pub place : Place
  pub node : Tree
  pub is : f ≡ fill place (one node)
  pub num : number place ≡ k

mutual
  unfolding fill number nodes join

  found_in : (t : Tree) (f : Forest) (k : ℕ) → suc k < nodes t → Found (cons t f) (suc k)
  found_in (plain d) f k h = absurd (omega arith)
  found_in (hinted a d) f k h = absurd (omega arith)
  found_in (list g) f k h =
      let r = find-node g k (omega arith) in
      record { place = down r.place f; node = r.node; is = ap (λ (x : Forest). cons (list x) f) r.is; num = omega (arith, r.num) }

  pub find-node : (f : Forest) (k : ℕ) → k < nodess f → Found f k
  find-node nil k h = absurd (omega arith)
  find-node (cons t f) zero h = record { place = here f; node = t; is = refl; num = refl }
  find-node (cons t f) (suc k) h =
      by_le (nodes t) (suc k)
      (λ l.
      let r = find-node f (suc k - nodes t) (omega arith) in
      record { place = past t r.place; node = r.node; is = ap (cons t) r.is; num = omega (arith, r.num) })
      (λ l. found_in t f k l)
