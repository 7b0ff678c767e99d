-- An insertion into a list and something done to a node inside it, removals above all: in which element that node is, and how many
-- elements there are afterwards, say what is shifted (S 12.4).
use Prim.Native.Nat.{ℕ, zero, suc, ◌+◌, ◌-◌, ◌≤◌, ◌<◌}
use native.Mathlib.Omega.{arith}
use mathlib.Core.Path.{◌≡◌, refl, sym, ap, ap₂, ◌∙◌}
use Rattle.base.proofs.Cases.{by_le}
use Rattle.edits.specs.Place.{fill, number}
use Rattle.edits.proofs.Elements.{th}
use Rattle.edits.proofs.Find.{across-here, across-in, nodes-pos, node-here, node_in_lem, node-past, node-fill, node_at-among}
use Rattle.edits.proofs.Whole.{Located, locate, nodess-one}
use Rattle.model.specs.Edit.{join, one, across, insert, remove}
use Rattle.model.specs.Node.{node_at, node_in, node_among, elements}
use Rattle.model.specs.Tree.{Tree, list, Forest, nil, cons, nodes, nodess}
use Rattle.pairs.specs.Deeds.{Deed, to, with_in, away, makes, done, up_to}
use Rattle.pairs.proofs.Inserted.{across-beyond, join-elements, list-nodes, at-nodes, inserted-before, inserted-after}

-- ---- the nodes of the first elements

up-to-in : (f : Forest) (j : ℕ) → j < elements f → up_to f j < nodess f
unfolding up_to elements nodess
up-to-in nil j h = absurd (omega arith)
up-to-in (cons t f) zero h = omega (arith, nodes-pos t)
up-to-in (cons t f) (suc j) h = omega (arith, up-to-in f j (omega arith))

up-to-all : (f : Forest) (j : ℕ) → up_to f j ≤ nodess f
unfolding up_to nodess
up-to-all f zero = omega arith
up-to-all nil (suc j) = omega arith
up-to-all (cons t f) (suc j) = omega (arith, up-to-all f j)

up-to-more : (f : Forest) (j k : ℕ) → j ≤ k → up_to f j ≤ up_to f k
unfolding up_to
up-to-more f zero k h = omega arith
up-to-more nil (suc j) k h = omega arith
up-to-more (cons t f) (suc j) zero h = absurd (omega arith)
up-to-more (cons t f) (suc j) (suc k) h = omega (arith, up-to-more f j k (omega arith))

up-to-next : (f : Forest) (j : ℕ) → j < elements f → up_to f j < up_to f (suc j)
unfolding up_to elements
up-to-next nil j h = absurd (omega arith)
up-to-next (cons t f) zero h = omega (arith, nodes-pos t)
up-to-next (cons t f) (suc j) h = omega (arith, up-to-next f j (omega arith))

-- each node of a list is in one of its elements: that element itself, or deeper
pub record InElement (f : Forest) (i : ℕ) : Type 0 where
  pub j : ℕ
  pub there : j < elements f
  pub from : up_to f j ≤ i
  pub before : i < up_to f (suc j)

pub in-element : (f : Forest) (i : ℕ) → i < nodess f → InElement f i
unfolding up_to elements nodess
in-element nil i h = absurd (omega arith)
in-element (cons t f) i h =
    by_le (nodes t) i
    (λ l.
    let r = in-element f (i - nodes t) (omega arith) in
    record { j = suc r.j; there = omega (arith, r.there); from = omega (arith, r.from); before = omega (arith, r.before) })
    (λ l. record { j = 0; there = omega arith; from = omega arith; before = omega arith })

-- the first of the j-th element's nodes is that element
first-is-element : (f : Forest) (j : ℕ) → j < elements f → node_among f (up_to f j) ≡ th f j
unfolding up_to elements th
first-is-element nil j h = absurd (omega arith)
first-is-element (cons t f) zero h = node-here t f
first-is-element (cons t f) (suc j) h = node-past t f (up_to f j) ∙ first-is-element f j (omega arith)

-- ---- how many elements there are afterwards

-- a node that gives way to one tree
kept-elements : (e : Tree → Forest) → ((x : Tree) → elements (e x) ≡ 1) → (f : Forest) (i : ℕ) → elements (across e f i) ≡ elements f
unfolding elements across
kept-elements e c nil i = refl
kept-elements e c (cons t f) zero = omega (arith, ap elements (across-here e t f), join-elements (e t) f, c t)
kept-elements e c (cons t f) (suc i) =
    by_le (nodes t) (suc i)
    (λ l. omega (arith, ap elements (across-beyond e t f (suc i) l), kept-elements e c f (suc i - nodes t)))
    (λ l. omega (arith, ap elements (across-in e t f i l)))

one-stays : (d : Deed) → (d ≡ away → ⊥) → (x : Tree) → elements (makes d x) ≡ 1
unfolding makes elements
one-stays (to u) c x = refl
one-stays (with_in k u) c x = refl
one-stays away c x = absurd (c refl)

-- a node deeper inside the j-th element
deeper-elements : (e : Tree → Forest) (f : Forest) (j i : ℕ) → up_to f j < i → i < up_to f (suc j) → elements (across e f i) ≡ elements f
unfolding elements up_to
deeper-elements e nil j i h l = absurd (omega arith)
deeper-elements e (cons t f) zero zero h l = absurd (omega arith)
deeper-elements e (cons t f) zero (suc i) h l = omega (arith, ap elements (across-in e t f i (omega arith)))
deeper-elements e (cons t f) (suc j) i h l = omega (
  arith,
  ap elements (across-beyond e t f i (omega arith)),
  deeper-elements e f j (i - nodes t) (omega arith) (omega arith),
)

-- the j-th element, which goes
gone-elements : (f : Forest) (j : ℕ) → j < elements f → elements (across (λ (x : Tree). nil) f (up_to f j)) + 1 ≡ elements f
unfolding elements up_to join
gone-elements nil j h = absurd (omega arith)
gone-elements (cons t f) zero h = omega (arith, ap elements (across-here (λ (x : Tree). nil) t f))
gone-elements (cons t f) (suc j) h =
    let n : nodes t + up_to f j - nodes t ≡ up_to f j = omega arith in
    let g = ap (λ (i : ℕ). elements (across (λ (x : Tree). nil) f i)) n in
    let c = ap elements (across-beyond (λ (x : Tree). nil) t f (nodes t + up_to f j) (omega arith)) in
    omega (arith, c, g, gone-elements f j (omega arith))

-- ---- in a tree: node n is a list of the elements f, and the tree u comes into it as its k-th
module _ (t : Tree) (n : ℕ) (f : Forest) (h : n < nodes t) (is : node_at t n ≡ list f) (k : ℕ) (u : Tree) where
  -- a node before it, whatever is done but removing it: nothing is shifted
  pub kept-after : (d : Deed) → (d ≡ away → ⊥) → (i b : ℕ) → b ≡ n + 1 + i → i < nodess f → i < up_to f k
      → insert (done d t b) n k u ≡ done d (insert t n k u) b
  kept-after d c i b z o q = inserted-after t n f h is d i b z o k u k q (omega (arith, kept-elements (makes d) (one-stays d c) f i))

  -- a node deeper inside the j-th element, removed or whatever else
  module _ (d : Deed) (j i b : ℕ) (z : b ≡ n + 1 + i) (from : up_to f j < i) (before : i < up_to f (suc j)) where
    in_list : i < nodess f
    in_list = omega (arith, up-to-all f (suc j))

    -- an earlier one: nothing is shifted
    pub deeper-earlier : j < k → insert (done d t b) n k u ≡ done d (insert t n k u) b
    deeper-earlier q =
        inserted-after t n f h is d i b z in_list k u k (omega (arith, up-to-more f (suc j) k q))
        (omega (arith, deeper-elements (makes d) f j i from before))

    -- a later one: the node's number is shifted where the insertion comes first
    pub deeper-later : k ≤ j → insert (done d t b) n k u ≡ done d (insert t n k u) (b + nodes u)
    deeper-later q = inserted-before t n f h is d i b z in_list k u (omega (arith, up-to-more f k j q))

  -- the j-th element itself, removed
  module _ (j b : ℕ) (z : b ≡ n + 1 + up_to f j) (there : j < elements f) where
    pub it-is-the-element : node_at t b ≡ th f j
    unfolding node_in
    it-is-the-element =
        let l : Located t n = locate t n h in
        let i = up-to-in f j there in
        let e : one t ≡ fill l.place (one (list f)) = l.is ∙ ap (λ (x : Tree). fill l.place (one x)) (sym l.is_node ∙ is) in
        let m = at-nodes l.place f t e in
        let w : b ≡ number l.place + suc (up_to f j) = omega (arith, l.num) in
        sym (node_at-among t nil b (omega (arith, m))) ∙ ap₂ node_among e w
        ∙ node-fill l.place (one (list f)) (suc (up_to f j)) (omega (arith, nodess-one (list f), list-nodes f))
        ∙ node_in_lem (list f) nil (up_to f j) (omega (arith, list-nodes f)) ∙ first-is-element f j there

    -- an earlier one: the place counts one less where the insertion comes second
    pub removed-earlier : j < k → insert (remove t b) n (k - 1) u ≡ remove (insert t n k u) b
    unfolding done makes
    removed-earlier q =
        inserted-after t n f h is away (up_to f j) b z (up-to-in f j there) k u (k - 1)
        (omega (arith, up-to-next f j there, up-to-more f (suc j) k q)) (omega (arith, gone-elements f j there))

    -- a later one: its number is shifted where the insertion comes first
    pub removed-later : k ≤ j → insert (remove t b) n k u ≡ remove (insert t n k u) (b + nodes u)
    unfolding done makes
    removed-later q = inserted-before t n f h is away (up_to f j) b z (up-to-in f j there) k u (up-to-more f k j q)
