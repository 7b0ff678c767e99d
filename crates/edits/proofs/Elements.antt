-- Every node but node 0 is an element of a list, and taking it out, putting another there or both are changes at one place.
use Prim.Native.Nat.{ℕ, zero, suc, ◌+◌, ◌-◌, ◌≤◌, ◌<◌}
use native.Mathlib.Omega.{arith}
use mathlib.Core.Path.{◌≡◌, refl, sym, ap, ap₂, ◌∙◌}
use mathlib.Core.Bool.{true}
use mathlib.Core.Option.{some}
use borrow.Author.Tests.{le-leb}
use Rattle.base.proofs.Cases.{by_le, picked}
use Rattle.model.specs.Edit.{join, one, across, replace, put, put_in, insert, remove}
use Rattle.model.specs.Node.{node_among, node_at, elements, has_place}
use Rattle.model.specs.Table.{row_of}
use Rattle.model.specs.Tree.{Tree, plain, hinted, list, Forest, nil, cons, nodes, nodess}
use Rattle.edits.specs.Element.{placed, Element}
use Rattle.edits.specs.Place.{number, Place, here, past, down, fill}
use Rattle.edits.proofs.Changes.{insert-across, remove-across, list_count, list-placed, by-list, insert-change}
use Rattle.edits.proofs.Find.{nodes-pos, node_at-among, across-at, node_at_lem}
use Rattle.edits.proofs.Inside.{nth, within-at, within-fill, within-number, nth-put, nth-all, nth_inside}
use Rattle.edits.proofs.Whole.{nodess-one, nodes-at, locate, replace-across}

-- where the k-th element of a forest stands
unfoldable pub at-th : Forest → ℕ → Place
at-th nil k = here nil
at-th (cons t f) zero = here f
at-th (cons t f) (suc k) = past t (at-th f k)

-- the element itself
unfoldable pub th : Forest → ℕ → Tree
th nil k = list nil
th (cons t f) zero = t
th (cons t f) (suc k) = th f k

pub at-th-is : (f : Forest) (k : ℕ) → k < elements f → f ≡ fill (at-th f k) (one (th f k))
unfolding at-th th elements fill join
at-th-is nil k h = absurd (omega arith)
at-th-is (cons t f) zero h = refl
at-th-is (cons t f) (suc k) h = ap (cons t) (at-th-is f k (omega arith))

pub at-th-number : (f : Forest) (k : ℕ) → k < elements f → number (at-th f k) ≡ number (nth f k)
unfolding at-th nth elements number
at-th-number nil k h = absurd (omega arith)
at-th-number (cons t f) zero h = refl
at-th-number (cons t f) (suc k) h = ap (λ (n : ℕ). nodes t + n) (at-th-number f k (omega arith))

-- without the element, its place is that before the k-th
pub at-th-nth : (f : Forest) (k : ℕ) → k < elements f → nth (fill (at-th f k) nil) k ≡ at-th f k
unfolding at-th nth elements fill join
at-th-nth nil k h = absurd (omega arith)
at-th-nth (cons t f) zero h = refl
at-th-nth (cons t f) (suc k) h = ap (past t) (at-th-nth f k (omega arith))

at-th-elements : (f : Forest) (k : ℕ) → k < elements f → elements (fill (at-th f k) nil) + 1 ≡ elements f
unfolding at-th elements fill join
at-th-elements nil k h = absurd (omega arith)
at-th-elements (cons t f) zero h = omega arith
at-th-elements (cons t f) (suc k) h = omega (arith, at-th-elements f k (omega arith))

single : {t t' : Tree} → one t ≡ one t' → t ≡ t'
single e = cc

-- ---- each node but node 0 is one
data Elemental (g : Forest) (j : ℕ) : Type 0 where
  top : (k : ℕ) → k < elements g → number (at-th g k) ≡ j → Elemental g j
  deep : (p : Place) (f : Forest) (k : ℕ) → g ≡ fill p (one (list f)) → k < elements f → number p + 1 + number (at-th f k) ≡ j → Elemental g j

lower : (f g : Forest) (j : ℕ) → Elemental f j → Elemental (cons (list f) g) (suc j)
unfolding number fill join
lower f g j (top k h e) = deep (here g) f k refl h (omega arith)
lower f g j (deep p x k i h e) = deep (down p g) x k (ap (λ (y : Forest). cons (list y) g) i) h (omega arith)

later : (t : Tree) (g : Forest) (j : ℕ) → nodes t ≤ j → Elemental g (j - nodes t) → Elemental (cons t g) j
unfolding number fill elements at-th
later t g j l (top k h e) = top (suc k) (omega arith) (omega arith)
later t g j l (deep p x k i h e) = deep (past t p) x k (ap (cons t) i) h (omega arith)

mutual
  unfolding nodes nodess elements at-th number

  elemental-in : (t : Tree) (g : Forest) (j : ℕ) → suc j < nodes t → Elemental (cons t g) (suc j)
  elemental-in (plain d) g j h = absurd (omega arith)
  elemental-in (hinted c d) g j h = absurd (omega arith)
  elemental-in (list f) g j h = lower f g j (elemental f j (omega arith))

  elemental : (g : Forest) (j : ℕ) → j < nodess g → Elemental g j
  elemental nil j h = absurd (omega arith)
  elemental (cons t g) zero h = top 0 (omega arith) refl
  elemental (cons t g) (suc j) h =
      by_le (nodes t) (suc j)
      (λ l. later t g (suc j) l (elemental g (suc j - nodes t) (omega arith)))
      (λ l. elemental-in t g j l)

pub record Parent (t : Tree) (j : ℕ) : Type 0 where
  pub list : ℕ
  pub k : ℕ
  pub is : Element t list k j

-- what stands at a place of a tree is the node of that number
node_of : (t x : Tree) (p : Place) → one t ≡ fill p (one x) → (number p < nodes t) × (node_at t (number p) ≡ x)
node_of t x p e =
    let h : number p < nodes t = omega (arith, nodes-at t p (one x) e, nodess-one x, nodes-pos x) in
    (h, sym (node_at-among t nil (number p) h) ∙ ap (λ (f : Forest). node_among f (number p)) e ∙ node_at_lem p x)

pub parent : (t : Tree) (j : ℕ) → 0 < j → j < nodes t → Parent t j
unfolding elements at-th number
parent t j z h = by (elemental (one t) j (omega (arith, nodess-one t)))
  where
    by : Elemental (one t) j → Parent t j
    by (top zero l e) = absurd (omega arith)
    by (top (suc k) l e) = absurd (omega arith)
    by (deep p f k e l i) =
        let w = node_of t (list f) p e in
        let c = list_count t (number p) w.0 f w.1 in
        let m = at-th-number f k l in
        record {
          list = number p;
          k = k;
          is = record {
            inside = w.0;
            hops = list-placed t (number p) w.0 f w.1 k ∙ picked _ _ (le-leb k (elements f) (omega arith)) ∙ ap some (omega arith);
            there = omega (arith, nth_inside f k l);
          };
        }

-- ---- taking the element out, and putting another there
module _ (t : Tree) (n k j : ℕ) (e : Element t n k j) where
  record Stands : Type 0 where
    pub elems : Forest
    pub is_list : node_at t n ≡ list elems
    pub below : k < elements elems
    pub num : n + 1 + number (nth elems k) ≡ j

  stands : Stands
  stands =
      by-list t n e.inside k j e.hops (λ (m : ℕ). j ≡ m → Stands)
      (λ f i l x.
      let c = list_count t n e.inside f i in
      record {
        elems = f;
        is_list = i;
        below = by_le (elements f) k (λ y. let z = nth-all f k y in absurd (omega (arith, z.0, e.there))) (λ y. y);
        num = sym x;
      })
      refl

  abbrev f : Forest
  f = stands.elems

  abbrev p : Place
  p = (locate t n e.inside).place

  abbrev q : Place
  q = within-at p (at-th f k)

  list_at : one t ≡ fill p (one (list f))
  list_at = let a = locate t n e.inside in a.is ∙ ap (λ (y : Tree). fill p (one y)) (sym a.is_node ∙ stands.is_list)

  stood : one t ≡ fill q (one (th f k))
  stood = list_at ∙ ap (λ (y : Forest). fill p (one (list y))) (at-th-is f k stands.below) ∙ sym (within-fill p (at-th f k) (one (th f k)))

  number_is : number q ≡ j
  number_is = within-number p (at-th f k) ∙ omega (arith, at-th-number f k stands.below, stands.num, (locate t n e.inside).num)

  edited : (a : Tree → Forest) → across a (one t) j ≡ fill q (a (th f k))
  edited a = ap₂ (across a) stood (sym number_is) ∙ across-at a q (th f k)

  pub within-tree : (0 < j) × (j < nodes t)
  within-tree =
      let w = node_of t (th f k) q stood in
      (omega (arith, stands.num), omega (arith, w.0, number_is))

  -- the node is that element
  element-node : node_at t j ≡ th f k
  element-node = ap (node_at t) (sym number_is) ∙ (node_of t (th f k) q stood).1

  taken_out : one (remove t j) ≡ fill q nil
  taken_out = remove-across t j within-tree.0 within-tree.1 ∙ edited (λ (x : Tree). nil)

  put-in : (u : Tree) → one (replace t j u) ≡ fill q (one u)
  put-in u = replace-across t j u within-tree.1 ∙ edited (λ (x : Tree). one u)

  -- the list without it
  abbrev rest : Forest
  rest = fill (at-th f k) nil

  left_at : one (remove t j) ≡ fill p (one (list rest))
  left_at = taken_out ∙ within-fill p (at-th f k) nil

  -- where its place is still
  pub place-left : (n < nodes (remove t j)) × (has_place (node_at (remove t j) n) k ≡ true)
  unfolding has_place
  place-left =
      let a = locate t n e.inside in
      let w = node_of (remove t j) (list rest) p left_at in (
        omega (arith, w.0, a.num),
        ap (λ (x : Tree). has_place x k) (ap (node_at (remove t j)) (sym a.num) ∙ w.1)
            ∙ le-leb k (elements rest) (omega (arith, at-th-elements f k stands.below, stands.below)),
      )

  put_back : (u : Tree) → one (insert (remove t j) n k u) ≡ fill q (one u)
  unfolding put_in
  put_back u =
      let a = locate t n e.inside in
      let w = node_of (remove t j) (list rest) p left_at in
      insert-across (remove t j) n k u (omega (arith, w.0, a.num))
      ∙ ap₂ (across (λ (x : Tree). one (put_in k u x))) left_at (sym a.num)
      ∙ across-at (λ (x : Tree). one (put_in k u x)) p (list rest)
      ∙ ap (λ (y : Forest). fill p (one (list y))) (sym (nth-put rest k u) ∙ ap (λ (x : Place). fill x (one u)) (at-th-nth f k stands.below))
      ∙ sym (within-fill p (at-th f k) (one u))

  -- ---- replacing is removing, and then inserting in its place
  pub replace-is : (u : Tree) → insert (remove t j) n k u ≡ replace t j u
  replace-is u = single (put_back u ∙ sym (put-in u))

  -- inserting what was removed, in its place, gives the tree back
  pub insert-removed : insert (remove t j) n k (node_at t j) ≡ t
  insert-removed = single (put_back (node_at t j) ∙ ap (λ (x : Tree). fill q (one x)) element-node ∙ sym stood)

-- ---- removing what was just inserted gives the tree back
no-nodes : (g : Forest) → nodess g ≡ 0 → g ≡ nil
unfolding nodess
no-nodes nil e = refl
no-nodes (cons t g) e = absurd (omega (arith, nodes-pos t))

pub place_after : (t : Tree) (n : ℕ) (h : n < nodes t) (k j : ℕ) → placed (row_of t) n k ≡ some j → n < j
place_after t n h k j e = by-list t n h k j e (λ (m : ℕ). n < m) (λ f i l. omega arith)

pub remove-inserted : (t : Tree) (n : ℕ) (h : n < nodes t) (k j : ℕ) → placed (row_of t) n k ≡ some j → (u : Tree) → remove (insert t n k u) j ≡ t
remove-inserted t n h k j e u =
    let c = insert-change t n h k j e u in
    let w = node_of (insert t n k u) u c.place c.is in
    single
    (remove-across (insert t n k u) j (omega (arith, place_after t n h k j e)) (omega (arith, w.0, c.at))
    ∙ ap₂ (across (λ (x : Tree). nil)) c.is (sym c.at)
    ∙ across-at (λ (x : Tree). nil) c.place u
    ∙ ap (fill c.place) (sym (no-nodes c.old c.some))
    ∙ sym c.was)

-- past the last element it comes last
pub put_last : (f : Forest) (u : Tree) → put f (elements f) u ≡ join f (one u)
unfolding put elements join
put_last nil u = refl
put_last (cons t f) u = let e : 1 + elements f ≡ suc (elements f) = omega arith in rw e (ap (cons t) (put_last f u))

-- ---- and it is the k-th element of its list
put-elements : (f : Forest) (k : ℕ) (u : Tree) → elements (put f k u) ≡ 1 + elements f
unfolding put elements
put-elements nil k u = refl
put-elements (cons t f) zero u = refl
put-elements (cons t f) (suc k) u = ap (λ (n : ℕ). 1 + n) (put-elements f k u)

put-number : (f : Forest) (k : ℕ) (u : Tree) → k ≤ elements f → number (nth (put f k u) k) ≡ number (nth f k)
unfolding put nth number elements
put-number nil zero u h = refl
put-number nil (suc k) u h = absurd (omega arith)
put-number (cons t f) zero u h = refl
put-number (cons t f) (suc k) u h = ap (λ (n : ℕ). nodes t + n) (put-number f k u (omega arith))

pub inserted-element : (t : Tree) (n : ℕ) (h : n < nodes t) (k j : ℕ) → placed (row_of t) n k ≡ some j → (u : Tree) → Element (insert t n k u) n k j
unfolding put_in
inserted-element t n h k j e u =
    by-list t n h k j e (λ (m : ℕ). Element (insert t n k u) n k m)
    (λ f i l.
    let a = locate t n h in
    let is : one (insert t n k u) ≡ fill a.place (one (list (put f k u)))
    = insert-across t n k u h ∙ a.edited (λ (x : Tree). one (put_in k u x)) ∙ ap (λ (x : Tree). fill a.place (one (put_in k u x))) (sym a.is_node ∙ i) in
    let w = node_of (insert t n k u) (list (put f k u)) a.place is in
    let x : n < nodes (insert t n k u) = omega (arith, w.0, a.num) in
    let y : node_at (insert t n k u) n ≡ list (put f k u) = ap (node_at (insert t n k u)) (sym a.num) ∙ w.1 in
    let c = list_count (insert t n k u) n x (put f k u) y in
    let d = put-elements f k u in
    let b = put-number f k u l in
    record {
      inside = x;
      hops = list-placed (insert t n k u) n x (put f k u) y k ∙ picked _ _ (le-leb k (elements (put f k u)) (omega arith)) ∙ ap some (omega arith);
      there = omega (arith, nth_inside (put f k u) k (omega arith));
    })
