-- S 4.4: the parent is a list that holds the node, and no list in it does.
use Prim.Native.Nat.{ℕ, zero, suc, ◌+◌, ◌-◌, ◌≤◌, ◌<◌}
use native.Mathlib.Omega.{arith}
use mathlib.Core.Path.{◌≡◌, refl, sym, ap, ap₂, ◌∙◌, subst}
use mathlib.Core.Bool.{true, false}
use mathlib.Core.List.{List, [], ◌∷◌, ◌++◌, map}
use lib.ListN.{length, get_or, length-append, get_or-append}
use borrow.Author.Tests.{lt-ltb, le-ltb}
use Rattle.base.proofs.Cases.{by_le, true-both}
use Rattle.model.specs.Table.{Row, plain_row, rows, rowss, row_of, parents, parentss, parent_of}
use Rattle.model.specs.Tree.{Tree, plain, hinted, list, Forest, nil, cons, canon, nodes, nodess}
use Rattle.walk.proofs.Tabled.{rows-length, parents-length, get_or-right}
use Rattle.edits.specs.Node.{holds}
use Rattle.edits.proofs.Above.{root-up}
use Rattle.edits.proofs.Holds.{holds-list}
use Rattle.edits.proofs.Moved.{get_or-map-in}
use Rattle.edits.proofs.Rows.{map-append}

-- ---- node counts, node by node
unfoldable mutual
  counts : Tree → List ℕ
  counts (plain d) = 1 ∷ []
  counts (hinted h d) = 1 ∷ []
  counts (list f) = nodes (list f) ∷ countss f

  countss : Forest → List ℕ
  countss nil = []
  countss (cons t f) = counts t ++ countss f

mutual
  unfolding counts rows

  counts-rows : (t : Tree) (at : ℕ) → map (λ (r : Row). r.count) (rows t at) ≡ counts t
  counts-rows (plain d) at = refl
  counts-rows (hinted h d) at = refl
  counts-rows (list f) at = ap (nodes (list f) ∷◌) (countss-rows f (at + 1))

  countss-rows : (f : Forest) (at : ℕ) → map (λ (r : Row). r.count) (rowss f at) ≡ countss f
  countss-rows nil at = refl
  countss-rows (cons t f) at =
      map-append (λ (r : Row). r.count) (rows t at) (rowss f (at + length (canon t))) ∙ ap₂ ◌++◌ (counts-rows t at) (countss-rows f (at + length (canon t)))

mutual
  unfolding counts nodes

  counts-length : (t : Tree) → length (counts t) ≡ nodes t
  counts-length (plain d) = refl
  counts-length (hinted h d) = refl
  counts-length (list f) = omega (arith, countss-length f)

  countss-length : (f : Forest) → length (countss f) ≡ nodess f
  countss-length nil = refl
  countss-length (cons t f) = omega (arith, length-append (counts t) (countss f), counts-length t, countss-length f)

-- no node reaches past the tree
mutual
  unfolding counts nodes

  counts-within : (t : Tree) (j : ℕ) → j < nodes t → j + get_or (counts t) j 0 ≤ nodes t
  counts-within (plain d) zero h = omega arith
  counts-within (plain d) (suc j) h = absurd (omega arith)
  counts-within (hinted x d) zero h = omega arith
  counts-within (hinted x d) (suc j) h = absurd (omega arith)
  counts-within (list f) zero h = omega arith
  counts-within (list f) (suc j) h = omega (arith, countss-within f j (omega arith))

  countss-within : (f : Forest) (j : ℕ) → j < nodess f → j + get_or (countss f) j 0 ≤ nodess f
  countss-within nil j h = absurd (omega arith)
  countss-within (cons t f) j h =
      by_le (nodes t) j
      (λ l. rw (get_or-right (counts t) (countss f) j (omega (arith, counts-length t)))
      (omega (arith, counts-length t, countss-within f (j - length (counts t)) (omega (arith, counts-length t)))))
      (λ l. rw (get_or-append (counts t) (countss f) 0 j (omega (arith, counts-length t))) (omega (arith, counts-within t j l)))

-- ---- p is the list around node k of some nodes with these counts, of which the first has number own and which all are in the list up:
-- it is one of them that holds k, and none between does; or none of them holds k
data Near (c : List ℕ) (own up k p : ℕ) : Type 0 where
  outer : p ≡ up → ((j : ℕ) → j < k → j + get_or c j 0 ≤ k) → Near c own up k p
  inner : (i : ℕ) → p ≡ own + i → i < k → k < i + get_or c i 0 → ((j : ℕ) → i < j → j < k → j + get_or c j 0 ≤ k) → Near c own up k p

-- a list's own nodes
near-in : (f : Forest) (own up k p : ℕ) → k < nodess f → Near (countss f) (own + 1) own k p → Near (nodes (list f) ∷ countss f) own up (suc k) p
unfolding nodes
near-in f own up k p h (outer e g) = inner 0 (e ∙ omega arith) (omega arith) (omega arith) (λ j a b. by j a b)
  where
    by : (j : ℕ) → 0 < j → j < suc k → j + get_or (nodes (list f) ∷ countss f) j 0 ≤ suc k
    by zero a b = absurd (omega arith)
    by (suc j) a b = omega (arith, g j (omega arith))
near-in f own up k p h (inner i e a b g) = inner (suc i) (e ∙ omega arith) (omega arith) (omega (arith, b)) (λ j x y. by j x y)
  where
    by : (j : ℕ) → suc i < j → j < suc k → j + get_or (nodes (list f) ∷ countss f) j 0 ≤ suc k
    by zero x y = absurd (omega arith)
    by (suc j) x y = omega (arith, g j (omega arith) (omega arith))

-- the nodes of the first of several trees, and those of the others
module _ (t : Tree) (f : Forest) (own up k p : ℕ) where
  left : (j : ℕ) → j < nodes t → get_or (counts t ++ countss f) j 0 ≡ get_or (counts t) j 0
  left j h = get_or-append (counts t) (countss f) 0 j (omega (arith, counts-length t))

  right : (j : ℕ) → nodes t ≤ j → get_or (counts t ++ countss f) j 0 ≡ get_or (countss f) (j - nodes t) 0
  right j h = get_or-right (counts t) (countss f) j (omega (arith, counts-length t)) ∙ ap (λ (n : ℕ). get_or (countss f) (j - n) 0) (counts-length t)

  near-left : k < nodes t → Near (counts t) own up k p → Near (counts t ++ countss f) own up k p
  near-left h (outer e g) = outer e (λ j a. omega (arith, left j (omega arith), g j a))
  near-left h (inner i e a b g) = inner i e a (omega (arith, left i (omega arith), b)) (λ j x y. omega (arith, left j (omega arith), g j x y))

  near-right : nodes t ≤ k → Near (countss f) (own + nodes t) up (k - nodes t) p → Near (counts t ++ countss f) own up k p
  near-right h (outer e g) =
      outer e (λ j a. by_le (nodes t) j (λ l. omega (arith, right j l, g (j - nodes t) (omega arith))) (λ l. omega (arith, left j l, counts-within t j l)))
  near-right h (inner i e a b g) =
      let z : nodes t + i - nodes t ≡ i = omega arith in
      let y : get_or (counts t ++ countss f) (nodes t + i) 0 ≡ get_or (countss f) i 0 = right (nodes t + i) (omega arith) ∙ ap (λ (n : ℕ). get_or (countss f) n 0) z in
      inner (nodes t + i) (e ∙ omega arith) (omega arith) (omega (arith, y, b)) (λ j x w. omega (arith, right j (omega arith), g (j - nodes t) (omega arith) (omega arith)))

mutual
  unfolding counts parents nodes

  near-tree : (t : Tree) (own up k : ℕ) → k < nodes t → Near (counts t) own up k (get_or (parents t own up) k 0)
  near-tree (plain d) own up zero h = outer refl (λ j a. absurd (omega arith))
  near-tree (plain d) own up (suc k) h = absurd (omega arith)
  near-tree (hinted x d) own up zero h = outer refl (λ j a. absurd (omega arith))
  near-tree (hinted x d) own up (suc k) h = absurd (omega arith)
  near-tree (list f) own up zero h = outer refl (λ j a. absurd (omega arith))
  near-tree (list f) own up (suc k) h = near-in f own up k (get_or (parentss f (own + 1) own) k 0) (omega arith) (near-forest f (own + 1) own k (omega arith))

  near-forest : (f : Forest) (own up k : ℕ) → k < nodess f → Near (countss f) own up k (get_or (parentss f own up) k 0)
  near-forest nil own up k h = absurd (omega arith)
  near-forest (cons t f) own up k h =
      by_le (nodes t) k
      (λ l. subst (Near (counts t ++ countss f) own up k)
      (sym (get_or-right (parents t own up) (parentss f (own + nodes t) up) k (omega (arith, parents-length t own up)) ∙ ap (λ (n : ℕ). get_or (parentss f (own + nodes t) up) (k - n) 0) (parents-length t own up)))
      (near-right t f own up k _ l (near-forest f (own + nodes t) up (k - nodes t) (omega arith))))
      (λ l. subst (Near (counts t ++ countss f) own up k) (sym (get_or-append (parents t own up) (parentss f (own + nodes t) up) 0 k (omega (arith, parents-length t own up))))
      (near-left t f own up k _ l (near-tree t own up k l)))

-- ---- of a whole tree
module _ (t : Tree) where
  count-is : (j : ℕ) → j < nodes t → (row_of t j).count ≡ get_or (counts t) j 0
  count-is j h =
      sym (get_or-map-in (λ (r : Row). r.count) (rows t 0) j (plain_row 0 0 0) 0 (omega (arith, rows-length t 0))) ∙ ap (λ (l : List ℕ). get_or l j 0) (counts-rows t 0)

  -- node 0 carries 0
  pub parent-root : parent_of t 0 ≡ 0
  parent-root = root-up t 0 0

  module _ (k : ℕ) (p : 0 < k) (h : k < nodes t) where
    all : get_or (counts t) 0 0 ≡ nodes t
    unfolding counts nodes
    all = by t
      where
        by : (u : Tree) → get_or (counts u) 0 0 ≡ nodes u
        by (plain d) = refl
        by (hinted x d) = refl
        by (list f) = refl

    record Around : Type 0 where
      before : parent_of t k < k
      reaches : k < parent_of t k + get_or (counts t) (parent_of t k) 0
      between : (j : ℕ) → parent_of t k < j → j < k → j + get_or (counts t) j 0 ≤ k

    around : Around
    around = by (near-tree t 0 0 k h)
      where
        by : Near (counts t) 0 0 k (parent_of t k) → Around
        by (outer e g) = absurd (omega (arith, g 0 p, all))
        by (inner i e a b g) =
            let z : parent_of t k ≡ i = e ∙ omega arith in
            record { before = omega arith; reaches = rw z b; between = λ j x y. g j (omega arith) y }

    -- the parent comes before the node
    pub parent-before : parent_of t k < k
    parent-before = around.before

    -- it holds the node, and so is a list
    pub parent-holds : holds t (parent_of t k) k ≡ true
    parent-holds =
        let r : k < parent_of t k + (row_of t (parent_of t k)).count = omega (arith, around.reaches, count-is (parent_of t k) (omega (arith, parent-before))) in
        true-both (lt-ltb (parent_of t k) k parent-before) (lt-ltb k (parent_of t k + (row_of t (parent_of t k)).count) r)

    pub parent-list : (row_of t (parent_of t k)).kind ≡ 2
    parent-list = holds-list t (parent_of t k) k parent-before h parent-holds

    -- no node between the two holds it: the parent is the innermost
    pub parent-nearest : (j : ℕ) → parent_of t k < j → j < k → holds t j k ≡ false
    parent-nearest j a b =
        rw (lt-ltb j k b) (le-ltb k (j + (row_of t j).count) (omega (arith, around.between j a b, count-is j (omega arith))))
