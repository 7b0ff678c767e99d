-- S 4.4: whoever climbs from a node comes to node 0, in at most as many steps as the tree is deep.
use Prim.Native.Nat.{ℕ, zero, suc, ◌+◌, ◌-◌, ◌≤◌, ◌<◌}
use native.Mathlib.Omega.{arith}
use mathlib.Core.Path.{◌≡◌, refl, sym, ap, ◌∙◌, subst}
use mathlib.Core.List.{List, [], ◌∷◌, ◌++◌}
use lib.ListN.{length, get_or, length-append, get_or-append}
use Rattle.base.proofs.Cases.{by_le, by-eq}
use Rattle.model.specs.Table.{parents, parentss, parent_of}
use Rattle.model.specs.Tree.{Tree, plain, hinted, list, Forest, nil, cons, nodes, nodess, depth, depths}
use Rattle.walk.proofs.Tabled.{parents-length, get_or-right}
use Rattle.demands.specs.Climbing.{climb}
use Rattle.demands.proofs.Nearest.{parent-root, parent-before}

-- ---- how many lists are around each node, where d are around the first
unfoldable mutual
  levels : Tree → ℕ → List ℕ
  levels (plain x) d = d ∷ []
  levels (hinted h x) d = d ∷ []
  levels (list f) d = d ∷ levelss f (d + 1)

  levelss : Forest → ℕ → List ℕ
  levelss nil d = []
  levelss (cons t f) d = levels t d ++ levelss f d

mutual
  unfolding levels nodes

  levels-length : (t : Tree) (d : ℕ) → length (levels t d) ≡ nodes t
  levels-length (plain x) d = refl
  levels-length (hinted h x) d = refl
  levels-length (list f) d = omega (arith, levelss-length f (d + 1))

  levelss-length : (f : Forest) (d : ℕ) → length (levelss f d) ≡ nodess f
  levelss-length nil d = refl
  levelss-length (cons t f) d = omega (arith, length-append (levels t d) (levelss f d), levels-length t d, levelss-length f d)

module _ (t : Tree) (f : Forest) (d k : ℕ) where
  left : k < nodes t → get_or (levels t d ++ levelss f d) k 0 ≡ get_or (levels t d) k 0
  left h = get_or-append (levels t d) (levelss f d) 0 k (omega (arith, levels-length t d))

  right : nodes t ≤ k → get_or (levels t d ++ levelss f d) k 0 ≡ get_or (levelss f d) (k - nodes t) 0
  right h = get_or-right (levels t d) (levelss f d) k (omega (arith, levels-length t d)) ∙ ap (λ (n : ℕ). get_or (levelss f d) (k - n) 0) (levels-length t d)

-- no more than the tree is deep
mutual
  unfolding levels nodes depth

  levels-low : (t : Tree) (d k : ℕ) → k < nodes t → get_or (levels t d) k 0 ≤ d + depth t
  levels-low (plain x) d zero h = omega arith
  levels-low (plain x) d (suc k) h = absurd (omega arith)
  levels-low (hinted y x) d zero h = omega arith
  levels-low (hinted y x) d (suc k) h = absurd (omega arith)
  levels-low (list f) d zero h = omega arith
  levels-low (list f) d (suc k) h = omega (arith, levelss-low f (d + 1) k (omega arith))

  levelss-low : (f : Forest) (d k : ℕ) → k < nodess f → get_or (levelss f d) k 0 ≤ d + depths f
  levelss-low nil d k h = absurd (omega arith)
  levelss-low (cons t f) d k h =
      by_le (nodes t) k
      (λ l. omega (arith, right t f d k l, levelss-low f d (k - nodes t) (omega arith)))
      (λ l. omega (arith, left t f d k l, levels-low t d k l))

-- ---- a step up: out of these nodes, or to one of them that one list less is around
data Rise (l : List ℕ) (own up d k p : ℕ) : Type 0 where
  outer : p ≡ up → get_or l k 0 ≡ d → Rise l own up d k p
  inner : (i : ℕ) → p ≡ own + i → i < k → get_or l k 0 ≡ get_or l i 0 + 1 → Rise l own up d k p

-- the second, by itself
record Risen (l : List ℕ) (own k p : ℕ) : Type 0 where
  to : ℕ
  is : p ≡ own + to
  below : to < k
  less : get_or l k 0 ≡ get_or l to 0 + 1

-- inside a list it is always that
rise-in : (f : Forest) (own d k p : ℕ) → Rise (levelss f (d + 1)) (own + 1) own (d + 1) k p → Risen (d ∷ levelss f (d + 1)) own (suc k) p
rise-in f own d k p (outer e g) = record { to = 0; is = e ∙ omega arith; below = omega arith; less = g }
rise-in f own d k p (inner i e a g) = record { to = suc i; is = e ∙ omega arith; below = omega arith; less = g }

risen : {l : List ℕ} {own up d k p : ℕ} → Risen l own k p → Rise l own up d k p
risen r = inner r.to r.is r.below r.less

rise-left : (t : Tree) (f : Forest) (own up d k p : ℕ) → k < nodes t → Rise (levels t d) own up d k p → Rise (levels t d ++ levelss f d) own up d k p
rise-left t f own up d k p h (outer e g) = outer e (left t f d k h ∙ g)
rise-left t f own up d k p h (inner i e a g) = inner i e a (left t f d k h ∙ g ∙ ap (λ (n : ℕ). n + 1) (sym (left t f d i (omega arith))))

rise-right : (t : Tree) (f : Forest) (own up d k p : ℕ) → nodes t ≤ k → Rise (levelss f d) (own + nodes t) up d (k - nodes t) p → Rise (levels t d ++ levelss f d) own up d k p
rise-right t f own up d k p h (outer e g) = outer e (right t f d k h ∙ g)
rise-right t f own up d k p h (inner i e a g) =
    let z : nodes t + i - nodes t ≡ i = omega arith in
    inner (nodes t + i) (e ∙ omega arith) (omega arith)
    (right t f d k h ∙ g ∙ ap (λ (n : ℕ). n + 1) (sym (right t f d (nodes t + i) (omega arith) ∙ ap (λ (n : ℕ). get_or (levelss f d) n 0) z)))

mutual
  unfolding levels parents nodes

  rise-tree : (t : Tree) (own up d k : ℕ) → k < nodes t → Rise (levels t d) own up d k (get_or (parents t own up) k 0)
  rise-tree (plain x) own up d zero h = outer refl refl
  rise-tree (plain x) own up d (suc k) h = absurd (omega arith)
  rise-tree (hinted y x) own up d zero h = outer refl refl
  rise-tree (hinted y x) own up d (suc k) h = absurd (omega arith)
  rise-tree (list f) own up d zero h = outer refl refl
  rise-tree (list f) own up d (suc k) h = risen (rise-in f own d k _ (rise-forest f (own + 1) own (d + 1) k (omega arith)))

  rise-forest : (f : Forest) (own up d k : ℕ) → k < nodess f → Rise (levelss f d) own up d k (get_or (parentss f own up) k 0)
  rise-forest nil own up d k h = absurd (omega arith)
  rise-forest (cons t f) own up d k h =
      by_le (nodes t) k
      (λ l. subst (Rise (levels t d ++ levelss f d) own up d k)
      (sym (get_or-right (parents t own up) (parentss f (own + nodes t) up) k (omega (arith, parents-length t own up)) ∙ ap (λ (n : ℕ). get_or (parentss f (own + nodes t) up) (k - n) 0) (parents-length t own up)))
      (rise-right t f own up d k _ l (rise-forest f (own + nodes t) up d (k - nodes t) (omega arith))))
      (λ l. subst (Rise (levels t d ++ levelss f d) own up d k) (sym (get_or-append (parents t own up) (parentss f (own + nodes t) up) 0 k (omega (arith, parents-length t own up))))
      (rise-left t f own up d k _ l (rise-tree t own up d k l)))

-- ---- climbing
module _ (t : Tree) where
  abbrev level : ℕ → ℕ
  level k = get_or (levels t 0) k 0

  root-level : level 0 ≡ 0
  unfolding levels
  root-level = by t
    where
      by : (u : Tree) → get_or (levels u 0) 0 0 ≡ 0
      by (plain x) = refl
      by (hinted y x) = refl
      by (list f) = refl

  -- node 0 is at the top, and a step up from any other leaves one list less
  step-level : (k : ℕ) → 0 < k → k < nodes t → level k ≡ level (parent_of t k) + 1
  unfolding levels parents nodes
  step-level k p h = let r = by t k p h in let z : parent_of t k ≡ r.to = r.is ∙ omega arith in r.less ∙ ap (λ (n : ℕ). level n + 1) (sym z)
    where
      by : (u : Tree) (k : ℕ) → 0 < k → k < nodes u → Risen (levels u 0) 0 k (parent_of u k)
      by (plain x) k p h = absurd (omega arith)
      by (hinted y x) k p h = absurd (omega arith)
      by (list f) zero p h = absurd (omega arith)
      by (list f) (suc k) p h = rise-in f 0 0 k _ (rise-forest f (0 + 1) 0 (0 + 1) k (omega arith))

  climb-level : (n k : ℕ) → k < nodes t → level k ≤ n → climb t n k ≡ 0
  unfolding climb
  climb-level zero k h l = by-eq k 0 (λ z. z) (λ z. absurd (omega (arith, step-level k (omega arith) h)))
  climb-level (suc n) k h l =
      by-eq k 0
      (λ z. rw (z, parent-root t) (climb-level n 0 (omega arith) (omega (arith, root-level))))
      (λ z. climb-level n (parent_of t k) (omega (arith, parent-before t k (omega arith) h)) (omega (arith, step-level k (omega arith) h)))

  -- whoever climbs comes to node 0 in at most as many steps as the tree is deep
  pub climb-ends : (k : ℕ) → k < nodes t → climb t (depth t) k ≡ 0
  climb-ends k h = climb-level (depth t) k h (omega (arith, levels-low t 0 k h))
