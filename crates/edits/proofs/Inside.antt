-- The place of an element of a list: directly before it, and inside the place of the list.
use Prim.Native.Nat.{ℕ, zero, suc, ◌+◌, ◌≤◌, ◌<◌}
use native.Mathlib.Omega.{arith}
use mathlib.Core.Path.{◌≡◌, refl, ap}
use lib.ListN.{length, length-append}
use Rattle.model.specs.Edit.{join, one, put}
use Rattle.model.specs.Node.{elements}
use Rattle.model.specs.Tree.{Tree, list, Forest, nil, cons, canon, canons, nodes, nodess}
use Rattle.edits.specs.Place.{before, number, level, past, Place, here, down, fill}
use Rattle.edits.proofs.Fill.{fill-nodes, fill-length}
use Rattle.edits.proofs.Find.{nodes-pos}

-- directly before the k-th element of a forest, at its end where it has fewer
unfoldable pub nth : Forest → ℕ → Place
nth f zero = here f
nth nil (suc k) = here nil
nth (cons t f) (suc k) = past t (nth f k)

-- in a list that stands at the place p, at its place q
unfoldable pub within-at : Place → Place → Place
within-at (here b) q = down q b
within-at (past t p) q = past t (within-at p q)
within-at (down p b) q = down (within-at p q) b

-- ---- what stands there
pub nth-nil : (f : Forest) (k : ℕ) → fill (nth f k) nil ≡ f
unfolding nth fill join
nth-nil f zero = refl
nth-nil nil (suc k) = refl
nth-nil (cons t f) (suc k) = ap (cons t) (nth-nil f k)

pub nth-put : (f : Forest) (k : ℕ) (u : Tree) → fill (nth f k) (one u) ≡ put f k u
unfolding nth fill join put
nth-put nil zero u = refl
nth-put (cons t f) zero u = refl
nth-put nil (suc k) u = refl
nth-put (cons t f) (suc k) u = ap (cons t) (nth-put f k u)

pub within-fill : (p q : Place) (g : Forest) → fill (within-at p q) g ≡ fill p (one (list (fill q g)))
unfolding within-at fill join
within-fill (here b) q g = refl
within-fill (past t p) q g = ap (cons t) (within-fill p q g)
within-fill (down p b) q g = ap (λ (f : Forest). cons (list f) b) (within-fill p q g)

-- ---- where it is
pub nth-level : (f : Forest) (k : ℕ) → level (nth f k) ≡ 0
unfolding nth level
nth-level f zero = refl
nth-level nil (suc k) = refl
nth-level (cons t f) (suc k) = nth-level f k

pub within-number : (p q : Place) → number (within-at p q) ≡ number p + 1 + number q
unfolding within-at number
within-number (here b) q = omega arith
within-number (past t p) q = omega (arith, within-number p q)
within-number (down p b) q = omega (arith, within-number p q)

pub within-before : (p q : Place) → length (before (within-at p q)) ≡ length (before p) + 1 + length (before q)
unfolding within-at before
within-before (here b) q = omega arith
within-before (past t p) q = omega (arith, length-append (canon t) (before p), length-append (canon t) (before (within-at p q)), within-before p q)
within-before (down p b) q = omega (arith, within-before p q)

pub within_level : (p q : Place) → level (within-at p q) ≡ level p + 1 + level q
unfolding within-at level
within_level (here b) q = omega arith
within_level (past t p) q = omega (arith, within_level p q)
within_level (down p b) q = omega (arith, within_level p q)

-- past the last element
pub nth-all : (f : Forest) (k : ℕ) → elements f ≤ k → (number (nth f k) ≡ nodess f) × (before (nth f k) ≡ canons f)
unfolding nth number before elements nodess canons
nth-all nil zero h = (refl, refl)
nth-all nil (suc k) h = (refl, refl)
nth-all (cons t f) zero h = absurd (omega arith)
nth-all (cons t f) (suc k) h = let x = nth-all f k (omega arith) in (ap (λ (n : ℕ). nodes t + n) x.0, rw x.1)

-- before an element there are fewer nodes
pub nth_inside : (f : Forest) (k : ℕ) → k < elements f → number (nth f k) < nodess f
unfolding nth number elements nodess
nth_inside nil k h = absurd (omega arith)
nth_inside (cons t f) zero h = omega (arith, nodes-pos t)
nth_inside (cons t f) (suc k) h = omega (arith, nth_inside f k (omega arith))

-- what is before its place is in it
pub nth-few : (f : Forest) (k : ℕ) → number (nth f k) ≤ nodess f
nth-few f k = omega (arith, fill-nodes (nth f k) nil, ap nodess (nth-nil f k))

pub nth-within : (f : Forest) (k : ℕ) → length (before (nth f k)) ≤ length (canons f)
nth-within f k = omega (arith, fill-length (nth f k) nil, ap (λ (x : Forest). length (canons x)) (nth-nil f k))
