-- A tree's table: as many rows and parents as nodes, and nine numbers for each.
use Prim.Native.Nat.{ℕ, zero, suc, ◌+◌, ◌*◌, ◌-◌, ◌≤◌}
use native.Mathlib.Omega.{arith}
use mathlib.Core.Path.{◌≡◌, refl, sym, ap, ◌∙◌}
use mathlib.Core.List.{List, [], ◌∷◌, ◌++◌, append_assoc, append-nil}
use lib.ListN.{length, get_or, length-append, get_or-append}
use lib.Seq.{get_or-append-add}
use Rattle.base.proofs.Cases.{by_le}
use Rattle.model.specs.Table.{Row, width, recorded, rows, rowss, parents, parentss, flat, table_of}
use Rattle.model.specs.Tree.{Tree, plain, hinted, list, Forest, nil, cons, canon, nodes, nodess}
use Rattle.model.proofs.Nesting.{unnest}
use Rattle.walk.specs.Events.{above, events}
use Rattle.walk.proofs.Evented.{events_of, events-tree}

pub flat_append : (a b : List Row) (p q : List ℕ) → length p ≡ length a → flat (a ++ b) (p ++ q) ≡ flat a p ++ flat b q
unfolding flat
flat_append [] b [] q h = refl
flat_append [] b (x ∷ p) q h = absurd (omega arith)
flat_append (r ∷ a) b [] q h = absurd (omega arith)
flat_append (r ∷ a) b (x ∷ p) q h =
    ap (λ (l : List ℕ). recorded r x ++ l) (flat_append a b p q (omega arith)) ∙ sym (append_assoc (recorded r x) (flat a p) (flat b q))

pub flat-length : (rs : List Row) (ps : List ℕ) → length (flat rs ps) ≡ width * length rs
unfolding flat
flat-length [] ps = refl
flat-length (r ∷ rs) [] = omega (arith, flat-length rs [])
flat-length (r ∷ rs) (p ∷ ps) = omega (arith, flat-length rs ps)

mutual
  unfolding rows nodes

  pub rows-length : (t : Tree) (at : ℕ) → length (rows t at) ≡ nodes t
  rows-length (plain d) at = refl
  rows-length (hinted h d) at = refl
  rows-length (list f) at = omega (arith, rowss-length f (at + 1))

  pub rowss-length : (f : Forest) (at : ℕ) → length (rowss f at) ≡ nodess f
  rowss-length nil at = refl
  rowss-length (cons t f) at = length-append (rows t at) _ ∙ omega (arith, rows-length t at, rowss-length f (at + length (canon t)))

mutual
  unfolding parents nodes

  pub parents-length : (t : Tree) (own up : ℕ) → length (parents t own up) ≡ nodes t
  parents-length (plain d) own up = refl
  parents-length (hinted h d) own up = refl
  parents-length (list f) own up = omega (arith, parentss-length f (own + 1) own)

  pub parentss-length : (f : Forest) (own up : ℕ) → length (parentss f own up) ≡ nodess f
  parentss-length nil own up = refl
  parentss-length (cons t f) own up = length-append (parents t own up) _ ∙ omega (arith, parents-length t own up, parentss-length f (own + nodes t) up)

-- past the first of two lists
pub get_or-right : (a b : List ℕ) (k : ℕ) → length a ≤ k → get_or (a ++ b) k 0 ≡ get_or b (k - length a) 0
get_or-right a b k h =
    let e : length a + (k - length a) ≡ k = omega arith in ap (λ (n : ℕ). get_or (a ++ b) n 0) (sym e) ∙ get_or-append-add a b (k - length a) 0

-- no parent is past a bound of the nodes
mutual
  unfolding parents nodes

  pub parents-low : (t : Tree) (own up m : ℕ) → up ≤ m → own + nodes t ≤ m → (k : ℕ) → get_or (parents t own up) k 0 ≤ m
  parents-low (plain d) own up m u h zero = u
  parents-low (plain d) own up m u h (suc k) = omega arith
  parents-low (hinted x d) own up m u h zero = u
  parents-low (hinted x d) own up m u h (suc k) = omega arith
  parents-low (list f) own up m u h zero = u
  parents-low (list f) own up m u h (suc k) = parentss-low f (own + 1) own m (omega arith) (omega arith) k

  parentss-low : (f : Forest) (own up m : ℕ) → up ≤ m → own + nodess f ≤ m → (k : ℕ) → get_or (parentss f own up) k 0 ≤ m
  parentss-low nil own up m u h k = omega arith
  parentss-low (cons t f) own up m u h k =
      by_le (nodes t) k
      (λ l. rw (get_or-right (parents t own up) (parentss f (own + nodes t) up) k (omega (arith, parents-length t own up)))
      (parentss-low f (own + nodes t) up m u (omega arith) (k - length (parents t own up))))
      (λ l. rw (get_or-append (parents t own up) (parentss f (own + nodes t) up) 0 k (omega (arith, parents-length t own up))) (parents-low t own up m u (omega arith) k))

pub table-length : (t : Tree) → length (table_of t) ≡ width * nodes t
unfolding table_of
table-length t = flat-length (rows t 0) (parents t 0 0) ∙ ap (λ (n : ℕ). width * n) (rows-length t 0)

pub events-all : (t : Tree) → events (unnest t []) 0 0 [] ≡ events_of t 0 0 0
unfolding events above
events-all t = events-tree t [] 0 0 [] ∙ append-nil (events_of t 0 0 0)
