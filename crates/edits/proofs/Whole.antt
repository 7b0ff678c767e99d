-- The laws for a whole tree: what changes when another forest comes to stand at a place, and the place of a node.
use Prim.Native.Nat.{ℕ, zero, suc, ◌+◌, ◌-◌, ◌<◌, max}
use native.Mathlib.Omega.{arith}
use mathlib.Core.Path.{◌≡◌, refl, sym, ap, ap₂, ◌∙◌, subst}
use mathlib.Core.List.{List, ◌++◌, append_assoc, append-nil}
use lib.ListN.{length, take, drop, get_or, length-append}
use lib.Seq.{take_at, drop_at, get_or-append-add}
use native.Mathlib.Nat.{add-zero, zero-add}
use Rattle.model.specs.Edit.{join, one, across, replace}
use Rattle.edits.specs.Place.{before, number, Place, fill, after, beyond, level, outer, lead, trail}
use Rattle.model.specs.Table.{Row, plain_row, rows, rowss, row_of}
use Rattle.model.specs.Tree.{Tree, plain, hinted, list, Forest, nil, canon, canons, nodes, nodess, depth, depths}
use Rattle.edits.specs.Moves.{Moves}
use Rattle.model.specs.Node.{node_among, node_at}
use Rattle.edits.proofs.Fill.{fill-canons, fill-nodes, fill-depths, fill-rows}
use Rattle.edits.proofs.Find.{across-here, across-in, node_at-among, across-at, node_at_lem, Found, find-node}
use Rattle.edits.proofs.Rows.{lead-length, fill-table}

-- ---- a tree by itself
pub canons-one : (t : Tree) → canons (one t) ≡ canon t
unfolding canons
canons-one t = append-nil (canon t)

pub nodess-one : (t : Tree) → nodess (one t) ≡ nodes t
unfolding nodess
nodess-one t = add-zero (nodes t)

pub depths-one : (t : Tree) → depths (one t) ≡ depth t
unfolding depths
depths-one t = omega arith

pub rowss-one : (t : Tree) (at : ℕ) → rowss (one t) at ≡ rows t at
unfolding rowss
rowss-one t at = append-nil (rows t at)

-- ---- a tree with a forest at a place
module _ (t : Tree) (p : Place) (g : Forest) (e : one t ≡ fill p g) where
  pub octets-at : canon t ≡ before p ++ (canons g ++ after p)
  octets-at = sym (canons-one t) ∙ ap canons e ∙ fill-canons p g

  pub nodes-at : nodes t ≡ number p + nodess g + beyond p
  nodes-at = sym (nodess-one t) ∙ ap nodess e ∙ fill-nodes p g

  pub depth-at : depth t ≡ max (outer p) (level p + depths g)
  depth-at = sym (depths-one t) ∙ ap depths e ∙ fill-depths p g

  pub rows_at : rows t 0 ≡ lead p 0 (length (canons g)) (nodess g) ++ (rowss g (length (before p)) ++ trail p (length (before p) + length (canons g)))
  rows_at = rw zero-add at (sym (rowss-one t 0) ∙ ap (λ (f : Forest). rowss f 0) e ∙ fill-rows p g 0)

  pub octets-before : take (length (before p)) (canon t) ≡ before p
  octets-before = ap (take (length (before p))) octets-at ∙ take_at (before p) _ (length (before p)) refl

  pub octets-after : drop (length (before p) + length (canons g)) (canon t) ≡ after p
  octets-after =
      ap (drop (length (before p) + length (canons g))) (octets-at ∙ sym (append_assoc (before p) (canons g) (after p)))
      ∙ drop_at (before p ++ canons g) (after p) _ (length-append (before p) (canons g))

-- ---- the law of moving, at a place
pub moves-at : (t t' : Tree) (p : Place) (g g' : Forest) → one t ≡ fill p g → one t' ≡ fill p g' → Moves t t' (number p) (nodess g) (length (before p)) (length (canons g)) g'
moves-at t t' p g g' e e' =
    let r : rowss (fill p g) 0 ≡ rows t 0 = sym (ap (λ (f : Forest). rowss f 0) e) ∙ rowss-one t 0 in
    let r' : rowss (fill p g') 0 ≡ rows t' 0 = sym (ap (λ (f : Forest). rowss f 0) e') ∙ rowss-one t' 0 in
    record {
      nodes_in = omega (arith, nodes-at t p g e);
      octets_in = omega (arith, simp length-append at (ap length (octets-at t p g e)));
      octets = rw (octets-before t p g e, octets-after t p g e) (octets-at t' p g' e');
      count = omega (arith, nodes-at t p g e, nodes-at t' p g' e');
      table = sym r' ∙ (rw (r, zero-add) at (fill-table p g g' 0));
    }

pub moves-as : {t t' : Tree} {g : Forest} {k k' n n' s s' l l' : ℕ} → k ≡ k' → n ≡ n' → s ≡ s' → l ≡ l' → Moves t t' k n s l g → Moves t t' k' n' s' l' g
moves-as {t} {t'} {g} {k' = k'} {n = n} {n' = n'} {s = s} {s' = s'} {l = l} a b c d m =
    subst (λ (l : ℕ). Moves t t' k' n' s' l g) d (subst (λ (s : ℕ). Moves t t' k' n' s l g) c (subst (λ (n : ℕ). Moves t t' k' n s l g) b (subst (λ (k : ℕ). Moves t t' k n s l g) a m)))

-- ---- the row of the node at a place
pub record HeadRow (t : Tree) (at : ℕ) (r : Row) : Type 0 where
  pub start : r.start ≡ at
  pub end : r.end ≡ at + length (canon t)
  pub count : r.count ≡ nodes t

pub head-row : (t : Tree) (at : ℕ) (rest : List Row) → HeadRow t at (get_or (rows t at ++ rest) 0 (plain_row 0 0 0))
unfolding rows canon nodes
head-row (plain d) at rest = record { start = refl; end = refl; count = refl }
head-row (hinted h d) at rest = record { start = refl; end = simp length-append (omega arith); count = refl }
head-row (list f) at rest = record { start = refl; end = refl; count = refl }

module _ (t : Tree) (p : Place) (x : Tree) (e : one t ≡ fill p (one x)) where
  -- the first of its own rows
  pub row_first : row_of t (number p) ≡ get_or (rows x (length (before p)) ++ trail p (length (before p) + length (canons (one x)))) 0 (plain_row 0 0 0)
  row_first =
      let a = lead p 0 (length (canons (one x))) (nodess (one x)) in
      let b = trail p (length (before p) + length (canons (one x))) in
      let i : number p ≡ length a + 0 = omega (arith, lead-length p 0 (length (canons (one x))) (nodess (one x))) in
      ap₂ (λ (l : List Row) (m : ℕ). get_or l m (plain_row 0 0 0)) (rows_at t p (one x) e) i
      ∙ get_or-append-add a (rowss (one x) (length (before p)) ++ b) 0 (plain_row 0 0 0)
      ∙ ap (λ (l : List Row). get_or (l ++ b) 0 (plain_row 0 0 0)) (rowss-one x (length (before p)))

  pub row-at : HeadRow x (length (before p)) (row_of t (number p))
  row-at = subst (HeadRow x (length (before p))) (sym row_first) (head-row x (length (before p)) (trail p (length (before p) + length (canons (one x)))))

-- ---- a replacement in a tree is one in the forest of that tree alone
pub replace-across : (t : Tree) (k : ℕ) (u : Tree) → k < nodes t → one (replace t k u) ≡ across (λ (x : Tree). one u) (one t) k
unfolding replace join
replace-across t zero u h = sym (across-here (λ (x : Tree). one u) t nil)
replace-across t (suc k) u h = sym (across-in (λ (x : Tree). one u) t nil k h)

-- ---- the place of node k, and what is known of it
pub record Located (t : Tree) (k : ℕ) : Type 0 where
  pub place : Place
  pub node : Tree
  pub is : one t ≡ fill place (one node)
  pub num : number place ≡ k
  pub is_node : node_at t k ≡ node
  pub start : (row_of t k).start ≡ length (before place)
  pub end : (row_of t k).end ≡ length (before place) + length (canon node)
  pub count : (row_of t k).count ≡ nodes node
  pub edited : (e : Tree → Forest) → across e (one t) k ≡ fill place (e node)

pub locate : (t : Tree) (k : ℕ) → k < nodes t → Located t k
locate t k h =
    let f : Found (one t) k = find-node (one t) k (omega (arith, nodess-one t)) in
    let r : HeadRow f.node (length (before f.place)) (row_of t k) = rw f.num at (row-at t f.place f.node f.is) in
    record {
      place = f.place;
      node = f.node;
      is = f.is;
      num = f.num;
      is_node = sym (node_at-among t nil k h) ∙ ap₂ node_among f.is (sym f.num) ∙ node_at_lem f.place f.node;
      start = r.start;
      end = r.end;
      count = r.count;
      edited = λ e. ap₂ (across e) f.is (sym f.num) ∙ across-at e f.place f.node;
    }

-- the row's numbers in terms of what stands at the place
module _ (t : Tree) (k : ℕ) (h : k < nodes t) where
  pub count_at : nodess (one (locate t k h).node) ≡ (row_of t k).count
  count_at = nodess-one (locate t k h).node ∙ sym (locate t k h).count

  pub length_at : length (canons (one (locate t k h).node)) ≡ (row_of t k).end - (row_of t k).start
  length_at = ap length (canons-one (locate t k h).node) ∙ omega (arith, (locate t k h).start, (locate t k h).end)

  pub end-at : length (before (locate t k h).place) + length (canons (one (locate t k h).node)) ≡ (row_of t k).end
  end-at = rw canons-one (sym (locate t k h).end)

  -- the tree with node k replaced is that with the other tree at its place
  pub replaced-at : (u : Tree) → one (replace t k u) ≡ fill (locate t k h).place (one u)
  replaced-at u = replace-across t k u h ∙ (locate t k h).edited (λ (x : Tree). one u)
