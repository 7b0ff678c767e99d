-- Replacing, inserting and removing are changes at a place.
use Prim.Native.Nat.{ℕ, zero, suc, ◌+◌, ◌-◌, ◌≤◌, ◌<◌}
use native.Mathlib.Omega.{arith}
use native.Mathlib.Nat.{add-zero}
use mathlib.Core.Path.{◌≡◌, refl, sym, ap, ap₂, ◌∙◌}
use mathlib.Core.Bool.{true, false, not}
use mathlib.Core.Option.{none, some}
use mathlib.Core.List.{List, [], ◌∷◌, ◌++◌, append-nil}
use lib.ListN.{length, take, get_or, length-append}
use lib.Dec.{leb, eqb}
use lib.Seq.{get_or-append-add}
use borrow.Author.Tests.{lt-ltb, le-ltb, eq-eqb, ne_eqb, leb-true}
use Rattle.base.specs.Choice.{pick, either, is_none}
use Rattle.base.proofs.Cases.{by_le, by-eq, by_bool, picked, unpicked, none-some, some_same}
use Rattle.model.specs.Edit.{join, one, across, replace, put, put_in, insert, remove}
use Rattle.model.specs.Node.{node_at, elements, has_place}
use Rattle.model.specs.Table.{Row, plain_row, rows, rowss, row_of}
use Rattle.model.specs.Tree.{Tree, plain, hinted, list, Forest, nil, canon, canons, nodes, nodess}
use Rattle.edits.specs.Element.{placed, place_octet}
use Rattle.edits.specs.Levels.{holders}
use Rattle.edits.specs.Moves.{Change}
use Rattle.edits.specs.Node.{holds}
use Rattle.edits.specs.Place.{around, before, number, lead, trail, Place, fill}
use Rattle.edits.proofs.Find.{across-here, across-in}
use Rattle.edits.proofs.Inside.{nth, within-at, nth-nil, nth-put, within-fill, nth-level, within-number, within-before, within_level, nth-all, nth_inside, nth-within, nth-few}
use Rattle.edits.proofs.Holds.{is-aside, is-around, holds-count, node-side}
use Rattle.edits.proofs.Hop.{hop, nth-start, within-start, nth-ends}
use Rattle.edits.proofs.Sides.{Side, aside, round}
use Rattle.edits.proofs.Levels.{level-holders}
use Rattle.edits.proofs.Changed.{change-at}
use Rattle.edits.proofs.Gives.{gives-way}
use Rattle.edits.proofs.Moved.{record-new}
use Rattle.edits.proofs.Rows.{lead-length}
use Rattle.edits.proofs.Whole.{nodess-one, rowss-one, rows_at, row_first, moves-at, locate, replaced-at}

-- ---- an edit of a tree is one in the forest of that tree alone
abbrev kept-tree : (Tree → Tree) → Tree → Forest
kept-tree e x = one (e x)

pub insert-across : (t : Tree) (n k : ℕ) (u : Tree) → n < nodes t → one (insert t n k u) ≡ across (kept-tree (put_in k u)) (one t) n
unfolding insert join
insert-across t zero k u h = sym (across-here (kept-tree (put_in k u)) t nil)
insert-across t (suc n) k u h = sym (across-in (kept-tree (put_in k u)) t nil n h)

pub remove-across : (t : Tree) (n : ℕ) → 0 < n → n < nodes t → one (remove t n) ≡ across (λ (x : Tree). nil) (one t) n
unfolding remove
remove-across t zero p h = absurd (omega arith)
remove-across t (suc n) p h = sym (across-in (λ (x : Tree). nil) t nil n h)

module _ (t : Tree) (node : ℕ) (h : node < nodes t) where
  abbrev entry : Row
  entry = row_of t node

  -- how many lists are around the node
  abbrev lists : ℕ
  lists = holders (take node (rows t 0)) 0 node

  -- ---- the node gives way
  node-change : (t' : Tree) (g : Forest) → one t' ≡ fill (locate t node h).place g → Change t t' node entry.count entry.start (entry.end - entry.start) lists g
  node-change t' g e = change-at (gives-way t node h t' g e) (sym (level-holders t node h))

  -- to another tree
  pub replace-change : (u : Tree) → Change t (replace t node u) node entry.count entry.start (entry.end - entry.start) lists (one u)
  replace-change u = node-change (replace t node u) (one u) (replaced-at t node h u)

  -- to nothing
  pub remove-change : 0 < node → Change t (remove t node) node entry.count entry.start (entry.end - entry.start) lists nil
  remove-change p = node-change (remove t node) nil (remove-across t node p h ∙ (locate t node h).edited (λ (x : Tree). nil))

  -- ---- the node's own row
  abbrev p : Place
  p = (locate t node h).place

  entry-is : (x : Tree) → node_at t node ≡ x → one t ≡ fill p (one x)
  entry-is x e = (locate t node h).is ∙ ap (λ (y : Tree). fill p (one y)) (sym (locate t node h).is_node ∙ e)

  entry_row : (x : Tree) → node_at t node ≡ x → entry ≡ get_or (rows x (length (before p)) ++ trail p (length (before p) + length (canons (one x)))) 0 (plain_row 0 0 0)
  entry_row x e = ap (row_of t) (sym (locate t node h).num) ∙ row_first t p x (entry-is x e)

  -- ---- nothing gives way to a tree, in the list that the node is
  module _ (f : Forest) (e : node_at t node ≡ list f) where
    abbrev is-list : one t ≡ fill p (one (list f))
    is-list = entry-is (list f) e

    list-kind : entry.kind ≡ 2
    unfolding rows
    list-kind = ap (λ (r : Row). r.kind) (entry_row (list f) e)

    pub list_count : entry.count ≡ 1 + nodess f
    unfolding rows nodes
    list_count = ap (λ (r : Row). r.count) (entry_row (list f) e)

    list-data-end : entry.data_end ≡ length (before p) + 1 + length (canons f)
    unfolding rows canon
    list-data-end = ap (λ (r : Row). r.data_end) (entry_row (list f) e) ∙ omega (arith, length-append (canons f) (41 ∷ []))

    list-end : entry.end ≡ length (before p) + 2 + length (canons f)
    unfolding rows canon
    list-end = ap (λ (r : Row). r.end) (entry_row (list f) e) ∙ omega (arith, length-append (canons f) (41 ∷ []))

    element-row : (i : ℕ) → i < nodess f → row_of t (node + 1 + i) ≡ get_or (rowss f (length (before p) + 1)) i (plain_row 0 0 0)
    unfolding rows nodes
    element-row i l =
        let a = locate t node h in
        let x : node + 1 + i ≡ number p + suc i = omega (arith, a.num) in
        ap (row_of t) x
        ∙ record-new (moves-at t t p (one (list f)) (one (list f)) is-list is-list) (suc i) (omega (arith, nodess-one (list f)))
        ∙ ap (λ (r : List Row). get_or r (suc i) (plain_row 0 0 0)) (rowss-one (list f) (length (before p)))

    pub list-placed : (k : ℕ) → placed (row_of t) node k ≡ pick (leb k (elements f)) (some (node + 1 + number (nth f k))) none
    unfolding placed
    list-placed k =
        picked _ _ (eq-eqb entry.kind 2 list-kind)
        ∙ hop (row_of t) f (length (before p) + 1) k (node + 1) (node + entry.count) (omega (arith, list_count))
        (λ i l. ap (λ (r : Row). r.count) (element-row i l))

    -- the place of the k-th element
    abbrev q : ℕ → Place
    q k = within-at p (nth f k)

    there : (k : ℕ) (g x : Forest) → fill (nth f k) g ≡ x → fill (q k) g ≡ fill p (one (list x))
    there k g x i = within-fill p (nth f k) g ∙ ap (λ (y : Forest). fill p (one (list y))) i

    empty : (k : ℕ) → one t ≡ fill (q k) nil
    empty k = is-list ∙ sym (there k nil f (nth-nil f k))

    put-there : (k : ℕ) (u : Tree) → one (insert t node k u) ≡ fill (q k) (one u)
    unfolding put_in
    put-there k u =
        let a = locate t node h in
        insert-across t node k u h ∙ a.edited (kept-tree (put_in k u))
        ∙ ap (λ (x : Tree). fill p (one (put_in k u x))) (sym a.is_node ∙ e)
        ∙ sym (there k (one u) (put f k u) (nth-put f k u))

    row-start : (k : ℕ) → k < elements f → (row_of t (node + 1 + number (nth f k))).start ≡ length (before (q k))
    unfolding canons nodess rowss
    row-start k i =
        let a = locate t node h in
        let s : ℕ = length (before (q k)) in
        let z : node + 1 + number (nth f k) ≡ length (lead (q k) 0 0 0) + 0 = omega (arith, lead-length (q k) 0 0 0, within-number p (nth f k), a.num) in
        ap₂ (λ (r : List Row) (m : ℕ). (get_or r m (plain_row 0 0 0)).start) (rows_at t (q k) nil (empty k)) z
        ∙ ap (λ (r : Row). r.start) (get_or-append-add (lead (q k) 0 0 0) (trail (q k) (s + 0)) 0 (plain_row 0 0 0) ∙ ap (λ (r : List Row). get_or r 0 (plain_row 0 0 0)) (sym (append-nil (trail (q k) (s + 0)))))
        ∙ within-start p (nth f k) (s + 0) (nth-start f k (s + 0) i) []
        ∙ omega arith

    place-octet : (k : ℕ) → k ≤ elements f → place_octet (row_of t) node (node + 1 + number (nth f k)) ≡ length (before (q k))
    place-octet k l =
        let c = list_count in
        let b = within-before p (nth f k) in
        by_le (elements f) k
        (λ i.
        let x = nth-all f k i in
        unpicked _ _ (le-ltb (node + 1 + number (nth f k)) (node + entry.count) (omega (arith, x.0))) ∙ omega (arith, list-data-end, ap length x.1))
        (λ i. picked _ _ (lt-ltb (node + 1 + number (nth f k)) (node + entry.count) (omega (arith, nth_inside f k i))) ∙ row-start k i)

    list-change : (k : ℕ) → k ≤ elements f → (u : Tree) → Change t (insert t node k u) (node + 1 + number (nth f k)) 0 (place_octet (row_of t) node (node + 1 + number (nth f k))) 0 (lists + 1) (one u)
    unfolding nodess canons
    list-change k l u =
        let a = locate t node h in
        record {
          place = q k;
          old = nil;
          was = empty k;
          is = put-there k u;
          at = within-number p (nth f k) ∙ omega (arith, a.num);
          some = refl;
          start = sym (place-octet k l);
          long = refl;
          deep = within_level p (nth f k) ∙ omega (arith, nth-level f k, level-holders t node h);
        }

    -- the lists around the place are the list itself and those that hold it
    module _ (k j : ℕ) where
      abbrev s : ℕ
      s = length (before (q k))

      inside : (entry.start < s) × (s < entry.end)
      inside =
          let a = locate t node h in
          let b = within-before p (nth f k) in
          let n = nth-within f k in
          let c = list-end in
          (omega (arith, a.start), omega (arith, a.start))

      itself : around s s (row_of t node) ≡ true
      itself = rw add-zero at (is-around s 0 (row_of t node) inside.0 (omega (arith, inside.1)))

      ends : (row_of t j).end ≤ s → around s s (row_of t j) ≡ false
      ends i = rw add-zero at (is-aside s 0 (row_of t j) i)

      earlier : j < node → Side (row_of t j) j node entry.count entry.start entry.end → around s s (row_of t j) ≡ holds t j node
      earlier i (aside y z) = ends (omega (arith, inside.0)) ∙ sym (holds-count t j node i ∙ le-ltb node (j + (row_of t j).count) z)
      earlier i (round y z w v o) =
          rw add-zero at (is-around s 0 (row_of t j) (omega (arith, inside.0)) (omega (arith, inside.1)))
          ∙ sym (holds-count t j node i ∙ lt-ltb node (j + (row_of t j).count) (omega (arith, list_count)))

      module _ (l : j < node + 1 + number (nth f k)) where
        later : node < j → (row_of t j).end ≤ s
        later i =
            let x : j ≡ node + 1 + (j - (node + 1)) = omega arith in
            let b = within-before p (nth f k) in
            let c = nth-few f k in
            let r = ap (λ (r : Row). r.end) (ap (row_of t) x ∙ element-row (j - (node + 1)) (omega arith)) in
            omega (arith, nth-ends f k (length (before p) + 1) (j - (node + 1)) (omega arith))

        list-around : around s s (row_of t j) ≡ either (eqb j node) (holds t j node)
        list-around =
            by_le node j
            (λ y.
            by-eq j node
            (λ x. rw x itself ∙ sym (picked _ _ (eq-eqb j node x)))
            (λ x. ends (later (omega arith)) ∙ sym (unpicked _ _ (ne_eqb j node x) ∙ unpicked _ _ (le-ltb j node y))))
            (λ y. earlier y (node-side t j node y h) ∙ sym (unpicked _ _ (ne_eqb j node (λ x. omega arith))))

  -- ---- row 9, the node is no list or has too few elements: hopping finds no place exactly then
  string-placed : (k : ℕ) → (entry.kind ≡ 2 → ⊥) → placed (row_of t) node k ≡ none
  unfolding placed
  string-placed k n = unpicked _ _ (ne_eqb entry.kind 2 n)

  placed-as : (k : ℕ) (x : Tree) → node_at t node ≡ x → is_none (placed (row_of t) node k) ≡ not (has_place x k)
  unfolding rows has_place is_none
  placed-as k (plain d) e = ap is_none (string-placed k (λ z. let y = ap (λ (r : Row). r.kind) (entry_row (plain d) e) in absurd (omega arith)))
  placed-as k (hinted g d) e = ap is_none (string-placed k (λ z. let y = ap (λ (r : Row). r.kind) (entry_row (hinted g d) e) in absurd (omega arith)))
  placed-as k (list f) e =
      by_bool (leb k (elements f))
      (λ y. ap is_none (list-placed f e k ∙ picked _ _ y) ∙ sym (ap not y))
      (λ y. ap is_none (list-placed f e k ∙ unpicked _ _ y) ∙ sym (ap not y))

  pub placed-exact : (k : ℕ) → is_none (placed (row_of t) node k) ≡ not (has_place (node_at t node) k)
  placed-exact k = placed-as k (node_at t node) refl

  -- ---- where it finds one, a tree comes to stand there
  module _ (k j : ℕ) (e : placed (row_of t) node k ≡ some j) where
    -- it is the place of the k-th element of a list
    pub by-list : (G : ℕ → Type 0) → ((f : Forest) → node_at t node ≡ list f → k ≤ elements f → G (node + 1 + number (nth f k))) → G j
    unfolding rows
    by-list G g = by (node_at t node) refl
      where
        by : (x : Tree) → node_at t node ≡ x → G j
        by (plain d) i = none-some (sym (string-placed k (λ z. let y = ap (λ (r : Row). r.kind) (entry_row (plain d) i) in absurd (omega arith))) ∙ e)
        by (hinted c d) i = none-some (sym (string-placed k (λ z. let y = ap (λ (r : Row). r.kind) (entry_row (hinted c d) i) in absurd (omega arith))) ∙ e)
        by (list f) i =
            by_bool (leb k (elements f))
            (λ y. some_same G (sym (list-placed f i k ∙ picked _ _ y) ∙ e) (g f i (leb-true k (elements f) y)))
            (λ y. none-some (sym (list-placed f i k ∙ unpicked _ _ y) ∙ e))

    pub insert-change : (u : Tree) → Change t (insert t node k u) j 0 (place_octet (row_of t) node j) 0 (lists + 1) (one u)
    insert-change u =
        by-list (λ (i : ℕ). Change t (insert t node k u) i 0 (place_octet (row_of t) node i) 0 (lists + 1) (one u)) (λ f i l. list-change f i k l u)

    -- S 15.5, the lists around: by numbers in the old tree
    pub insert-around : (i : ℕ) → i < j → around (place_octet (row_of t) node j) (place_octet (row_of t) node j) (row_of t i) ≡ either (eqb i node) (holds t i node)
    insert-around i =
        by-list (λ (j : ℕ). i < j → around (place_octet (row_of t) node j) (place_octet (row_of t) node j) (row_of t i) ≡ either (eqb i node) (holds t i node))
        (λ f x l h. rw (place-octet f x k l) (list-around f x k i h))
