-- S 12.1: corrections of two nodes, the one further on and outside the other, end in the same length, count, octets and records in either
-- order. So do insertions and removals (S 12.4).
use Prim.Native.Nat.{ℕ, suc, ◌+◌, ◌-◌, ◌≤◌, ◌<◌}
use native.Mathlib.Omega.{arith}
use mathlib.Core.Path.{◌≡◌, refl, sym, ap, ◌∙◌, subst}
use mathlib.Core.Option.{Option, some}
use mathlib.Core.List.{List, ◌∷◌}
use lib.Dec.{leb}
use lib.ListN.{take}
use borrow.Author.Tests.{leb-false}
use Rattle.base.specs.Choice.{is_none}
use Rattle.base.proofs.Cases.{some_same}
use Rattle.model.specs.Answers.{Check, when, verdict, the, own_tree, Outcome, filled, replaced, replacing_checks, replacing, place_of, telling}
use Rattle.model.specs.Corrections.{inserted, inserting_checks, inserting, removed, removing_checks, removing}
use Rattle.model.specs.Decode.{decode}
use Rattle.model.specs.Edit.{across, replace, insert, remove}
use Rattle.model.specs.Limits.{refusal_not_own, refusal_no_node}
use Rattle.model.specs.Node.{node_at, elements}
use Rattle.model.specs.Tree.{Tree, list, Forest, canon, nodes, nodess}
use Rattle.model.proofs.Judging.{judged-accepted}
use Rattle.model.proofs.Unique.{canon-inj}
use Rattle.lookup.proofs.Sheets.{own_of}
use Rattle.pairs.specs.Deeds.{Deed, to, with_in, away, makes, done, up_to}
use Rattle.pairs.proofs.Apart.{done-nodes, either_order}
use Rattle.pairs.proofs.Inserted.{inserted-either, inserted-before, inserted-after}
use Rattle.pairs.proofs.Removed.{kept-after, deeper-earlier, removed-earlier}
use Rattle.demands.specs.Conditions.{SameResult}
use Rattle.demands.specs.Orders.{Errand, replacement, insertion, removal, correcting, then}
use Rattle.demands.proofs.Afresh.{front-octets, same-tree}
use Rattle.demands.proofs.Rooms.{text_of}
use Rattle.demands.proofs.Rows.{no_row, not-this, there}

-- what is done to the node
unfoldable pub deed_of : Errand → Deed
deed_of (replacement form text) = to (the (decode form text))
deed_of (insertion form text k) = with_in k (the (decode form text))
deed_of removal = away

-- an accepted correction: what is done is done to a node of the sheet's tree, and the tree that it makes is put where that stood
pub record Did (c : Errand) (canonical table : List ℕ) (len count node : ℕ) : Type 0 where
  pub old : Tree
  pub own : own_tree canonical len table count ≡ some old
  pub present : node < count
  pub leaves : correcting c canonical table len count node ≡ filled (done (deed_of c) old node) len count canonical table

-- rows 7 and 8 don't apply
found : (canonical table : List ℕ) (len count node : ℕ) (more : List Check) {G : Type 0}
    → verdict (when refusal_not_own (is_none (own_tree canonical len table count)) ∷ (when refusal_no_node (leb count node) ∷ more)) ≡ 0
    → ((t : Tree) → own_tree canonical len table count ≡ some t → node < count → G) → G
found canonical table len count node more v g =
    let d : _ × _ = not-this 7 (is_none (own_tree canonical len table count)) _ (omega arith) v in
    let e : _ × _ = not-this 8 (leb count node) _ (omega arith) d.1 in
    there (own_tree canonical len table count) d.0 (λ t i. g t i (leb-false _ _ e.0))

module _ (canonical table : List ℕ) (len count node : ℕ) where
  replace-did : (form : ℕ) (text : List ℕ) → (replacing form text canonical table len count node).number ≡ 0
      → Did (replacement form text) canonical table len count node
  unfolding correcting deed_of done replacing replacing_checks replaced the filled telling
  replace-did form text e =
      let v : verdict (replacing_checks form text canonical table len count node) ≡ 0 =
      no_row (λ (o : Outcome). o.number) _ _ _ (λ n. refl) e in
      found canonical table len count node _ (text_of form text _ v).rest
      (λ t i p. record {
        old = t;
        own = i;
        present = p;
        leaves = ap (telling (place_of form text))
            (judged-accepted _ _ _ v ∙ ap (λ (x : Option Tree). filled (replace (the x) node (the (decode form text))) len count canonical table) i);
      })

  insert-did : (form : ℕ) (text : List ℕ) (k : ℕ) → (inserting form text canonical table len count node k).number ≡ 0
      → Did (insertion form text k) canonical table len count node
  unfolding correcting deed_of done inserting inserting_checks inserted the filled telling
  insert-did form text k e =
      let v : verdict (inserting_checks form text canonical table len count node k) ≡ 0 =
      no_row (λ (o : Outcome). o.number) _ _ _ (λ n. refl) e in
      found canonical table len count node _ (text_of form text _ v).rest
      (λ t i p. record {
        old = t;
        own = i;
        present = p;
        leaves = ap (telling (place_of form text))
            (judged-accepted _ _ _ v ∙ ap (λ (x : Option Tree). filled (insert (the x) node k (the (decode form text))) len count canonical table) i);
      })

  remove-did : (removing canonical table len count node).number ≡ 0 → Did removal canonical table len count node
  unfolding correcting deed_of done removing removing_checks removed the
  remove-did e =
      let v : verdict (removing_checks canonical table len count node) ≡ 0 =
      no_row (λ (o : Outcome). o.number) _ _ _ (λ n. refl) e in
      found canonical table len count node _ v
      (λ t i p. record {
        old = t;
        own = i;
        present = p;
        leaves = judged-accepted _ _ _ v
            ∙ ap (λ (x : Option Tree). filled (remove (the x) node) len count canonical table) i;
      })

  pub did : (c : Errand) → (correcting c canonical table len count node).number ≡ 0 → Did c canonical table len count node
  unfolding correcting
  did (replacement form text) e = replace-did form text e
  did (insertion form text k) e = insert-did form text k e
  did removal e = remove-did e

-- a tree has been put in lent space, whatever stood there
record Left (o : Outcome) (t : Tree) : Type 0 where
  len : ℕ
  count : ℕ
  canonical : List ℕ
  table : List ℕ
  is : o ≡ filled t len count canonical table

-- the same tree, wherever
same_left : (t : Tree) (o p : Outcome) → Left o t → Left p t → SameResult o p
same_left t o p x y =
    subst (λ (z : Outcome). SameResult z p) (sym x.is)
    (subst (SameResult (filled t x.len x.count x.canonical x.table)) (sym y.is)
    (same-tree t x.len x.count y.len y.count x.canonical x.table y.canonical y.table))

-- ---- one correction after another: the second is of the tree that the first has made
module _ (c : Errand) (canonical table : List ℕ) (len count node : ℕ) (t : Tree)
    (own : own_tree canonical len table count ≡ some t)
    (e : (correcting c canonical table len count node).number ≡ 0)
  where
    abbrev once : Outcome
    once = correcting c canonical table len count node

    abbrev now : Tree
    now = done (deed_of c) t node

    leaves-it : once ≡ filled now len count canonical table
    leaves-it =
        let d : Did c canonical table len count node = did canonical table len count node c e in
        some_same (λ (x : Tree). once ≡ filled (done (deed_of c) x node) len count canonical table) (sym d.own ∙ own) d.leaves

    counted : once.count ≡ nodes now
    unfolding filled
    counted = ap (λ (o : Outcome). o.count) leaves-it

    then-leaves : (d : Errand) (n : ℕ) → (then once d n).number ≡ 0 → Left (then once d n) (done (deed_of d) now n)
    then-leaves d n f =
        let x = did once.canonical once.table once.octets once.count n d f in
        let o = own_of once.canonical once.octets once.table once.count x.old x.own in
        let g : canon x.old ≡ canon now =
        sym o.sheet.is ∙ ap (λ (y : Outcome). take y.octets y.canonical) leaves-it ∙ front-octets now len count canonical table in
        record {
          len = once.octets;
          count = once.count;
          canonical = once.canonical;
          table = once.table;
          is = x.leaves
              ∙ ap (λ (y : Tree). filled (done (deed_of d) y n) once.octets once.count once.canonical once.table) (canon-inj x.old now g);
        }

-- ---- two clerks: each has the sheet of the tree t in space lent to him, the same or his own. One does c at node a and then d at node b,
-- the other d' at b' and then c' at a'. Where that makes the same tree, the answers are the same
module _ (c d d' c' : Errand) (t : Tree) (len count a b b' a' : ℕ)
    (canonical table : List ℕ) (own : own_tree canonical len table count ≡ some t)
    (canonical' table' : List ℕ) (own' : own_tree canonical' len table' count ≡ some t)
    (first : (correcting c canonical table len count a).number ≡ 0)
    (second : (then (correcting c canonical table len count a) d b).number ≡ 0)
    (first' : (correcting d' canonical' table' len count b').number ≡ 0)
    (second' : (then (correcting d' canonical' table' len count b') c' a').number ≡ 0)
  where
    abbrev this-way : Outcome
    this-way = then (correcting c canonical table len count a) d b

    abbrev that-way : Outcome
    that-way = then (correcting d' canonical' table' len count b') c' a'

    pub same_way : done (deed_of d) (done (deed_of c) t a) b ≡ done (deed_of c') (done (deed_of d') t b') a' → SameResult this-way that-way
    same_way same =
        same_left (done (deed_of c') (done (deed_of d') t b') a') this-way that-way
        (subst (Left this-way) same (then-leaves c canonical table len count a t own first d b second))
        (then-leaves d' canonical' table' len count b' t own' first' c' a' second')

-- ---- one corrects node a and then b, the other b and then a. b is further on and outside a, and where it comes second its number is
-- shifted by the change in node count
module _ (c d : Errand) (t : Tree) (len count a b b' : ℕ)
    (outside : a + nodes (node_at t a) ≤ b)
    (canonical table : List ℕ) (own : own_tree canonical len table count ≡ some t)
    (canonical' table' : List ℕ) (own' : own_tree canonical' len table' count ≡ some t)
    (a_first : (correcting c canonical table len count a).number ≡ 0)
    (shift : b' + count ≡ b + (correcting c canonical table len count a).count)
    (b-second : (then (correcting c canonical table len count a) d b').number ≡ 0)
    (b-first : (correcting d canonical' table' len count b).number ≡ 0)
    (a_second : (then (correcting d canonical' table' len count b) c a).number ≡ 0)
  where
    abbrev a-then-b : Outcome
    a-then-b = then (correcting c canonical table len count a) d b'

    abbrev b-then-a : Outcome
    b-then-a = then (correcting d canonical' table' len count b) c a

    present : b < nodes t
    present = omega (arith, (did canonical' table' len count b d b-first).present, (own_of canonical' len table' count t own').counted)

    same-trees : done (deed_of d) (done (deed_of c) t a) b' ≡ done (deed_of c) (done (deed_of d) t b) a
    same-trees =
        let n = counted c canonical table len count a t own a_first in
        let m = (own_of canonical len table count t own).counted in
        sym (either_order t a b present outside (deed_of c) (deed_of d) b' (omega (arith, shift, n, m, done-nodes t a b present outside (deed_of c))))

    -- S 12.1: the same length, count, octets and records in either order
    pub either_way : SameResult a-then-b b-then-a
    either_way =
        same_way c d d c t len count a b' b a canonical table own canonical' table' own' a_first b-second b-first a_second same-trees

-- ---- both insert into node n, a list of the elements f: the text that comes no earlier has its place shifted by one where it comes second
module _ (form : ℕ) (text : List ℕ) (form' : ℕ) (text' : List ℕ) (t : Tree) (f : Forest) (len count n k m : ℕ)
    (is : node_at t n ≡ list f) (no-earlier : k ≤ m) (has : m ≤ elements f)
    (canonical table : List ℕ) (own : own_tree canonical len table count ≡ some t)
    (canonical' table' : List ℕ) (own' : own_tree canonical' len table' count ≡ some t)
    (k-first : (correcting (insertion form text k) canonical table len count n).number ≡ 0)
    (m-second : (then (correcting (insertion form text k) canonical table len count n) (insertion form' text' (m + 1)) n).number ≡ 0)
    (m-first : (correcting (insertion form' text' m) canonical' table' len count n).number ≡ 0)
    (k-second : (then (correcting (insertion form' text' m) canonical' table' len count n) (insertion form text k) n).number ≡ 0)
  where
    pub inserted-way : SameResult (then (correcting (insertion form text k) canonical table len count n) (insertion form' text' (m + 1)) n)
        (then (correcting (insertion form' text' m) canonical' table' len count n) (insertion form text k) n)
    unfolding deed_of done
    inserted-way =
        let p = (did canonical table len count n (insertion form text k) k-first).present in
        let h : n < nodes t = omega (arith, p, (own_of canonical len table count t own).counted) in
        same_way (insertion form text k) (insertion form' text' (m + 1)) (insertion form' text' m) (insertion form text k) t len count n n n n
        canonical table own canonical' table' own' k-first m-second m-first k-second
        (sym (inserted-either t n f h is k (the (decode form text)) m (the (decode form' text')) no-earlier has))

-- ---- one inserts a text's tree as the k-th element of node n, a list of the elements f, and then does d at a node inside that list; the
-- other does d first
module _ (form : ℕ) (text : List ℕ) (d : Errand) (t : Tree) (f : Forest) (len count n k i b : ℕ)
    (is : node_at t n ≡ list f) (z : b ≡ n + 1 + i) (o : i < nodess f)
    (canonical table : List ℕ) (own : own_tree canonical len table count ≡ some t)
    (canonical' table' : List ℕ) (own' : own_tree canonical' len table' count ≡ some t)
    (insert-first : (correcting (insertion form text k) canonical table len count n).number ≡ 0)
    (d-first : (correcting d canonical' table' len count b).number ≡ 0)
  where
    abbrev u : Tree
    u = the (decode form text)

    abbrev insert-then-d : ℕ → Outcome
    insert-then-d b' = then (correcting (insertion form text k) canonical table len count n) d b'

    abbrev d-then-insert : ℕ → Outcome
    d-then-insert k' = then (correcting d canonical' table' len count b) (insertion form text k') n

    list-present : n < nodes t
    list-present = omega (
      arith,
      (did canonical table len count n (insertion form text k) insert-first).present,
      (own_of canonical len table count t own).counted,
    )

    by-trees : (b' k' : ℕ) → insert (done (deed_of d) t b) n k' u ≡ done (deed_of d) (insert t n k u) b'
        → (insert-then-d b').number ≡ 0 → (d-then-insert k').number ≡ 0 → SameResult (insert-then-d b') (d-then-insert k')
    unfolding deed_of done
    by-trees b' k' e x y =
        same_way (insertion form text k) d d (insertion form text k') t len count n b' b n canonical table own canonical' table' own'
        insert-first x d-first y (sym e)

    -- past the new element: the node's number is shifted by the text's nodes where d comes second
    pub inserted-way-before : up_to f k ≤ i → (b' : ℕ) → b' ≡ b + nodes u
        → (insert-then-d b').number ≡ 0 → (d-then-insert k).number ≡ 0 → SameResult (insert-then-d b') (d-then-insert k)
    inserted-way-before q b' e =
        by-trees b' k (inserted-before t n f list-present is (deed_of d) i b z o k u q ∙ ap (done (deed_of d) (insert t n k u)) (sym e))

    -- before it: the place is shifted by the change in the number of elements where the insertion comes second
    pub inserted-way-after : i < up_to f k → (k' : ℕ) → k' + elements f ≡ k + elements (across (makes (deed_of d)) f i)
        → (insert-then-d b).number ≡ 0 → (d-then-insert k').number ≡ 0 → SameResult (insert-then-d b) (d-then-insert k')
    inserted-way-after q k' m = by-trees b k' (inserted-after t n f list-present is (deed_of d) i b z o k u k' q m)

    -- before it, and not removed: nothing is shifted
    pub kept-way : (deed_of d ≡ away → ⊥) → i < up_to f k
        → (insert-then-d b).number ≡ 0 → (d-then-insert k).number ≡ 0 → SameResult (insert-then-d b) (d-then-insert k)
    kept-way c q = by-trees b k (kept-after t n f list-present is k u (deed_of d) c i b z o q)

    -- deeper inside an earlier element, the j-th: nothing is shifted
    pub deeper-way : (j : ℕ) → up_to f j < i → i < up_to f (suc j) → j < k
        → (insert-then-d b).number ≡ 0 → (d-then-insert k).number ≡ 0 → SameResult (insert-then-d b) (d-then-insert k)
    deeper-way j v w q = by-trees b k (deeper-earlier t n f list-present is k u (deed_of d) j i b z v w q)

    -- an earlier element, the j-th, removed: the place counts one less where the insertion comes second
    pub removed-way : d ≡ removal → (j : ℕ) → i ≡ up_to f j → j < elements f → j < k
        → (insert-then-d b).number ≡ 0 → (d-then-insert (k - 1)).number ≡ 0 → SameResult (insert-then-d b) (d-then-insert (k - 1))
    unfolding deed_of done
    removed-way e j v w q =
        by-trees b (k - 1) (subst (λ (c : Errand). insert (done (deed_of c) t b) n (k - 1) u ≡ done (deed_of c) (insert t n k u) b) (sym e)
        (removed-earlier t n f list-present is k u j b (omega arith) w q))
