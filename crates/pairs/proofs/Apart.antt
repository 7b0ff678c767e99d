-- Two changes of different nodes of a tree, neither inside the other, make the same tree in either order (S 12.1).
use Prim.Native.Nat.{ℕ, zero, suc, ◌+◌, ◌-◌, ◌≤◌, ◌<◌}
use native.Mathlib.Omega.{arith}
use mathlib.Core.Path.{◌≡◌, sym, ap, ap₂, ◌∙◌}
use lib.ListN.{length}
use Rattle.edits.specs.Place.{Place, fill, before, number}
use Rattle.edits.proofs.Fill.{fill-nodes}
use Rattle.edits.proofs.Find.{across-at, nodes-pos, across-in}
use Rattle.edits.proofs.Sides.{BeginsFrom, sides-after}
use Rattle.edits.proofs.Whole.{Located, locate, nodess-one}
use Rattle.model.specs.Edit.{one, across, replace, insert, remove}
use Rattle.model.specs.Node.{node_at}
use Rattle.model.specs.Table.{row_of}
use Rattle.model.specs.Tree.{Tree, Forest, nil, canons, nodes, nodess}
use Rattle.pairs.specs.Deeds.{Deed, to, with_in, away, makes, done, shifted}
use Rattle.pairs.specs.Two.{Two, fill_two, first, second}
use Rattle.pairs.proofs.Two.{fill-first, fill-second, number-first, number-second, Pair, find-two}

-- ---- what is changed at two places, in either order

module _ (e d : Tree → Forest) (w : Two) (x y : Tree) where
  -- the second first
  second-first : (a : ℕ) → a ≡ number (first w (d y)) → across e (fill_two w (one x) (d y)) a ≡ fill_two w (e x) (d y)
  second-first a h =
      ap₂ (across e) (sym (fill-first w (one x) (d y))) h ∙ across-at e (first w (d y)) x ∙ fill-first w (e x) (d y)

  -- the first first
  first-second : (b : ℕ) → b ≡ number (second w (e x)) → across d (fill_two w (e x) (one y)) b ≡ fill_two w (e x) (d y)
  first-second b h =
      ap₂ (across d) (sym (fill-second w (e x) (one y))) h ∙ across-at d (second w (e x)) y ∙ fill-second w (e x) (d y)

-- ---- two nodes of a tree, where b is outside a and further on
module _ (t : Tree) (a b : ℕ) (h : b < nodes t) (o : a + nodes (node_at t a) ≤ b) where
  a_in : a < nodes t
  a_in = omega (arith, nodes-pos (node_at t a))

  abbrev l : Located t a
  l = locate t a a_in

  abbrev m : Located t b
  m = locate t b h

  -- what stands at a ends before b begins
  ordered : length (before l.place) + length (canons (one l.node)) ≤ length (before m.place)
  ordered =
      let n : nodess (one l.node) ≡ nodes (node_at t a) = nodess-one l.node ∙ ap nodes (sym l.is_node) in
      let s : BeginsFrom (row_of t b) (length (before l.place) + length (canons (one l.node))) =
      sides-after t l.place (one l.node) l.is b (omega (arith, l.num, n, o)) h in
      omega (arith, s.start, m.start)

  abbrev pair : Pair l.place m.place (one l.node) (one m.node)
  pair = find-two l.place m.place (one l.node) (one m.node) (sym l.is ∙ m.is) ordered

  module _ (e d : Tree → Forest) where
    abbrev both : Forest
    both = fill_two pair.two (e l.node) (d m.node)

    b-then-a : across e (across d (one t) b) a ≡ both
    b-then-a =
        ap (λ (f : Forest). across e f a) (m.edited d ∙ ap (λ (p : Place). fill p (d m.node)) pair.is-second
        ∙ fill-second pair.two (one l.node) (d m.node))
        ∙ second-first e d pair.two l.node m.node a
        (sym l.num ∙ ap number pair.is-first ∙ number-first pair.two (one m.node) (d m.node))

    a-then-b : (b' : ℕ) → b' + nodes (node_at t a) ≡ b + nodess (e (node_at t a)) → across d (across e (one t) a) b' ≡ both
    a-then-b b' k =
        let n : nodess (one l.node) ≡ nodes (node_at t a) = nodess-one l.node ∙ ap nodes (sym l.is_node) in
        let q : nodess (e l.node) ≡ nodess (e (node_at t a)) = ap (λ (x : Tree). nodess (e x)) (sym l.is_node) in
        ap (λ (f : Forest). across d f b') (l.edited e ∙ ap (λ (p : Place). fill p (e l.node)) pair.is-first
        ∙ fill-first pair.two (e l.node) (one m.node))
        ∙ first-second e d pair.two l.node m.node b'
        (omega (arith, k, n, q, m.num, ap number pair.is-second, number-second pair.two (one l.node) (e l.node)))

    pub across-either : (b' : ℕ) → b' + nodes (node_at t a) ≡ b + nodess (e (node_at t a))
        → across e (across d (one t) b) a ≡ across d (across e (one t) a) b'
    across-either b' k = b-then-a ∙ sym (a-then-b b' k)

    -- the nodes that are there after one of the two
    after-b : b ≤ nodess (across d (one t) b)
    after-b = omega (arith, ap nodess (m.edited d), fill-nodes m.place (d m.node), m.num)

    after-a : (b' : ℕ) → b' + nodes (node_at t a) ≡ b + nodess (e (node_at t a)) → b' < nodess (across e (one t) a)
    after-a b' k =
        let n : nodess (one l.node) ≡ nodes (node_at t a) = nodess-one l.node ∙ ap nodes (sym l.is_node) in
        let q : nodess (e l.node) ≡ nodess (e (node_at t a)) = ap (λ (x : Tree). nodess (e x)) (sym l.is_node) in
        let s = ap number pair.is-second in
        let f : nodess (across e (one t) a) ≡ nodess (fill (second pair.two (e l.node)) (one m.node)) =
        ap nodess (l.edited e ∙ ap (λ (p : Place). fill p (e l.node)) pair.is-first
        ∙ fill-first pair.two (e l.node) (one m.node)
        ∙ sym (fill-second pair.two (e l.node) (one m.node))) in
        let v = fill-nodes (second pair.two (e l.node)) (one m.node) in
        let r = number-second pair.two (one l.node) (e l.node) in
        omega (arith, f, v, nodess-one m.node, nodes-pos m.node, k, n, q, m.num, s, r)

-- ---- the changes of a tree as changes of the forest of that tree alone
pub done-across : (c : Deed) (t : Tree) (k : ℕ) → 0 < k → k < nodes t → one (done c t k) ≡ across (makes c) (one t) k
unfolding done makes replace insert remove
done-across c t zero z h = absurd (omega arith)
done-across (to u) t (suc k) z h = sym (across-in (makes (to u)) t nil k h)
done-across (with_in j u) t (suc k) z h = sym (across-in (makes (with_in j u)) t nil k h)
done-across away t (suc k) z h = sym (across-in (makes away) t nil k h)

pub only : {t u : Tree} → one t ≡ one u → t ≡ u
only e = cc

-- S 12.1: the same tree in either order; replaced, inserted into or removed, any two of these
module _ (t : Tree) (a b : ℕ) (h : b < nodes t) (o : a + nodes (node_at t a) ≤ b) where
  not-the-whole : 0 < a
  unfolding node_at
  not-the-whole = by a o
    where
      by : (a : ℕ) → a + nodes (node_at t a) ≤ b → 0 < a
      by zero o = absurd (omega arith)
      by (suc a) o = omega arith

  -- the change in node count
  pub done-nodes : (c : Deed) → nodes (done c t a) + nodes (node_at t a) ≡ nodes t + nodess (makes c (node_at t a))
  done-nodes c =
      let l = locate t a (a_in t a b h o) in
      let n : nodess (one l.node) ≡ nodes (node_at t a) = nodess-one l.node ∙ ap nodes (sym l.is_node) in
      let q : nodess (makes c l.node) ≡ nodess (makes c (node_at t a)) = ap (λ (x : Tree). nodess (makes c x)) (sym l.is_node) in
      let x : nodes (done c t a) ≡ nodess (fill l.place (makes c l.node)) =
      sym (nodess-one (done c t a)) ∙ ap nodess (done-across c t a not-the-whole (a_in t a b h o) ∙ l.edited (makes c)) in
      let y : nodes t ≡ nodess (fill l.place (one l.node)) = sym (nodess-one t) ∙ ap nodess l.is in
      omega (arith, n, q, x, y, fill-nodes l.place (makes c l.node), fill-nodes l.place (one l.node))

  pub either_order : (c d : Deed) (b' : ℕ) → b' + nodes (node_at t a) ≡ b + nodess (makes c (node_at t a))
      → done c (done d t b) a ≡ done d (done c t a) b'
  either_order c d b' k =
      let p = nodes-pos (node_at t a) in
      let x : one (done d t b) ≡ across (makes d) (one t) b = done-across d t b (omega arith) h in
      let y : one (done c t a) ≡ across (makes c) (one t) a = done-across c t a not-the-whole (omega arith) in
      let n : a < nodes (done d t b) = omega (arith, sym (nodess-one (done d t b)) ∙ ap nodess x, after-b t a b h o (makes c) (makes d)) in
      let r : b' < nodes (done c t a) = omega (
        arith,
        sym (nodess-one (done c t a))
            ∙ ap nodess y,
        after-a t a b h o (makes c) (makes d) b' k,
      ) in
      only (done-across c (done d t b) a not-the-whole n
      ∙ ap (λ (f : Forest). across (makes c) f a) x
      ∙ across-either t a b h o (makes c) (makes d) b' k
      ∙ ap (λ (f : Forest). across (makes d) f b') (sym y)
      ∙ sym (done-across d (done c t a) b' (omega (arith, not-the-whole)) r))

  -- the number b, where it is changed second
  pub shift_is : (c : Deed) → shifted b c (node_at t a) + nodes (node_at t a) ≡ b + nodess (makes c (node_at t a))
  shift_is c = omega arith

  -- two replacements; S 12.1: the number of the node further on is shifted by the change in node count
  pub replaced-either : (u v : Tree) → replace (replace t b v) a u ≡ replace (replace t a u) (b + nodes u - nodes (node_at t a)) v
  unfolding done makes
  replaced-either u v = either_order (to u) (to v) (b + nodes u - nodes (node_at t a)) (omega (arith, nodess-one u))
