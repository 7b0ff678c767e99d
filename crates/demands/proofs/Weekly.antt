-- S 10.4, a list of lines: the sum over the elements of the list's tree, or the first element that is no line.
use Prim.Native.Nat.{ℕ, zero, suc, ◌+◌, ◌*◌, ◌≤◌, ◌<◌}
use native.Mathlib.Omega.{arith}
use native.Mathlib.Nat.{add-zero}
use mathlib.Core.Path.{◌≡◌, refl, sym, ap, ap₂, ◌∙◌}
use mathlib.Core.List.{List}
use Rattle.model.specs.Edit.{join, one}
use Rattle.model.specs.Tree.{Tree, list, Forest, nil, cons, nodes, nodess}
use Rattle.edits.specs.Place.{number}
use Rattle.model.specs.Node.{node_in, node_among, node_at}
use Rattle.edits.proofs.Find.{nodes-pos, node-here, node_in_lem, node-past, node_at-among, node-fill}
use Rattle.edits.proofs.Join.{nodess-join}
use Rattle.edits.proofs.Whole.{nodess-one, nodes-at, locate}
use Rattle.shifts.proofs.Adding.{no_more, one_more}
use Rattle.typed.specs.Lines.{line_count, elements_up_to, Sum, lines, bad, added, added_by, sum_of}
use Rattle.typed.specs.Quarters.{Count}
use Rattle.typed.specs.declared.Line.{Line}
use Rattle.demands.specs.Lines.{ShiftLine, AllLines, no_line, a-line, FirstBad}
use Rattle.demands.proofs.Given.{count-of-line, uncounted, LineOrNot, is-line, is_none, line-or-not}
use Rattle.demands.proofs.Hours.{quarters-few}
use Rattle.demands.proofs.Standing.{Stands, past, first_count}

abbrev NoLine : Tree → Type 0
NoLine x = (h : Line) (n : ℕ) → ShiftLine x h n → ⊥

-- every element is a line, or there is a first that is none
pub data Week (f : Forest) : Type 0 where
  whole : (n q : ℕ) → AllLines f n q → Week f
  broken : (k : ℕ) (x : Tree) → FirstBad f k x → Week f

-- ---- sums over trees that stand in a sheet

-- the sum of the elements from `at` on is s
abbrev pub SumsTo : List ℕ → Tree → Forest → ℕ → Sum → Type 0
SumsTo canonical t f at s = (fuel stop : ℕ) → nodess f ≤ fuel → stop ≡ at + nodess f → sum_of canonical t (elements_up_to t fuel at stop) ≡ s

module _ (canonical : List ℕ) (len : ℕ) (t : Tree) where
  sums-nil : (at : ℕ) → SumsTo canonical t nil at (lines 0 0)
  unfolding nodess sum_of
  sums-nil at fuel stop h e = ap (sum_of canonical t) (no_more t fuel at stop (omega arith))

  module _ (x : Tree) (f : Forest) (at : ℕ) (w : Stands canonical len t (cons x f) at) where
    -- the first element, whatever it is
    opened : (fuel stop : ℕ) → at < stop
        → sum_of canonical t (elements_up_to t (suc fuel) at stop) ≡ added_by at (line_count canonical t at) (sum_of canonical t (elements_up_to t fuel (at + nodes x) stop))
    unfolding sum_of
    opened fuel stop h =
        ap (sum_of canonical t) (one_more t fuel at stop h)
        ∙ ap (λ (m : ℕ). added_by at (line_count canonical t at) (sum_of canonical t (elements_up_to t fuel (at + m) stop))) (first_count canonical len t x f at w)

    sums-line : (h : Line) (m : ℕ) → ShiftLine x h m → (s : Sum) → SumsTo canonical t f (at + nodes x) s
        → SumsTo canonical t (cons x f) at (added m s)
    unfolding nodess
    sums-line h m l s g zero stop n e = absurd (omega (arith, nodes-pos x))
    sums-line h m l s g (suc fuel) stop n e =
        opened fuel stop (omega (arith, nodes-pos x))
        ∙ ap₂ (added_by at) (count-of-line canonical len t x f at w h m l).1 (g fuel stop (omega (arith, nodes-pos x)) (omega arith))

    sums-bad : NoLine x → SumsTo canonical t (cons x f) at (bad at)
    unfolding nodess
    sums-bad l zero stop n e = absurd (omega (arith, nodes-pos x))
    sums-bad l (suc fuel) stop n e =
        opened fuel stop (omega (arith, nodes-pos x))
        ∙ ap (λ (c : Count). added_by at c (sum_of canonical t (elements_up_to t fuel (at + nodes x) stop))) (uncounted canonical len t x f at w l)

  pub sums-lines : {f : Forest} {n q : ℕ} → AllLines f n q → (at : ℕ) → Stands canonical len t f at → SumsTo canonical t f at (lines n q)
  sums-lines no_line at w = sums-nil at
  sums-lines (a-line {x} {f} {h} {m} {n} {q} l r) at w =
      sums-line x f at w h m l (lines n q) (sums-lines r (at + nodes x) (past canonical len t x f at w))

  pub sums-broken : {g : Forest} {n q : ℕ} → AllLines g n q → (x : Tree) (f : Forest) → NoLine x → (at : ℕ)
      → Stands canonical len t (join g (cons x f)) at
      → SumsTo canonical t (join g (cons x f)) at (bad (at + nodess g))
  unfolding join nodess
  sums-broken no_line x f b at w = rw add-zero (sums-bad x f at w b)
  sums-broken (a-line {x = y} {f = g} {h = h} {m = m} l r) x f b at w =
      let e : at + (nodes y + nodess g) ≡ at + nodes y + nodess g = omega arith in
      rw e (sums-line y (join g (cons x f)) at w h m l (bad (at + nodes y + nodess g))
      (sums-broken r x f b (at + nodes y) (past canonical len t y (join g (cons x f)) at w)))

  -- ---- a list of trees is one or the other

  pub decided : (f : Forest) (at : ℕ) → Stands canonical len t f at → Week f
  unfolding join nodess
  decided nil at w = whole 0 0 no_line
  decided (cons x f) at w = by (line-or-not canonical len t x f at w) (decided f (at + nodes x) (past canonical len t x f at w))
    where
      by : LineOrNot x → Week f → Week (cons x f)
      by (is_none g) r = broken 0 x (record { good = nil; rest = f; is = refl; count = 0; quarters = 0; lines = no_line; not_line = g; before = refl })
      by (is-line h m l) (whole n q r) = whole (suc n) (m + q) (a-line l r)
      by (is-line h m l) (broken k y b) =
          broken (nodes x + k) y
          (record {
            good = cons x b.good;
            rest = b.rest;
            is = ap (cons x) b.is;
            count = suc b.count;
            quarters = m + b.quarters;
            lines = a-line l b.lines;
            not_line = b.not_line;
            before = ap (λ (i : ℕ). nodes x + i) b.before;
          })

-- ---- lines have few quarters

pub quarters-bound : {f : Forest} {n q : ℕ} → AllLines f n q → q ≤ 288 * nodess f
unfolding nodess
quarters-bound no_line = omega arith
quarters-bound (a-line {x} {f} {h} {m} l r) = omega (arith, quarters-bound r, quarters-few h m l.quartered, nodes-pos x)

-- ---- the node of an element

among-join : (g : Forest) (x : Tree) (f : Forest) → node_among (join g (cons x f)) (nodess g) ≡ x
unfolding join nodess
among-join nil x f = node-here x f
among-join (cons y g) x f = node-past y (join g (cons x f)) (nodess g) ∙ among-join g x f

module _ (t : Tree) (node : ℕ) (h : node < nodes t) where
  -- a node counts no more nodes than there are
  pub node-within : (x : Tree) → node_at t node ≡ x → node + nodes x ≤ nodes t
  node-within x q =
      let a = locate t node h in
      omega (arith, nodes-at t a.place (one a.node) a.is, nodess-one a.node, a.num, ap nodes (sym a.is_node ∙ q))

  pub element-node : (g : Forest) (x : Tree) (f : Forest) → node_at t node ≡ list (join g (cons x f)) → node_at t (node + 1 + nodess g) ≡ x
  unfolding nodes node_in
  element-node g x f q =
      let a = locate t node h in
      let y : a.node ≡ list (join g (cons x f)) = sym a.is_node ∙ q in
      let n : nodess (one a.node) ≡ 1 + nodess (join g (cons x f)) = nodess-one a.node ∙ ap nodes y in
      let l : nodess (join g (cons x f)) ≡ nodess g + nodess (cons x f) = nodess-join g (cons x f) in
      let e : node + 1 + nodess g ≡ number a.place + suc (nodess g) = omega (arith, a.num) in
      sym (node_at-among t nil (node + 1 + nodess g) (omega (arith, node-within (list (join g (cons x f))) q, nodes-pos x)))
      ∙ ap₂ node_among a.is e
      ∙ node-fill a.place (one a.node) (suc (nodess g)) (omega (arith, nodes-pos x))
      ∙ ap (λ (z : Tree). node_among (one z) (suc (nodess g))) y
      ∙ node_in_lem (list (join g (cons x f))) nil (nodess g) (omega (arith, nodes-pos x))
      ∙ among-join g x f
