-- S 10.4: what is answered of a list of lines, by the list's tree; and that the total of any answer, of a line, a line made up or a list of
-- lines, is exactly a quarter of its count.
use Prim.Native.Nat.{ℕ, ◌+◌, ◌^◌, ◌≤◌, ◌<◌}
use native.Mathlib.Omega.{arith}
use mathlib.Core.Path.{◌≡◌, refl, sym, ap, ◌∙◌, subst}
use mathlib.Core.Bool.{true}
use mathlib.Core.Option.{Option, none, some}
use mathlib.Core.List.{List}
use borrow.Author.Tests.{eq-eqb, ne_eqb}
use Rattle.base.proofs.Cases.{picked, unpicked, none-some, some_same}
use Rattle.model.specs.Answers.{the, own_tree}
use Rattle.model.specs.Edit.{join, one}
use Rattle.model.specs.Table.{Row, row_of}
use Rattle.model.specs.Tree.{Tree, plain, hinted, list, Forest, nil, cons, nodes, nodess}
use Rattle.lookup.proofs.Sheets.{own_of}
use Rattle.model.specs.Node.{node_at}
use Rattle.shifts.proofs.Answered.{not_own, no_node, a-node, no-checks}
use Rattle.typed.specs.Asked.{node_sum, summed_by, summing}
use Rattle.typed.specs.Cases.{Summed, unsummed}
use Rattle.typed.specs.Lines.{elements, Sum, lines, bad, sum_at}
use Rattle.typed.specs.Quarters.{total_by}
use Rattle.typed.specs.declared.Total.{Total}
use Rattle.demands.specs.Lines.{QuarterOf, AllLines, FirstBad}
use Rattle.demands.proofs.Hours.{quarter-of}
use Rattle.demands.proofs.Shown.{plain_row_lem, hinted-row}
use Rattle.demands.proofs.Standing.{Stands, inside, first-list, stands}
use Rattle.demands.proofs.Weekly.{Week, whole, broken, SumsTo, sums-lines, sums-broken, decided, quarters-bound, node-within, element-node}

module _ (canonical : List ℕ) (len : ℕ) (table : List ℕ) (count node : ℕ) where
  pub week-not-own : own_tree canonical len table count ≡ none → summing canonical len table count node ≡ unsummed 7 0
  unfolding summing
  week-not-own e = not_own canonical len table count node _ _ _ e

  module _ (t : Tree) (o : own_tree canonical len table count ≡ some t) where
    pub week-no-node : count ≤ node → summing canonical len table count node ≡ unsummed 8 0
    unfolding summing
    week-no-node h = no_node canonical len table count node _ _ _ t o h

    module _ (h : node < count) where
      within : node < nodes t
      within = omega (arith, (own_of canonical len table count t o).counted)

      here : (x : Tree) → node_at t node ≡ x → Stands canonical len t (one x) node
      here x q = stands canonical len table count node t o within x q

      by-sum : (s : Sum) → sum_at canonical t node ≡ s → summing canonical len table count node ≡ summed_by s
      unfolding summing node_sum the
      by-sum s e =
          a-node canonical len table count node _ _ _ t o h ∙ no-checks _ _
          ∙ ap summed_by (ap (λ (x : Option Tree). sum_at canonical (the x) node) o ∙ e)

      -- a string is no list of lines
      pub week-of-string : ((f : Forest) → node_at t node ≡ list f → ⊥) → summing canonical len table count node ≡ unsummed 12 node
      unfolding sum_at summed_by
      week-of-string g = by-sum (bad node) (unpicked _ _ (ne_eqb _ _ (no-list (node_at t node) refl)))
        where
          no-list : (x : Tree) → node_at t node ≡ x → (row_of t node).kind ≡ 2 → ⊥
          no-list (plain d) q e =
              let z : ◌≡◌ {A = ℕ} 0 2 = sym (ap (λ (r : Row). r.kind) (plain_row_lem canonical len table count node t o within d q)) ∙ e in omega arith
          no-list (hinted a d) q e =
              let z : ◌≡◌ {A = ℕ} 1 2 = sym (ap (λ (r : Row). r.kind) (hinted-row canonical len table count node t o within a d q)) ∙ e in omega arith
          no-list (list f) q e = g f q

      module _ (f : Forest) (q : node_at t node ≡ list f) where
        inner : Stands canonical len t f (node + 1)
        inner = inside canonical len t f nil node (here (list f) q)

        by-elements : (s : Sum) → SumsTo canonical t f (node + 1) s → summing canonical len table count node ≡ summed_by s
        unfolding sum_at elements nodes
        by-elements s g =
            let r = first-list canonical len t f nil node (here (list f) q) in
            let c : (row_of t node).count ≡ 1 + nodess f = ap (λ (x : Row). x.count) r in
            by-sum s (picked _ _ (eq-eqb _ _ (ap (λ (x : Row). x.kind) r)) ∙ g (row_of t node).count (node + (row_of t node).count) (omega arith) (omega arith))

        pub week-given : (n m : ℕ) → AllLines f n m
            → summing canonical len table count node ≡ record { accepted = true; number = 0; place = 0; lines = n; total = some (total_by m); bad = 0 }
        unfolding summed_by
        week-given n m w = by-elements (lines n m) (sums-lines canonical len t w (node + 1) inner)

        -- the node told is that of the first element that is no line
        pub week-refused : (k : ℕ) (x : Tree) → FirstBad f k x
            → (summing canonical len table count node ≡ unsummed 12 (node + 1 + k)) × (node_at t (node + 1 + k) ≡ x)
        unfolding summed_by
        week-refused k x b =
            let e : f ≡ join b.good (cons x b.rest) = b.is in
            let j : node + 1 + nodess b.good ≡ node + 1 + k = omega (arith, b.before) in
            let i : Stands canonical len t (join b.good (cons x b.rest)) (node + 1) = subst
            (λ (g : Forest). Stands canonical len t g (node + 1)) e inner in
            let s = subst (λ (g : Forest). SumsTo canonical t g (node + 1) (bad (node + 1 + nodess b.good))) (sym e)
            (sums-broken canonical len t b.lines x b.rest b.not_line (node + 1) i) in (
              by-elements (bad (node + 1 + nodess b.good)) s ∙ ap (unsummed 12) j,
              ap (node_at t) (sym j) ∙ element-node t node within b.good x b.rest (q ∙ ap list e),
            )

        -- one of the two holds
        pub week-either : Week f
        week-either = decided canonical len t f (node + 1) inner

        week-few : (n m : ℕ) → AllLines f n m → m < 2 ^ 28
        unfolding nodes
        week-few n m w =
            let k : nodes t ≤ 8192 = (own_of canonical len table count t o).sheet.fitting.many in
            omega (arith, quarters-bound w, node-within t node within (list f) q)

        list-quarter : (s : Total) → (summing canonical len table count node).total ≡ some s → QuarterOf s
        list-quarter s e = by week-either
          where
            by : Week f → QuarterOf s
            by (whole n m w) = some_same QuarterOf (sym (ap (λ (r : Summed). r.total) (week-given n m w)) ∙ e) (quarter-of m (week-few n m w))
            by (broken k x b) = none-some (sym (ap (λ (r : Summed). r.total) (week-refused k x b).0) ∙ e)

      pub week-quarter : (s : Total) → (summing canonical len table count node).total ≡ some s → QuarterOf s
      week-quarter s e = by (node_at t node) refl
        where
          of-string : ((f : Forest) → node_at t node ≡ list f → ⊥) → QuarterOf s
          of-string g = none-some (sym (ap (λ (r : Summed). r.total) (week-of-string g)) ∙ e)

          by : (x : Tree) → node_at t node ≡ x → QuarterOf s
          by (plain d) q = of-string (λ f p. let z : plain d ≡ list f = sym q ∙ p in let y : ◌≡◌ {A = ℕ} 0 1 = cc in omega arith)
          by (hinted a d) q = of-string (λ f p. let z : hinted a d ≡ list f = sym q ∙ p in let y : ◌≡◌ {A = ℕ} 0 1 = cc in omega arith)
          by (list f) q = list-quarter f q s e
