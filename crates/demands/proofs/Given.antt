-- S 10.2, 10.3: what is answered of a node of a sheet with its own table, by the node's tree: its value, and its line.
use Prim.Native.Nat.{ℕ, ◌≤◌, ◌<◌}
use native.Mathlib.Omega.{arith}
use mathlib.Core.Path.{◌≡◌, refl, sym, ap, ◌∙◌, subst}
use mathlib.Core.Bool.{true}
use mathlib.Core.Option.{Option, none, some}
use mathlib.Core.List.{List}
use Rattle.std.specs.Prelude.{Some, None}
use Rattle.base.proofs.Cases.{none-some, some_same}
use Rattle.model.specs.Answers.{the, own_tree}
use Rattle.model.specs.Edit.{one}
use Rattle.model.specs.Table.{row_of}
use Rattle.model.specs.Tree.{Tree, Forest, nil, cons, nodes}
use Rattle.lookup.proofs.Sheets.{own_of}
use Rattle.model.specs.Node.{node_at}
use Rattle.shifts.proofs.Answered.{not_own, no_node, a-node, value-some, value_none, line-some, line-none}
use Rattle.typed.specs.Asked.{value_in, node_value, valuing, node_line, lining}
use Rattle.typed.specs.Cases.{Valued, unvalued, valued, Lined, unlined, lined}
use Rattle.typed.specs.Lines.{typed_row, hours_at, quarters_in, kept_if, line_at, line_count}
use Rattle.typed.specs.Quarters.{total_by, total_for, Count}
use Rattle.typed.specs.Typed.{Typing}
use Rattle.typed.specs.declared.Line.{Line}
use Rattle.typed.specs.declared.Total.{Total}
use Rattle.typed.specs.declared.Value.{Value}
use Rattle.demands.specs.Lines.{ShiftLine, QuarterOf}
use Rattle.demands.specs.Values.{ValueOf}
use Rattle.demands.proofs.Hours.{quarters-is, quarters-says, quarters-few, quarter-of}
use Rattle.demands.proofs.Lined.{typed_at, from-three, to-three}
use Rattle.demands.proofs.Standing.{Stands, stands}
use Rattle.demands.proofs.Valued.{value_by, value-says, value-is}

-- a tree is a line, or it is none
pub data LineOrNot (x : Tree) : Type 0 where
  is-line : (l : Line) (n : ℕ) → ShiftLine x l n → LineOrNot x
  is_none : ((l : Line) (n : ℕ) → ShiftLine x l n → ⊥) → LineOrNot x

-- ---- the line of a tree that stands in a sheet

module _ (canonical : List ℕ) (len : ℕ) (t : Tree) (x : Tree) (f : Forest) (k : ℕ) (s : Stands canonical len t (cons x f) k) where
  pub count-of-line : (l : Line) (n : ℕ) → ShiftLine x l n → (hours_at canonical t k ≡ some l) × (line_count canonical t k ≡ Some n)
  unfolding line_count
  count-of-line l n w =
      let h : hours_at canonical t k ≡ some l = from-three canonical len t l x f k w.three s in
      (h, ap quarters_in h ∙ quarters-is l n w.quartered)

  counted-by : (o : Option Line) → hours_at canonical t k ≡ o → (n : ℕ) → quarters_in o ≡ Some n → (l : Line) × ShiftLine x l n
  counted-by none e n q = let z : ◌≡◌ {A = ℕ} 0 1 = cc in absurd (omega arith)
  counted-by (some l) e n q = (l, record { three = to-three canonical len t l x f k s e; quartered = quarters-says l n q })

  pub line-of-count : (n : ℕ) → line_count canonical t k ≡ Some n → (l : Line) × ShiftLine x l n
  unfolding line_count
  line-of-count n e = counted-by (hours_at canonical t k) refl n e

  pub uncounted : ((l : Line) (n : ℕ) → ShiftLine x l n → ⊥) → line_count canonical t k ≡ None
  uncounted g = by (line_count canonical t k) refl
    where
      by : (c : Count) → line_count canonical t k ≡ c → line_count canonical t k ≡ None
      by (Some n) e = let w = line-of-count n e in absurd (g w.0 n w.1)
      by None e = e

  pub line-or-not : LineOrNot x
  line-or-not = by (line_count canonical t k) refl
    where
      by : (c : Count) → line_count canonical t k ≡ c → LineOrNot x
      by (Some n) e = let w = line-of-count n e in is-line w.0 n w.1
      by None e = is_none (λ l n w. let p = count-of-line l n w in let z : ◌≡◌ {A = ℕ} 0 1 = cc p.1 in omega arith)

module _ (canonical : List ℕ) (len : ℕ) (table : List ℕ) (count node : ℕ) where
  -- S 10.2: rows 7 and 8 come first
  pub value-not-own : own_tree canonical len table count ≡ none → valuing canonical len table count node ≡ unvalued 7
  unfolding valuing
  value-not-own e = not_own canonical len table count node _ _ _ e

  pub line-not-own : own_tree canonical len table count ≡ none → lining canonical len table count node ≡ unlined 7
  unfolding lining
  line-not-own e = not_own canonical len table count node _ _ _ e

  module _ (t : Tree) (o : own_tree canonical len table count ≡ some t) where
    pub value-no-node : count ≤ node → valuing canonical len table count node ≡ unvalued 8
    unfolding valuing
    value-no-node h = no_node canonical len table count node _ _ _ t o h

    pub line-no-node : count ≤ node → lining canonical len table count node ≡ unlined 8
    unfolding lining
    line-no-node h = no_node canonical len table count node _ _ _ t o h

    module _ (h : node < count) where
      within : node < nodes t
      within = omega (arith, (own_of canonical len table count t o).counted)

      here : Stands canonical len t (one (node_at t node)) node
      here = stands canonical len table count node t o within (node_at t node) refl

      -- ---- a value

      abbrev pub Has : Value → Type 0
      Has = ValueOf (row_of t node).data_start (row_of t node).data_end (node_at t node)

      value-by : node_value canonical len table count node ≡ value_in (value_by (row_of t node).data_start (row_of t node).data_end (node_at t node))
      unfolding node_value the
      value-by =
          ap (λ (x : Option Tree). value_in (typed_row canonical (row_of (the x) node))) o
          ∙ ap value_in (typed_at canonical len t (node_at t node) nil node here)

      pub value-given : (v : Value) → Has v → valuing canonical len table count node ≡ record { accepted = true; number = 0; place = 0; value = some v }
      unfolding valuing valued
      value-given v w =
          a-node canonical len table count node _ _ _ t o h
          ∙ value-some (node_value canonical len table count node) v (value-by ∙ ap value_in (value-is _ _ (node_at t node) v w))

      -- S 10.2: where the node's tree has no value, 11
      pub value-refused : ((v : Value) → Has v → ⊥) → valuing canonical len table count node ≡ unvalued 11
      unfolding valuing
      value-refused f =
          a-node canonical len table count node _ _ _ t o h
          ∙ value_none (node_value canonical len table count node) (value-by ∙ none_of _ refl)
        where
          none_of : (r : Typing) → value_by (row_of t node).data_start (row_of t node).data_end (node_at t node) ≡ r → value_in r ≡ none
          none_of (Some v) e = absurd (f v (value-says _ _ (node_at t node) v e))
          none_of None e = refl

      -- a value that is answered is the node's
      pub value-only : (v : Value) → (valuing canonical len table count node).value ≡ some v → Has v
      value-only v e = by (value_by (row_of t node).data_start (row_of t node).data_end (node_at t node)) refl
        where
          by : (r : Typing) → value_by (row_of t node).data_start (row_of t node).data_end (node_at t node) ≡ r → Has v
          by (Some u) q =
              let w : Has u = value-says _ _ (node_at t node) u q in
              some_same Has (sym (ap (λ (r : Valued). r.value) (value-given u w)) ∙ e) w
          by None q =
              none-some (sym (ap (λ (r : Valued). r.value) (value-refused (λ u w.
              let z : ◌≡◌ {A = ℕ} 0 1 = cc (value-is _ _ (node_at t node) u w) in omega arith))) ∙ e)

      -- ---- a line

      line-by : node_line canonical len table count node ≡ kept_if (hours_at canonical t node) (line_count canonical t node)
      unfolding node_line line_at the
      line-by = ap (λ (x : Option Tree). line_at canonical (the x) node) o

      tree_is : the (own_tree canonical len table count) ≡ t
      unfolding the
      tree_is = ap the o

      pub line-given : (l : Line) (n : ℕ) → ShiftLine (node_at t node) l n
          → lining canonical len table count node ≡ record { accepted = true; number = 0; place = 0; line = some l; total = some (total_by n) }
      unfolding lining lined
      line-given l n w =
          let p = count-of-line canonical len t (node_at t node) nil node here l n w in
          a-node canonical len table count node _ _ _ t o h
          ∙ line-some (node_line canonical len table count node) _ l (total_by n) (line-by ∙ ap (kept_if (hours_at canonical t node)) p.1 ∙ p.0)
          (ap (λ (x : Tree). total_for (line_count canonical x node)) tree_is ∙ ap total_for p.1)

      -- S 10.3: where the node's tree is no line, 12
      pub line_refused : ((l : Line) (n : ℕ) → ShiftLine (node_at t node) l n → ⊥) → lining canonical len table count node ≡ unlined 12
      unfolding lining
      line_refused f =
          a-node canonical len table count node _ _ _ t o h
          ∙ line-none (node_line canonical len table count node) _
          (line-by ∙ ap (kept_if (hours_at canonical t node)) (uncounted canonical len t (node_at t node) nil node here f))

      pub line-either : LineOrNot (node_at t node)
      line-either = line-or-not canonical len t (node_at t node) nil node here

      -- a line that is answered is the node's, and the total is that of its quarters
      pub line-says : (l : Line) → (lining canonical len table count node).line ≡ some l
          → (n : ℕ) × ShiftLine (node_at t node) l n × ((lining canonical len table count node).total ≡ some (total_by n))
      line-says l e = by line-either
        where
          by : LineOrNot (node_at t node) → (n : ℕ) × ShiftLine (node_at t node) l n × ((lining canonical len table count node).total ≡ some (total_by n))
          by (is-line m n w) =
              let g = line-given m n w in
              let z : m ≡ l = some_same (λ (x : Line). m ≡ x) (sym (ap (λ (r : Lined). r.line) g) ∙ e) refl in
              (n, subst (λ (x : Line). ShiftLine (node_at t node) x n) z w, ap (λ (r : Lined). r.total) g)
          by (is_none f) = none-some (sym (ap (λ (r : Lined). r.line) (line_refused f)) ∙ e)

      pub line-quarter : (s : Total) → (lining canonical len table count node).total ≡ some s → QuarterOf s
      line-quarter s e = by line-either
        where
          by : LineOrNot (node_at t node) → QuarterOf s
          by (is-line l n w) =
              some_same QuarterOf (sym (ap (λ (r : Lined). r.total) (line-given l n w)) ∙ e) (quarter-of n (omega (arith, quarters-few l n w.quartered)))
          by (is_none f) = none-some (sym (ap (λ (r : Lined). r.total) (line_refused f)) ∙ e)
