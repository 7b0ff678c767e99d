-- Lines added up, one after the other.
use Prim.Native.Nat.{ℕ, zero, suc, ◌+◌, ◌*◌, ◌≤◌, ◌<◌}
use native.Mathlib.Omega.{arith}
use mathlib.Core.Path.{◌≡◌, refl, sym, ap, ap₂, ◌∙◌}
use mathlib.Core.List.{List, [], ◌∷◌}
use mir.Syntax.{w32, w64}
use mir.Val.{Fits}
use borrow.Author.Tests.{eq-eqb, ne_eqb, lt-ltb, le-ltb}
use Rattle.std.specs.Prelude.{Some, None, Ok, Err}
use Rattle.answers.specs.declared.refusal.Refusal.TheVariants.{NotLine}
use Rattle.base.proofs.Cases.{picked, unpicked}
use Rattle.model.specs.Table.{Row, row_of}
use Rattle.model.specs.Tree.{Tree}
use Rattle.tables.specs.Rows.{RowIs}
use Rattle.tables.specs.Told.{row_at, Holds}
use Rattle.tables.specs.declared.rows.Row as coded
use Rattle.typed.specs.Quarters.{Count}
use Rattle.typed.specs.Lines.{line_count, elements_up_to, elements, Sum, lines, bad, added, added_by, sum_of, sum_at}
use Rattle.typed.specs.declared.Misfit.{Misfit}
use Rattle.shifts.specs.declared.lines.Added.{Added}
use Rattle.shifts.specs.Known.{Known, KnownAt, CountAt, Adding as Answer, all_lines, no_line, sum_for, SumAt}
use Rattle.shifts.proofs.Inside.{row_is, row-counted}
use Rattle.shifts.proofs.Lining.{line-few, line-four}

-- a sum that so many lines and quarters come before
abbrev pub joined : ℕ → ℕ → Sum → Sum
joined n q (lines a b) = lines (n + a) (q + b)
joined n q (bad k) = bad k

joined-none : (s : Sum) → joined 0 0 s ≡ s
joined-none (lines a b) = let x : 0 + a ≡ a = omega arith in let y : 0 + b ≡ b = omega arith in ap₂ lines x y
joined-none (bad k) = refl

joined-more : (n q m : ℕ) (s : Sum) → joined n q (added m s) ≡ joined (n + 1) (q + m) s
joined-more n q m (lines a b) = let x : n + suc a ≡ n + 1 + a = omega arith in let y : q + (m + b) ≡ q + m + b = omega arith in ap₂ lines x y
joined-more n q m (bad k) = refl

joined_end : (n q : ℕ) → joined n q (lines 0 0) ≡ lines n q
joined_end n q = let x : n + 0 ≡ n = omega arith in let y : q + 0 ≡ q = omega arith in ap₂ lines x y

-- ---- the row that is refused

row-of : {k : ℕ} (m : Misfit) → ◌≡◌ {A = Answer} (no_line k) (Err m) → m.refusal ≡ NotLine
row-of m e = sym (ap (λ (x : Answer). elim x [ Ok s ↦ NotLine | Err n ↦ n.refusal ]) e)

no-row : {G : Type 0} {s : Added} (m : Misfit) → ◌≡◌ {A = Answer} (Ok s) (Err m) → G
no-row m e = let z : ◌≡◌ {A = ℕ} 0 1 = cc in absurd (omega arith)

-- ---- elements

pub no_more : (t : Tree) (f at stop : ℕ) → stop ≤ at → elements_up_to t f at stop ≡ []
unfolding elements_up_to
no_more t zero at stop h = refl
no_more t (suc f) at stop h = unpicked _ _ (le-ltb at stop h)

pub one_more : (t : Tree) (f at stop : ℕ) → at < stop → elements_up_to t (suc f) at stop ≡ at ∷ elements_up_to t f (at + (row_of t at).count) stop
unfolding elements_up_to
one_more t f at stop h = picked _ _ (lt-ltb at stop h)

-- what is still to be added
pub record Left (c : List ℕ) (t : Tree) (node stop at n q : ℕ) : Type 0 where
  pub fuel : ℕ
  pub enough : stop ≤ at + fuel
  pub same : joined n q (sum_of c t (elements_up_to t fuel at stop)) ≡ sum_at c t node

pub record Adding (c notes : List ℕ) (count node stop at n q : ℕ) : Type 0 where
  pub known : Known c notes count
  pub bound : stop ≤ count
  pub place : at ≡ node + 1 + 4 * n
  pub before : at < stop + 4
  pub few : q ≤ 288 * n
  pub left : (t : Tree) → Holds notes count t → Left c t node stop at n q

module _ (c notes : List ℕ) (count node : ℕ) (k : KnownAt c notes count node) (row : coded.Row) (is : RowIs row (row_at notes node)) where
  pub sum-string : (row.kind ≡ 2 → ⊥) → SumAt c notes count node (no_line node)
  unfolding sum_for sum_at
  sum-string n = record { is = λ t h. sym (unpicked _ _ (ne_eqb _ _ (λ e. n (ap (λ (r : Row). r.kind) (row_is c notes count node k row is t h) ∙ e)))); row = λ m e. row-of m e }

  pub stop-fits : Fits w64 (node + row.nodes)
  stop-fits = omega (arith, row-counted c notes count node k row is, k.known.many)

  pub adding-starts : row.kind ≡ 2 → Adding c notes count node (node + row.nodes) (node + 1) 0 0
  unfolding sum_at elements
  adding-starts a =
      record {
        known = k.known;
        bound = row-counted c notes count node k row is;
        place = omega arith;
        before = omega arith;
        few = omega arith;
        left = λ t h.
            let e : row.nodes ≡ (row_of t node).count = ap (λ (r : Row). r.count) (row_is c notes count node k row is t h) in
            record {
              fuel = (row_of t node).count;
              enough = omega arith;
              same = joined-none _ ∙ ap (λ (m : ℕ). sum_of c t (elements_up_to t (row_of t node).count (node + 1) (node + m))) e
                  ∙ sym (picked _ _ (eq-eqb _ _ (sym (ap (λ (r : Row). r.kind) (row_is c notes count node k row is t h)) ∙ a)));
            };
      }

module _ (c notes : List ℕ) (count node stop at n q : ℕ) (inv : Adding c notes count node stop at n q) where
  module _ (more : at < stop) where
    pub line-in : KnownAt c notes count at
    line-in = record { known = inv.known; inside = omega (arith, inv.bound) }

    opened : (t : Tree) → Holds notes count t → (f : ℕ) → stop ≤ at + f → joined n q (sum_of c t (elements_up_to t f at stop)) ≡ sum_at c t node
        → (g : ℕ) × (stop ≤ at + suc g) × (joined n q (added_by at (line_count c t at) (sum_of c t (elements_up_to t g (at + (row_of t at).count) stop))) ≡ sum_at c t node)
    unfolding sum_of
    opened t h zero e w = absurd (omega arith)
    opened t h (suc g) e w = (g, e, ap (λ (l : List ℕ). joined n q (sum_of c t l)) (sym (one_more t g at stop more)) ∙ w)

    module _ (r : Count) (v : CountAt c notes count at r) where
      pub sum-bad : r ≡ None → SumAt c notes count node (no_line at)
      unfolding sum_for
      sum-bad e =
          record {
            is = λ t h.
                let l : Left c t node stop at n q = inv.left t h in
                let o = opened t h l.fuel l.enough l.same in
                sym (ap (λ (x : Count). joined n q (added_by at x (sum_of c t (elements_up_to t o.0 (at + (row_of t at).count) stop)))) (sym (v.is t h) ∙ e)) ∙ o.2;
            row = λ m i. row-of m i;
          }

      module _ (m : ℕ) (e : r ≡ Some m) where
        few : m ≤ 288
        few = line-few c inv.known.tree at m (sym (v.is inv.known.tree inv.known.held) ∙ e)

        pub count_fits : Fits w64 (n + 1)
        count_fits = omega (arith, inv.place, inv.bound, inv.known.many)

        pub quarters-fit : Fits w32 (q + m)
        quarters-fit = omega (arith, inv.place, inv.bound, inv.known.many, inv.few, few)

        pub adding-goes : Adding c notes count node stop (at + 4) (n + 1) (q + m)
        adding-goes =
            record {
              known = inv.known;
              bound = inv.bound;
              place = omega (arith, inv.place);
              before = omega arith;
              few = omega (arith, inv.few, few);
              left = λ t h.
                  let l : Left c t node stop at n q = inv.left t h in
                  let o = opened t h l.fuel l.enough l.same in
                  let d : line_count c t at ≡ Some m = sym (v.is t h) ∙ e in
                  let b : (row_of t at).count ≡ 4 = line-four c t at m d in
                  record {
                    fuel = o.0;
                    enough = let w : stop ≤ at + suc o.0 = o.1 in omega arith;
                    same =
                        sym (joined-more n q m (sum_of c t (elements_up_to t o.0 (at + 4) stop)))
                        ∙ ap (λ (x : ℕ). joined n q (added m (sum_of c t (elements_up_to t o.0 (at + x) stop)))) (sym b)
                        ∙ ap (λ (x : Count). joined n q (added_by at x (sum_of c t (elements_up_to t o.0 (at + (row_of t at).count) stop)))) (sym d)
                        ∙ o.2;
                  };
            }

  pub adding-ends : stop ≤ at → SumAt c notes count node (all_lines n q)
  unfolding sum_for sum_of
  adding-ends h =
      record {
        is = λ t g.
            let l : Left c t node stop at n q = inv.left t g in
            sym (joined_end n q) ∙ ap (λ (x : List ℕ). joined n q (sum_of c t x)) (sym (no_more t l.fuel at stop h)) ∙ l.same;
        row = λ m e. no-row m e;
      }

-- nothing follows the line at `at`
pub adding-last : (c notes : List ℕ) (count node stop at n q : ℕ) → Adding c notes count node stop at n q → at < stop → (r : Count) → CountAt c notes count at r
    → (m : ℕ) → r ≡ Some m → stop ≤ at + 4 → SumAt c notes count node (all_lines (n + 1) (q + m))
adding-last c notes count node stop at n q inv more r v m e h =
    adding-ends c notes count node stop (at + 4) (n + 1) (q + m) (adding-goes c notes count node stop at n q inv more r v m e) h
