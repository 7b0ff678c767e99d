-- What is answered of a node: rows 7 and 8, and then by its tree.
use Prim.Native.Nat.{ℕ, ◌≤◌, ◌<◌}
use native.Mathlib.Omega.{arith}
use mathlib.Core.Path.{◌≡◌, refl, sym, ap, ◌∙◌, subst}
use mathlib.Core.Bool.{Bool, true, false}
use mathlib.Core.Option.{Option, none, some}
use mathlib.Core.List.{List, [], ◌∷◌}
use borrow.Author.Tests.{le-leb, lt-leb}
use Rattle.std.specs.Prelude.{Some, None, Ok, Err, ok_or}
use Rattle.base.specs.Choice.{is_none}
use Rattle.model.specs.Limits.{no_refusal}
use Rattle.model.specs.Answers.{Check, when, verdict, judged, the, own_tree}
use Rattle.model.specs.Table.{records, row_of}
use Rattle.model.specs.Tree.{Tree}
use Rattle.answers.specs.Refusals.{number_of, place_in}
use Rattle.answers.specs.declared.refusal.Refusal.{Refusal}
use Rattle.answers.specs.declared.refusal.Refusal.TheVariants.{NotOwn, NoNode, NotTyped, NotLine}
use Rattle.tables.specs.Told.{Holds}
use Rattle.lookup.specs.Noted.{Sheet, Owned, Owning}
use Rattle.lookup.proofs.Noting.{owned-held}
use Rattle.lookup.proofs.Sheets.{tree_of, none_of, sheet-of}
use Rattle.lookup.proofs.Sheets as lookup
use Rattle.typed.specs.Coding.{refusal_not_typed, refusal_not_line}
use Rattle.typed.specs.Typed.{Typing}
use Rattle.typed.specs.Quarters.{Count, quarters_of, total_by, total_for}
use Rattle.typed.specs.Lines.{typed_row, hours_at, quarters_in, kept_if, line_at, line_count, Sum, sum_at}
use Rattle.typed.specs.Cases.{Valuing, unvalued, valued, Lining, unlined, lined, Summing, unsummed_at, summed}
use Rattle.typed.specs.Asked.{node_checks, value_in, node_value, valuing, node_line, lining, node_sum, summed_by, summing}
use Rattle.typed.specs.declared.Value.{Value}
use Rattle.typed.specs.declared.Line.{Line}
use Rattle.typed.specs.declared.Total.{Total}
use Rattle.typed.specs.declared.Misfit.{Misfit}
use Rattle.shifts.specs.declared.lines.Added.{Added}
use Rattle.shifts.specs.Known.{KnownAt, KnownIf, TypedAt, Found, hours_of, HoursAt, Adding, sum_for, SumAt, Values, HasLine, Sums}

pub in-sheet : (c notes : List ℕ) (count node : ℕ) (own : Bool) → KnownIf c notes count own → own ≡ true → node < count → KnownAt c notes count node
in-sheet c notes count node own k y h = record { known = k.known y; inside = h }

-- ---- rows 7 and 8, whatever is asked

module _ {A : Type 0} (c : List ℕ) (len : ℕ) (table : List ℕ) (count node : ℕ) (rest : List Check) (accepted : A) (refused : ℕ → A) where
  pub not_own : own_tree c len table count ≡ none → judged (node_checks c len table count node rest) accepted refused ≡ refused 7
  unfolding judged node_checks verdict is_none
  not_own e = rw e

  module _ (t : Tree) (e : own_tree c len table count ≡ some t) where
    pub no_node : count ≤ node → judged (node_checks c len table count node rest) accepted refused ≡ refused 8
    unfolding judged node_checks verdict is_none
    no_node h = rw (e, le-leb count node h)

    pub a-node : node < count → judged (node_checks c len table count node rest) accepted refused ≡ judged rest accepted refused
    unfolding judged node_checks verdict is_none
    a-node h = rw (e, lt-leb count node h)

-- ---- row 11 or 12, by what there is

pub value-some : (o : Option Value) (x : Value) → o ≡ some x → judged (when refusal_not_typed (is_none o) ∷ []) (record { accepted = true; number = no_refusal; place = 0; value = o }) (λ n. unvalued n) ≡ valued (Ok x)
unfolding judged verdict is_none valued
value-some o x e = rw e

pub value_none : (o : Option Value) → o ≡ none → judged (when refusal_not_typed (is_none o) ∷ []) (record { accepted = true; number = no_refusal; place = 0; value = o }) (λ n. unvalued n) ≡ unvalued 11
unfolding judged verdict is_none
value_none o e = rw e

pub line-some : (o : Option Line) (s : Option Total) (l : Line) (u : Total) → o ≡ some l → s ≡ some u → judged (when refusal_not_line (is_none o) ∷ []) (record { accepted = true; number = no_refusal; place = 0; line = o; total = s }) (λ n. unlined n) ≡ lined (Ok (record { line = l; total = u }))
unfolding judged verdict is_none lined
line-some o s l u e f = rw (e, f)

pub line-none : (o : Option Line) (s : Option Total) → o ≡ none → judged (when refusal_not_line (is_none o) ∷ []) (record { accepted = true; number = no_refusal; place = 0; line = o; total = s }) (λ n. unlined n) ≡ unlined 12
unfolding judged verdict is_none
line-none o s e = rw e

pub no-checks : {A : Type 0} (a : A) (f : ℕ → A) → judged [] a f ≡ a
unfolding judged verdict
no-checks a f = refl

module _ (c notes : List ℕ) (count node : ℕ) (own : Bool) where
  -- the tree of a table that is told to be the sheet's own
  the-tree : {G : Type 0} → own ≡ true → (len : ℕ) (table : List ℕ) → Owning c len table count notes own → ((t : Tree) → own_tree c len table count ≡ some t → Holds notes count t → G) → G
  the-tree y len table o g = tree_of (own_tree c len table count) (sym y ∙ o.tells) (λ t e. g t e (o.held t e))

  no-tree : own ≡ false → (len : ℕ) (table : List ℕ) → Owning c len table count notes own → own_tree c len table count ≡ none
  no-tree y len table o = none_of (own_tree c len table count) (sym y ∙ o.tells)

  -- ---- a value

  pub value-unowned : own ≡ false → Values c notes count node own (Err NotOwn)
  unfolding valuing valued
  value-unowned y = record { is = λ len table o. sym (not_own c len table count node _ _ _ (no-tree y len table o)) }

  module _ (y : own ≡ true) where
    pub value-beyond : count ≤ node → Values c notes count node own (Err NoNode)
    unfolding valuing valued
    value-beyond h = record { is = λ len table o. the-tree y len table o (λ t e g. sym (no_node c len table count node _ _ _ t e h)) }

    module _ (h : node < count) (r : Typing) (v : TypedAt c notes count node r) where
      value-is : (len : ℕ) (table : List ℕ) (t : Tree) → own_tree c len table count ≡ some t → Holds notes count t → node_value c len table count node ≡ value_in r
      unfolding node_value the
      value-is len table t e g = ap (λ (x : Option Tree). value_in (typed_row c (row_of (the x) node))) e ∙ ap value_in (sym (v.is t g))

      pub value-given : (x : Value) → r ≡ Some x → Values c notes count node own (Ok x)
      unfolding valuing
      value-given x q =
          record {
            is = λ len table o.
                the-tree y len table o (λ t e g. sym (a-node c len table count node _ _ _ t e h ∙ value-some (node_value c len table count node) x (value-is len table t e g ∙ ap value_in q)));
          }

      pub value-refused : r ≡ None → Values c notes count node own (Err NotTyped)
      unfolding valuing valued
      value-refused q =
          record {
            is = λ len table o.
                the-tree y len table o (λ t e g. sym (a-node c len table count node _ _ _ t e h ∙ value_none (node_value c len table count node) (value-is len table t e g ∙ ap value_in q)));
          }

      pub value-found : (a : Valuing) → a ≡ ok_or r NotTyped → Values c notes count node own a
      value-found a e = subst (Values c notes count node own) (sym e) (by r refl)
        where
          by : (u : Typing) → r ≡ u → Values c notes count node own (ok_or u NotTyped)
          by (Some x) q = value-given x q
          by None q = value-refused q

  -- ---- a line

  pub line-unowned : own ≡ false → HasLine c notes count node own (Err NotOwn)
  unfolding lining lined
  line-unowned y = record { is = λ len table o. sym (not_own c len table count node _ _ _ (no-tree y len table o)) }

  module _ (y : own ≡ true) where
    pub line-beyond : count ≤ node → HasLine c notes count node own (Err NoNode)
    unfolding lining lined
    line-beyond h = record { is = λ len table o. the-tree y len table o (λ t e g. sym (no_node c len table count node _ _ _ t e h)) }

    module _ (h : node < count) (r : Found) (v : HoursAt c notes count node r) where
      line-is : (len : ℕ) (table : List ℕ) (t : Tree) → own_tree c len table count ≡ some t → node_line c len table count node ≡ line_at c t node
      unfolding node_line the
      line-is len table t e = ap (λ (x : Option Tree). line_at c (the x) node) e

      tree_is : (len : ℕ) (table : List ℕ) (t : Tree) → own_tree c len table count ≡ some t → the (own_tree c len table count) ≡ t
      unfolding the
      tree_is len table t e = ap the e

      none-line : (t : Tree) → quarters_in (hours_at c t node) ≡ None → line_at c t node ≡ none
      unfolding line_at line_count
      none-line t e = ap (kept_if (hours_at c t node)) e

      some-line : (t : Tree) (l : Line) (n : ℕ) → hours_at c t node ≡ some l → quarters_of l ≡ Some n → line_at c t node ≡ some l
      unfolding line_at line_count
      some-line t l n e z = ap (kept_if (hours_at c t node)) (ap quarters_in e ∙ z) ∙ e

      refused-by : ((t : Tree) → Holds notes count t → quarters_in (hours_at c t node) ≡ None) → HasLine c notes count node own (Err NotLine)
      unfolding lining lined
      refused-by f =
          record {
            is = λ len table o.
                the-tree y len table o (λ t e g. sym (a-node c len table count node _ _ _ t e h ∙ line-none (node_line c len table count node) _ (line-is len table t e ∙ none-line t (f t g))));
          }

      pub line-missing : r ≡ None → HasLine c notes count node own (Err NotLine)
      unfolding hours_of
      line-missing q = refused-by (λ t g. ap quarters_in (sym (v.is t g) ∙ ap hours_of q))

      module _ (l : Line) (q : r ≡ Some l) (k : Count) (u : k ≡ quarters_of l) where
        pub line-uncounted : k ≡ None → HasLine c notes count node own (Err NotLine)
        unfolding hours_of
        line-uncounted z = refused-by (λ t g. ap quarters_in (sym (v.is t g) ∙ ap hours_of q) ∙ sym u ∙ z)

        pub line-given : (n : ℕ) → k ≡ Some n → (s : Total) → s ≡ total_by n → HasLine c notes count node own (Ok (record { line = l; total = s }))
        unfolding lining hours_of line_count
        line-given n z s m =
            record {
              is = λ len table o.
                  the-tree y len table o (λ t e g.
                  let b : quarters_of l ≡ Some n = sym u ∙ z in
                  let f : hours_at c t node ≡ some l = sym (v.is t g) ∙ ap hours_of q in
                  let d : node_line c len table count node ≡ some l = line-is len table t e ∙ some-line t l n f b in
                  let i : quarters_in (hours_at c (the (own_tree c len table count)) node) ≡ Some n = ap (λ (x : Tree). quarters_in (hours_at c x node)) (tree_is len table t e) ∙ ap quarters_in f ∙ b in
                  sym (a-node c len table count node _ _ _ t e h ∙ line-some (node_line c len table count node) _ l s d (ap total_for i ∙ ap some (sym m))));
            }

  -- ---- a list of lines

  pub sum-unowned : own ≡ false → Sums c notes count node own (Err (record { refusal = NotOwn; node = 0 }))
  unfolding summing summed
  sum-unowned y = record { is = λ len table o. sym (not_own c len table count node _ _ _ (no-tree y len table o)) }

  module _ (y : own ≡ true) where
    pub sum-beyond : count ≤ node → Sums c notes count node own (Err (record { refusal = NoNode; node = 0 }))
    unfolding summing summed
    sum-beyond h = record { is = λ len table o. the-tree y len table o (λ t e g. sym (no_node c len table count node _ _ _ t e h)) }

    module _ (h : node < count) (r : Adding) (v : SumAt c notes count node r) where
      node-sum : (len : ℕ) (table : List ℕ) (t : Tree) → own_tree c len table count ≡ some t → node_sum c len table count node ≡ sum_at c t node
      unfolding node_sum the
      node-sum len table t e = ap (λ (x : Option Tree). sum_at c (the x) node) e

      sum_is : (a : Summing) → ((s : Sum) → sum_for r ≡ s → summed a ≡ summed_by s) → Sums c notes count node own a
      unfolding summing
      sum_is a f =
          record {
            is = λ len table o.
                the-tree y len table o (λ t e g.
                f (sum_at c t node) (v.is t g) ∙ sym (a-node c len table count node _ _ _ t e h ∙ no-checks _ _ ∙ ap summed_by (node-sum len table t e)));
          }

      pub sum-given : (a : Added) → r ≡ Ok a → (s : Total) → s ≡ total_by a.quarters → Sums c notes count node own (Ok (record { lines = a.lines; total = s }))
      unfolding sum_for summed_by summed
      sum-given a z s m = sum_is _ (λ u i. ap (λ (x : Total). summed (Ok (record { lines = a.lines; total = x }))) m ∙ ap summed_by (sym (ap sum_for z) ∙ i))

      pub sum-refused : (m : Misfit) → r ≡ Err m → Sums c notes count node own (Err m)
      unfolding sum_for summed_by summed
      sum-refused m z =
          let n : m.refusal ≡ NotLine = v.row m z in
          sum_is _ (λ u i. ap (λ (f : Refusal). unsummed_at (number_of f) (place_in f) m.node) n ∙ ap summed_by (sym (ap sum_for z) ∙ i))

-- ---- over a table of numbers

module _ (c : List ℕ) (len : ℕ) (table : List ℕ) (count : ℕ) (notes : List ℕ) (own : Bool) (o : Owned c len table count notes own) where
  owning : Owning c len table count notes own
  owning = record { tells = o.tells; held = owned-held c len table count notes own o }

  pub owned-known : KnownIf c notes count own
  owned-known =
      record {
        known = λ y.
            let s : Sheet c len count (records table) notes = o.sheet y in
            let l : lookup.Sheet c len s.tree = sheet-of c len s.tree s.is in
            record { tree = s.tree; held = s.held; within = omega (arith, l.size, l.lent); many = omega (arith, s.held.counted, l.fitting.many) };
      }

  pub owned_value : (node : ℕ) (r : Valuing) → Values c notes count node own r → valued r ≡ valuing c len table count node
  owned_value node r v = v.is len table owning

  pub owned-line : (node : ℕ) (r : Lining) → HasLine c notes count node own r → lined r ≡ lining c len table count node
  owned-line node r v = v.is len table owning

  pub owned-sum : (node : ℕ) (r : Summing) → Sums c notes count node own r → summed r ≡ summing c len table count node
  owned-sum node r v = v.is len table owning
