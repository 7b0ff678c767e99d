-- S 10.1, 10.6: the value of a string with a hint, wherever it stands in a sheet, and that a node's value writes back to its data octets.
use Prim.Native.Nat.{ℕ, ◌+◌}
use native.Mathlib.Omega.{arith}
use mathlib.Core.Path.{◌≡◌, refl, sym, ap, ◌∙◌}
use mathlib.Core.Option.{Option, some}
use mathlib.Core.List.{List, [], ◌∷◌, ◌++◌, append_assoc}
use lib.Dec.{T, eqb}
use lib.ListN.{length, take, length-append}
use lib.Seq.{slice}
use Rattle.std.specs.Prelude.{Some, None}
use Rattle.base.specs.Choice.{pick}
use Rattle.base.proofs.Cases.{pick-cases, some_same, none-some}
use Rattle.model.specs.Answers.{the, own_tree, octets_at}
use Rattle.model.specs.Table.{Row, hinted_row, body_start, body_end, row_of}
use Rattle.model.specs.Tree.{Tree, hinted, digits, verbatim, canon}
use Rattle.lookup.proofs.Sheets.{Own, own_of}
use Rattle.lookup.proofs.Shown.{Inside, rows_inside}
use Rattle.typed.specs.Octets.{octets}
use Rattle.typed.specs.Typed.{kind_of, single_of, double_of, whole_of, value_at, Typing}
use Rattle.typed.specs.Coding.{coding}
use Rattle.typed.specs.Lines.{row_kind, typed_row}
use Rattle.typed.specs.Asked.{value_in, node_value}
use Rattle.typed.specs.declared.Value.{Value}
use Rattle.typed.specs.declared.Value.TheVariants.{Raw}
use Rattle.typed.proofs.Roundtrip.{written_back}
use Rattle.values.proofs.Laying.{part_slice}
use Rattle.demands.proofs.Shown.{between}

is-value : (r : Typing) (v : Value) → value_in r ≡ some v → r ≡ Some v
is-value (Some u) v e = some_same (λ (x : Value). Some u ≡ Some x) e refl
is-value None v e = none-some e

-- the value of the octets d with the hint g: of its type, or raw where the hint tells none
abbrev pub hinted_as : List ℕ → List ℕ → Typing → Typing
hinted_as g d raw = pick (eqb (kind_of g) 1) (single_of d) (pick (eqb (kind_of g) 2) (double_of d) (pick (eqb (kind_of g) 3) (whole_of d) raw))

-- a string with a hint, wherever it stands in a sheet
module _ (canonical : List ℕ) (len : ℕ) (pre post g d : List ℕ) (e : take len canonical ≡ pre ++ (canon (hinted g d) ++ post)) (at : ℕ) (l : at ≡ length pre) where
  abbrev pub hint_row : Row
  hint_row = hinted_row at (body_start (at + 1) g) (body_end (at + 1) g) (body_start (body_end (at + 1) g + 1) d) (body_end (body_end (at + 1) g + 1) d)

  hint-is : slice hint_row.hint_start hint_row.hint_end canonical ≡ g
  unfolding octets_at canon verbatim
  hint-is =
      sym (part_slice hint_row.hint_start hint_row.hint_end canonical)
      ∙ between canonical (pre ++ (91 ∷ (digits (length g) ++ (58 ∷ [])))) g (93 ∷ (verbatim d ++ post)) len hint_row.hint_start hint_row.hint_end
      (e ∙ simp append_assoc)
      (simp length-append (omega arith))
      (simp length-append (omega arith))

  data_is : slice hint_row.data_start hint_row.data_end canonical ≡ d
  unfolding octets_at canon verbatim
  data_is =
      sym (part_slice hint_row.data_start hint_row.data_end canonical)
      ∙ between canonical (pre ++ (91 ∷ (verbatim g ++ (93 ∷ (digits (length d) ++ (58 ∷ [])))))) d post len hint_row.data_start hint_row.data_end
      (e ∙ simp append_assoc)
      (simp length-append (omega arith))
      (simp length-append (omega arith))

  by_kind : value_at (kind_of g) canonical hint_row.data_start hint_row.data_end ≡ hinted_as g d (Some (Raw hint_row.data_start hint_row.data_end))
  unfolding value_at
  by_kind = ap (λ (x : List ℕ). hinted_as g x (Some (Raw hint_row.data_start hint_row.data_end))) data_is

  pub typed-hinted : typed_row canonical hint_row ≡ hinted_as g d (Some (Raw hint_row.data_start hint_row.data_end))
  unfolding typed_row row_kind
  typed-hinted = ap (λ (x : List ℕ). value_at (kind_of x) canonical hint_row.data_start hint_row.data_end) hint-is ∙ by_kind

module _ (canonical : List ℕ) (len : ℕ) (table : List ℕ) (count node : ℕ) (t : Tree) (o : own_tree canonical len table count ≡ some t) where
  value-by : node_value canonical len table count node ≡ value_in (typed_row canonical (row_of t node))
  unfolding node_value the
  value-by = ap (λ (x : Option Tree). value_in (typed_row canonical (row_of (the x) node))) o

  -- S 10.6: an accepted value writes back to the same octets of data, a raw one from its place
  pub value-back : T (octets canonical) → (v : Value) → node_value canonical len table count node ≡ some v
      → coding canonical v ≡ some (slice (row_of t node).data_start (row_of t node).data_end canonical)
  unfolding typed_row
  value-back all v e =
      let w : Own canonical len table count t = own_of canonical len table count t o in
      let i : Inside (row_of t node) (0 + length (canon t)) = rows_inside t 0 node in
      let is : typed_row canonical (row_of t node) ≡ Some v = is-value _ v (sym value-by ∙ e) in
      pick-cases (eqb (row_of t node).kind 2) None (value_at (row_kind canonical (row_of t node)) canonical (row_of t node).data_start (row_of t node).data_end) is
      (λ p q. none-some (ap value_in q))
      (λ p q. written_back (row_kind canonical (row_of t node)) canonical (row_of t node).data_start (row_of t node).data_end v all i.octets (omega (arith, i.ended, w.sheet.size, w.sheet.lent)) q)
