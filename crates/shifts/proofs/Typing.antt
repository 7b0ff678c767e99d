-- A string's value, by its record.
use Prim.Native.Nat.{ℕ}
use mathlib.Core.Path.{◌≡◌, sym, ap, ◌∙◌}
use mathlib.Core.List.{List}
use lib.Seq.{slice}
use borrow.Author.Tests.{eq-eqb, ne_eqb}
use Rattle.std.specs.Prelude.{None}
use Rattle.base.proofs.Cases.{picked, unpicked}
use Rattle.tables.specs.Rows.{RowIs}
use Rattle.tables.specs.Told.{row_at}
use Rattle.tables.specs.declared.rows.Row as coded
use Rattle.typed.specs.Typed.{Typing, kind_of, value_at}
use Rattle.typed.specs.Lines.{row_kind, typed_row}
use Rattle.values.specs.Kinds.{coded as number}
use Rattle.values.specs.declared.Kind.{Kind}
use Rattle.values.specs.declared.Kind.TheVariants as kind
use Rattle.shifts.specs.Known.{row_for, KnownAt, TypedAt}
use Rattle.shifts.proofs.Inside.{row_is}

module _ (c : List ℕ) (row : coded.Row) where
  pub kind-hinted : row.kind ≡ 1 → (k : Kind) → number k ≡ kind_of (slice row.hint_start row.hint_end c) → number k ≡ row_kind c (row_for row)
  unfolding row_kind
  kind-hinted e k w = w ∙ sym (picked _ _ (eq-eqb _ _ e))

  pub kind-plain : (row.kind ≡ 1 → ⊥) → number kind.Raw ≡ row_kind c (row_for row)
  unfolding row_kind
  kind-plain n = sym (unpicked _ _ (ne_eqb _ _ n))

  pub row_list : row.kind ≡ 2 → None ≡ typed_row c (row_for row)
  unfolding typed_row
  row_list e = sym (picked _ _ (eq-eqb _ _ e))

  pub row-string : (row.kind ≡ 2 → ⊥) → (k : Kind) → number k ≡ row_kind c (row_for row) → (r : Typing) → r ≡ value_at (number k) c row.data_start row.data_end → r ≡ typed_row c (row_for row)
  unfolding typed_row
  row-string n k e r w = w ∙ ap (λ (j : ℕ). value_at j c row.data_start row.data_end) e ∙ sym (unpicked _ _ (ne_eqb _ _ n))

pub typed-known : (c notes : List ℕ) (count node : ℕ) → KnownAt c notes count node → (row : coded.Row) → RowIs row (row_at notes node) → (r : Typing) → r ≡ typed_row c (row_for row) → TypedAt c notes count node r
typed-known c notes count node k row is r e = record { is = λ t h. e ∙ ap (typed_row c) (row_is c notes count node k row is t h) }
