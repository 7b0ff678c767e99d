-- A line of three amounts, and its quarters.
use Prim.Native.Nat.{ℕ, ◌+◌, ◌≤◌}
use native.Mathlib.Omega.{arith}
use mathlib.Core.Path.{◌≡◌, refl, sym, ap, ◌∙◌}
use mathlib.Core.Bool.{true}
use mathlib.Core.Option.{Option, none, some}
use mathlib.Core.List.{List}
use lib.Dec.{eqb}
use lib.Ieee.{Float}
use borrow.Author.Tests.{eq-eqb, ne_eqb, eqb-true}
use Rattle.std.specs.Prelude.{Some, None}
use Rattle.base.specs.Choice.{both}
use Rattle.base.proofs.Cases.{by_bool, picked, unpicked, true-both, both_true}
use Rattle.model.specs.Table.{Row, row_of}
use Rattle.model.specs.Tree.{Tree}
use Rattle.tables.specs.Rows.{RowIs}
use Rattle.tables.specs.Told.{row_at, Holds}
use Rattle.tables.specs.declared.rows.Row as coded
use Rattle.typed.specs.Quarters.{Count, counted, plus, quarters_of}
use Rattle.typed.specs.Lines.{three, row_amount, hours_at, quarters_in, line_count}
use Rattle.typed.specs.declared.Line.{Line}
use Rattle.typed.proofs.Quarterly.{count-few}
use Rattle.shifts.specs.Known.{KnownAt, Amount, amount_of, AmountAt, Found, hours_of, HoursAt, CountAt}
use Rattle.shifts.proofs.Inside.{row_is, row-counted}

module _ (c notes : List ℕ) (count node : ℕ) (k : KnownAt c notes count node) (row : coded.Row) (is : RowIs row (row_at notes node)) where
  kind-is : (t : Tree) → Holds notes count t → row.kind ≡ (row_of t node).kind
  kind-is t h = ap (λ (r : Row). r.kind) (row_is c notes count node k row is t h)

  count-is : (t : Tree) → Holds notes count t → row.nodes ≡ (row_of t node).count
  count-is t h = ap (λ (r : Row). r.count) (row_is c notes count node k row is t h)

  pub hours-string : (row.kind ≡ 2 → ⊥) → HoursAt c notes count node None
  unfolding hours_of hours_at
  hours-string n = record { is = λ t h. sym (unpicked _ _ (unpicked _ _ (ne_eqb _ _ (λ e. n (kind-is t h ∙ e))))) }

  module _ (a : row.kind ≡ 2) where
    pub hours-other : (row.nodes ≡ 4 → ⊥) → HoursAt c notes count node None
    unfolding hours_of hours_at
    hours-other n = record { is = λ t h. sym (unpicked _ _ (picked _ _ (eq-eqb _ _ (sym (kind-is t h) ∙ a)) ∙ ne_eqb _ _ (λ e. n (count-is t h ∙ e)))) }

    module _ (b : row.nodes ≡ 4) where
      pub first-in : KnownAt c notes count (node + 1)
      first-in = record { known = k.known; inside = omega (arith, row-counted c notes count node k row is) }

      pub second-in : KnownAt c notes count (node + 2)
      second-in = record { known = k.known; inside = omega (arith, row-counted c notes count node k row is) }

      pub third-in : KnownAt c notes count (node + 3)
      third-in = record { known = k.known; inside = omega (arith, row-counted c notes count node k row is) }

      all : (t : Tree) → Holds notes count t → hours_at c t node ≡ three (row_amount c t (node + 1)) (row_amount c t (node + 2)) (row_amount c t (node + 3))
      unfolding hours_at
      all t h = picked _ _ (true-both (eq-eqb _ _ (sym (kind-is t h) ∙ a)) (eq-eqb _ _ (sym (count-is t h) ∙ b)))

      hours-by : (r : Found) → ((t : Tree) → Holds notes count t → hours_of r ≡ three (row_amount c t (node + 1)) (row_amount c t (node + 2)) (row_amount c t (node + 3))) → HoursAt c notes count node r
      hours-by r f = record { is = λ t h. f t h ∙ sym (all t h) }

      given : (j : ℕ) (r : Amount) → AmountAt c notes count j r → (u : Amount) → r ≡ u → (t : Tree) → Holds notes count t → row_amount c t j ≡ amount_of u
      given j r w u e t h = sym (w.is t h) ∙ ap amount_of e

      module _ (r₁ : Amount) (w₁ : AmountAt c notes count (node + 1) r₁) where
        pub first-missing : r₁ ≡ None → HoursAt c notes count node None
        unfolding hours_of amount_of
        first-missing e = hours-by None (λ t h. sym (rw (given (node + 1) r₁ w₁ None e t h)))

        module _ (x : Float) (e₁ : r₁ ≡ Some x) (r₂ : Amount) (w₂ : AmountAt c notes count (node + 2) r₂) where
          pub second-missing : r₂ ≡ None → HoursAt c notes count node None
          unfolding hours_of amount_of
          second-missing e = hours-by None (λ t h. sym (rw (given (node + 1) r₁ w₁ (Some x) e₁ t h, given (node + 2) r₂ w₂ None e t h)))

          module _ (y : Float) (e₂ : r₂ ≡ Some y) (r₃ : Amount) (w₃ : AmountAt c notes count (node + 3) r₃) where
            pub third-missing : r₃ ≡ None → HoursAt c notes count node None
            unfolding hours_of amount_of
            third-missing e = hours-by None (λ t h. sym (rw (given (node + 1) r₁ w₁ (Some x) e₁ t h, given (node + 2) r₂ w₂ (Some y) e₂ t h, given (node + 3) r₃ w₃ None e t h)))

            pub hours-three : (z : Float) → r₃ ≡ Some z → HoursAt c notes count node (Some (record { ordinary = x; night = y; holiday = z }))
            unfolding hours_of amount_of
            hours-three z e = hours-by _ (λ t h. sym (rw (given (node + 1) r₁ w₁ (Some x) e₁ t h, given (node + 2) r₂ w₂ (Some y) e₂ t h, given (node + 3) r₃ w₃ (Some z) e t h)))

-- ---- its quarters

module _ (c notes : List ℕ) (count node : ℕ) (r : Found) (w : HoursAt c notes count node r) where
  pub count-hours : (l : Line) → r ≡ Some l → (q : Count) → q ≡ quarters_of l → CountAt c notes count node q
  unfolding hours_of line_count
  count-hours l e q z = record { is = λ t h. z ∙ sym (ap quarters_in (sym (w.is t h) ∙ ap hours_of e)) }

  pub count_none : r ≡ None → CountAt c notes count node None
  unfolding hours_of line_count
  count_none e = record { is = λ t h. sym (ap quarters_in (sym (w.is t h) ∙ ap hours_of e)) }

-- a count in a line is at most 288
plus-few : (a b c : Count) (n : ℕ) → ((k : ℕ) → a ≡ Some k → k ≤ 96) → ((k : ℕ) → b ≡ Some k → k ≤ 96) → ((k : ℕ) → c ≡ Some k → k ≤ 96) → plus a b c ≡ Some n → n ≤ 288
plus-few (Some i) (Some j) (Some k) n f g h e =
    let z : i + j + k ≡ n = cc in
    let a : i ≤ 96 = f i refl in
    let b : j ≤ 96 = g j refl in
    let d : k ≤ 96 = h k refl in
    omega arith
plus-few (Some i) (Some j) None n f g h e = let z : ◌≡◌ {A = ℕ} 0 1 = cc in absurd (omega arith)
plus-few (Some i) None r n f g h e = let z : ◌≡◌ {A = ℕ} 0 1 = cc in absurd (omega arith)
plus-few None q r n f g h e = let z : ◌≡◌ {A = ℕ} 0 1 = cc in absurd (omega arith)

pub quarters-few : (l : Line) (n : ℕ) → quarters_of l ≡ Some n → n ≤ 288
unfolding quarters_of
quarters-few l n e = plus-few (counted l.ordinary) (counted l.night) (counted l.holiday) n (λ k z. count-few _ k z) (λ k z. count-few _ k z) (λ k z. count-few _ k z) e

no-quarters : {G : Type 0} {n : ℕ} → None ≡ Some n → G
no-quarters e = let z : ◌≡◌ {A = ℕ} 0 1 = cc in absurd (omega arith)

pub line-few : (c : List ℕ) (t : Tree) (j n : ℕ) → line_count c t j ≡ Some n → n ≤ 288
unfolding line_count
line-few c t j n e = by (hours_at c t j) e
  where
    by : (o : Option Line) → quarters_in o ≡ Some n → n ≤ 288
    by none e = no-quarters e
    by (some l) e = quarters-few l n e

-- a line has four nodes
pub line-four : (c : List ℕ) (t : Tree) (j n : ℕ) → line_count c t j ≡ Some n → (row_of t j).count ≡ 4
unfolding line_count hours_at
line-four c t j n e = by_bool (both (eqb (row_of t j).kind 2) (eqb (row_of t j).count 4))
    (λ p. let w : (eqb (row_of t j).kind 2 ≡ true) × (eqb (row_of t j).count 4 ≡ true) = both_true p in eqb-true _ _ w.1)
    (λ p. no-quarters (sym (ap quarters_in (unpicked _ _ p)) ∙ e))
