-- Facts about every number below a bound, by one computed test.
use Prim.Native.Nat.{ℕ, zero, suc, ◌<◌}
use native.Mathlib.Omega.{arith}
use mathlib.Core.Path.{◌≡◌, sym, ap, ◌∙◌}
use mathlib.Core.Bool.{Bool, true, false, not}
use Rattle.base.specs.Choice.{pick}
use Rattle.base.proofs.Cases.{by-eq, untrue, pick-cases, picked}

-- the test gives true at each number below the bound
unfoldable pub below : ℕ → (ℕ → Bool) → Bool
below zero P = true
below (suc n) P = elim (P n) [ true ↦ below n P | false ↦ false ]

pub below_at : (n : ℕ) (P : ℕ → Bool) → below n P ≡ true → (i : ℕ) → i < n → P i ≡ true
unfolding below
below_at zero P e i h = absurd (omega arith)
below_at (suc n) P e i h =
    pick-cases (P n) (below n P) false e
    (λ t f. by-eq i n (λ z. ap P z ∙ t) (λ z. below_at n P f i (omega arith)))
    (λ t f. untrue f)

-- two tests that never hold together, where the first holds only below a bound
abbrev pub excludes : (ℕ → Bool) → (ℕ → Bool) → ℕ → Bool
excludes P Q b = pick (P b) (not (Q b)) true

pub apart : (P Q : ℕ → Bool) (n : ℕ) → ((b : ℕ) → P b ≡ true → b < n) → below n (excludes P Q) ≡ true → (b : ℕ) → P b ≡ true → Q b ≡ false
apart P Q n low tested b h =
    let w : not (Q b) ≡ true = sym (picked _ _ h) ∙ below_at n (excludes P Q) tested b (low b h) in
    pick-cases (Q b) false true w (λ t f. untrue f) (λ t f. t)
