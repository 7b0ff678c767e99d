-- The quarters of a line, and its total.
use Prim.Native.Nat.{ℕ, ◌+◌, ◌≤◌}
use native.Mathlib.Omega.{arith}
use mathlib.Core.Path.{◌≡◌, refl, sym, ap, ◌∙◌, subst}
use mathlib.Core.Bool.{true, false, not}
use lib.Dec.{T}
use lib.Ieee.{Float, nan, inf, fin, ne, is_nan, to_bits}
use lib.Ieee.Compare.{differs_from_itself, nan_differs}
use mir.Syntax.{w32}
use mir.Val.{Fits}
use Rattle.std.specs.Prelude.{Some, None, Ok, Err}
use Rattle.base.specs.Choice.{is_none}
use Rattle.model.specs.Answers.{judged, verdict}
use Rattle.typed.specs.Quarters.{Count, units, count_of, counted, plus, quarters_of, total_by, total_of}
use Rattle.typed.specs.Cases.{totalled}
use Rattle.typed.specs.Asked.{totalling}
use Rattle.typed.specs.declared.Line.{Line}
use Rattle.typed.specs.declared.Total.{Total}
use Rattle.answers.specs.declared.refusal.Refusal.TheVariants.{NotLine}
use Rattle.typed.proofs.Quarterly.{count-few}

none-of-nan : None ≡ counted nan
unfolding count_of units to_bits
none-of-nan = refl

pub nan-none : (x : Float) → ne x x ≡ true → None ≡ counted x
nan-none x e = none-of-nan ∙ ap counted (sym (differs_from_itself x (subst T (sym e) tt)))

no_both : true ≡ false → ⊥
no_both e = subst T e tt

pub no_nan : (x : Float) → ne x x ≡ false → T (not (is_nan x))
unfolding is_nan
no_nan nan e = absurd (no_both (sym nan_differs ∙ e))
no_nan (inf s) e = tt
no_nan (fin s m k) e = tt

module _ (h : Line) (r₁ : Count) (e₁ : r₁ ≡ counted h.ordinary) where
  pub first-none : r₁ ≡ None → None ≡ quarters_of h
  unfolding quarters_of
  first-none n = sym (ap (λ (c : Count). plus c (counted h.night) (counted h.holiday)) (sym e₁ ∙ n))

  module _ (a : ℕ) (q₁ : r₁ ≡ Some a) (r₂ : Count) (e₂ : r₂ ≡ counted h.night) where
    pub second_none : r₂ ≡ None → None ≡ quarters_of h
    unfolding quarters_of
    second_none n = sym (rw (sym e₁ ∙ q₁, sym e₂ ∙ n))

    module _ (b : ℕ) (q₂ : r₂ ≡ Some b) (r₃ : Count) (e₃ : r₃ ≡ counted h.holiday) where
      pub third-none : r₃ ≡ None → None ≡ quarters_of h
      unfolding quarters_of
      third-none n = sym (rw (sym e₁ ∙ q₁, sym e₂ ∙ q₂, sym e₃ ∙ n))

      module _ (c : ℕ) (q₃ : r₃ ≡ Some c) where
        few₁ : a ≤ 96
        few₁ = count-few _ a (sym e₁ ∙ q₁)

        few₂ : b ≤ 96
        few₂ = count-few _ b (sym e₂ ∙ q₂)

        few₃ : c ≤ 96
        few₃ = count-few _ c (sym e₃ ∙ q₃)

        pub two-fit : Fits w32 (a + b)
        two-fit = omega (arith, few₁, few₂)

        pub three-fit : Fits w32 (a + b + c)
        three-fit = omega (arith, few₁, few₂, few₃)

        pub summed : Some (a + b + c) ≡ quarters_of h
        unfolding quarters_of
        summed = sym (rw (sym e₁ ∙ q₁, sym e₂ ∙ q₂, sym e₃ ∙ q₃))

-- ---- the answer

module _ (h : Line) (r : Count) (e : r ≡ quarters_of h) where
  pub total-given : (n : ℕ) → r ≡ Some n → (s : Total) → s ≡ total_by n → totalled (Ok s) ≡ totalling h
  unfolding totalled totalling total_of judged verdict is_none
  total-given n q s z = let y : quarters_of h ≡ Some n = sym e ∙ q in rw (y, z)

  pub total-refused : r ≡ None → totalled (Err NotLine) ≡ totalling h
  unfolding totalled totalling total_of judged verdict is_none
  total-refused q = let y : quarters_of h ≡ None = sym e ∙ q in rw y
