-- A float that is itself is no NaN, and its bits fit.
use mathlib.Core.Path.{◌≡◌, sym, ◌∙◌, subst}
use mathlib.Core.Bool.{true, false, not}
use lib.Dec.{T}
use lib.Ieee.{Float, nan, inf, fin, ne, is_nan}
use lib.Ieee.Compare.{nan_differs}

no_both : true ≡ false → ⊥
no_both e = subst T e tt

pub no_nan : (x : Float) → ne x x ≡ false → T (not (is_nan x))
unfolding is_nan
no_nan nan e = absurd (no_both (sym nan_differs ∙ e))
no_nan (inf s) e = tt
no_nan (fin s m k) e = tt
