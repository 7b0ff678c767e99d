-- Rules of which no escape is an octal digit, "x", CR or LF: by one computed test of the escapes.
use Prim.Native.Nat.{ℕ, ◌≤◌}
use native.Mathlib.Omega.{arith}
use mathlib.Core.Path.{◌≡◌, refl, sym, ◌∙◌}
use mathlib.Core.Bool.{Bool, true}
use lib.Dec.{leb, ltb}
use borrow.Author.Tests.{lt-ltb, leb-true}
use Rattle.base.specs.Choice.{pick}
use Rattle.base.proofs.Below.{below, below_at}
use Rattle.base.proofs.Cases.{picked}
use Rattle.model.specs.Amended.{Apart, ignoring, escaping, listed}
use Rattle.model.specs.Grammar.{Rules, rules}
use Rattle.model.specs.Octets.{octval, find, escape}
use Rattle.model.proofs.Quoted.{octal-range}

-- no octal digit is listed
unfoldable pub unlisted : (ℕ → ℕ) → ℕ → Bool
unlisted f e = pick (ltb (octval e) 8) (leb 256 (f e)) true

pub tested-apart : (ρ : Rules) → below 56 (unlisted ρ.escape) ≡ true → 256 ≤ ρ.escape 120 → 256 ≤ ρ.escape 13 → 256 ≤ ρ.escape 10 → Apart ρ
unfolding unlisted
tested-apart ρ t x c l =
    record {
      octal = λ e h. leb-true _ _ (sym (picked _ _ (lt-ltb (octval e) 8 h)) ∙ below_at 56 (unlisted ρ.escape) t e (omega (arith, octal-range e h)));
      hex = x;
      cr = c;
      lf = l;
    }

-- the rules in force, and those before a request
pub rules-apart : Apart rules
unfolding below unlisted octval escape find
rules-apart = tested-apart rules refl (omega arith) (omega arith) (omega arith)

pub ignoring-apart : Apart (ignoring escape)
unfolding below unlisted octval escape find
ignoring-apart = tested-apart (ignoring escape) refl (omega arith) (omega arith) (omega arith)

pub listed-apart : Apart (escaping listed)
unfolding below unlisted octval find
listed-apart = tested-apart (escaping listed) refl (omega arith) (omega arith) (omega arith)
