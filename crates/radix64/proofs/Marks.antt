-- The bar and the brace close base-64.
use Prim.Native.Nat.{ℕ, ◌<◌}
use native.Mathlib.Omega.{arith}
use mathlib.Core.Path.{◌≡◌, refl}
use Rattle.base.specs.Choice.{member}
use Rattle.model.specs.Octets.{is_whitespace, letter}
use Rattle.radix64.specs.Steps.{Closing}

pub bar : Closing 124
unfolding letter is_whitespace member
bar = record { no-letter = refl; no-pad = λ e. omega arith; no-white = refl }

pub brace : Closing 125
unfolding letter is_whitespace member
brace = record { no-letter = refl; no-pad = λ e. omega arith; no-white = refl }

-- a letter is no pad
pub pad-no-letter : (e : ℕ) → letter e < 64 → e ≡ 61 → ⊥
unfolding letter
pad-no-letter e h z = let w : letter 61 < 64 = rw z at h in omega arith

pub mark-no-letter : (m : ℕ) → Closing m → (e : ℕ) → letter e < 64 → e ≡ m → ⊥
mark-no-letter m k e h z = let w : letter m < 64 = rw z at h in omega (arith, k.no-letter)
