-- What measuring a text answers settles the sizes and the place.
use Rattle.std.specs.Prelude.{ℕ, ◌≡◌, Result, Ok, Err}
use mathlib.Core.Path.{ap}
use Rattle.walk.specs.Extent.{Measured, Refused}

pub place-equal : {p q : ℕ} → ◌≡◌ {A = Measured} (Refused p) (Refused q) → p ≡ q
place-equal {p} {q} e = ap (λ (x : Measured). elim x [ Ok s ↦ 0 | Err b ↦ b.place ]) e
