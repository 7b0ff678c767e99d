-- The octets from one place of a source to another.
use Prim.Native.Nat.{ℕ, suc, ◌+◌, ◌-◌, ◌≤◌, ◌<◌}
use native.Mathlib.Omega.{arith}
use mathlib.Core.Path.{◌≡◌}
use mathlib.Core.List.{List, [], ◌∷◌}
use lib.ListN.{length, drop, get_or, length-drop}
use lib.Seq.{length-take-le}
use Rattle.scan.proofs.Places.{one-here}
use Rattle.spelling.specs.Spelled.{cut}

pub cut-none : (src : List ℕ) (i e : ℕ) → e ≤ i → cut src i e ≡ []
cut-none src i e h = let z : e - i ≡ 0 = omega arith in rw z

pub cut-one : (src : List ℕ) (i e : ℕ) → i < e → e ≤ length src → cut src i e ≡ get_or src i 0 ∷ cut src (i + 1) e
cut-one src i e h k = let z : e - i ≡ suc (e - (i + 1)) = omega arith in rw (z, one-here src i (omega arith))

pub cut-length : (src : List ℕ) (i e : ℕ) → e ≤ length src → length (cut src i e) ≡ e - i
cut-length src i e k = length-take-le (e - i) (drop i src) (omega (arith, length-drop i src))
