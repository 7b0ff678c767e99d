-- What stands at a place of a source.
use Prim.Native.Nat.{ℕ, suc, ◌+◌, ◌-◌, ◌≤◌, ◌<◌}
use native.Mathlib.Omega.{arith}
use mathlib.Core.Path.{◌≡◌, ap, ◌∙◌}
use mathlib.Core.List.{List, [], ◌∷◌, ◌++◌}
use lib.ListN.{length, take, drop, get_or, length-drop}
use lib.Seq.{drop-cons, take-suc, get_or-drop, length-take-le}
use native.Mathlib.Numerals.{add-one}

pub one-here : (src : List ℕ) (at : ℕ) → at < length src → drop at src ≡ get_or src at 0 ∷ drop (at + 1) src
one-here src at h = rw (add-one at) (drop-cons src at 0 h)

pub two_here : (src : List ℕ) (at : ℕ) → 2 ≤ length src - at → drop at src ≡ get_or src at 0 ∷ get_or src (at + 1) 0 ∷ drop (at + 2) src
two_here src at h =
    let z : at + 1 + 1 ≡ at + 2 = omega arith in
    one-here src at (omega arith) ∙ ap (λ (l : List ℕ). get_or src at 0 ∷ l) (rw z at (one-here src (at + 1) (omega arith)))

-- the octets from one place to another
pub part_length : (src : List ℕ) (at i : ℕ) → at ≤ i → i ≤ length src → length (take (i - at) (drop at src)) ≡ i - at
part_length src at i h k = length-take-le (i - at) (drop at src) (omega (arith, length-drop at src))

pub part-more : (src : List ℕ) (at i : ℕ) → at ≤ i → i < length src → take (i - at) (drop at src) ++ (get_or src i 0 ∷ []) ≡ take (i + 1 - at) (drop at src)
part-more src at i f h =
    let z : i + 1 - at ≡ suc (i - at) = omega arith in
    let y : at + (i - at) ≡ i = omega arith in
    let l : i - at < length (drop at src) = omega (arith, length-drop at src) in
    rw (z, take-suc (drop at src) (i - at) 0 l, get_or-drop at src (i - at) 0, y)
