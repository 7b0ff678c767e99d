-- Letters of values, and the octets of a group as they are written.
use Prim.Native.Nat.{ℕ, ◌+◌, ◌≤◌, ◌<◌}
use native.Mathlib.Omega.{arith}
use mathlib.Core.Path.{◌≡◌, refl}
use mathlib.Core.List.{List}
use lib.ListN.{length, take, get_or, set, length-set}
use native.Mathlib.Numerals.{add-one, add-two}
use Rattle.scan.specs.Writes.{Wrote}
use Rattle.radix64.specs.Bits.{three_from}

-- ---- written
module _ (g t out : List ℕ) (pos : ℕ) (q : t ≡ three_from g) where
  pub three-wrote : Wrote (three_from g) pos out (set (set (set out pos (get_or t 0 0)) (pos + 1) (get_or t 1 0)) (pos + 2) (get_or t 2 0)) (pos + 3)
  three-wrote = record { place = refl; same = rw (q, add-one pos, add-two pos) }

  module _ (len : ℕ) where
    pub one-wrote : len ≡ 1 → Wrote (take len (three_from g)) pos out (set out pos (get_or t 0 0)) (pos + 1)
    one-wrote e = rw (e, q) (record { place = refl; same = refl })

    pub two-wrote : len ≤ 2 → (len ≡ 0 → ⊥) → (len ≡ 1 → ⊥) → Wrote (take len (three_from g)) pos out (set (set out pos (get_or t 0 0)) (pos + 1) (get_or t 1 0)) (pos + 2)
    two-wrote h m n =
        let e : len ≡ 2 = omega arith in
        rw (e, q, add-one pos) (record { place = refl; same = refl })

pub none-wrote : (g out : List ℕ) (pos len : ℕ) → len ≡ 0 → Wrote (take len (three_from g)) pos out out pos
none-wrote g out pos len e = rw e (record { place = omega arith; same = refl })

-- ---- there is room
pub second-room : (out : List ℕ) (pos v n : ℕ) → pos + n ≤ length out → 2 ≤ n → pos + 1 < length (set out pos v)
second-room out pos v n h k = simp length-set (omega arith)

pub second-of-three : (out : List ℕ) (pos v : ℕ) → pos + 3 ≤ length out → pos + 1 < length (set out pos v)
second-of-three out pos v h = second-room out pos v 3 h (omega arith)

pub third-room : (out : List ℕ) (pos v w : ℕ) → pos + 3 ≤ length out → pos + 2 < length (set (set out pos v) (pos + 1) w)
third-room out pos v w h = simp length-set (omega arith)

pub at-least-two : (len : ℕ) → (len ≡ 0 → ⊥) → (len ≡ 1 → ⊥) → 2 ≤ len
at-least-two len m n = omega arith
