-- Numbers, places and parts of a case.
use Prim.Native.Nat.{ℕ, ◌+◌, ◌*◌, ◌-◌, ◌≤◌, ◌<◌}
use native.Mathlib.Omega.{arith}
use native.Mathlib.Nat.{mul-le-mul_left}
use mathlib.Core.Path.{◌≡◌, sym, ◌∙◌}
use mathlib.Core.List.{List, []}
use lib.ListN.{length, take, drop, get_or, get_or-eq_default}
use lib.Seq.{length-take-le}
use mir.Val.{Fits}
use mir.Syntax.{w64}
use borrow.Author.Tests.{le-leb, lt-leb}
use Rattle.io.specs.Counts.{IsPrefixLen}
use Rattle.base.proofs.Cases.{picked, unpicked, true-both}
use Rattle.cases.specs.Wire.{little4, number4_at, number8_at, place_after, part_at, Widened}

pub no-octet : (l : List ℕ) (at : ℕ) → length l ≤ at → 0 ≡ get_or l at 0
no-octet l at h = sym (get_or-eq_default l 0 h)

pub no-number4 : (l : List ℕ) (at : ℕ) → length l < at + 4 → 0 ≡ number4_at l at
unfolding number4_at
no-number4 l at h = sym (unpicked _ _ (lt-leb (at + 4) (length l) h))

pub number4-here : (l : List ℕ) (at : ℕ) → at + 4 ≤ length l → number4_at l at ≡ little4 l at
unfolding number4_at
number4-here l at h = picked _ _ (le-leb (at + 4) (length l) h)

pub number4-is : (l : List ℕ) (at a b c d : ℕ) → 4 ≤ length l → at ≤ length l - 4
    → a ≡ get_or l at 0 → b ≡ get_or l (at + 1) 0 → c ≡ get_or l (at + 2) 0 → d ≡ get_or l (at + 3) 0
    → a + 256 * b + 65536 * c + 16777216 * d ≡ number4_at l at
unfolding little4
number4-is l at a b c d h k p q r s = rw (p, q, r, s) (sym (number4-here l at (omega arith)))

pub no-number8 : (l : List ℕ) (at : ℕ) → length l < at + 8 → 0 ≡ number8_at l at
unfolding number8_at
no-number8 l at h = sym (unpicked _ _ (lt-leb (at + 8) (length l) h))

pub number8-is : (l : List ℕ) (at a b x y : ℕ) → 8 ≤ length l → at ≤ length l - 8
    → a ≡ number4_at l at → b ≡ number4_at l (at + 4) → Widened 4294967296 a x → Widened 4294967296 b y
    → x + 4294967296 * y ≡ number8_at l at
unfolding number8_at
number8-is l at a b x y h k p q v w =
    let e : x ≡ little4 l at = v.same ∙ p ∙ number4-here l at (omega arith) in
    let f : y ≡ little4 l (at + 4) = w.same ∙ q ∙ number4-here l (at + 4) (omega arith) in
    rw (e, f) (sym (picked _ _ (le-leb (at + 8) (length l) (omega arith))))

pub nowhere : (l : List ℕ) (at count : ℕ) → length l < at + count → 18446744073709551615 ≡ place_after l at count
unfolding place_after
nowhere l at count h = sym (unpicked _ _ (lt-leb (at + count) (length l) h))

pub place_is : (l : List ℕ) (at count : ℕ) → at + count ≤ length l → at + count ≡ place_after l at count
unfolding place_after
place_is l at count h = sym (picked _ _ (le-leb (at + count) (length l) h))

pub no_part : (l : List ℕ) (start end : ℕ) → length l < end → [] ≡ part_at l start end
unfolding part_at
no_part l start end h = rw (lt-leb end (length l) h)

pub part-back : (l : List ℕ) (start end : ℕ) → end ≤ length l → end < start → [] ≡ part_at l start end
unfolding part_at
part-back l start end h k = rw (le-leb end (length l) h, lt-leb start end k)

pub part-is : (l : List ℕ) (start end : ℕ) → end ≤ length l → start ≤ end → take (end - start) (drop start l) ≡ part_at l start end
unfolding part_at
part-is l start end h k = sym (picked _ _ (true-both (le-leb end (length l) h) (le-leb start end k)))

-- what the elements given take of a case
pub small_product : (count width : ℕ) → count < 4294967296 → width ≤ 4 → Fits w64 (count * width)
small_product count width h k = record { fits = omega (arith, mul-le-mul_left count k) }

-- what `&buf[..n]` asks
pub counts : (l : List ℕ) (n : ℕ) → n ≤ length l → IsPrefixLen n l
counts l n h = (h, sym (length-take-le n l h))
