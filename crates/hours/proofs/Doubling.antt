-- A count shifted until it fills the digits.
use Prim.Native.Nat.{ℕ, zero, suc, ◌+◌, ◌-◌, ◌*◌, ◌%◌, ◌^◌, ◌≤◌, ◌<◌}
use native.Mathlib.Omega.{arith}
use native.Mathlib.Nat.{mul_assoc, pow-succ', pow-le-pow_right, add-mul, one-mul}
use mathlib.Core.Path.{◌≡◌, refl, sym, ap, ◌∙◌}
use mathlib.Core.Bool.{not}
use lib.Count.{count_leading_zeros}
use lib.Dec.{T, lit<}
use lib.Ieee.{binary64, of_bits, nan_bits}
use mir.Syntax.{w64}
use mir.Val.{Fits}
use borrow.Author.Tests.{le-leb, lt-leb}
use Rattle.std.proofs.lemmas.Nat.{leading_top, pow-add, pow_pos, mul-le}
use Rattle.base.proofs.Cases.{by_le, picked, unpicked}
use Rattle.typed.specs.Quarters.{doublings, bits_by, quarter_bits, hours_of, total_by}
use Rattle.typed.proofs.Exact.{small-finite}

zero_left : (f m : ℕ) → 2 ^ 52 ≤ m → doublings f m ≡ 0
unfolding doublings
zero_left zero m h = refl
zero_left (suc f) m h = picked _ _ (le-leb (2 ^ 52) m h)

one_left : (f m : ℕ) → m < 2 ^ 52 → doublings (suc f) m ≡ suc (doublings f (m * 2))
unfolding doublings
one_left f m h = unpicked _ _ (lt-leb (2 ^ 52) m h)

-- it is doubled as often as fills the digits, and no more often
doubled : (k f m : ℕ) → k ≤ f → 2 ^ 52 ≤ m * 2 ^ k → m * 2 ^ k < 2 ^ 53 → doublings f m ≡ k
doubled zero f m h l u = zero_left f m (omega arith)
doubled (suc k) zero m h l u = absurd (omega arith)
doubled (suc k) (suc f) m h l u =
    let e : m * 2 * 2 ^ k ≡ m * 2 ^ suc k = mul_assoc m 2 (2 ^ k) ∙ ap (λ (x : ℕ). m * x) (sym (pow-succ' 2 k)) in
    let p : 0 < 2 ^ k = pow_pos k in
    let s : m * 2 * 1 ≤ m * 2 * 2 ^ k = mul-le (m * 2) 1 (m * 2) (2 ^ k) (omega arith) (omega arith) in
    one_left f m (omega arith) ∙ ap suc (doubled k f (m * 2) (omega arith) (omega arith) (omega arith))

record Filling (n k : ℕ) : Type 0 where
  few : k ≤ 52
  low : 2 ^ 52 ≤ n * 2 ^ k
  high : n * 2 ^ k < 2 ^ 53

module _ (n : ℕ) (h : n < 2 ^ 32) (z : n ≡ 0 → ⊥) where
  pub shift-sub : 11 ≤ count_leading_zeros 64 n
  shift-sub = by (leading_top 64 n (omega arith) (omega arith))
    where
      by : (j : ℕ) × (count_leading_zeros 64 n + suc j ≡ 64) × (2 ^ j ≤ n) × (n < 2 ^ suc j) → 11 ≤ count_leading_zeros 64 n
      by (j, e, l, u) = by_le 32 j (λ (w : 32 ≤ j). let p : 2 ^ 32 ≤ 2 ^ j = pow-le-pow_right (lit< tt) w in absurd (omega arith)) (λ w. omega arith)

  filling : Filling n (count_leading_zeros 64 n - 11)
  filling = by (leading_top 64 n (omega arith) (omega arith))
    where
      by : (j : ℕ) × (count_leading_zeros 64 n + suc j ≡ 64) × (2 ^ j ≤ n) × (n < 2 ^ suc j) → Filling n (count_leading_zeros 64 n - 11)
      by (j, e, l, u) =
          let s : 11 ≤ count_leading_zeros 64 n = shift-sub in
          let k : ℕ = count_leading_zeros 64 n - 11 in
          let a : 2 ^ 52 ≡ 2 ^ j * 2 ^ k = let i : 52 ≡ j + k = omega arith in ap (λ (x : ℕ). 2 ^ x) i ∙ pow-add 2 j k in
          let b : 2 ^ 53 ≡ 2 ^ suc j * 2 ^ k = let i : 53 ≡ suc j + k = omega arith in ap (λ (x : ℕ). 2 ^ x) i ∙ pow-add 2 (suc j) k in
          let p : 0 < 2 ^ k = pow_pos k in
          let c : 2 ^ j * 2 ^ k ≤ n * 2 ^ k = mul-le (2 ^ j) (2 ^ k) n (2 ^ k) l (omega arith) in
          let d : (n + 1) * 2 ^ k ≤ 2 ^ suc j * 2 ^ k = mul-le (n + 1) (2 ^ k) (2 ^ suc j) (2 ^ k) (omega arith) (omega arith) in
          record {
            few = omega arith;
            low = omega arith;
            high = omega (arith, add-mul n 1 (2 ^ k), one-mul (2 ^ k));
          }

  kept : n * 2 ^ (count_leading_zeros 64 n - 11) % 2 ^ 64 ≡ n * 2 ^ (count_leading_zeros 64 n - 11)
  kept = omega (arith, filling.high)

  pub bits-add : Fits w64 ((1072 - (count_leading_zeros 64 n - 11)) * 4503599627370496 + n * 2 ^ (count_leading_zeros 64 n - 11) % 18446744073709551616)
  bits-add = omega (arith, kept, filling.high)

  made : (n : ℕ) → (n ≡ 0 → ⊥) → bits_by n (doublings 52 n) ≡ quarter_bits n
  unfolding quarter_bits
  made zero p = absurd (p refl)
  made (suc n) p = refl

  pub bits-made : ((1072 - (count_leading_zeros 64 n - 11)) * 4503599627370496 + n * 2 ^ (count_leading_zeros 64 n - 11) % 18446744073709551616 ≡ quarter_bits n) × ((1072 - (count_leading_zeros 64 n - 11)) * 4503599627370496 + n * 2 ^ (count_leading_zeros 64 n - 11) % 18446744073709551616 < 1074 * 2 ^ 52)
  unfolding bits_by
  bits-made = (
    ap (λ (x : ℕ). (1072 - (count_leading_zeros 64 n - 11)) * 2 ^ 52 + x) kept ∙ ap (λ (j : ℕ). bits_by n j) (sym (doubled _ 52 n filling.few filling.low filling.high)) ∙ made n z,
    omega (arith, kept, filling.high, filling.few),
  )

pub bits-zero : (n : ℕ) → n ≡ 0 → (0 ≡ quarter_bits n) × (0 < 1074 * 2 ^ 52)
unfolding quarter_bits
bits-zero n e = (sym (ap quarter_bits e), omega arith)

-- ---- the double

pub bits-finite : (b : ℕ) → b < 1074 * 2 ^ 52 → T (not (nan_bits binary64 b))
bits-finite b h = small-finite b h

pub total_made : (n b : ℕ) → b ≡ quarter_bits n → record { quarters = n; hours = of_bits binary64 b } ≡ total_by n
unfolding total_by hours_of
total_made n b e = ap (λ (x : ℕ). record { quarters = n; hours = of_bits binary64 x }) e
