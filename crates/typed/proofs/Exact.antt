-- The double that is a quarter of a count is exactly that.
use Prim.Native.Nat.{ℕ, zero, suc, ◌+◌, ◌-◌, ◌*◌, ◌/◌, ◌%◌, ◌^◌, ◌≤◌, ◌<◌}
use native.Mathlib.Omega.{arith}
use native.Mathlib.Nat.{mul_assoc, mul-one, pow-succ'}
use mathlib.Core.Path.{◌≡◌, refl, sym, ap, ◌∙◌, subst}
use mathlib.Core.Bool.{Bool, not}
use lib.Dec.{T, leb, lit<}
use lib.Pow.{pow-add}
use lib.Ieee.{Float, binary64, to_bits, nan_bits}
use lib.Ieee.Bits.{to_bits-of_bits, nan_bits_is}
use borrow.Author.Tests.{le-leb, lt-leb}
use Rattle.typed.specs.Quarters.{units, doublings, bits_by, quarter_bits, hours_of}
use Rattle.typed.proofs.Base.{by_le, pick_yes, pick_no}
use Rattle.typed.proofs.Quarterly.{units-high}
use Rattle.typed.proofs.Floating.{no-nan-bits}

-- x is exactly n quarters, with the sign clear
pub record Exactly (n : ℕ) (x : Float) : Type 0 where
  pub plain : to_bits binary64 x < 2 ^ 63
  pub exact : units (to_bits binary64 x) ≡ n * 2 ^ 1072

-- ---- how often a count is doubled

-- k doublings fill the digits
pub record Filled (m k f : ℕ) : Type 0 where
  pub few : k ≤ f
  pub least : 2 ^ 52 ≤ m * 2 ^ k
  pub most : m * 2 ^ k < 2 ^ 53

pub doubled : (f m : ℕ) → m < 2 ^ 53 → 2 ^ 52 ≤ m * 2 ^ f → Filled m (doublings f m) f
unfolding doublings
doubled zero m h l = record { few = omega arith; least = l; most = subst (λ (x : ℕ). x < 2 ^ 53) (sym (mul-one m)) h }
doubled (suc f) m h l = by_le (2 ^ 52) m
    (λ (p : 2 ^ 52 ≤ m).
    subst (λ (x : ℕ). Filled m x (suc f)) (sym (pick_yes (leb (2 ^ 52) m) 0 (suc (doublings f (m * 2))) (le-leb (2 ^ 52) m p)))
    (record { few = omega arith; least = subst (λ (x : ℕ). 2 ^ 52 ≤ x) (sym (mul-one m)) p; most = subst (λ (x : ℕ). x < 2 ^ 53) (sym (mul-one m)) h }))
    (λ (p : m < 2 ^ 52).
    let again : (k : ℕ) → m * 2 * 2 ^ k ≡ m * 2 ^ suc k = λ k. mul_assoc m 2 (2 ^ k) ∙ ap (λ (x : ℕ). m * x) (sym (pow-succ' 2 k)) in
    let w : Filled (m * 2) (doublings f (m * 2)) f = doubled f (m * 2) (omega arith) (subst (λ (x : ℕ). 2 ^ 52 ≤ x) (sym (again f)) l) in
    subst (λ (x : ℕ). Filled m x (suc f)) (sym (pick_no (leb (2 ^ 52) m) 0 (suc (doublings f (m * 2))) (lt-leb (2 ^ 52) m p)))
    (record {
      few = let a : doublings f (m * 2) ≤ f = w.few in omega arith;
      least = subst (λ (x : ℕ). 2 ^ 52 ≤ x) (again (doublings f (m * 2))) w.least;
      most = subst (λ (x : ℕ). x < 2 ^ 53) (again (doublings f (m * 2))) w.most;
    }))

pub filled : (n : ℕ) → 0 < n → n < 2 ^ 53 → Filled n (doublings 52 n) 52
filled n p h = doubled 52 n h (omega arith)

-- ---- the bits

module _ (n k : ℕ) (w : Filled n k 52) where
  abbrev b : ℕ
  b = bits_by n k

  is : b ≡ (1072 - k) * 2 ^ 52 + n * 2 ^ k
  unfolding bits_by
  is = refl

  field : b / 2 ^ 52 % 2 ^ 11 ≡ 1073 - k
  field = let f : k ≤ 52 = w.few in let l : 2 ^ 52 ≤ n * 2 ^ k = w.least in let m : n * 2 ^ k < 2 ^ 53 = w.most in omega (arith, is)

  rest : 2 ^ 52 + b % 2 ^ 52 ≡ n * 2 ^ k
  rest = let f : k ≤ 52 = w.few in let l : 2 ^ 52 ≤ n * 2 ^ k = w.least in let m : n * 2 ^ k < 2 ^ 53 = w.most in omega (arith, is)

  pub bits_small : b < 1074 * 2 ^ 52
  bits_small = let f : k ≤ 52 = w.few in let m : n * 2 ^ k < 2 ^ 53 = w.most in omega (arith, is)

  bits-units : units b ≡ n * 2 ^ 1072
  bits-units =
      let f : k ≤ 52 = w.few in
      let e : 1073 - k - 1 ≡ 1072 - k = omega arith in
      let s : k + (1072 - k) ≡ 1072 = omega arith in
      units-high b (1073 - k) field (omega arith)
      ∙ ap (λ (x : ℕ). x * 2 ^ (1073 - k - 1)) rest
      ∙ ap (λ (x : ℕ). n * 2 ^ k * 2 ^ x) e
      ∙ mul_assoc n (2 ^ k) (2 ^ (1072 - k))
      ∙ ap (λ (x : ℕ). n * x) (sym (pow-add 2 k (1072 - k)) ∙ ap (λ (x : ℕ). 2 ^ x) s)

-- a count's bits, whatever it is
pub record Bits (n b : ℕ) : Type 0 where
  pub small : b < 1074 * 2 ^ 52
  pub exact : units b ≡ n * 2 ^ 1072

pub quarter-bits : (n : ℕ) → n < 2 ^ 53 → Bits n (quarter_bits n)
unfolding quarter_bits units
quarter-bits zero h = record { small = lit< tt; exact = refl }
quarter-bits (suc n) h =
    let w : Filled (suc n) (doublings 52 (suc n)) 52 = filled (suc n) (omega arith) h in
    record { small = bits_small (suc n) (doublings 52 (suc n)) w; exact = bits-units (suc n) (doublings 52 (suc n)) w }

pub small-finite : (b : ℕ) → b < 1074 * 2 ^ 52 → T (not (nan_bits binary64 b))
small-finite b h = no-nan-bits binary64 b (omega arith)

hours-bits : (n : ℕ) → n < 2 ^ 53 → to_bits binary64 (hours_of n) ≡ quarter_bits n
unfolding hours_of
hours-bits n h =
    let w : Bits n (quarter_bits n) = quarter-bits n h in
    to_bits-of_bits binary64 (quarter_bits n) (let s : quarter_bits n < 1074 * 2 ^ 52 = w.small in omega arith)
    (subst (λ (t : Bool). T (not t)) (nan_bits_is binary64 (quarter_bits n)) (small-finite (quarter_bits n) w.small))

-- S 10.3: the double is exactly a quarter of the count, plus zero for 0
pub quarter-exact : (n : ℕ) → n < 2 ^ 53 → Exactly n (hours_of n)
quarter-exact n h =
    let w : Bits n (quarter_bits n) = quarter-bits n h in
    record {
      plain = subst (λ (x : ℕ). x < 2 ^ 63) (sym (hours-bits n h)) (let s : quarter_bits n < 1074 * 2 ^ 52 = w.small in omega arith);
      exact = ap units (hours-bits n h) ∙ w.exact;
    }
