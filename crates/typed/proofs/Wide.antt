-- How many octets a magnitude takes.
use Prim.Native.Nat.{ℕ, zero, suc, ◌-◌, ◌*◌, ◌/◌, ◌^◌, ◌≤◌, ◌<◌}
use native.Mathlib.Omega.{arith}
use native.Mathlib.Nat.{pow-suc, pow-le-pow_right, div-lt_iff_lt-mul, le-div_iff_mul-le, mul_assoc}
use mathlib.Core.Path.{◌≡◌, sym, ap, ◌∙◌, subst}
use mathlib.Core.Bool.{Bool, true, false}
use lib.Dec.{lit<, ltb}
use lib.IntN.{ℤ, pos, negsuc}
use borrow.Author.Tests.{lt-ltb, le-ltb}
use Rattle.typed.specs.Coding.{more_up_to, more}
use Rattle.typed.proofs.Base.{by_le, pick_yes, pick_no}

-- a magnitude m, at least 0 or counted down from -1
abbrev pub joined : Bool → ℕ → ℤ
joined true m = negsuc m
joined false m = pos m

-- beside the first, a magnitude takes k octets and no fewer
pub record Wide (k m : ℕ) : Type 0 where
  pub few : k ≤ 7
  pub enough : m < 128 * 256 ^ k
  pub needed : 0 < k → 128 * 256 ^ (k - 1) ≤ m

pub powers : (k : ℕ) → 0 < 256 ^ k
powers zero = lit< tt
powers (suc k) = let p : 256 ^ suc k ≡ 256 ^ k * 256 = pow-suc 256 k in let q : 0 < 256 ^ k = powers k in omega arith

pub scaled : (k : ℕ) → 0 < 128 * 256 ^ k
scaled k = let q : 0 < 256 ^ k = powers k in omega arith

-- no two numbers of octets will do
pub longer : (k k' m : ℕ) → m < 128 * 256 ^ k → (0 < k' → 128 * 256 ^ (k' - 1) ≤ m) → k' ≤ k
longer k k' m a n = by_le k' k (λ p. p) (λ (p : k < k').
    let h : k ≤ k' - 1 = omega arith in
    let w : 256 ^ k ≤ 256 ^ (k' - 1) = pow-le-pow_right (lit< tt) h in
    let y : 128 * 256 ^ (k' - 1) ≤ m = n (omega arith) in
    omega arith)

pub wide-one : (k k' m : ℕ) → Wide k m → Wide k' m → k ≡ k'
wide-one k k' m w w' = let a : k' ≤ k = longer k k' m w.enough w'.needed in let b : k ≤ k' = longer k' k m w'.enough w.needed in omega arith

-- ---- counted octet by octet

record Upto (f k m : ℕ) : Type 0 where
  few : k ≤ f
  enough : m < 128 * 256 ^ k
  needed : 0 < k → 128 * 256 ^ (k - 1) ≤ m

upto-more : (f k m : ℕ) → 128 ≤ m → Upto f k (m / 256) → Upto (suc f) (suc k) m
upto-more f k m h w = record {
  few = let a : k ≤ f = w.few in omega arith;
  enough =
      let p : 256 ^ suc k ≡ 256 ^ k * 256 = pow-suc 256 k in
      let e : 128 * 256 ^ k * 256 ≡ 128 * 256 ^ suc k = mul_assoc 128 (256 ^ k) 256 ∙ ap (λ (x : ℕ). 128 * x) (sym p) in
      subst (λ (x : ℕ). m < x) e ((div-lt_iff_lt-mul {k = 256} {x = m} {y = 128 * 256 ^ k} (lit< tt)).0 w.enough);
  needed = λ q. low k w.needed;
}
  where
    low : (k : ℕ) → (0 < k → 128 * 256 ^ (k - 1) ≤ m / 256) → 128 * 256 ^ (suc k - 1) ≤ m
    low zero n = omega arith
    low (suc k) n =
        let e : suc (suc k) - 1 ≡ suc k = omega arith in
        let d : suc k - 1 ≡ k = omega arith in
        let p : 256 ^ suc k ≡ 256 ^ k * 256 = pow-suc 256 k in
        let z : 128 * 256 ^ k * 256 ≡ 128 * 256 ^ suc k = mul_assoc 128 (256 ^ k) 256 ∙ ap (λ (x : ℕ). 128 * x) (sym p) in
        let a : 128 * 256 ^ k ≤ m / 256 = subst (λ (x : ℕ). 128 * 256 ^ x ≤ m / 256) d (n (omega arith)) in
        subst (λ (x : ℕ). 128 * 256 ^ x ≤ m) (sym e) (subst (λ (x : ℕ). x ≤ m) z ((le-div_iff_mul-le {k = 256} {x = 128 * 256 ^ k} {y = m} (lit< tt)).0 a))

upto : (f m : ℕ) → m < 128 * 256 ^ f → Upto f (more_up_to f m) m
unfolding more_up_to
upto zero m h = record { few = omega arith; enough = h; needed = λ (p : 0 < 0). absurd (no p) }
  where
    no : 0 < 0 → ⊥
    no p = omega arith
upto (suc f) m h = by_le 128 m
    (λ (p : 128 ≤ m).
    let q : 256 ^ suc f ≡ 256 ^ f * 256 = pow-suc 256 f in
    let z : 128 * 256 ^ f * 256 ≡ 128 * 256 ^ suc f = mul_assoc 128 (256 ^ f) 256 ∙ ap (λ (x : ℕ). 128 * x) (sym q) in
    let d : m / 256 < 128 * 256 ^ f = (div-lt_iff_lt-mul {k = 256} {x = m} {y = 128 * 256 ^ f} (lit< tt)).1 (subst (λ (x : ℕ). m < x) (sym z) h) in
    subst (λ (x : ℕ). Upto (suc f) x m) (sym (pick_no (ltb m 128) 0 (suc (more_up_to f (m / 256))) (le-ltb m 128 p))) (upto-more f (more_up_to f (m / 256)) m p (upto f (m / 256) d)))
    (λ (p : m < 128).
    subst (λ (x : ℕ). Upto (suc f) x m) (sym (pick_yes (ltb m 128) 0 (suc (more_up_to f (m / 256))) (lt-ltb m 128 p)))
    (record { few = omega arith; enough = omega arith; needed = λ (q : 0 < 0). absurd (no q) }))
  where
    no : 0 < 0 → ⊥
    no p = omega arith

-- a magnitude of 63 bits
pub more-wide : (m : ℕ) → m < 2 ^ 63 → Wide (more m) m
unfolding more
more-wide m h = let w = upto 7 m h in record { few = w.few; enough = w.enough; needed = w.needed }

pub more-is : (k m : ℕ) → m < 2 ^ 63 → Wide k m → k ≡ more m
more-is k m h w = wide-one k (more m) m w (more-wide m h)
