-- The quarters of the bits are those of the number that the logic's IEEE 754 has.
use Prim.Native.Nat.{ℕ, zero, suc, ◌+◌, ◌-◌, ◌*◌, ◌/◌, ◌%◌, ◌^◌, ◌≤◌, ◌<◌}
use native.Mathlib.Omega.{arith}
use native.Mathlib.Nat.{mul_assoc, mul_comm, mul-one, eq_of_mul-eq-mul_right, mul-le-mul, mul-lt-mul_of_pos_right, lt_of_lt_of_le, pow-suc}
use mathlib.Core.Path.{◌≡◌, refl, sym, ap, ◌∙◌, subst}
use mathlib.Core.Bool.{Bool, false, cond}
use lib.Dec.{T, leb, eqb}
use lib.Pow.{pow_pos, pow_mono, field}
use lib.Ieee.{Float, nan, inf, fin, binary64, of_bits, of_fields, to_bits, fits, up, down, odd}
use lib.Ieee.Bits.{of_bits-to_bits}
use lib.Ieee.Exact.{HasValue, odd_sign}
use borrow.Author.Tests.{lt-leb, ne_eqb}
use Rattle.typed.specs.Quarters.{units}
use Rattle.typed.proofs.Quarterly.{units-low, units-high}
use Rattle.typed.proofs.Exact.{Exactly}
use Rattle.typed.proofs.Base.{by_le, by-eq}

-- ---- the value of a pattern, in units of 2 ^ -1074

fields : (b : ℕ) (s : Bool) (e t : ℕ) → (e < 2047) → (u : ℕ) → (e ≡ 0 → u ≡ t) → (0 < e → u ≡ (2 ^ 52 + t) * 2 ^ (e - 1)) → HasValue (of_fields binary64 s e t) s u (2 ^ 1074)
unfolding of_fields
fields b s zero t l u z p = subst (λ (x : ℕ). HasValue (odd 53 s t 0 1074) s x (2 ^ 1074)) (mul-one t ∙ sym (z refl)) (odd_sign 53 s t 0 1074)
fields b s (suc e) t l u z p =
    let n : eqb (suc e) 2047 ≡ false = ne_eqb (suc e) 2047 (λ (w : suc e ≡ 2047). omega arith) in
    let y : suc e - 1 ≡ e = omega arith in
    let h : u ≡ (2 ^ 52 + t) * 2 ^ e = p (omega arith) ∙ ap (λ (x : ℕ). (2 ^ 52 + t) * 2 ^ x) y in
    subst (λ (c : Bool). HasValue (cond c (cond (eqb t 0) (inf s) nan) (odd 53 s (2 ^ 52 + t) e 1074)) s u (2 ^ 1074)) (sym n)
    (subst (λ (x : ℕ). HasValue (odd 53 s (2 ^ 52 + t) e 1074) s x (2 ^ 1074)) (sym h) (odd_sign 53 s (2 ^ 52 + t) e 1074))

as_fields : (b : ℕ) → of_bits binary64 b ≡ of_fields binary64 (leb (2 ^ 63) b) (b % 2 ^ 63 / 2 ^ 52) (b % 2 ^ 52)
unfolding of_bits
as_fields b = refl

pub units-value : (b : ℕ) → b / 2 ^ 52 % 2 ^ 11 < 2047 → HasValue (of_bits binary64 b) (leb (2 ^ 63) b) (units b) (2 ^ 1074)
units-value b h =
    let e : b % 2 ^ 63 / 2 ^ 52 ≡ b / 2 ^ 52 % 2 ^ 11 = field b 11 52 in
    subst (λ (x : Float). HasValue x (leb (2 ^ 63) b) (units b) (2 ^ 1074)) (sym (as_fields b))
    (subst (λ (x : ℕ). HasValue (of_fields binary64 (leb (2 ^ 63) b) x (b % 2 ^ 52)) (leb (2 ^ 63) b) (units b) (2 ^ 1074)) (sym e)
    (fields b (leb (2 ^ 63) b) (b / 2 ^ 52 % 2 ^ 11) (b % 2 ^ 52) h (units b) (units-low b) (units-high b (b / 2 ^ 52 % 2 ^ 11) refl)))

-- ---- a pattern of fewer than 2 ^ 28 quarters, and above the sign, is no infinity

large : (b : ℕ) → 2047 ≤ b / 2 ^ 52 % 2 ^ 11 → 2 ^ 1100 ≤ units b
large b h =
    let e : ℕ = b / 2 ^ 52 % 2 ^ 11 in
    let f : 1100 ≤ e - 1 = omega arith in
    let g : 1 ≤ 2 ^ 52 + b % 2 ^ 52 = omega arith in
    let k : 1 * 2 ^ 1100 ≤ (2 ^ 52 + b % 2 ^ 52) * 2 ^ (e - 1) = mul-le-mul g (pow_mono f) in
    subst (λ (x : ℕ). 2 ^ 1100 ≤ x) (sym (units-high b e refl (omega arith))) k

small : (n u : ℕ) → n < 2 ^ 28 → u ≡ n * 2 ^ 1072 → 2 ^ 1100 ≤ u → ⊥
small n u h e l =
    let k : n * 2 ^ 1072 < 2 ^ 28 * 2 ^ 1072 = mul-lt-mul_of_pos_right h (pow_pos 1072) in
    let m : 2 ^ 28 * 2 ^ 1072 ≤ n * 2 ^ 1072 = subst (λ (x : ℕ). 2 ^ 1100 ≤ x) e l in
    no (lt_of_lt_of_le k m)
  where
    no : {a : ℕ} → a < a → ⊥
    no p = omega arith

quarters-of : (x : Float) (s : Bool) (n : ℕ) → HasValue x s (n * 2 ^ 1072) (2 ^ 1074) → HasValue x s n 4
quarters-of nan s n h = h
quarters-of (inf t) s n h = h
quarters-of (fin t m e) s n h = (h.0, eq_of_mul-eq-mul_right (2 ^ 1072) (pow_pos 1072) (m * up e * 4) (n * down e) (mul_assoc (m * up e) 4 (2 ^ 1072) ∙ h.1 ∙ mul_assoc n (2 ^ 1072) (down e) ∙ ap (λ (y : ℕ). n * y) (mul_comm (2 ^ 1072) (down e)) ∙ sym (mul_assoc n (down e) (2 ^ 1072))))

-- what `Exactly` says of the bits, of the number: it is n / 4, with the sign clear
pub exact-value : (n : ℕ) (x : Float) → n < 2 ^ 28 → T (fits binary64 x) → Exactly n x → HasValue x false n 4
exact-value n x h f w =
    let b : ℕ = to_bits binary64 x in
    let l : b / 2 ^ 52 % 2 ^ 11 < 2047 = by_le 2047 (b / 2 ^ 52 % 2 ^ 11) (λ p. absurd (small n (units b) h w.exact (large b p))) (λ p. p) in
    let v : HasValue (of_bits binary64 b) (leb (2 ^ 63) b) (units b) (2 ^ 1074) = units-value b l in
    let s : leb (2 ^ 63) b ≡ false = lt-leb (2 ^ 63) b w.plain in
    quarters-of x false n
    (subst (λ (y : Float). HasValue y false (n * 2 ^ 1072) (2 ^ 1074)) (of_bits-to_bits binary64 x f)
    (subst (λ (t : Bool). HasValue (of_bits binary64 b) t (n * 2 ^ 1072) (2 ^ 1074)) s
    (subst (λ (u : ℕ). HasValue (of_bits binary64 b) (leb (2 ^ 63) b) u (2 ^ 1074)) w.exact v)))

-- ---- one pattern for a count

same-high : (t t' e e' : ℕ) → t < 2 ^ 52 → t' < 2 ^ 52 → (2 ^ 52 + t) * 2 ^ e ≡ (2 ^ 52 + t') * 2 ^ e' → e < e' → ⊥
same-high t t' e e' h h' q l =
    let a : (2 ^ 52 + t) * 2 ^ e < 2 ^ 53 * 2 ^ e = mul-lt-mul_of_pos_right (omega arith) (pow_pos e) in
    let k : 2 ^ 53 * 2 ^ e ≡ 2 ^ 52 * 2 ^ suc e = (let p : 2 ^ suc e ≡ 2 ^ e * 2 = pow-suc 2 e in omega arith) in
    let g : 2 ^ 52 ≤ 2 ^ 52 + t' = omega arith in
    let m : 2 ^ 52 * 2 ^ suc e ≤ (2 ^ 52 + t') * 2 ^ e' = mul-le-mul g (pow_mono l) in
    no (lt_of_lt_of_le (subst (λ (x : ℕ). (2 ^ 52 + t) * 2 ^ e < x) k a) (subst (λ (x : ℕ). 2 ^ 52 * 2 ^ suc e ≤ x) (sym q) m))
  where
    no : {a : ℕ} → a < a → ⊥
    no p = omega arith

low-high : (t t' e' : ℕ) → t < 2 ^ 52 → t ≡ (2 ^ 52 + t') * 2 ^ e' → ⊥
low-high t t' e' h q =
    let g : 2 ^ 52 ≤ 2 ^ 52 + t' = omega arith in
    let p : 1 ≤ 2 ^ e' = pow_pos e' in
    let m : 2 ^ 52 * 1 ≤ (2 ^ 52 + t') * 2 ^ e' = mul-le-mul g p in
    omega arith

pub units-one : (b b' : ℕ) → b < 2 ^ 63 → b' < 2 ^ 63 → units b ≡ units b' → b ≡ b'
units-one b b' h h' q = by-eq e 0 (λ z. by-eq e' 0 (none z) (λ (n : e' ≡ 0 → ⊥). absurd (low-high t t' (e' - 1) (omega arith) (sym (units-low b z) ∙ q ∙ units-high b' e' refl (omega arith))))) (λ (n : e ≡ 0 → ⊥). by-eq e' 0 (λ z. absurd (low-high t' t (e - 1) (omega arith) (sym (units-low b' z) ∙ sym q ∙ units-high b e refl (omega arith)))) (some n))
  where
    e : ℕ
    e = b / 2 ^ 52 % 2 ^ 11

    e' : ℕ
    e' = b' / 2 ^ 52 % 2 ^ 11

    t : ℕ
    t = b % 2 ^ 52

    t' : ℕ
    t' = b' % 2 ^ 52

    none : b / 2 ^ 52 % 2 ^ 11 ≡ 0 → b' / 2 ^ 52 % 2 ^ 11 ≡ 0 → b ≡ b'
    none z z' = let r : b % 2 ^ 52 ≡ b' % 2 ^ 52 = sym (units-low b z) ∙ q ∙ units-low b' z' in omega arith

    some : (b / 2 ^ 52 % 2 ^ 11 ≡ 0 → ⊥) → (b' / 2 ^ 52 % 2 ^ 11 ≡ 0 → ⊥) → b ≡ b'
    some n n' =
        let x : ℕ = b / 2 ^ 52 % 2 ^ 11 in
        let y : ℕ = b' / 2 ^ 52 % 2 ^ 11 in
        let r : (2 ^ 52 + b % 2 ^ 52) * 2 ^ (x - 1) ≡ (2 ^ 52 + b' % 2 ^ 52) * 2 ^ (y - 1) = sym (units-high b x refl (omega arith)) ∙ q ∙ units-high b' y refl (omega arith) in
        by_le (y - 1) (x - 1)
        (λ (k : y - 1 ≤ x - 1). by_le (x - 1) (y - 1)
        (λ (j : x - 1 ≤ y - 1).
        let z : x - 1 ≡ y - 1 = omega arith in
        let w : 2 ^ 52 + b % 2 ^ 52 ≡ 2 ^ 52 + b' % 2 ^ 52 = eq_of_mul-eq-mul_right (2 ^ (x - 1)) (pow_pos (x - 1)) (2 ^ 52 + b % 2 ^ 52) (2 ^ 52 + b' % 2 ^ 52) (r ∙ ap (λ (i : ℕ). (2 ^ 52 + b' % 2 ^ 52) * 2 ^ i) (sym z)) in
        omega arith)
        (λ (j : y - 1 < x - 1). absurd (same-high (b' % 2 ^ 52) (b % 2 ^ 52) (y - 1) (x - 1) (omega arith) (omega arith) (sym r) j)))
        (λ (k : x - 1 < y - 1). absurd (same-high (b % 2 ^ 52) (b' % 2 ^ 52) (x - 1) (y - 1) (omega arith) (omega arith) r k))

pub exact_one : (n : ℕ) (x y : Float) → T (fits binary64 x) → T (fits binary64 y) → Exactly n x → Exactly n y → x ≡ y
exact_one n x y f g w v =
    sym (of_bits-to_bits binary64 x f)
    ∙ ap (of_bits binary64) (units-one (to_bits binary64 x) (to_bits binary64 y) w.plain v.plain (w.exact ∙ sym v.exact))
    ∙ of_bits-to_bits binary64 y g
