-- The values of digits and escapes, by what the code tests.
use Prim.Native.Nat.{ℕ, ◌+◌, ◌-◌, ◌%◌, ◌≤◌, ◌<◌}
use native.Mathlib.Omega.{arith}
use mathlib.Core.Path.{◌≡◌, sym, ap, ◌∙◌}
use mathlib.Core.Bool.{true, false}
use borrow.Author.Tests.{le-leb, lt-leb, ne_eqb, ltb-true, ltb-false}
use Rattle.base.specs.Choice.{among}
use Rattle.base.proofs.Cases.{by_bool, picked, unpicked, among-true, among_in, among-low, among-high}
use Rattle.model.specs.Octets.{is_digit, hexval, octval, find, escape}
use Rattle.octets.specs.Classes.{Class}
use Rattle.octets.specs.Values.{Value}
use Rattle.std.specs.Prelude.{Some, None}

-- ---- escapes

pub escape-arm : (k : ℕ) (e : ℕ) → e ≡ k → escape k ≡ escape e
escape-arm k e h = ap escape (sym h)

pub escape-none : (e : ℕ) → (e ≡ 98 → ⊥) → (e ≡ 116 → ⊥) → (e ≡ 118 → ⊥) → (e ≡ 110 → ⊥) → (e ≡ 102 → ⊥) → (e ≡ 114 → ⊥) → (e ≡ 34 → ⊥) → (e ≡ 39 → ⊥) → (e ≡ 92 → ⊥) → (e ≡ 97 → ⊥) → (e ≡ 63 → ⊥) → Value 256 (escape e) None
unfolding escape find
escape-none e b t v n f r q a s l m =
    sym
    (unpicked _ _ (ne_eqb e 98 b)
    ∙ unpicked _ _ (ne_eqb e 116 t)
    ∙ unpicked _ _ (ne_eqb e 118 v)
    ∙ unpicked _ _ (ne_eqb e 110 n)
    ∙ unpicked _ _ (ne_eqb e 102 f)
    ∙ unpicked _ _ (ne_eqb e 114 r)
    ∙ unpicked _ _ (ne_eqb e 34 q)
    ∙ unpicked _ _ (ne_eqb e 39 a)
    ∙ unpicked _ _ (ne_eqb e 92 s)
    ∙ unpicked _ _ (ne_eqb e 97 l)
    ∙ unpicked _ _ (ne_eqb e 63 m))

-- ---- octal digits

pub octal-low : (b : ℕ) → b < 48 → Value 8 (octval b) None
unfolding octval
octal-low b h = sym (unpicked _ _ (among-low 48 55 b h))

pub octal-high : (b : ℕ) → 55 < b → Value 8 (octval b) None
unfolding octval
octal-high b h = sym (unpicked _ _ (among-high 48 55 b h))

pub octal-in : (b : ℕ) → 48 ≤ b → b ≤ 55 → Value 8 (octval b) (Some (b - 48))
unfolding octval
octal-in b h k = (sym (picked _ _ (among_in 48 55 b h k)), omega arith)

-- ---- hexadecimal digits, by the class

pub hex-none : (b c : ℕ) → Class b c → c < 17 → Value 16 (hexval b) None
unfolding hexval
hex-none b c k h =
    let n : 16 ≤ hexval b = ltb-false (hexval b) 16 (k.hexdig ∙ lt-leb 17 c h) in
    by_bool (among 48 57 b)
    (λ t. let v : hexval b ≡ b - 48 = picked _ _ t in absurd (omega (arith, among-true 48 57 b t)))
    (λ t. by_bool (among 65 70 b)
    (λ u. let v : hexval b ≡ b - 55 = unpicked _ _ t ∙ picked _ _ u in absurd (omega (arith, among-true 65 70 b u)))
    (λ u. by_bool (among 97 102 b)
    (λ w. let v : hexval b ≡ b - 87 = unpicked _ _ t ∙ unpicked _ _ u ∙ picked _ _ w in absurd (omega (arith, among-true 97 102 b w)))
    (λ w. sym (unpicked _ _ t ∙ unpicked _ _ u ∙ unpicked _ _ w))))

-- the value v of an octet of a digit's class
valued : (b c v : ℕ) → Class b c → 17 ≤ c → v ≡ hexval b → Value 16 (hexval b) (Some v)
valued b c v k h e = (e, omega (arith, ltb-true (hexval b) 16 (k.hexdig ∙ le-leb 17 c h)))

pub hex-letter : (b c : ℕ) → Class b c → c ≡ 17 → Value 16 (hexval b) (Some (b % 32 + 9))
unfolding hexval
hex-letter b c k e =
    let n : hexval b < 16 = ltb-true (hexval b) 16 (k.hexdig ∙ le-leb 17 c (omega arith)) in
    let t : is_digit b ≡ false = k.digit ∙ lt-leb 18 c (omega arith) in
    valued b c _ k (omega arith)
    (by_bool (among 65 70 b)
    (λ u. let v : hexval b ≡ b - 55 = unpicked _ _ t ∙ picked _ _ u in omega (arith, among-true 65 70 b u))
    (λ u. by_bool (among 97 102 b)
    (λ w. let v : hexval b ≡ b - 87 = unpicked _ _ t ∙ unpicked _ _ u ∙ picked _ _ w in omega (arith, among-true 97 102 b w))
    (λ w. let v : hexval b ≡ 16 = unpicked _ _ t ∙ unpicked _ _ u ∙ unpicked _ _ w in absurd (omega arith))))

hex-is-digit : (b c : ℕ) → Class b c → 17 ≤ c → (c ≡ 17 → ⊥) → is_digit b ≡ true
hex-is-digit b c k h n = k.digit ∙ le-leb 18 c (omega arith)

pub hex-digit : (b c : ℕ) → Class b c → 17 ≤ c → (c ≡ 17 → ⊥) → Value 16 (hexval b) (Some (b - 48))
unfolding hexval
hex-digit b c k h n = valued b c _ k h (sym (picked _ _ (hex-is-digit b c k h n)))

pub hex-digit-low : (b c : ℕ) → Class b c → 17 ≤ c → (c ≡ 17 → ⊥) → 48 ≤ b
hex-digit-low b c k h n = (among-true 48 57 b (hex-is-digit b c k h n)).0
