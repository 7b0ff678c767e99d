-- The quarters of a pattern.
use Prim.Native.Nat.{ℕ, ◌+◌, ◌-◌, ◌*◌, ◌/◌, ◌%◌, ◌^◌, ◌≤◌, ◌<◌}
use native.Mathlib.Omega.{arith}
use native.Mathlib.Nat.{mod-eq_of_lt, mul-div-mul_right, le-div_iff_mul-le, div-add-mod', mul-pos, mul-lt-mul_of_pos_right, mul-le-mul, mul-le-mul_left, lt_of_lt_of_le, le_trans, mod-lt, mul-mod_left, mul-div_left, mul_assoc, eq_of_mul-eq-mul_right, lt_of_le_of_lt, div-mul-le_self}
use mathlib.Core.Path.{◌≡◌, refl, sym, ap, ◌∙◌, subst}
use mathlib.Core.Bool.{Bool, true, false, ◌&&◌}
use lib.Dec.{T, leb, ltb, eqb, lit<, lit≤, eqb→eq, leb→le, ltb→lt}
use lib.Ieee.Fits.{and_l, and_r}
use lib.Pow.{pow-add, pow_pos, pow_mono}
use borrow.Author.Tests.{lt-ltb, le-ltb, le-leb, lt-leb, eq-eqb, ne_eqb}
use Rattle.base.specs.Choice.{pick}
use Rattle.typed.specs.Quarters.{units, count_of}
use Rattle.std.specs.Prelude.{Some, None}
use Rattle.typed.proofs.Base.{by_le, by-eq, by_bool, pick_yes, pick_no, and_yes, and-no-l, and-no-r}

-- ---- the count, from its three tests

unfoldable plain? : ℕ → Bool
plain? b = ltb b (2 ^ 63)

unfoldable even? : ℕ → Bool
even? b = eqb (units b % 2 ^ 1072) 0

unfoldable few? : ℕ → Bool
few? b = leb (units b / 2 ^ 1072) 96

few-is : (b : ℕ) → T (few? b) → units b / 2 ^ 1072 ≤ 96
unfolding few?
few-is b t = leb→le (units b / 2 ^ 1072) 96 t

module _ (b : ℕ) where
  by_tests : count_of b ≡ pick (plain? b && even? b && few? b) (Some (units b / 2 ^ 1072)) None
  unfolding count_of plain? even? few?
  by_tests = refl

  no : (plain? b && even? b && few? b) ≡ false → None ≡ count_of b
  no e = sym (by_tests ∙ pick_no (plain? b && even? b && few? b) (Some (units b / 2 ^ 1072)) None e)

  signed_no : 2 ^ 63 ≤ b → None ≡ count_of b
  unfolding plain?
  signed_no h = no (and-no-l (plain? b && even? b) (few? b) (and-no-l (plain? b) (even? b) (le-ltb b (2 ^ 63) h)))

  uneven-no : (units b % 2 ^ 1072 ≡ 0 → ⊥) → None ≡ count_of b
  unfolding even?
  uneven-no h = no (and-no-l (plain? b && even? b) (few? b) (and-no-r (plain? b) (even? b) (ne_eqb (units b % 2 ^ 1072) 0 h)))

  many-no : 96 < units b / 2 ^ 1072 → None ≡ count_of b
  unfolding few?
  many-no h = no (and-no-r (plain? b && even? b) (few? b) (lt-leb (units b / 2 ^ 1072) 96 h))

  all_yes : (q : ℕ) → b < 2 ^ 63 → units b % 2 ^ 1072 ≡ 0 → q ≤ 96 → units b / 2 ^ 1072 ≡ q → Some q ≡ count_of b
  unfolding plain? even? few?
  all_yes q h z l e =
      ap (λ (x : ℕ). Some x) (sym e)
      ∙ sym (by_tests ∙ pick_yes (plain? b && even? b && few? b) (Some (units b / 2 ^ 1072)) None
      (and_yes (plain? b && even? b) (few? b) (and_yes (plain? b) (even? b) (lt-ltb b (2 ^ 63) h) (eq-eqb (units b % 2 ^ 1072) 0 z)) (le-leb (units b / 2 ^ 1072) 96 (subst (λ (n : ℕ). n ≤ 96) (sym e) l))))

  -- ---- the units, by the exponent's field
  pub units-low : b / 2 ^ 52 % 2 ^ 11 ≡ 0 → units b ≡ b % 2 ^ 52
  unfolding units
  units-low z = pick_yes _ _ _ (eq-eqb _ 0 z)

  pub units-high : (e : ℕ) → b / 2 ^ 52 % 2 ^ 11 ≡ e → 0 < e → units b ≡ (2 ^ 52 + b % 2 ^ 52) * 2 ^ (e - 1)
  unfolding units
  units-high e z p = pick_no _ _ _ (ne_eqb _ 0 (λ (w : b / 2 ^ 52 % 2 ^ 11 ≡ 0). omega arith)) ∙ ap (λ (x : ℕ). (2 ^ 52 + b % 2 ^ 52) * 2 ^ (x - 1)) z

small : (u : ℕ) {p : ℕ} → 0 < u → u < p → u % p ≡ 0 → ⊥
small u {p} h l e = let m : u % p ≡ u = mod-eq_of_lt l in omega arith

pub count-zero : (b : ℕ) → b ≡ 0 → Some 0 ≡ count_of b
unfolding count_of units
count-zero b e = rw e

pub count_low : (b : ℕ) → (b ≡ 0 → ⊥) → b / 4503599627370496 < 1021 → None ≡ count_of b
count_low b z h = by-eq (b / 4503599627370496) 0 none some
  where
    none : b / 4503599627370496 ≡ 0 → None ≡ count_of b
    none e =
        let u : units b ≡ b % 2 ^ 52 = units-low b (omega arith) in
        uneven-no b (small (units b) (omega arith) (lt_of_lt_of_le (subst (λ (n : ℕ). n < 2 ^ 52) (sym u) (mod-lt b (lit< tt))) (lit≤ tt)))

    some : (b / 4503599627370496 ≡ 0 → ⊥) → None ≡ count_of b
    some n =
        let e = b / 4503599627370496 in
        let u : units b ≡ (2 ^ 52 + b % 2 ^ 52) * 2 ^ (e - 1) = units-high b e (omega arith) (omega arith) in
        let l : (2 ^ 52 + b % 2 ^ 52) * 2 ^ (e - 1) < 2 ^ 53 * 2 ^ (e - 1) = mul-lt-mul_of_pos_right (omega arith) (pow_pos (e - 1)) in
        let f : e - 1 ≤ 1019 = omega arith in
        let k : 2 ^ 53 * 2 ^ (e - 1) ≤ 2 ^ 53 * 2 ^ 1019 = mul-le-mul_left (2 ^ 53) (pow_mono f) in
        uneven-no b (small (units b) (subst (λ (n : ℕ). 0 < n) (sym u) (mul-pos (omega arith) (pow_pos (e - 1)))) (subst (λ (n : ℕ). n < 2 ^ 1072) (sym u) (lt_of_lt_of_le l (le_trans k (lit≤ tt)))))

pub count-high : (b : ℕ) → b < 2 ^ 64 → 1027 < b / 4503599627370496 → None ≡ count_of b
count-high b f h = by_le (2 ^ 63) b (signed_no b) plain
  where
    plain : b < 2 ^ 63 → None ≡ count_of b
    plain p =
        let e = b / 4503599627370496 in
        let u : units b ≡ (2 ^ 52 + b % 2 ^ 52) * 2 ^ (e - 1) = units-high b e (omega arith) (omega arith) in
        let f : 1027 ≤ e - 1 = omega arith in
        let g : 2 ^ 52 ≤ 2 ^ 52 + b % 2 ^ 52 = omega arith in
        let k : 2 ^ 52 * 2 ^ 1027 ≤ (2 ^ 52 + b % 2 ^ 52) * 2 ^ (e - 1) = mul-le-mul g (pow_mono f) in
        many-no b ((le-div_iff_mul-le (pow_pos 1072)).1 (subst (λ (n : ℕ). 97 * 2 ^ 1072 ≤ n) (sym u) (le_trans (lit≤ tt) k)))

-- ---- between: the units are m of 2 ^ (e - 1), and a quarter is 2 ^ k of them

module _ (b e m k : ℕ) (he : e ≡ b / 4503599627370496) (lo : 1021 ≤ e) (hi : e ≤ 1027) (hm : m ≡ 4503599627370496 + b % 4503599627370496) (hk : k ≡ 1073 - e) where
  plain : b < 2 ^ 63
  plain = omega arith

  is : units b ≡ m * 2 ^ (e - 1)
  is = units-high b e (omega arith) (omega arith) ∙ ap (λ (n : ℕ). n * 2 ^ (e - 1)) (sym hm)

  quarter : 2 ^ 1072 ≡ 2 ^ k * 2 ^ (e - 1)
  quarter = let s : 1072 ≡ k + (e - 1) = omega arith in ap (λ (n : ℕ). 2 ^ n) s ∙ pow-add 2 k (e - 1)

  over : units b / 2 ^ 1072 ≡ m / 2 ^ k
  over = ap (λ (n : ℕ). n / 2 ^ 1072) is ∙ ap (λ (n : ℕ). m * 2 ^ (e - 1) / n) quarter ∙ mul-div-mul_right m (2 ^ k) (pow_pos (e - 1))

  pub count-many : 96 < m / 2 ^ k → None ≡ count_of b
  count-many h = many-no b (subst (λ (n : ℕ). 96 < n) (sym over) h)

  shifted : m / 2 ^ k * 2 ^ k % 2 ^ 64 ≡ m / 2 ^ k * 2 ^ k
  shifted = mod-eq_of_lt (lt_of_le_of_lt (div-mul-le_self m (2 ^ k)) (omega arith))

  -- what the quarters leave of the units
  parts : m / 2 ^ k * 2 ^ 1072 + units b % 2 ^ 1072 ≡ units b
  parts = ap (λ (n : ℕ). n * 2 ^ 1072 + units b % 2 ^ 1072) (sym over) ∙ div-add-mod' (units b) (2 ^ 1072)

  regrouped : m / 2 ^ k * 2 ^ 1072 ≡ m / 2 ^ k * 2 ^ k * 2 ^ (e - 1)
  regrouped = ap (λ (n : ℕ). m / 2 ^ k * n) quarter ∙ sym (mul_assoc (m / 2 ^ k) (2 ^ k) (2 ^ (e - 1)))

  pub count-uneven : (m / 2 ^ k * 2 ^ k % 2 ^ 64 ≡ m → ⊥) → None ≡ count_of b
  count-uneven h = uneven-no b (λ z. h (shifted ∙ eq_of_mul-eq-mul_right (2 ^ (e - 1)) (pow_pos (e - 1)) (m / 2 ^ k * 2 ^ k) m (sym regrouped ∙ whole (m / 2 ^ k * 2 ^ 1072) (units b % 2 ^ 1072) (units b) z parts ∙ is)))
    where
      whole : (a r u : ℕ) → r ≡ 0 → a + r ≡ u → a ≡ u
      whole a r u z e = omega arith

  pub count-even : m / 2 ^ k ≤ 96 → m / 2 ^ k * 2 ^ k % 2 ^ 64 ≡ m → Some (m / 2 ^ k) ≡ count_of b
  count-even l s = all_yes b (m / 2 ^ k) plain (none (m / 2 ^ k * 2 ^ 1072) (units b % 2 ^ 1072) (units b) parts (regrouped ∙ ap (λ (n : ℕ). n * 2 ^ (e - 1)) (sym shifted ∙ s) ∙ sym is)) l over
    where
      none : (a r u : ℕ) → a + r ≡ u → a ≡ u → r ≡ 0
      none a r u p q = omega arith

-- ---- a count is at most 96

pub count-few : (b q : ℕ) → count_of b ≡ Some q → q ≤ 96
count-few b q e = by_bool (plain? b && even? b && few? b) yes' no'
  where
    yes' : (plain? b && even? b && few? b) ≡ true → q ≤ 96
    yes' t =
        let c : Some (units b / 2 ^ 1072) ≡ Some q = sym (pick_yes (plain? b && even? b && few? b) (Some (units b / 2 ^ 1072)) None t) ∙ sym (by_tests b) ∙ e in
        let d : units b / 2 ^ 1072 ≡ q = cc in
        let f : T (few? b) = and_r (plain? b && even? b) (few? b) (subst T (sym t) tt) in
        subst (λ (n : ℕ). n ≤ 96) d (few-is b f)

    no' : (plain? b && even? b && few? b) ≡ false → q ≤ 96
    no' t =
        let c : None ≡ Some q = no b t ∙ e in
        let z : ◌≡◌ {A = ℕ} 0 1 = cc in
        omega arith

-- ---- the count, in words: q quarters exactly if the sign is clear, q is at most 96, and the units are q times a quarter's

pub count-is : (b q : ℕ) → b < 2 ^ 63 → q ≤ 96 → units b ≡ q * 2 ^ 1072 → count_of b ≡ Some q
count-is b q h l e =
    sym (all_yes b q h (ap (λ (x : ℕ). x % 2 ^ 1072) e ∙ mul-mod_left q (2 ^ 1072)) l (ap (λ (x : ℕ). x / 2 ^ 1072) e ∙ mul-div_left q (pow_pos 1072)))

pub record Counted (b q : ℕ) : Type 0 where
  pub plain : b < 2 ^ 63
  pub few : q ≤ 96
  pub exact : units b ≡ q * 2 ^ 1072

plain-is : (b : ℕ) → T (plain? b) → b < 2 ^ 63
unfolding plain?
plain-is b t = ltb→lt b (2 ^ 63) t

even_is : (b : ℕ) → T (even? b) → units b % 2 ^ 1072 ≡ 0
unfolding even?
even_is b t = eqb→eq (units b % 2 ^ 1072) 0 t

pub count-says : (b q : ℕ) → count_of b ≡ Some q → Counted b q
count-says b q e = by_bool (plain? b && even? b && few? b) yes' no'
  where
    add : (a r u : ℕ) → r ≡ 0 → a + r ≡ u → u ≡ a
    add a r u z p = omega arith

    yes' : (plain? b && even? b && few? b) ≡ true → Counted b q
    yes' t =
        let c : Some (units b / 2 ^ 1072) ≡ Some q = sym (pick_yes (plain? b && even? b && few? b) (Some (units b / 2 ^ 1072)) None t) ∙ sym (by_tests b) ∙ e in
        let d : units b / 2 ^ 1072 ≡ q = cc in
        let all : T (plain? b && even? b && few? b) = subst T (sym t) tt in
        let two : T (plain? b && even? b) = and_l (plain? b && even? b) (few? b) all in
        record {
          plain = plain-is b (and_l (plain? b) (even? b) two);
          few = count-few b q e;
          exact = add (units b / 2 ^ 1072 * 2 ^ 1072) (units b % 2 ^ 1072) (units b) (even_is b (and_r (plain? b) (even? b) two)) (div-add-mod' (units b) (2 ^ 1072)) ∙ ap (λ (x : ℕ). x * 2 ^ 1072) d;
        }

    no' : (plain? b && even? b && few? b) ≡ false → Counted b q
    no' t = absurd (never (no b t ∙ e))
      where
        never : None ≡ Some q → ⊥
        never w = let z : ◌≡◌ {A = ℕ} 0 1 = cc in omega arith
