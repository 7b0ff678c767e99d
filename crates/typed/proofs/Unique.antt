-- A value has one list of octets, and octets that are read are written back.
use Prim.Native.Nat.{ℕ, suc, ◌+◌, ◌-◌, ◌*◌, ◌^◌, ◌≤◌, ◌<◌}
use native.Mathlib.Omega.{arith}
use native.Mathlib.Nat.{pow-succ', lt_of_lt_of_le, le_trans, mul-le-mul_right, mul_assoc, mul-one}
use mathlib.Core.Path.{◌≡◌, refl, sym, ap, ◌∙◌, subst}
use mathlib.Core.Bool.{Bool, true, false, not, ◌&&◌}
use mathlib.Core.List.{List, [], ◌∷◌, map}
use lib.Dec.{T, leb, eqb, ltb}
use lib.IntN.{ℤ, pos, pos-ne-negsuc}
use lib.ListN.{length}
use borrow.Author.Tests.{lt-ltb, le-leb, eq-eqb, ne_eqb, leb-true}
use Rattle.typed.specs.Octets.{be, octets, turned, signed, shortest}
use Rattle.typed.specs.Typed.{whole_of}
use Rattle.typed.proofs.Wide.{joined}
use Rattle.typed.specs.declared.Value.TheVariants.{Whole}
use Rattle.std.specs.Prelude.{Some, None}
use Rattle.typed.proofs.Base.{by_le, by-eq, by_bool, pick_yes, pick_no}
use Rattle.typed.proofs.Digits.{octets-head, octets-rest, be-lt}
use Rattle.typed.proofs.Wholly.{turned-octets, length-turned}
use Rattle.typed.proofs.Wide.{scaled, longer}
use Rattle.typed.proofs.Floats.{be-inj}
use Rattle.typed.proofs.Shorten.{turned-back, signed_by}

off : false ≡ true → ⊥
off e = subst T (sym e) tt

-- ---- what reading a whole number says

pub record Says (z : ℤ) (o : List ℕ) : Type 0 where
  pub few : length o ≤ 8
  pub short : shortest o ≡ true
  pub value : signed o ≡ z

pub whole_says : (z : ℤ) (o : List ℕ) → whole_of o ≡ Some (Whole z) → Says z o
unfolding whole_of
whole_says z o e = by_bool (leb (length o) 8 && shortest o) yes' no'
  where
    yes' : (leb (length o) 8 && shortest o) ≡ true → Says z o
    yes' t = by_bool (leb (length o) 8)
        (λ (p : leb (length o) 8 ≡ true).
        let q : Some (Whole (signed o)) ≡ Some (Whole z) = sym (pick_yes (leb (length o) 8 && shortest o) (Some (Whole (signed o))) None t) ∙ e in
        record { few = leb-true (length o) 8 p; short = ap (λ (b : Bool). b && shortest o) (sym p) ∙ t; value = cc })
        (λ (p : leb (length o) 8 ≡ false). absurd (off (ap (λ (b : Bool). b && shortest o) (sym p) ∙ t)))

    no' : (leb (length o) 8 && shortest o) ≡ false → Says z o
    no' t = absurd (never (sym (pick_no (leb (length o) 8 && shortest o) (Some (Whole (signed o))) None t) ∙ e))
      where
        never : None ≡ Some (Whole z) → ⊥
        never w = let y : ◌≡◌ {A = ℕ} 0 1 = cc in omega arith

-- ---- the magnitude, between its bounds

be-ge : (a : ℕ) (l : List ℕ) → a * 256 ^ length l ≤ be a l
unfolding be
be-ge a [] = let w : a * 1 ≡ a = mul-one a in omega arith
be-ge a (b ∷ l) =
    let p : a * 256 ^ suc (length l) ≡ a * 256 * 256 ^ length l = ap (λ (x : ℕ). a * x) (pow-succ' 256 (length l)) ∙ sym (mul_assoc a 256 (256 ^ length l)) in
    le_trans (subst (λ (x : ℕ). x ≤ (a * 256 + b) * 256 ^ length l) (sym p) (mul-le-mul_right (256 ^ length l) (omega arith))) (be-ge (a * 256 + b) l)

two-false : (b c : ℕ) (l : List ℕ) → shortest (b ∷ c ∷ l) ≡ true → 128 ≤ b * 256 + c
unfolding shortest
two-false b c l s = by_le 128 (b * 256 + c) (λ p. p) (λ (p : b * 256 + c < 128).
    let z : b ≡ 0 = omega arith in
    let x : eqb b 0 ≡ true = eq-eqb b 0 z in
    let y : ltb c 128 ≡ true = lt-ltb c 128 (omega arith) in
    absurd (off (sym (ap (λ (t : Bool). not (t && ltb c 128) && not (eqb b 255 && leb 128 c)) x ∙ ap (λ (t : Bool). not t && not (eqb b 255 && leb 128 c)) y) ∙ s)))

two-true : (b c : ℕ) (l : List ℕ) → shortest (b ∷ c ∷ l) ≡ true → b < 256 → c < 256 → 128 ≤ (255 - b) * 256 + (255 - c)
unfolding shortest
two-true b c l s hb hc = by_le 128 ((255 - b) * 256 + (255 - c)) (λ p. p) (λ (p : (255 - b) * 256 + (255 - c) < 128).
    let z : b ≡ 255 = omega arith in
    let w : eqb b 0 ≡ false = ne_eqb b 0 (λ (e : b ≡ 0). omega arith) in
    let x : eqb b 255 ≡ true = eq-eqb b 255 z in
    let y : leb 128 c ≡ true = le-leb 128 c (omega arith) in
    absurd (off (sym (ap (λ (t : Bool). not (t && ltb c 128) && not (eqb b 255 && leb 128 c)) w ∙ ap (λ (t : Bool). not (t && leb 128 c)) x ∙ ap not y) ∙ s)))

two : (t : Bool) (b c : ℕ) (l : List ℕ) → shortest (b ∷ c ∷ l) ≡ true → b < 256 → c < 256 → 128 ≤ turned t b * 256 + turned t c
two false b c l s hb hc = two-false b c l s
two true b c l s hb hc = two-true b c l s hb hc

pub record Sized (t : Bool) (k m : ℕ) : Type 0 where
  pub enough : m < 128 * 256 ^ k
  pub needed : 0 < k → 128 * 256 ^ (k - 1) ≤ m
  pub some : t ≡ false → 0 < m

pub enough-of : (t : Bool) (b : ℕ) (l : List ℕ) → T (octets (b ∷ l)) → turned t b < 128 → be 0 (map (turned t) (b ∷ l)) < 128 * 256 ^ length l
unfolding be
enough-of t b l o h =
    let r : List ℕ = map (turned t) l in
    let z : 0 * 256 + turned t b ≡ turned t b = omega arith in
    let q : turned t b + 1 ≤ 128 = omega arith in
    let w : be (turned t b) r < (turned t b + 1) * 256 ^ length r = be-lt (turned t b) r (turned-octets t l (octets-rest b l o)) in
    subst (λ (n : ℕ). be (0 * 256 + turned t b) r < 128 * 256 ^ n) (length-turned t l) (subst (λ (x : ℕ). be x r < 128 * 256 ^ length r) (sym z) (lt_of_lt_of_le w (mul-le-mul_right (256 ^ length r) q)))

needed_of : (t : Bool) (b : ℕ) (l : List ℕ) → T (octets (b ∷ l)) → shortest (b ∷ l) ≡ true → 0 < length l → 128 * 256 ^ (length l - 1) ≤ be 0 (map (turned t) (b ∷ l))
unfolding be
needed_of t b [] o s h = absurd (no h)
  where
    no : 0 < 0 → ⊥
    no p = omega arith
needed_of t b (c ∷ l) o s h =
    let r : List ℕ = map (turned t) l in
    let d : 128 ≤ turned t b * 256 + turned t c = two t b c l s (octets-head b (c ∷ l) o) (octets-head c l (octets-rest b (c ∷ l) o)) in
    let d' : 128 ≤ (0 * 256 + turned t b) * 256 + turned t c = omega arith in
    let e : suc (length l) - 1 ≡ length r = (let w : length r ≡ length l = length-turned t l in omega arith) in
    subst (λ (n : ℕ). 128 * 256 ^ n ≤ be ((0 * 256 + turned t b) * 256 + turned t c) r) (sym e)
    (le_trans (mul-le-mul_right (256 ^ length r) d') (be-ge ((0 * 256 + turned t b) * 256 + turned t c) r))

some_of : (b : ℕ) (l : List ℕ) → shortest (b ∷ l) ≡ true → (0 < length l → 128 * 256 ^ (length l - 1) ≤ be 0 (map (turned false) (b ∷ l))) → 0 < be 0 (map (turned false) (b ∷ l))
unfolding be shortest
some_of b [] s n = by-eq b 0
    (λ (z : b ≡ 0). absurd (off (sym (ap not (eq-eqb b 0 z)) ∙ s)))
    (λ (z : b ≡ 0 → ⊥). omega arith)
some_of b (c ∷ l) s n = lt_of_lt_of_le (scaled (length (c ∷ l) - 1)) (n (omega arith))

pub sized : (t : Bool) (b : ℕ) (l : List ℕ) → T (octets (b ∷ l)) → shortest (b ∷ l) ≡ true → turned t b < 128 → Sized t (length l) (be 0 (map (turned t) (b ∷ l)))
sized t b l o s h = record {
  enough = enough-of t b l o h;
  needed = needed_of t b l o s;
  some = λ e. subst (λ (u : Bool). 0 < be 0 (map (turned u) (b ∷ l))) (sym e) (some_of b l s (needed_of false b l o s));
}

signed-none : signed [] ≡ pos 0
unfolding signed
signed-none = refl

pub sign : (b : ℕ) → b < 256 → (t : Bool) × (turned t b < 128)
sign b h = by_le 128 b (λ (p : 128 ≤ b). (true, omega arith)) (λ (p : b < 128). (false, p))

joined_same : (t t' : Bool) (m m' : ℕ) → joined t m ≡ joined t' m' → (t ≡ t') × (m ≡ m')
joined_same true true m m' e = (refl, cc)
joined_same true false m m' e = absurd (pos-ne-negsuc m' m (sym e))
joined_same false true m m' e = absurd (pos-ne-negsuc m m' e)
joined_same false false m m' e = (refl, cc)

not-zero : (z : ℤ) (b : ℕ) (l : List ℕ) → T (octets (b ∷ l)) → Says z (b ∷ l) → z ≡ pos 0 → ⊥
not-zero z b l o w e =
    let s = sign b (octets-head b l o) in
    let k : Sized s.0 (length l) (be 0 (map (turned s.0) (b ∷ l))) = sized s.0 b l o w.short s.1 in
    let j : (s.0 ≡ false) × (be 0 (map (turned s.0) (b ∷ l)) ≡ 0) = joined_same s.0 false (be 0 (map (turned s.0) (b ∷ l))) 0 (sym (signed_by s.0 b l o s.1) ∙ w.value ∙ e) in
    let p : 0 < be 0 (map (turned s.0) (b ∷ l)) = k.some j.0 in
    let q : be 0 (map (turned s.0) (b ∷ l)) ≡ 0 = j.1 in
    omega arith

pub whole-one : (z : ℤ) (o o' : List ℕ) → T (octets o) → T (octets o') → whole_of o ≡ Some (Whole z) → whole_of o' ≡ Some (Whole z) → o ≡ o'
whole-one z o o' t t' e e' = by o o' t t' (whole_says z o e) (whole_says z o' e')
  where
    by : (o o' : List ℕ) → T (octets o) → T (octets o') → Says z o → Says z o' → o ≡ o'
    by [] [] t t' w w' = refl
    by [] (b ∷ l) t t' w w' = absurd (not-zero z b l t' w' (sym w.value ∙ signed-none))
    by (b ∷ l) [] t t' w w' = absurd (not-zero z b l t w (sym w'.value ∙ signed-none))
    by (b ∷ l) (b' ∷ l') t t' w w' =
        let s = sign b (octets-head b l t) in
        let s' = sign b' (octets-head b' l' t') in
        let m : ℕ = be 0 (map (turned s.0) (b ∷ l)) in
        let m' : ℕ = be 0 (map (turned s'.0) (b' ∷ l')) in
        let k : Sized s.0 (length l) m = sized s.0 b l t w.short s.1 in
        let k' : Sized s'.0 (length l') m' = sized s'.0 b' l' t' w'.short s'.1 in
        let j : (s.0 ≡ s'.0) × (m ≡ m') = joined_same s.0 s'.0 m m' (sym (signed_by s.0 b l t s.1) ∙ w.value ∙ sym w'.value ∙ signed_by s'.0 b' l' t' s'.1) in
        let a : length l' ≤ length l = longer (length l) (length l') m k.enough (subst (λ (x : ℕ). 0 < length l' → 128 * 256 ^ (length l' - 1) ≤ x) (sym j.1) k'.needed) in
        let c : length l ≤ length l' = longer (length l') (length l) m (subst (λ (x : ℕ). x < 128 * 256 ^ length l') (sym j.1) k'.enough) k.needed in
        let n : length l ≡ length l' = omega arith in
        let u : Bool = s.0 in
        let r : map (turned u) (b ∷ l) ≡ map (turned u) (b' ∷ l') =
        be-inj (map (turned u) (b ∷ l)) (map (turned u) (b' ∷ l')) (turned-octets u (b ∷ l) t) (turned-octets u (b' ∷ l') t') (length-turned u (b ∷ l) ∙ ap suc n ∙ sym (length-turned u (b' ∷ l')))
        (j.1 ∙ ap (λ (v : Bool). be 0 (map (turned v) (b' ∷ l'))) (sym j.0)) in
        sym (turned-back u (b ∷ l) t) ∙ ap (map (turned u)) r ∙ turned-back u (b' ∷ l') t'

-- ---- the shortest octets are the shortest of those that stand for the number

pub shortest-least : (o o' : List ℕ) → T (octets o) → T (octets o') → shortest o ≡ true → signed o ≡ signed o' → length o ≤ length o'
shortest-least [] o' t t' s e = omega arith
shortest-least (b ∷ l) [] t t' s e = absurd (not-zero' (e ∙ signed-none))
  where
    not-zero' : signed (b ∷ l) ≡ pos 0 → ⊥
    not-zero' z =
        let g = sign b (octets-head b l t) in
        let k : Sized g.0 (length l) (be 0 (map (turned g.0) (b ∷ l))) = sized g.0 b l t s g.1 in
        let j : (g.0 ≡ false) × (be 0 (map (turned g.0) (b ∷ l)) ≡ 0) = joined_same g.0 false (be 0 (map (turned g.0) (b ∷ l))) 0 (sym (signed_by g.0 b l t g.1) ∙ z) in
        let p : 0 < be 0 (map (turned g.0) (b ∷ l)) = k.some j.0 in
        let q : be 0 (map (turned g.0) (b ∷ l)) ≡ 0 = j.1 in
        omega arith
shortest-least (b ∷ l) (b' ∷ l') t t' s e =
    let g = sign b (octets-head b l t) in
    let g' = sign b' (octets-head b' l' t') in
    let m : ℕ = be 0 (map (turned g.0) (b ∷ l)) in
    let m' : ℕ = be 0 (map (turned g'.0) (b' ∷ l')) in
    let k : Sized g.0 (length l) m = sized g.0 b l t s g.1 in
    let j : (g.0 ≡ g'.0) × (m ≡ m') = joined_same g.0 g'.0 m m' (sym (signed_by g.0 b l t g.1) ∙ e ∙ signed_by g'.0 b' l' t' g'.1) in
    let n : length l ≤ length l' = longer (length l') (length l) m (subst (λ (x : ℕ). x < 128 * 256 ^ length l') (sym j.1) (enough-of g'.0 b' l' t' g'.1)) k.needed in
    omega arith
