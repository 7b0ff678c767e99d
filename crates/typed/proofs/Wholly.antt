-- Whole numbers from their octets.
use Prim.Native.Nat.{ℕ, zero, suc, ◌+◌, ◌-◌, ◌*◌, ◌^◌, ◌≤◌, ◌<◌}
use native.Mathlib.Omega.{arith}
use native.Mathlib.Nat.{pow-le-pow_right, lt_of_lt_of_le, mul-le-mul, one-mul}
use mathlib.Core.Path.{◌≡◌, refl, sym, ap, ◌∙◌, subst}
use mathlib.Core.Bool.{Bool, true, false, ◌&&◌, cond}
use mathlib.Core.List.{List, [], ◌∷◌, map}
use lib.Dec.{T, leb, ltb, lit<}
use lib.IntN.{ℤ, pos, negsuc}
use lib.ListN.{length, get_or}
use lib.Seq.{slice, length-slice}
use lib.Ieee.{minus}
use borrow.Author.Tests.{lt-ltb, le-ltb, le-leb, lt-leb}
use Rattle.base.specs.Choice.{pick}
use Rattle.typed.specs.Octets.{be, turned, octets, signed, shortest}
use Rattle.typed.specs.Typed.{whole_of}
use Rattle.typed.specs.declared.Value.TheVariants.{Whole}
use Rattle.std.specs.Prelude.{Some, None}
use Rattle.typed.proofs.Base.{pick_yes, pick_no, and_yes, and-no-l, and-no-r}
use Rattle.typed.proofs.Digits.{octets-known, octets-rest, octets-slice, be-lt, be-turned}
use Rattle.typed.proofs.Floating.{unturned}
use Rattle.typed.proofs.Shortly.{slice-none, slice_first}

module _ (o : List ℕ) where
  is : whole_of o ≡ pick (leb (length o) 8 && shortest o) (Some (Whole (signed o))) None
  unfolding whole_of
  is = refl

  pub whole_long : 8 < length o → None ≡ whole_of o
  whole_long h = sym (is ∙ pick_no (leb (length o) 8 && shortest o) (Some (Whole (signed o))) None (and-no-l (leb (length o) 8) (shortest o) (lt-leb (length o) 8 h)))

  pub whole-padded : shortest o ≡ false → None ≡ whole_of o
  whole-padded h = sym (is ∙ pick_no (leb (length o) 8 && shortest o) (Some (Whole (signed o))) None (and-no-r (leb (length o) 8) (shortest o) h))

  pub whole-made : length o ≤ 8 → shortest o ≡ true → Some (Whole (signed o)) ≡ whole_of o
  whole-made l h = sym (is ∙ pick_yes (leb (length o) 8 && shortest o) (Some (Whole (signed o))) None (and_yes (leb (length o) 8) (shortest o) (le-leb (length o) 8 l) h))

-- ---- the sign and the magnitude of octets

pub signed-plus : (b : ℕ) (l : List ℕ) → b < 128 → signed (b ∷ l) ≡ pos (be 0 (b ∷ l))
unfolding signed
signed-plus b l h = pick_yes (ltb b 128) (pos (be 0 (b ∷ l))) (minus (be 0 (b ∷ l)) (256 ^ length (b ∷ l))) (lt-ltb b 128 h)

minus-below : (u p m : ℕ) → m + u + 1 ≡ p → minus u p ≡ negsuc m
minus-below u p m e =
    let n : p - suc u ≡ m = omega arith in
    let f : leb p u ≡ false = lt-leb p u (omega arith) in
    ap (λ (t : Bool). cond t (pos (u - p)) (negsuc (p - suc u))) f ∙ ap negsuc n

pub signed-minus : (b : ℕ) (l : List ℕ) → T (octets (b ∷ l)) → 128 ≤ b → signed (b ∷ l) ≡ negsuc (be 0 (map (turned true) (b ∷ l)))
unfolding signed
signed-minus b l t h =
    pick_no (ltb b 128) (pos (be 0 (b ∷ l))) (minus (be 0 (b ∷ l)) (256 ^ length (b ∷ l))) (le-ltb b 128 h)
    ∙ minus-below (be 0 (b ∷ l)) (256 ^ length (b ∷ l)) (be 0 (map (turned true) (b ∷ l))) (be-turned 0 0 (b ∷ l) t ∙ one-mul (256 ^ length (b ∷ l)))

pub turned-octets : (t : Bool) (l : List ℕ) → T (octets l) → T (octets (map (turned t) l))
turned-octets true l h = octets-known (map (turned true) l) (small l h)
  where
    small : (l : List ℕ) → T (octets l) → (i : ℕ) → get_or (map (turned true) l) i 0 < 256
    small [] t i = lit< tt
    small (b ∷ l) t zero = omega arith
    small (b ∷ l) t (suc i) = small l (octets-rest b l t) i
turned-octets false l h = subst (λ (x : List ℕ). T (octets x)) (sym (unturned l)) h

pub length-turned : (t : Bool) (l : List ℕ) → length (map (turned t) l) ≡ length l
length-turned t [] = refl
length-turned t (b ∷ l) = ap suc (length-turned t l)

-- at most eight octets of which the first is below 128
pub half : (t : Bool) (b : ℕ) (l : List ℕ) → T (octets (b ∷ l)) → turned t b < 128 → length l ≤ 7 → be 0 (map (turned t) (b ∷ l)) < 2 ^ 63
unfolding be
half t b l o h k =
    let m : List ℕ = map (turned t) l in
    let w : be (turned t b) m < (turned t b + 1) * 256 ^ length m = be-lt (turned t b) m (turned-octets t l (octets-rest b l o)) in
    let j : length m ≤ 7 = subst (λ (x : ℕ). x ≤ 7) (sym (length-turned t l)) k in
    let p : 256 ^ length m ≤ 256 ^ 7 = pow-le-pow_right (lit< tt) j in
    let q : turned t b + 1 ≤ 128 = omega arith in
    let z : 0 * 256 + turned t b ≡ turned t b = omega arith in
    subst (λ (x : ℕ). be x m < 2 ^ 63) (sym z) (lt_of_lt_of_le w (mul-le-mul q p))

-- ---- of a part of the source

module _ (src : List ℕ) (s e : ℕ) (upto : e ≤ length src) where
  pub part-long : 8 < e - s → None ≡ whole_of (slice s e src)
  part-long h = whole_long (slice s e src) (subst (λ (n : ℕ). 8 < n) (sym (length-slice s e src upto)) h)

  pub part-padded : (r : Bool) → r ≡ shortest (slice s e src) → r ≡ false → None ≡ whole_of (slice s e src)
  part-padded r p q = whole-padded (slice s e src) (sym p ∙ q)

  module _ (few : e - s ≤ 8) (r : Bool) (p : r ≡ shortest (slice s e src)) (q : r ≡ true) where
    made : Some (Whole (signed (slice s e src))) ≡ whole_of (slice s e src)
    made = whole-made (slice s e src) (subst (λ (n : ℕ). n ≤ 8) (sym (length-slice s e src upto)) few) (sym p ∙ q)

    pub part-zero : s ≡ e → Some (Whole (pos 0)) ≡ whole_of (slice s e src)
    unfolding signed
    part-zero h = ap (λ (o : List ℕ). Some (Whole (signed o))) (sym (slice-none src s e h)) ∙ made

    module _ (known : (i : ℕ) → get_or src i 0 < 256) (less : s < e) where
      first : slice s e src ≡ get_or src s 0 ∷ slice (suc s) e src
      first = slice_first src s e less upto

      all : T (octets (get_or src s 0 ∷ slice (suc s) e src))
      all = subst (λ (l : List ℕ). T (octets l)) first (octets-slice s e src (octets-known src known))

      rest : length (slice (suc s) e src) ≤ 7
      rest = subst (λ (n : ℕ). n ≤ 7) (sym (length-slice (suc s) e src upto)) (omega arith)

      module _ (m : ℕ) where
        pub part-plus-half : m ≡ be 0 (map (turned false) (slice s e src)) → get_or src s 0 < 128 → m < 2 ^ 63
        part-plus-half n h = subst (λ (x : ℕ). x < 2 ^ 63) (sym (n ∙ ap (λ (l : List ℕ). be 0 (map (turned false) l)) first)) (half false (get_or src s 0) (slice (suc s) e src) all h rest)

        pub part-minus-half : m ≡ be 0 (map (turned true) (slice s e src)) → 128 ≤ get_or src s 0 → m < 2 ^ 63
        part-minus-half n h = subst (λ (x : ℕ). x < 2 ^ 63) (sym (n ∙ ap (λ (l : List ℕ). be 0 (map (turned true) l)) first)) (half true (get_or src s 0) (slice (suc s) e src) all (omega arith) rest)

        pub part-plus : m ≡ be 0 (map (turned false) (slice s e src)) → get_or src s 0 < 128 → (z : ℤ) → z ≡ pos m → Some (Whole z) ≡ whole_of (slice s e src)
        part-plus n h z y =
            ap (λ (x : ℤ). Some (Whole x)) (y ∙ ap pos (n ∙ ap (be 0) (unturned (slice s e src) ∙ first)) ∙ sym (signed-plus (get_or src s 0) (slice (suc s) e src) h) ∙ sym (ap signed first))
            ∙ made

        pub part-minus : m ≡ be 0 (map (turned true) (slice s e src)) → 128 ≤ get_or src s 0 → (z : ℤ) → z ≡ negsuc m → Some (Whole z) ≡ whole_of (slice s e src)
        part-minus n h z y =
            ap (λ (x : ℤ). Some (Whole x)) (y ∙ ap negsuc (n ∙ ap (λ (l : List ℕ). be 0 (map (turned true) l)) first) ∙ sym (signed-minus (get_or src s 0) (slice (suc s) e src) all h) ∙ sym (ap signed first))
            ∙ made
