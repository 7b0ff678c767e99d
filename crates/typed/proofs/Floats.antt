-- Digits written and read, and the octets of a float.
use Prim.Native.Nat.{ℕ, zero, suc, ◌+◌, ◌*◌, ◌/◌, ◌%◌, ◌^◌, ◌<◌}
use native.Mathlib.Omega.{arith}
use native.Mathlib.Nat.{pow-suc, mul_assoc, div-lt_iff_lt-mul, zero-add, one-mul, suc_inj}
use mathlib.Core.Path.{◌≡◌, refl, sym, ap, ◌∙◌, subst}
use mathlib.Core.Bool.{Bool, true, false, not, ◌&&◌}
use mathlib.Core.List.{List, [], ◌∷◌}
use lib.Dec.{T, eqb, ltb, lit<, lt→ltb}
use lib.ListN.{length}
use lib.Ieee.{Float, Format, binary32, of_bits, to_bits, fits, is_nan, top, ones, hid}
use lib.Ieee.Fits.{and_i}
use lib.Ieee.Bits.{of_bits-to_bits, to_bits-lt, to_bits-of_bits, nan_bits_is, nan_bits_above}
use mir.Syntax.{w64}
use mir.Val.{Fits}
use borrow.Author.Tests.{ltb-true, le-ltb, eqb-true}
use Rattle.typed.specs.Octets.{be, octs, octets}
use Rattle.typed.specs.Typed.{finite, float_of}
use Rattle.typed.specs.declared.Value.{Value}
use Rattle.typed.specs.Typed.{Typing}
use Rattle.std.specs.Prelude.{Some, None}
use Rattle.typed.proofs.Base.{by_bool, pick_yes, pick_no}
use Rattle.typed.proofs.Digits.{octets-head, octets-rest, be-lt}
use Rattle.typed.proofs.Floating.{float-made}

-- ---- digits written are read back

digits-on : (k n a : ℕ) (l : List ℕ) → n < 256 ^ k → be a (octs k n l) ≡ be (a * 256 ^ k + n) l
unfolding octs be
digits-on zero n a l h = let e : a ≡ a * 1 + n = omega arith in ap (λ (x : ℕ). be x l) e
digits-on (suc k) n a l h =
    let p : 256 ^ suc k ≡ 256 ^ k * 256 = pow-suc 256 k in
    let d : n / 256 < 256 ^ k = (div-lt_iff_lt-mul {k = 256} {x = n} {y = 256 ^ k} (lit< tt)).1 (subst (λ (x : ℕ). n < x) p h) in
    let m : a * 256 ^ k * 256 ≡ a * 256 ^ suc k = mul_assoc a (256 ^ k) 256 ∙ ap (λ (x : ℕ). a * x) (sym p) in
    let e : (a * 256 ^ k + n / 256) * 256 + n % 256 ≡ a * 256 ^ suc k + n = omega arith in
    digits-on k (n / 256) a (n % 256 ∷ l) d ∙ ap (λ (x : ℕ). be x l) e

pub be-octs : (k n : ℕ) → n < 256 ^ k → be 0 (octs k n []) ≡ n
unfolding be
be-octs k n h = digits-on k n 0 [] h ∙ (let e : 0 * 256 ^ k + n ≡ n = omega arith in e)

pub length-octs : (k n : ℕ) (l : List ℕ) → length (octs k n l) ≡ k + length l
unfolding octs
length-octs zero n l = sym (zero-add (length l))
length-octs (suc k) n l = length-octs k (n / 256) (n % 256 ∷ l) ∙ (let e : k + suc (length l) ≡ suc k + length l = omega arith in e)

pub octets-octs : (k n : ℕ) (l : List ℕ) → T (octets l) → T (octets (octs k n l))
unfolding octs octets
octets-octs zero n l t = t
octets-octs (suc k) n l t = octets-octs k (n / 256) (n % 256 ∷ l) (and_i (ltb (n % 256) 256) (octets l) (lt→ltb (n % 256) 256 (omega arith)) t)

-- ---- as many octets that are read as the same number are the same

nothing : (l : List ℕ) → length l ≡ 0 → l ≡ []
nothing [] e = refl
nothing (b ∷ l) e = absurd (no (length l) e)
  where
    no : (n : ℕ) → suc n ≡ 0 → ⊥
    no n e = omega arith

be-same : (a a' : ℕ) (l l' : List ℕ) → T (octets l) → T (octets l') → length l ≡ length l' → be a l ≡ be a' l' → (a ≡ a') × (l ≡ l')
unfolding be
be-same a a' [] [] t t' e h = (h, refl)
be-same a a' [] (b ∷ l') t t' e h = absurd (no (length l') e)
  where
    no : (n : ℕ) → 0 ≡ suc n → ⊥
    no n e = omega arith
be-same a a' (b ∷ l) [] t t' e h = absurd (no (length l) e)
  where
    no : (n : ℕ) → suc n ≡ 0 → ⊥
    no n e = omega arith
be-same a a' (b ∷ l) (b' ∷ l') t t' e h =
    let r : (a * 256 + b ≡ a' * 256 + b') × (l ≡ l') = be-same (a * 256 + b) (a' * 256 + b') l l' (octets-rest b l t) (octets-rest b' l' t') (suc_inj e) h in
    let k : b < 256 = octets-head b l t in
    let k' : b' < 256 = octets-head b' l' t' in
    let q : a * 256 + b ≡ a' * 256 + b' = r.0 in
    let x : a ≡ a' = omega arith in
    let y : b ≡ b' = omega arith in
    (x, ap (λ (c : ℕ). c ∷ l) y ∙ ap (λ (m : List ℕ). b' ∷ m) r.1)

pub be-inj : (l l' : List ℕ) → T (octets l) → T (octets l') → length l ≡ length l' → be 0 l ≡ be 0 l' → l ≡ l'
be-inj l l' t t' e h = (be-same 0 0 l l' t t' e h).1

-- ---- a float

pub record Size (f : Format) (k : ℕ) : Type 0 where
  pub wide : 256 ^ k ≡ 2 * top f

pub record Floats (f : Format) (k : ℕ) (x : Float) (o : List ℕ) : Type 0 where
  pub long : length o ≡ k
  pub finitely : finite f (be 0 o) ≡ true
  pub value : of_bits f (be 0 o) ≡ x

finite-is : (f : Format) (n : ℕ) → finite f n ≡ true → n % top f < ones f * hid f
unfolding finite
finite-is f n e = ltb-true (n % top f) (ones f * hid f) e

no-nan-is : (f : Format) (n : ℕ) → finite f n ≡ true → T (not (is_nan (of_bits f n)))
no-nan-is f n e =
    let h : n % top f < ones f * hid f = finite-is f n e in
    subst (λ (t : Bool). T (not t)) (sym (sym (nan_bits_is f n) ∙ nan_bits_above f n ∙ le-ltb (ones f * hid f) (n % top f) (omega arith))) tt

module _ (f : Format) (k : ℕ) (s : Size f k) (made : Float → Value) (inj : (a b : Float) → ◌≡◌ {A = Typing} (Some (made a)) (Some (made b)) → a ≡ b) where
  float_says : (x : Float) (o : List ℕ) → float_of f k made o ≡ Some (made x) → Floats f k x o
  unfolding float_of
  float_says x o e = by_bool (eqb (length o) k && finite f (be 0 o)) yes' no'
    where
      yes' : (eqb (length o) k && finite f (be 0 o)) ≡ true → Floats f k x o
      yes' t = by_bool (eqb (length o) k)
          (λ (p : eqb (length o) k ≡ true). record {
            long = eqb-true (length o) k p;
            finitely = ap (λ (b : Bool). b && finite f (be 0 o)) (sym p) ∙ t;
            value = inj (of_bits f (be 0 o)) x (sym (pick_yes (eqb (length o) k && finite f (be 0 o)) (Some (made (of_bits f (be 0 o)))) None t) ∙ e);
          })
          (λ (p : eqb (length o) k ≡ false). absurd (off (ap (λ (b : Bool). b && finite f (be 0 o)) (sym p) ∙ t)))
        where
          off : false ≡ true → ⊥
          off w = subst T (sym w) tt

      no' : (eqb (length o) k && finite f (be 0 o)) ≡ false → Floats f k x o
      no' t = absurd (never (sym (pick_no (eqb (length o) k && finite f (be 0 o)) (Some (made (of_bits f (be 0 o)))) None t) ∙ e))
        where
          never : None ≡ Some (made x) → ⊥
          never w = let z : ◌≡◌ {A = ℕ} 0 1 = cc in omega arith

  -- the bits that the octets of x have are those of x
  pub float-bits : (x : Float) (o : List ℕ) → T (octets o) → float_of f k made o ≡ Some (made x) → (length o ≡ k) × (be 0 o ≡ to_bits f x) × (finite f (to_bits f x) ≡ true) × T (not (is_nan x))
  float-bits x o t e =
      let w : Floats f k x o = float_says x o e in
      let n : T (not (is_nan (of_bits f (be 0 o)))) = no-nan-is f (be 0 o) w.finitely in
      let l : be 0 o < 2 * top f = subst (λ (y : ℕ). be 0 o < y) (one-mul (256 ^ length o) ∙ ap (λ (y : ℕ). 256 ^ y) w.long ∙ s.wide) (be-lt 0 o t) in
      let b : be 0 o ≡ to_bits f x = sym (to_bits-of_bits f (be 0 o) l n) ∙ ap (to_bits f) w.value in
      (w.long, b, ap (finite f) (sym b) ∙ w.finitely, subst (λ (y : Float). T (not (is_nan y))) w.value n)

  -- two lists of octets that are read as one float are one
  pub float_one : (x : Float) (o o' : List ℕ) → T (octets o) → T (octets o') → float_of f k made o ≡ Some (made x) → float_of f k made o' ≡ Some (made x) → o ≡ o'
  float_one x o o' t t' e e' =
      let w = float-bits x o t e in
      let w' = float-bits x o' t' e' in
      be-inj o o' t t' (w.0 ∙ sym w'.0) (w.1 ∙ sym w'.1)

  -- the digits of its bits are octets of a finite float
  pub float-coded : (x : Float) → T (fits f x) → finite f (to_bits f x) ≡ true → float_of f k made (octs k (to_bits f x) []) ≡ Some (made x)
  float-coded x h e =
      let l : to_bits f x < 256 ^ k = subst (λ (y : ℕ). to_bits f x < y) (sym s.wide) (to_bits-lt f x h) in
      let b : be 0 (octs k (to_bits f x) []) ≡ to_bits f x = be-octs k (to_bits f x) l in
      let len : length (octs k (to_bits f x) []) ≡ k = length-octs k (to_bits f x) [] ∙ (let z : k + 0 ≡ k = omega arith in z) in
      sym (float-made f k made (octs k (to_bits f x) []) len (ap (finite f) b ∙ e))
      ∙ ap (λ (y : Float). Some (made y)) (ap (of_bits f) b ∙ of_bits-to_bits f x h)

pub bits_fit : (x : Float) → T (fits binary32 x) → Fits w64 (to_bits binary32 x)
bits_fit x h = let l : to_bits binary32 x < 2 ^ 32 = to_bits-lt binary32 x h in omega arith
