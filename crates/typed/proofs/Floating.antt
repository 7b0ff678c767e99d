-- Floats of either format from their octets.
use Prim.Native.Nat.{ℕ, ◌-◌, ◌*◌, ◌%◌, ◌^◌, ◌≤◌, ◌<◌}
use native.Mathlib.Omega.{arith}
use mathlib.Core.Path.{◌≡◌, refl, sym, ap, ◌∙◌, subst}
use mathlib.Core.Bool.{Bool, true, false, not, ◌&&◌}
use mathlib.Core.List.{List, [], ◌∷◌, map}
use lib.Dec.{T, eqb}
use lib.ListN.{length}
use lib.Seq.{slice, length-slice}
use lib.Ieee.{Float, Format, of_bits, nan_bits, top, ones, hid}
use lib.Ieee.Bits.{nan_bits_above}
use borrow.Author.Tests.{lt-ltb, le-ltb, eq-eqb, ne_eqb}
use mir.Syntax.{w32}
use mir.Val.{Fits}
use Rattle.base.specs.Choice.{pick}
use Rattle.typed.specs.Octets.{be, turned}
use Rattle.typed.specs.Typed.{finite, float_of}
use Rattle.typed.specs.declared.Value.{Value}
use Rattle.std.specs.Prelude.{Some, None}
use Rattle.typed.proofs.Base.{pick_yes, pick_no, and_yes, and-no-l, and-no-r}

pub unturned : (l : List ℕ) → map (turned false) l ≡ l
unturned [] = refl
unturned (b ∷ l) = ap (λ (r : List ℕ). b ∷ r) (unturned l)

pub finite-yes : (f : Format) (n : ℕ) → n % top f < ones f * hid f → finite f n ≡ true
unfolding finite
finite-yes f n h = lt-ltb (n % top f) (ones f * hid f) h

pub finite-no : (f : Format) (n : ℕ) → ones f * hid f ≤ n % top f → finite f n ≡ false
unfolding finite
finite-no f n h = le-ltb (n % top f) (ones f * hid f) h

pub no-nan-bits : (f : Format) (n : ℕ) → n % top f < ones f * hid f → T (not (nan_bits f n))
no-nan-bits f n h = subst (λ (t : Bool). T (not t)) (sym (nan_bits_above f n ∙ le-ltb (ones f * hid f) (n % top f) (omega arith))) tt

module _ (f : Format) (k : ℕ) (made : Float → Value) (o : List ℕ) where
  is : float_of f k made o ≡ pick (eqb (length o) k && finite f (be 0 o)) (Some (made (of_bits f (be 0 o)))) None
  unfolding float_of
  is = refl

  pub float-length : (length o ≡ k → ⊥) → None ≡ float_of f k made o
  float-length h = sym (is ∙ pick_no (eqb (length o) k && finite f (be 0 o)) (Some (made (of_bits f (be 0 o)))) None (and-no-l (eqb (length o) k) (finite f (be 0 o)) (ne_eqb (length o) k h)))

  pub float-odd : finite f (be 0 o) ≡ false → None ≡ float_of f k made o
  float-odd h = sym (is ∙ pick_no (eqb (length o) k && finite f (be 0 o)) (Some (made (of_bits f (be 0 o)))) None (and-no-r (eqb (length o) k) (finite f (be 0 o)) h))

  pub float-made : length o ≡ k → finite f (be 0 o) ≡ true → Some (made (of_bits f (be 0 o))) ≡ float_of f k made o
  float-made l h = sym (is ∙ pick_yes (eqb (length o) k && finite f (be 0 o)) (Some (made (of_bits f (be 0 o)))) None (and_yes (eqb (length o) k) (finite f (be 0 o)) (eq-eqb (length o) k l) h))

module _ (f : Format) (k : ℕ) (made : Float → Value) (src : List ℕ) (s e : ℕ) (upto : e ≤ length src) where
  pub part_length : (e - s ≡ k → ⊥) → None ≡ float_of f k made (slice s e src)
  part_length h = float-length f k made (slice s e src) (λ z. h (sym (length-slice s e src upto) ∙ z))

  module _ (n : ℕ) (num : n ≡ be 0 (map (turned false) (slice s e src))) where
    num' : n ≡ be 0 (slice s e src)
    num' = num ∙ ap (be 0) (unturned (slice s e src))

    pub part-odd : ones f * hid f ≤ n % top f → None ≡ float_of f k made (slice s e src)
    part-odd h = float-odd f k made (slice s e src) (ap (finite f) (sym num') ∙ finite-no f n h)

    pub part-made : e - s ≡ k → n % top f < ones f * hid f → Some (made (of_bits f n)) ≡ float_of f k made (slice s e src)
    part-made l h =
        ap (λ (x : ℕ). Some (made (of_bits f x))) num'
        ∙ float-made f k made (slice s e src) (length-slice s e src upto ∙ l) (ap (finite f) (sym num') ∙ finite-yes f n h)

pub four-fit : (n k : ℕ) → n < 256 ^ k → k ≡ 4 → Fits w32 n
four-fit n k h e = let p : n < 256 ^ 4 = subst (λ (x : ℕ). n < 256 ^ x) e h in omega arith
