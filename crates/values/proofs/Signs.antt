-- Signed numbers from magnitudes.
use Prim.Native.Nat.{ℕ, zero, suc, ◌-◌, ◌^◌, ◌<◌}
use native.Mathlib.Omega.{arith}
use native.Mathlib.Nat.{zero-add}
use mathlib.Core.Path.{◌≡◌, refl, sym, ap, ◌∙◌, subst}
use mathlib.Core.Bool.{Bool, true, false, cond}
use lib.Dec.{T, ltb}
use lib.Signed.{lt_z, non_neg}
use borrow.Author.Tests.{le-ltb}
use lib.IntN.{ℤ, pos, negsuc, nat_abs, ◌-ℤ◌}
use mir.Syntax.{w64}
use mir.Val.{Fits, SFits, to_z, of_z}
use mir.ValLaws.{to_z_pos, to_z-of_z}
use Rattle.typed.proofs.Wide.{joined}

pub to_z-half : (m : ℕ) → m < 2 ^ 63 → to_z w64 m ≡ pos m
to_z-half m h = to_z_pos w64 m h

pub less_one : (m : ℕ) → negsuc 0 -ℤ pos m ≡ negsuc m
less_one zero = refl
less_one (suc m) = ap (λ (x : ℕ). negsuc (suc x)) (zero-add m)

sfits_neg : (m : ℕ) → m < 2 ^ 63 → SFits w64 (negsuc m)
sfits_neg m h = record { sfits = h }

pub read_back : (m : ℕ) → m < 2 ^ 63 → negsuc 0 -ℤ to_z w64 m ≡ negsuc m
read_back m h = ap (λ (z : ℤ). negsuc 0 -ℤ z) (to_z-half m h) ∙ less_one m

pub less-fits : (m : ℕ) → m < 2 ^ 63 → SFits w64 (negsuc 0 -ℤ to_z w64 m)
less-fits m h = subst (SFits w64) (sym (read_back m h)) (sfits_neg m h)

pub less-is : (m : ℕ) → m < 2 ^ 63 → to_z w64 (of_z w64 (negsuc 0 -ℤ to_z w64 m)) ≡ negsuc m
less-is m h = to_z-of_z w64 (negsuc 0 -ℤ to_z w64 m) (less-fits m h) ∙ read_back m h

pub back-plus : (m : ℕ) (z : ℤ) → m < 2 ^ 63 → z ≡ pos m → to_z w64 (of_z w64 z) ≡ pos m
back-plus m z h e = ap (λ (x : ℤ). to_z w64 (of_z w64 x)) e ∙ to_z-of_z w64 (pos m) (record { sfits = h })

pub back-minus : (m : ℕ) (z : ℤ) → m < 2 ^ 63 → z ≡ negsuc m → to_z w64 (of_z w64 z) ≡ negsuc m
back-minus m z h e = ap (λ (x : ℤ). to_z w64 (of_z w64 x)) e ∙ to_z-of_z w64 (negsuc m) (record { sfits = h })

-- ---- a number taken apart

pub record Below (x : ℤ) : Type 0 where
  pub size : ℕ
  pub is : x ≡ negsuc size
  pub half : size < 2 ^ 63
  pub turns : to_z w64 (of_z w64 (negsuc 0 -ℤ to_z w64 (of_z w64 x))) ≡ pos size
  pub fits : SFits w64 (negsuc 0 -ℤ to_z w64 (of_z w64 x))

off : false ≡ true → ⊥
off e = subst T (sym e) tt

turn_one : (k : ℕ) → negsuc 0 -ℤ negsuc k ≡ pos k
turn_one k =
    let z : ltb (suc k) 1 ≡ false = le-ltb (suc k) 1 (omega arith) in
    let y : suc k - 1 ≡ k = omega arith in
    ap (λ (t : Bool). cond t (negsuc (1 - suc (suc k))) (pos (suc k - 1))) z ∙ ap pos y

below : (x : ℤ) → SFits w64 x → lt_z x (pos 0) ≡ true → Below x
below (pos a) h t = absurd (off (sym (le-ltb a 0 (omega arith)) ∙ t))
below (negsuc k) h t =
    let b : to_z w64 (of_z w64 (negsuc k)) ≡ negsuc k = to_z-of_z w64 (negsuc k) h in
    let c : negsuc 0 -ℤ to_z w64 (of_z w64 (negsuc k)) ≡ pos k = ap (λ (z : ℤ). negsuc 0 -ℤ z) b ∙ turn_one k in
    let f : SFits w64 (pos k) = record { sfits = h.sfits } in
    record {
      size = k;
      is = refl;
      half = h.sfits;
      turns = ap (λ (z : ℤ). to_z w64 (of_z w64 z)) c ∙ to_z-of_z w64 (pos k) f;
      fits = subst (SFits w64) (sym c) f;
    }

pub apart_below : (x : ℤ) → SFits w64 x → lt_z (to_z w64 (of_z w64 x)) (pos 0) ≡ true → Below x
apart_below x h t = below x h (ap (λ (z : ℤ). lt_z z (pos 0)) (sym (to_z-of_z w64 x h)) ∙ t)

natural : (y : ℤ) (k : ℕ) → y ≡ pos k → k < 2 ^ 63 → T (non_neg y) × Fits w64 (nat_abs y)
natural y k e h = subst (λ (z : ℤ). T (non_neg z) × Fits w64 (nat_abs z)) (sym e) (tt, omega arith)

pub below-cast : (x : ℤ) → Below x → T (non_neg (to_z w64 (of_z w64 (negsuc 0 -ℤ to_z w64 (of_z w64 x))))) × Fits w64 (nat_abs (to_z w64 (of_z w64 (negsuc 0 -ℤ to_z w64 (of_z w64 x)))))
below-cast x b = natural (to_z w64 (of_z w64 (negsuc 0 -ℤ to_z w64 (of_z w64 x)))) b.size b.turns b.half

pub below-is : (x y : ℤ) (b : Below x) → y ≡ pos b.size → (x ≡ negsuc (nat_abs y)) × (nat_abs y < 2 ^ 63)
below-is x y b e = subst (λ (z : ℤ). (x ≡ negsuc (nat_abs z)) × (nat_abs z < 2 ^ 63)) (sym e) (b.is, b.half)

above : (x : ℤ) → SFits w64 x → lt_z x (pos 0) ≡ false → (T (non_neg x) × Fits w64 (nat_abs x)) × ((x ≡ pos (nat_abs x)) × (nat_abs x < 2 ^ 63))
above (pos a) h t = let k : a < 2 ^ 63 = h.sfits in ((tt, omega arith), (refl, k))
above (negsuc a) h t = absurd (off (sym t))

pub apart_above : (x : ℤ) → SFits w64 x → lt_z (to_z w64 (of_z w64 x)) (pos 0) ≡ false → (T (non_neg (to_z w64 (of_z w64 x))) × Fits w64 (nat_abs (to_z w64 (of_z w64 x)))) × ((x ≡ pos (nat_abs (to_z w64 (of_z w64 x)))) × (nat_abs (to_z w64 (of_z w64 x)) < 2 ^ 63))
apart_above x h t =
    let b : to_z w64 (of_z w64 x) ≡ x = to_z-of_z w64 x h in
    subst (λ (z : ℤ). (T (non_neg z) × Fits w64 (nat_abs z)) × ((x ≡ pos (nat_abs z)) × (nat_abs z < 2 ^ 63))) (sym b) (above x h (ap (λ (z : ℤ). lt_z z (pos 0)) (sym b) ∙ t))

-- ---- zero

pub zero_is : (x : ℤ) → SFits w64 x → of_z w64 x ≡ 0 → x ≡ pos 0
zero_is (pos n) h e = ap pos e
zero_is (negsuc n) h e = absurd (no h.sfits e)
  where
    no : n < 2 ^ 63 → 2 ^ 64 - suc n ≡ 0 → ⊥
    no l e = omega arith

pub nonzero : (x : ℤ) (t : Bool) (m : ℕ) → x ≡ joined t m → (of_z w64 x ≡ 0 → ⊥) → t ≡ false → m ≡ 0 → ⊥
nonzero x t m e n p q = n (ap (of_z w64) (e ∙ ap (λ (b : Bool). joined b m) p ∙ ap pos q))

-- a signed argument is read back from its bits
pub as_passed : (x z : ℤ) → SFits w64 x → to_z w64 (of_z w64 x) ≡ z → x ≡ z
as_passed x z h e = sym (to_z-of_z w64 x h) ∙ e
