-- Three octets, and the kind that a hint tells.
use Prim.Native.Nat.{ℕ, suc, ◌+◌, ◌-◌, ◌≤◌}
use native.Mathlib.Omega.{arith}
use native.Mathlib.Numerals.{add-one, add-two}
use mathlib.Core.Path.{◌≡◌, refl, sym, ap, ◌∙◌}
use mathlib.Core.Bool.{Bool, true, false}
use mathlib.Core.List.{List, [], ◌∷◌}
use lib.Dec.{eqb}
use lib.ListN.{length, get_or}
use lib.Seq.{slice, slice_empty, slice-cons, length-slice}
use borrow.Author.Tests.{eq-eqb, ne_eqb}
use Rattle.base.specs.Choice.{both, equal}
use Rattle.base.proofs.Cases.{by_bool, picked, unpicked}
use Rattle.base.proofs.Lists.{equal-true}
use Rattle.typed.specs.Typed.{kind_of}
use Rattle.values.specs.Laid.{Spells}

module _ (src : List ℕ) (at : ℕ) (h : at + 3 ≤ length src) where
  spelled : slice at (at + 3) src ≡ get_or src at 0 ∷ get_or src (at + 1) 0 ∷ get_or src (at + 2) 0 ∷ []
  spelled =
      let e₃ : suc (suc (suc at)) ≡ at + 3 = omega arith in
      slice-cons at (at + 3) src 0 (omega arith) h
      ∙ ap (λ (l : List ℕ). get_or src at 0 ∷ l)
      (slice-cons (suc at) (at + 3) src 0 (omega arith) h
      ∙ ap (λ (l : List ℕ). get_or src (suc at) 0 ∷ l)
      (slice-cons (suc (suc at)) (at + 3) src 0 (omega arith) h ∙ ap (λ (n : ℕ). get_or src (suc (suc at)) 0 ∷ slice n (at + 3) src) e₃ ∙ ap (λ (l : List ℕ). get_or src (suc (suc at)) 0 ∷ l) (slice_empty (at + 3) src)))
      ∙ ap (λ (n : ℕ). get_or src at 0 ∷ get_or src n 0 ∷ get_or src (suc (suc at)) 0 ∷ []) (sym (add-one at))
      ∙ ap (λ (n : ℕ). get_or src at 0 ∷ get_or src (at + 1) 0 ∷ get_or src n 0 ∷ []) (sym (add-two at))

  module _ (a b c : ℕ) where
    tested : equal (slice at (at + 3) src) (a ∷ b ∷ c ∷ []) ≡ both (eqb (get_or src at 0) a) (both (eqb (get_or src (at + 1) 0) b) (both (eqb (get_or src (at + 2) 0) c) true))
    unfolding equal
    tested = ap (λ (l : List ℕ). equal l (a ∷ b ∷ c ∷ [])) spelled

    pub first-differs : (get_or src at 0 ≡ a → ⊥) → Spells src at a b c false
    first-differs n = sym (tested ∙ unpicked _ _ (ne_eqb _ _ n))

    module _ (p : get_or src at 0 ≡ a) where
      pub second-differs : (get_or src (at + 1) 0 ≡ b → ⊥) → Spells src at a b c false
      second-differs n = sym (tested ∙ picked _ _ (eq-eqb _ _ p) ∙ unpicked _ _ (ne_eqb _ _ n))

      last : (t : Bool) → t ≡ both t true
      last true = refl
      last false = refl

      pub third-decides : get_or src (at + 1) 0 ≡ b → Spells src at a b c (eqb (get_or src (at + 2) 0) c)
      third-decides q = last (eqb (get_or src (at + 2) 0) c) ∙ sym (tested ∙ picked _ _ (eq-eqb _ _ p) ∙ picked _ _ (eq-eqb _ _ q))

-- ---- the kind

other : (h : List ℕ) (a b c : ℕ) → (length h ≡ 3 → ⊥) → equal h (a ∷ b ∷ c ∷ []) ≡ false
other h a b c n = by_bool (equal h (a ∷ b ∷ c ∷ [])) (λ t. absurd (n (ap length (equal-true h (a ∷ b ∷ c ∷ []) t)))) (λ t. t)

module _ (src : List ℕ) (s e : ℕ) (upto : e ≤ length src) where
  pub kind-length : (e - s ≡ 3 → ⊥) → 0 ≡ kind_of (slice s e src)
  unfolding kind_of
  kind-length n =
      let m : length (slice s e src) ≡ 3 → ⊥ = λ z. n (sym (length-slice s e src upto) ∙ z) in
      sym (unpicked _ _ (other _ 102 51 50 m) ∙ unpicked _ _ (other _ 102 54 52 m) ∙ unpicked _ _ (other _ 105 110 116 m))

  module _ (z : e - s ≡ 3) where
    pub three-in : s + 3 ≤ length src
    three-in = omega arith

    abbrev hint : List ℕ
    hint = slice s e src

    here : slice s (s + 3) src ≡ hint
    here = let y : s + 3 ≡ e = omega arith in ap (λ (n : ℕ). slice s n src) y

    said : (a b c : ℕ) (r : Bool) → Spells src s a b c r → equal hint (a ∷ b ∷ c ∷ []) ≡ r
    said a b c r w = ap (λ (l : List ℕ). equal l (a ∷ b ∷ c ∷ [])) (sym here) ∙ sym w

    module _ (r₁ : Bool) (w₁ : Spells src s 102 51 50 r₁) where
      pub kind-f32 : r₁ ≡ true → 1 ≡ kind_of hint
      unfolding kind_of
      kind-f32 t = sym (picked _ _ (said 102 51 50 r₁ w₁ ∙ t))

      module _ (n₁ : r₁ ≡ false) (r₂ : Bool) (w₂ : Spells src s 102 54 52 r₂) where
        pub kind-f64 : r₂ ≡ true → 2 ≡ kind_of hint
        unfolding kind_of
        kind-f64 t = sym (unpicked _ _ (said 102 51 50 r₁ w₁ ∙ n₁) ∙ picked _ _ (said 102 54 52 r₂ w₂ ∙ t))

        module _ (n₂ : r₂ ≡ false) (r₃ : Bool) (w₃ : Spells src s 105 110 116 r₃) where
          pub kind-int : r₃ ≡ true → 3 ≡ kind_of hint
          unfolding kind_of
          kind-int t = sym (unpicked _ _ (said 102 51 50 r₁ w₁ ∙ n₁) ∙ unpicked _ _ (said 102 54 52 r₂ w₂ ∙ n₂) ∙ picked _ _ (said 105 110 116 r₃ w₃ ∙ t))

          pub kind-none : r₃ ≡ false → 0 ≡ kind_of hint
          unfolding kind_of
          kind-none n₃ = sym (unpicked _ _ (said 102 51 50 r₁ w₁ ∙ n₁) ∙ unpicked _ _ (said 102 54 52 r₂ w₂ ∙ n₂) ∙ unpicked _ _ (said 105 110 116 r₃ w₃ ∙ n₃))
