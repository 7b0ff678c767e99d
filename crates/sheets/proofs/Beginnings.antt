-- How many octets at a place begin a string, by the octet there.
use Prim.Native.Nat.{ℕ, ◌+◌, ◌≤◌, ◌<◌}
use native.Mathlib.Omega.{arith}
use mathlib.Core.Path.{◌≡◌, refl, ap, ◌∙◌}
use mathlib.Core.List.{List}
use lib.ListN.{length, drop, get_or, length-drop, drop_of_length-le}
use borrow.Author.Tests.{eq-eqb, ne_eqb}
use Rattle.base.proofs.Cases.{picked, unpicked, among_in, among-low, among-high}
use Rattle.scan.proofs.Places.{one-here}
use Rattle.automaton.specs.Begun.{digits_on, begun, begun_after}
use Rattle.sheets.specs.Begins.{DigitsOn, StringBegins, HintBegins}

module _ (src : List ℕ) (at : ℕ) where
  -- ---- the end
  on-end : length src ≤ at → digits_on (drop at src) ≡ 0
  unfolding digits_on
  on-end h = ap digits_on (drop_of_length-le src h)

  begun-end : length src ≤ at → begun (drop at src) ≡ 0
  unfolding begun
  begun-end h = ap begun (drop_of_length-le src h)

  after_none : length src ≤ at → begun_after (drop at src) ≡ 0
  unfolding begun_after
  after_none h = ap begun_after (drop_of_length-le src h)

  module _ (h : at < length src) where
    left : length (drop (at + 1) src) + (at + 1) ≡ length src
    left = omega (arith, length-drop (at + 1) src)

    -- ---- after a digit that is not 0
    on-colon : get_or src at 0 ≡ 58 → at + digits_on (drop at src) ≡ length src
    unfolding digits_on
    on-colon e =
        let z : digits_on (drop at src) ≡ 1 + length (drop (at + 1) src) = ap digits_on (one-here src at h) ∙ picked _ _ (eq-eqb (get_or src at 0) 58 e) in
        omega (arith, left)

    module _ (n : get_or src at 0 ≡ 58 → ⊥) where
      on-digit : 48 ≤ get_or src at 0 → get_or src at 0 ≤ 57 → digits_on (drop at src) ≡ 1 + digits_on (drop (at + 1) src)
      unfolding digits_on
      on-digit l u = ap digits_on (one-here src at h) ∙ unpicked _ _ (ne_eqb (get_or src at 0) 58 n) ∙ picked _ _ (among_in 48 57 (get_or src at 0) l u)

      on-low : get_or src at 0 < 48 → digits_on (drop at src) ≡ 0
      unfolding digits_on
      on-low l = ap digits_on (one-here src at h) ∙ unpicked _ _ (ne_eqb (get_or src at 0) 58 n) ∙ unpicked _ _ (among-low 48 57 (get_or src at 0) l)

      on-high : 57 < get_or src at 0 → digits_on (drop at src) ≡ 0
      unfolding digits_on
      on-high l = ap digits_on (one-here src at h) ∙ unpicked _ _ (ne_eqb (get_or src at 0) 58 n) ∙ unpicked _ _ (among-high 48 57 (get_or src at 0) l)

    -- ---- a string
    begun-low : get_or src at 0 < 48 → begun (drop at src) ≡ 0
    unfolding begun
    begun-low l = ap begun (one-here src at h) ∙ unpicked _ _ (among-low 48 57 (get_or src at 0) l)

    begun-high : 57 < get_or src at 0 → begun (drop at src) ≡ 0
    unfolding begun
    begun-high l = ap begun (one-here src at h) ∙ unpicked _ _ (among-high 48 57 (get_or src at 0) l)

    begun-zero : get_or src at 0 ≡ 48 → begun (drop at src) ≡ 1
    unfolding begun
    begun-zero e =
        ap begun (one-here src at h) ∙ picked _ _ (among_in 48 57 (get_or src at 0) (omega arith) (omega arith)) ∙ ap (λ (x : ℕ). 1 + x) (picked _ _ (eq-eqb (get_or src at 0) 48 e))

    begun-digit : 48 ≤ get_or src at 0 → get_or src at 0 ≤ 57 → (get_or src at 0 ≡ 48 → ⊥) → begun (drop at src) ≡ 1 + digits_on (drop (at + 1) src)
    unfolding begun
    begun-digit l u n =
        ap begun (one-here src at h) ∙ picked _ _ (among_in 48 57 (get_or src at 0) l u) ∙ ap (λ (x : ℕ). 1 + x) (unpicked _ _ (ne_eqb (get_or src at 0) 48 n))

    -- ---- after a hint
    after-other : (get_or src at 0 ≡ 93 → ⊥) → begun_after (drop at src) ≡ 0
    unfolding begun_after
    after-other n = ap begun_after (one-here src at h) ∙ unpicked _ _ (ne_eqb (get_or src at 0) 93 n)

    after-bracket : get_or src at 0 ≡ 93 → begun_after (drop at src) ≡ 1 + begun (drop (at + 1) src)
    unfolding begun_after
    after-bracket e = ap begun_after (one-here src at h) ∙ picked _ _ (eq-eqb (get_or src at 0) 93 e)

-- ---- the loop over digits

pub record Far (src : List ℕ) (at i : ℕ) : Type 0 where
  pub inside : i ≤ length src
  pub same : at + digits_on (drop at src) ≡ i + digits_on (drop i src)

pub far-start : (src : List ℕ) (at : ℕ) → at ≤ length src → Far src at at
far-start src at h = record { inside = h; same = refl }

module _ (src : List ℕ) (at i : ℕ) (w : Far src at i) where
  pub far-end : length src ≤ i → DigitsOn src at i
  far-end h = record { is = omega (arith, w.same, on-end src i h) }

  module _ (h : i < length src) where
    pub far-colon : get_or src i 0 ≡ 58 → DigitsOn src at (length src)
    far-colon e = record { is = omega (arith, w.same, on-colon src i h e) }

    module _ (n : get_or src i 0 ≡ 58 → ⊥) where
      pub far-low : get_or src i 0 < 48 → DigitsOn src at i
      far-low l = record { is = omega (arith, w.same, on-low src i h n l) }

      pub far-high : 57 < get_or src i 0 → DigitsOn src at i
      far-high l = record { is = omega (arith, w.same, on-high src i h n l) }

      pub far-on : 48 ≤ get_or src i 0 → get_or src i 0 ≤ 57 → Far src at (i + 1)
      far-on l u = record { inside = omega arith; same = omega (arith, w.same, on-digit src i h n l u) }

-- ---- a string, and one with a hint

module _ (src : List ℕ) (at : ℕ) where
  pub begins-end : length src ≤ at → StringBegins src at at
  begins-end h = record { is = omega (arith, begun-end src at h) }

  pub hint-begins-end : length src ≤ at → HintBegins src at at
  hint-begins-end h = record { is = omega (arith, after_none src at h) }

  module _ (h : at < length src) where
    pub begins-low : get_or src at 0 < 48 → StringBegins src at at
    begins-low l = record { is = omega (arith, begun-low src at h l) }

    pub begins-high : 57 < get_or src at 0 → StringBegins src at at
    begins-high l = record { is = omega (arith, begun-high src at h l) }

    pub begins-zero : get_or src at 0 ≡ 48 → StringBegins src at (at + 1)
    begins-zero e = record { is = omega (arith, begun-zero src at h e) }

    pub begins-digits : 48 ≤ get_or src at 0 → get_or src at 0 ≤ 57 → (get_or src at 0 ≡ 48 → ⊥) → (r : ℕ) → DigitsOn src (at + 1) r → StringBegins src at r
    begins-digits l u n r w = record { is = omega (arith, w.is, begun-digit src at h l u n) }

    pub hint-begins-other : (get_or src at 0 ≡ 93 → ⊥) → HintBegins src at at
    hint-begins-other n = record { is = omega (arith, after-other src at h n) }

    pub hint-begins-string : get_or src at 0 ≡ 93 → (r : ℕ) → StringBegins src (at + 1) r → HintBegins src at r
    hint-begins-string e r w = record { is = omega (arith, w.is, after-bracket src at h e) }
