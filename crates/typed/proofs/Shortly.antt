-- Whether octets are the shortest.
use Prim.Native.Nat.{ℕ, suc, ◌+◌, ◌≤◌, ◌<◌}
use native.Mathlib.Omega.{arith}
use native.Mathlib.Numerals.{add-one}
use mathlib.Core.Path.{◌≡◌, refl, sym, ap, ◌∙◌}
use mathlib.Core.Bool.{Bool, true, false, not, ◌&&◌}
use mathlib.Core.List.{List, [], ◌∷◌}
use lib.Dec.{leb, ltb, eqb}
use lib.ListN.{length, get_or}
use lib.Seq.{slice, slice_empty, slice-cons}
use borrow.Author.Tests.{lt-ltb, le-ltb, le-leb, lt-leb, ne_eqb}
use Rattle.typed.specs.Octets.{shortest}
use Rattle.typed.proofs.Base.{by_le}

flip : (c : ℕ) → leb 128 c ≡ not (ltb c 128)
flip c = by_le 128 c (λ h. le-leb 128 c h ∙ sym (ap not (le-ltb c 128 h))) (λ h. lt-leb 128 c h ∙ sym (ap not (lt-ltb c 128 h)))

flip' : (c : ℕ) → ltb c 128 ≡ not (leb 128 c)
flip' c = by_le 128 c (λ h. le-ltb c 128 h ∙ sym (ap not (le-leb 128 c h))) (λ h. lt-ltb c 128 h ∙ sym (ap not (lt-leb 128 c h)))

and-true : (a : Bool) → (a && true) ≡ a
and-true true = refl
and-true false = refl

module _ (src : List ℕ) (s e : ℕ) where
  pub slice-none : s ≡ e → slice s e src ≡ []
  slice-none h = ap (λ (x : ℕ). slice x e src) h ∙ slice_empty e src

  pub short_none : s ≡ e → true ≡ shortest (slice s e src)
  unfolding shortest
  short_none h = ap shortest (sym (slice-none h))

  pub slice_first : s < e → e ≤ length src → slice s e src ≡ get_or src s 0 ∷ slice (suc s) e src
  slice_first h u = slice-cons s e src 0 h u

  pub short-one : s ≤ e → e ≤ length src → s + 1 ≡ e → not (eqb (get_or src s 0) 0) ≡ shortest (slice s e src)
  unfolding shortest
  short-one l u h =
      let z : suc s ≡ e = sym (add-one s) ∙ h in
      ap shortest (sym (slice_first (omega arith) u ∙ ap (λ (r : List ℕ). get_or src s 0 ∷ r) (ap (λ (x : ℕ). slice x e src) z ∙ slice_empty e src)))

  module _ (l : s ≤ e) (u : e ≤ length src) (n : s ≡ e → ⊥) (m : s + 1 ≡ e → ⊥) where
    two : slice s e src ≡ get_or src s 0 ∷ get_or src (s + 1) 0 ∷ slice (suc (suc s)) e src
    two = slice_first less u ∙ ap (λ (r : List ℕ). get_or src s 0 ∷ r) (slice-cons (suc s) e src 0 more u ∙ ap (λ (x : ℕ). get_or src x 0 ∷ slice (suc (suc s)) e src) (sym (add-one s)))
      where
        less : s < e
        less = lt (λ z. n z) l
          where
            lt : (s ≡ e → ⊥) → s ≤ e → s < e
            lt p q = omega arith

        more : suc s < e
        more = lt n m l
          where
            lt : (s ≡ e → ⊥) → (s + 1 ≡ e → ⊥) → s ≤ e → suc s < e
            lt p p' q = omega arith

    pub short-plus : get_or src s 0 ≡ 0 → leb 128 (get_or src (s + 1) 0) ≡ shortest (slice s e src)
    unfolding shortest
    short-plus z = flip (get_or src (s + 1) 0) ∙ sym (and-true (not (ltb (get_or src (s + 1) 0) 128))) ∙ sym (ap shortest two ∙ rw z)

    pub short-minus : get_or src s 0 ≡ 255 → ltb (get_or src (s + 1) 0) 128 ≡ shortest (slice s e src)
    unfolding shortest
    short-minus z = flip' (get_or src (s + 1) 0) ∙ sym (ap shortest two ∙ rw z)

    pub short-else : (get_or src s 0 ≡ 0 → ⊥) → (get_or src s 0 ≡ 255 → ⊥) → true ≡ shortest (slice s e src)
    unfolding shortest
    short-else z y = sym (ap shortest two ∙ rw (ne_eqb (get_or src s 0) 0 z, ne_eqb (get_or src s 0) 255 y))
