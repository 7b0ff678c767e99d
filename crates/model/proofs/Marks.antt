-- Whitespace, and what stands between hexadecimal and base-64 marks: the decoder reads it as the rules say.
use Prim.Native.Nat.{ℕ, ◌*◌, ◌+◌, ◌%◌, ◌<◌}
use native.Mathlib.Omega.{arith}
use mathlib.Core.Path.{◌≡◌, refl, sym, ap, ap₂, ◌∙◌}
use mathlib.Core.Bool.{true, false}
use mathlib.Core.Option.{Option, none, some}
use mathlib.Core.List.{List, [], ◌∷◌, ◌++◌}
use lib.Dec.{ltb, eqb}
use borrow.Author.Tests.{lt-ltb, eq-eqb, ne_eqb, eqb-true, eqb-false, ltb-true}
use Rattle.base.proofs.Cases.{by_bool, differ, pick-cases, picked, unpicked, some_same, none-some}
use Rattle.model.specs.Grammar.{Whitespaces, no-whitespace, octet₁, octet₂, octet₃, Rules}
use Rattle.model.specs.Octets.{is_whitespace, hexval, letter}
use Rattle.model.specs.Strings.{got, bind, skip, upto, also, unhex, two_of, three_of, lastly, four_of, joined, unbase}
use Rattle.model.proofs.ReadCases.{bind-cases, never, got_same}
use Rattle.model.proofs.Stripped.{Upto, upto-mark, upto-white, upto-other, Hex, no-hex, two-hex, Pads, no-pad, a-pad, Base64, no-letter, four, three, two}

-- ---- whitespace

pub skip-whites : (s : List ℕ) → Whitespaces s (skip s)
unfolding skip
skip-whites [] = no-whitespace
skip-whites (b ∷ s) =
    by_bool (is_whitespace b)
    (λ t. rw (t, skip) (Whitespaces.whitespace t (skip-whites s)))
    (λ t. rw (t, skip) no-whitespace)

pub whites-skip : {s k : List ℕ} → Whitespaces s k → skip s ≡ skip k
unfolding skip
whites-skip no-whitespace = refl
whites-skip (Whitespaces.whitespace {b = b} t w) = rw (t, skip) (whites-skip w)

-- ---- up to a mark

pub upto-sound : (m : ℕ) (s : List ℕ) {l k : List ℕ} → upto m s ≡ got l k → Upto m s l k
unfolding upto
upto-sound m [] e = never e
upto-sound m (b ∷ s) e =
    pick-cases (eqb b m) _ _ e
    (λ t h. let z : b ≡ m = eqb-true b m t in got_same (Upto m (b ∷ s)) h (rw z upto-mark))
    (λ t h. pick-cases (is_whitespace b) _ _ h
    (λ u i. upto-white u (upto-sound m s i))
    (λ u i. bind-cases (upto m s) _ i (λ l' k' h₁ h₂. got_same (Upto m (b ∷ s)) h₂ (upto-other u (eqb-false b m t) (upto-sound m s h₁)))))

-- the mark is no whitespace
pub upto-complete : (m : ℕ) {s l k : List ℕ} → is_whitespace m ≡ false → Upto m s l k → upto m s ≡ got l k
unfolding upto bind
upto-complete m z upto-mark = rw (eq-eqb m m refl, upto)
upto-complete m z (upto-white {b = b} t u) =
    rw (ne_eqb b m (λ e. differ (ap is_whitespace (sym e) ∙ t) z), upto, t) (upto-complete m z u)
upto-complete m z (upto-other {b = b} t n u) = rw (ne_eqb b m n, upto, t, upto-complete m z u)

-- ---- hexadecimal

also-cases : {G : Type 0} {r : List ℕ} (d : List ℕ) (o : Option (List ℕ)) → also d o ≡ some r → ((e : List ℕ) → o ≡ some e → some (d ++ e) ≡ some r → G) → G
unfolding also
also-cases d none h g = none-some h
also-cases d (some e) h g = g e refl h

pub hex-sound : (l : List ℕ) {d : List ℕ} → unhex l ≡ some d → Hex l d
unfolding unhex
hex-sound [] e = some_same (Hex []) e no-hex
hex-sound (a ∷ []) e = none-some e
hex-sound (a ∷ b ∷ s) e =
    pick-cases (ltb (hexval a) 16) _ _ e
    (λ t h. pick-cases (ltb (hexval b) 16) _ _ h
    (λ u i. also-cases _ (unhex s) i (λ d' h₁ h₂. some_same (Hex (a ∷ b ∷ s)) h₂ (two-hex (ltb-true _ _ t) (ltb-true _ _ u) (hex-sound s h₁))))
    (λ u i. none-some i))
    (λ t h. none-some h)

pub hex-complete : {l d : List ℕ} → Hex l d → unhex l ≡ some d
unfolding unhex also
hex-complete no-hex = refl
hex-complete (two-hex {a = a} {b = b} t u h) = picked _ _ (lt-ltb (hexval a) 16 t) ∙ picked _ _ (lt-ltb (hexval b) 16 u) ∙ ap (also ((hexval a * 16 + hexval b) ∷ [])) (hex-complete h)

-- ---- base-64

pad-no-letter : (e : ℕ) → letter e < 64 → e ≡ 61 → ⊥
unfolding letter
pad-no-letter e h z = let w : letter 61 < 64 = rw z at h in omega arith

two-padded : (ρ : Rules) (a b : ℕ) → three_of ρ a b 61 ≡ two_of ρ a b
unfolding three_of
two-padded ρ a b = refl

two-complete : (ρ : Rules) (a b : ℕ) → letter a < 64 → letter b < 64 → ρ.leftover (letter b % 16) ≡ true → two_of ρ a b ≡ some (octet₁ a b ∷ [])
unfolding two_of
two-complete ρ a b h k l = picked _ _ (lt-ltb (letter a) 64 h) ∙ picked _ _ (lt-ltb (letter b) 64 k) ∙ picked _ _ l

three-complete : (ρ : Rules) (a b c : ℕ) → letter a < 64 → letter b < 64 → letter c < 64 → ρ.leftover (letter c % 4) ≡ true → three_of ρ a b c ≡ some (octet₁ a b ∷ octet₂ b c ∷ [])
unfolding three_of
three-complete ρ a b c h k l m =
    unpicked _ _ (ne_eqb c 61 (pad-no-letter c l)) ∙ picked _ _ (lt-ltb (letter a) 64 h) ∙ picked _ _ (lt-ltb (letter b) 64 k) ∙ picked _ _ (lt-ltb (letter c) 64 l) ∙ picked _ _ m

module _ {ρ : Rules} where
  two-sound : (a b : ℕ) {d : List ℕ} (p : List ℕ) → Pads 2 p → two_of ρ a b ≡ some d → Base64 ρ (a ∷ b ∷ p) d
  unfolding two_of
  two-sound a b p q e =
      pick-cases (ltb (letter a) 64) _ _ e
      (λ t h. pick-cases (ltb (letter b) 64) _ _ h
      (λ u i. pick-cases (ρ.leftover (letter b % 16)) _ _ i (λ v j. some_same (Base64 ρ (a ∷ b ∷ p)) j (two (ltb-true _ _ t) (ltb-true _ _ u) v q)) (λ v j. none-some j))
      (λ u i. none-some i))
      (λ t h. none-some h)

  -- one more pad is allowed after two letters than after three
  three-sound : (a b c : ℕ) {d : List ℕ} (p : List ℕ) → Pads 1 p → three_of ρ a b c ≡ some d → Base64 ρ (a ∷ b ∷ c ∷ p) d
  unfolding three_of
  three-sound a b c {d} p q e =
      pick-cases (eqb c 61) _ _ e
      (λ z h. let w : c ≡ 61 = eqb-true c 61 z in rw w (two-sound a b (61 ∷ p) (a-pad q) h))
      (λ z h. pick-cases (ltb (letter a) 64) _ _ h
      (λ t i. pick-cases (ltb (letter b) 64) _ _ i
      (λ u j. pick-cases (ltb (letter c) 64) _ _ j
      (λ v k. pick-cases (ρ.leftover (letter c % 4)) _ _ k (λ w l. some_same (Base64 ρ (a ∷ b ∷ c ∷ p)) l (three (ltb-true _ _ t) (ltb-true _ _ u) (ltb-true _ _ v) w q)) (λ w l. none-some l))
      (λ v k. none-some k))
      (λ u j. none-some j))
      (λ t i. none-some i))

  four-sound : (a b c e : ℕ) {d f : List ℕ} {s : List ℕ} → four_of a b c e ≡ some d → Base64 ρ s f → Base64 ρ (a ∷ b ∷ c ∷ e ∷ s) (d ++ f)
  unfolding four_of
  four-sound a b c e {d} {f} {s} x y =
      pick-cases (ltb (letter a) 64) _ _ x
      (λ t i. pick-cases (ltb (letter b) 64) _ _ i
      (λ u j. pick-cases (ltb (letter c) 64) _ _ j
      (λ v k. pick-cases (ltb (letter e) 64) _ _ k
      (λ w l. some_same (λ (d : List ℕ). Base64 ρ (a ∷ b ∷ c ∷ e ∷ s) (d ++ f)) l (four (ltb-true _ _ t) (ltb-true _ _ u) (ltb-true _ _ v) (ltb-true _ _ w) y))
      (λ w l. none-some l))
      (λ v k. none-some k))
      (λ u j. none-some j))
      (λ t i. none-some i)

pub four-complete : (a b c e : ℕ) → letter a < 64 → letter b < 64 → letter c < 64 → letter e < 64 → four_of a b c e ≡ some (octet₁ a b ∷ octet₂ b c ∷ octet₃ c e ∷ [])
unfolding four_of
four-complete a b c e h k l m = rw (lt-ltb (letter a) 64 h, lt-ltb (letter b) 64 k, lt-ltb (letter c) 64 l, lt-ltb (letter e) 64 m, four_of)

joined-cases : {G : Type 0} {r : List ℕ} (o q : Option (List ℕ)) → joined o q ≡ some r → ((d e : List ℕ) → o ≡ some d → q ≡ some e → some (d ++ e) ≡ some r → G) → G
unfolding joined
joined-cases none q h g = none-some h
joined-cases (some d) q h g = also-cases d q h (λ e i j. g d e refl i j)

module _ {ρ : Rules} where
  pub base-sound : (l : List ℕ) {d : List ℕ} → unbase ρ l ≡ some d → Base64 ρ l d
  unfolding unbase lastly
  base-sound [] e = some_same (Base64 ρ []) e no-letter
  base-sound (a ∷ []) e = none-some e
  base-sound (a ∷ b ∷ []) e = two-sound a b [] no-pad e
  base-sound (a ∷ b ∷ c ∷ []) e = three-sound a b c [] no-pad e
  base-sound (a ∷ b ∷ c ∷ e ∷ []) x =
      pick-cases (eqb e 61) _ _ x
      (λ z h. let w : e ≡ 61 = eqb-true e 61 z in rw w (three-sound a b c (61 ∷ []) (a-pad no-pad) h))
      (λ z h. joined-cases (four_of a b c e) (unbase ρ []) h (λ d f i j k. some_same (Base64 ρ (a ∷ b ∷ c ∷ e ∷ [])) k (four-sound a b c e i (base-sound [] j))))
  base-sound (a ∷ b ∷ c ∷ e ∷ m ∷ s) x =
      pick-cases (eqb e 61) _ _ x
      (λ z h. none-some h)
      (λ z h. joined-cases (four_of a b c e) (unbase ρ (m ∷ s)) h (λ d f i j k. some_same (Base64 ρ (a ∷ b ∷ c ∷ e ∷ m ∷ s)) k (four-sound a b c e i (base-sound (m ∷ s) j))))

  pub base-complete : {l d : List ℕ} → Base64 ρ l d → unbase ρ l ≡ some d
  unfolding unbase lastly joined also
  base-complete no-letter = refl
  base-complete (four {a = a} {b = b} {c = c} {e = e} h k l m x) =
      unpicked _ _ (ne_eqb e 61 (pad-no-letter e m)) ∙ ap₂ joined (four-complete a b c e h k l m) (base-complete x)
  base-complete (three {a = a} {b = b} {c = c} h k l m no-pad) = three-complete ρ a b c h k l m
  base-complete (three {a = a} {b = b} {c = c} h k l m (a-pad no-pad)) = three-complete ρ a b c h k l m
  base-complete (two {a = a} {b = b} h k m no-pad) = two-complete ρ a b h k m
  base-complete (two {a = a} {b = b} h k m (a-pad no-pad)) = two-padded ρ a b ∙ two-complete ρ a b h k m
  base-complete (two {a = a} {b = b} h k m (a-pad (a-pad no-pad))) = two-padded ρ a b ∙ two-complete ρ a b h k m
