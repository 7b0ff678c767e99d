-- How a text of each form is taken.
use Prim.Native.Nat.{ℕ, ◌≤◌, ◌<◌}
use native.Mathlib.Omega.{arith}
use mathlib.Core.Path.{◌≡◌, refl, subst}
use mathlib.Core.Bool.{Bool, true, false}
use mathlib.Core.Option.{Option}
use mathlib.Core.List.{List, [], ◌∷◌}
use lib.ListN.{length, get_or}
use lib.Dec.{eqb}
use borrow.Author.Tests.{eq-eqb, ne_eqb}
use Rattle.base.specs.Choice.{chain}
use Rattle.base.proofs.Cases.{by-eq, unpicked, differ}
use Rattle.model.specs.Grammar.{rules}
use Rattle.model.specs.Answers.{braced, place_of}
use Rattle.model.specs.Automaton.{place}
use Rattle.model.specs.Decode.{nestings, only_tree, only_in, nest, decode₁, decode₂, decode₃, decode}
use Rattle.model.specs.Lexemes.{lexemes_by, strict_lexemes}
use Rattle.model.specs.Tree.{Tree}
use Rattle.walk.specs.Extent.{Measured}
use Rattle.texts.specs.Texts.{Takeable, Braced, Enclosed, Coded, Opens, Bare, Taken}

-- ---- form 2 with a brace, or another text

empty-bare : (s : List ℕ) → length s ≡ 0 → decode₂ rules s ≡ decode₁ s
unfolding decode₂ decode₁ chain strict_lexemes lexemes_by nest nestings only_in only_tree
empty-bare [] h = refl
empty-bare (b ∷ s) h = absurd (omega arith)

other-bare : (s : List ℕ) → (length s ≡ 0 → ⊥) → (get_or s 0 0 ≡ 123 → ⊥) → decode₂ rules s ≡ decode₁ s
unfolding decode₂
other-bare [] n e = absurd (omega arith)
other-bare (b ∷ s) n e = unpicked _ _ (ne_eqb b 123 e)

empty-unbraced : (s : List ℕ) → length s ≡ 0 → braced s ≡ false
unfolding braced
empty-unbraced [] h = refl
empty-unbraced (b ∷ s) h = absurd (omega arith)

other-unbraced : (s : List ℕ) → (get_or s 0 0 ≡ 123 → ⊥) → braced s ≡ false
unfolding braced
other-unbraced [] e = refl
other-unbraced (b ∷ s) e = ne_eqb b 123 e

begun-braced : (s : List ℕ) → (length s ≡ 0 → ⊥) → get_or s 0 0 ≡ 123 → braced s ≡ true
unfolding braced
begun-braced [] n e = absurd (omega arith)
begun-braced (b ∷ s) n e = eq-eqb b 123 e

module _ (form : ℕ) (text : List ℕ) where
  bare : decode₂ rules text ≡ decode₁ text → braced text ≡ false → 1 ≤ form → form ≤ 2 → (decode form text ≡ decode₁ text) × (place_of form text ≡ place text)
  unfolding decode place_of
  bare e f lo hi = by-eq form 1 (λ a. rw a (refl, refl)) (λ a. let b : form ≡ 2 = omega arith in rw (b, f) (e, refl))

  pub opens-form : (form ≡ 2 → ⊥) → Opens form text false
  unfolding Opens decode place_of
  opens-form n lo hi = let a : form ≡ 1 = omega arith in rw a (refl, refl)

  pub opens-empty : length text ≡ 0 → Opens form text false
  unfolding Opens
  opens-empty h = bare (empty-bare text h) (empty-unbraced text h)

  pub opens-other : (length text ≡ 0 → ⊥) → (get_or text 0 0 ≡ 123 → ⊥) → Opens form text false
  unfolding Opens
  opens-other n e = bare (other-bare text n e) (other-unbraced text e)

  pub opens-brace : form ≡ 2 → (length text ≡ 0 → ⊥) → get_or text 0 0 ≡ 123 → Opens form text true
  unfolding Opens decode place_of
  opens-brace q n e = record { braced = record { more = omega arith; first = e }; is = rw q; told = rw (q, begun-braced text n e) }

module _ (form : ℕ) (text : List ℕ) where
  pub bare-not : Bare form text false
  bare-not = record { bared = λ e. differ e refl }

  pub bare-basic : (form ≡ 2) → (b : Bool) → Opens form text b → b ≡ false → Bare form text true
  unfolding Opens decode place_of
  bare-basic e b o f =
      let q : Opens form text false = subst (Opens form text) f o in
      record { bared = λ _. record { basic = e; is = (q (omega arith) (omega arith)).0; told = (q (omega arith) (omega arith)).1 } }

-- ---- octets that are spelled
module _ (form : ℕ) (text : List ℕ) where
  pub coded-advanced : 3 ≤ form → Coded form text
  coded-advanced h = record { enclosed = λ k. absurd (omega arith) }

  pub coded-braced : (b : Bool) → Opens form text b → b ≡ true → Coded form text
  unfolding Opens
  coded-braced b o e = record { enclosed = λ k. subst (Opens form text) e o }

-- ---- each form, told as the form's
module _ (form : ℕ) (text : List ℕ) (room : ℕ) (g : Takeable form (length text) room) where
  module _ (scratch notes notes' : List ℕ) (r : Measured) where
    as-form : (y : Option Tree) (p : ℕ) → decode form text ≡ y → place_of form text ≡ p → Taken y p scratch notes notes' r → Taken (decode form text) (place_of form text) scratch notes notes' r
    as-form y p e f t = rw (e, f) t

    pub form-advanced : 3 ≤ form → Taken (decode₃ rules (eqb form 4) text) 0 scratch notes notes' r → Taken (decode form text) (place_of form text) scratch notes notes' r
    unfolding decode place_of
    form-advanced h t =
        as-form (decode₃ rules (eqb form 4) text) 0
        (by-eq form 4 (λ e. rw e) (λ e. let z : form ≡ 3 = omega (arith, g.high) in rw z))
        (by-eq form 4 (λ e. rw e) (λ e. let z : form ≡ 3 = omega (arith, g.high) in rw z)) t

  module _ (k : Coded form text) (n : form < 3) where
    enclosed : Enclosed form text
    enclosed = k.enclosed (omega arith)

    pub form-brace : Braced text
    form-brace = enclosed.braced

    pub form-braced : (scratch notes notes' : List ℕ) (r : Measured) → Taken (decode₂ rules text) 0 scratch notes notes' r → Taken (decode form text) (place_of form text) scratch notes notes' r
    form-braced scratch notes notes' r t = as-form scratch notes notes' r (decode₂ rules text) 0 enclosed.is enclosed.told t

  module _ (n : form < 3) (b : Bool) (o : Opens form text b) (scratch notes notes' : List ℕ) (r : Measured) where
    pub form-canonical : b ≡ false → Taken (decode₁ text) (place text) scratch notes notes' r → Taken (decode form text) (place_of form text) scratch notes notes' r
    unfolding Opens
    form-canonical e t =
        let q : Opens form text false = subst (Opens form text) e o in
        let y : (decode form text ≡ decode₁ text) × (place_of form text ≡ place text) = q g.low (omega arith) in
        as-form scratch notes notes' r (decode₁ text) (place text) y.0 y.1 t
