-- Braces where a value may stand: what they hold.
use Prim.Native.Nat.{ℕ, ◌+◌, ◌≤◌, ◌<◌}
use native.Mathlib.Omega.{arith}
use mathlib.Core.Path.{◌≡◌, refl, ap, ◌∙◌, subst}
use mathlib.Core.Bool.{Bool, true, false}
use mathlib.Core.Option.{Option, none, some}
use mathlib.Core.List.{List, [], ◌∷◌, ◌++◌}
use lib.ListN.{length, length-append}
use lib.Dec.{eqb}
use Rattle.base.specs.Choice.{both, member}
use Rattle.base.proofs.Cases.{pick-cases, picked, unpicked}
use Rattle.model.specs.Decode.{decode₁, canonical_of, braces, lexeme_in}
use Rattle.model.specs.Grammar.{Rules}
use Rattle.model.specs.Lexemes.{Lexeme, lexeme}
use Rattle.model.specs.Octets.{is_whitespace}
use Rattle.model.specs.Strings.{Read, got, refused, bind, upto, unbase, decoded}
use Rattle.model.specs.Tree.{Tree, canon}
use Rattle.model.proofs.Canonical.{canon-sound, canon-complete}
use Rattle.model.proofs.Lexemes.{lexeme-sound, lexed-short}
use Rattle.model.proofs.Marks.{upto-sound, upto-complete, base-sound, base-complete}
use Rattle.model.proofs.ReadCases.{bind-cases, never}
use Rattle.model.proofs.Simples.{reading-cases}
use Rattle.model.proofs.Sizes.{upto-size, base-size}
use Rattle.model.proofs.Stripped.{Upto, Base64}

-- after an opening brace: base-64 of a tree's canonical form, and the closing one
pub record Held (ρ : Rules) (s : List ℕ) (t : Tree) (k : List ℕ) : Type 0 where
  pub letters : List ℕ
  pub upto : Upto 125 s letters k
  pub means : Base64 ρ letters (canon t)

canonical-cases : {G : Type 0} (d k : List ℕ) {e r : List ℕ} → canonical_of d k ≡ got e r → ((t : Tree) → d ≡ canon t → got d k ≡ got e r → G) → G
unfolding canonical_of
canonical-cases {G} d k {e} {r} h g = by (decode₁ d) refl h
  where
    by : (o : Option Tree) → decode₁ d ≡ o → elim o [ some t ↦ got d k | none ↦ refused ] ≡ got e r → G
    by none z h = never h
    by (some t) z h = g t (canon-sound d t z) h

canonical-is : (t : Tree) (k : List ℕ) → canonical_of (canon t) k ≡ got (canon t) k
unfolding canonical_of
canonical-is t k = rw (canonical_of, canon-complete t)

module _ {ρ : Rules} where
  pub braces-sound : {G : Type 0} (s : List ℕ) {d k : List ℕ} → braces ρ s ≡ got d k → ((t : Tree) → d ≡ canon t → Held ρ s t k → G) → G
  unfolding braces
  braces-sound s {d} {k} h g =
      bind-cases (bind (upto 125 s) (λ l k. decoded (unbase ρ l) k)) _ h
      (λ d₂ k₂ h₁ h₂. canonical-cases d₂ k₂ h₂
      (λ t c h₃. bind-cases (upto 125 s) _ h₁
      (λ l k₁ h₄ h₅. reading-cases (unbase ρ l) k₁ h₅
      (λ d₁ h₆ h₇.
      let x : d₁ ≡ canon t = cc in
      let y : d ≡ canon t = cc in
      let z : k₁ ≡ k = cc in
      g t y (record { letters = l; upto = subst (Upto 125 s l) z (upto-sound 125 s h₄); means = subst (Base64 ρ l) x (base-sound l h₆) })))))

  pub braces-complete : {s k : List ℕ} {t : Tree} → Held ρ s t k → braces ρ s ≡ got (canon t) k
  unfolding braces bind decoded is_whitespace member
  braces-complete {s} {k} {t} h =
      ap (λ (x : Read (List ℕ)). bind (bind x (λ l k. decoded (unbase ρ l) k)) canonical_of) (upto-complete 125 refl h.upto)
      ∙ ap (λ (o : Option (List ℕ)). bind (decoded o k) canonical_of) (base-complete h.means)
      ∙ canonical-is t k

  pub held-size : {s k : List ℕ} {t : Tree} → Held ρ s t k → length (canon t) + 1 + length k ≤ length s
  held-size h = omega (arith, upto-size h.upto, base-size h.means)

module _ (ρ : Rules) (β : Bool) where
  -- a lexeme, and what is in braces
  pub lexeme-in-other : (b : ℕ) (s : List ℕ) → both β (eqb b 123) ≡ false → lexeme_in ρ β (b ∷ s) ≡ lexeme ρ (b ∷ s)
  unfolding lexeme_in
  lexeme-in-other b s e = unpicked _ _ e

  pub lexeme-in-braces : (b : ℕ) (s : List ℕ) → both β (eqb b 123) ≡ true → lexeme_in ρ β (b ∷ s) ≡ bind (braces ρ s) (λ d k. lexeme ρ (d ++ k))
  unfolding lexeme_in
  lexeme-in-braces b s e = picked _ _ e

  pub lexeme-in-short : (s : List ℕ) (l : Lexeme) (k : List ℕ) → lexeme_in ρ β s ≡ got l k → length k < length s
  unfolding lexeme_in
  lexeme-in-short [] l k e = never e
  lexeme-in-short (b ∷ s) l k e =
      pick-cases (both β (eqb b 123)) _ _ e
      (λ z h. bind-cases (braces ρ s) _ h
      (λ d r h₁ h₂. braces-sound s h₁
      (λ t c x. omega (arith, lexed-short (lexeme-sound (d ++ r) h₂), length-append d r, ap length c, held-size x))))
      (λ z h. lexed-short (lexeme-sound (b ∷ s) h))
