-- Reading lexemes is exact.
use Prim.Native.Nat.{ℕ, ◌<◌}
use native.Mathlib.Omega.{arith}
use mathlib.Core.Path.{◌≡◌, refl, sym, ap, ◌∙◌, subst}
use mathlib.Core.Option.{Option, none, some}
use mathlib.Core.List.{List, [], ◌∷◌}
use lib.ListN.{length}
use lib.Dec.{eqb}
use borrow.Author.Tests.{ne_eqb, eqb-true}
use Rattle.base.specs.Choice.{member}
use Rattle.base.proofs.Cases.{pick-cases, unpicked, none-some}
use Rattle.model.specs.Amended.{Apart}
use Rattle.model.specs.Grammar.{Whitespaces, Rules}
use Rattle.model.specs.Lexemes.{Lexeme, opening, closing, atom, hinting, close_hint, lexeme, before}
use Rattle.model.specs.Octets.{is_whitespace, is_alpha, is_simple_punc, is_token_start}
use Rattle.model.specs.Strings.{got, refused, bind, skip, marked, simple}
use Rattle.model.proofs.Marks.{skip-whites, whites-skip}
use Rattle.model.proofs.ReadCases.{bind-cases, never, got_same}
use Rattle.model.proofs.Simples.{simple-sound, Begun, simple-begun, simple-complete, simple-skip}
use Rattle.model.proofs.Sizes.{simple-short, whites-size}
use Rattle.model.proofs.Stripped.{Simple}

pub data Lexed (ρ : Rules) : List ℕ → Lexeme → List ℕ → Type 0 where
  l-open : {k : List ℕ} → Lexed ρ (40 ∷ k) opening k
  l-close : {k : List ℕ} → Lexed ρ (41 ∷ k) closing k
  l-atom : {s d k : List ℕ} → Simple ρ s d k → Lexed ρ s (atom d) k
  l-hint : {s s₁ s₂ s₃ s₄ h d k : List ℕ} → Whitespaces s s₁ → Simple ρ s₁ h s₂ → Whitespaces s₂ (93 ∷ s₃) → Whitespaces s₃ s₄ → Simple ρ s₄ d k → Lexed ρ (91 ∷ s) (hinting h d) k

-- ---- one lexeme

module _ {ρ : Rules} where
  close_hint-cases : {G : Type 0} (h s : List ℕ) {l : Lexeme} {k : List ℕ} → close_hint ρ h s ≡ got l k → ((d r k' : List ℕ) → s ≡ 93 ∷ r → Simple ρ (skip r) d k' → got (hinting h d) k' ≡ got l k → G) → G
  unfolding close_hint
  close_hint-cases h [] e g = never e
  close_hint-cases h (b ∷ s) e g =
      pick-cases (eqb b 93) _ _ e
      (λ t i. bind-cases (simple ρ (skip s)) _ i (λ d k' h₁ h₂. g d s k' (ap (λ (x : ℕ). x ∷ s) (eqb-true b 93 t)) (simple-sound (skip s) h₁) h₂))
      (λ t i. never i)

  pub lexeme-sound : (s : List ℕ) {l : Lexeme} {k : List ℕ} → lexeme ρ s ≡ got l k → Lexed ρ s l k
  unfolding lexeme
  lexeme-sound [] e = never e
  lexeme-sound (b ∷ s) {l} {k} e =
      pick-cases (eqb b 40) _ _ e
      (λ t h. let z : b ≡ 40 = eqb-true b 40 t in rw z (got_same (Lexed ρ (40 ∷ s)) h l-open))
      (λ t h. pick-cases (eqb b 41) _ _ h
      (λ u i. let z : b ≡ 41 = eqb-true b 41 u in rw z (got_same (Lexed ρ (41 ∷ s)) i l-close))
      (λ u i. pick-cases (eqb b 91) _ _ i
      (λ v j.
      let z : b ≡ 91 = eqb-true b 91 v in
      rw z (bind-cases (simple ρ (skip s)) _ j
      (λ x k' h₁ h₂. close_hint-cases x (skip k') h₂
      (λ d r k'' w y q. got_same (Lexed ρ (91 ∷ s)) q (l-hint (skip-whites s) (simple-sound (skip s) h₁) (subst (Whitespaces k') w (skip-whites k')) (skip-whites r) y)))))
      (λ v j. bind-cases (simple ρ (b ∷ s)) _ j (λ d k' h₁ h₂. got_same (Lexed ρ (b ∷ s)) h₂ (l-atom (simple-sound (b ∷ s) h₁))))))

-- no simple string begins with a parenthesis or a bracket
pub refuses : (ρ : Rules) (c b : ℕ) (s : List ℕ) {d k : List ℕ} → ((r : List ℕ) → simple ρ (c ∷ r) ≡ refused) → simple ρ (b ∷ s) ≡ got d k → b ≡ c → ⊥
refuses ρ c b s x e z = never (sym (x s) ∙ ap (λ (y : ℕ). simple ρ (y ∷ s)) (sym z) ∙ e)

module _ {ρ : Rules} (apart : Apart ρ) where
  atom-complete : {s d k : List ℕ} → Simple ρ s d k → lexeme ρ s ≡ got (atom d) k
  unfolding lexeme bind simple is_whitespace member marked is_token_start is_alpha is_simple_punc
  atom-complete {s} {d} {k} x =
      let b : Begun ρ s d k = simple-begun apart x in
      let e : simple ρ (b.first ∷ b.rest) ≡ got d k = ap (simple ρ) (sym b.is) ∙ b.reads in
      ap (lexeme ρ) b.is
      ∙ unpicked _ _ (ne_eqb b.first 40 (refuses ρ 40 b.first b.rest (λ r. refl) e))
      ∙ unpicked _ _ (ne_eqb b.first 41 (refuses ρ 41 b.first b.rest (λ r. refl) e))
      ∙ unpicked _ _ (ne_eqb b.first 91 (refuses ρ 91 b.first b.rest (λ r. refl) e))
      ∙ rw e

skip-bracket : (s : List ℕ) → skip (93 ∷ s) ≡ 93 ∷ s
unfolding skip is_whitespace member
skip-bracket s = refl

module _ {ρ : Rules} (apart : Apart ρ) where
  pub lexeme-complete : {s k : List ℕ} {l : Lexeme} → Lexed ρ s l k → lexeme ρ s ≡ got l k
  unfolding lexeme bind close_hint
  lexeme-complete l-open = refl
  lexeme-complete l-close = refl
  lexeme-complete (l-atom x) = atom-complete apart x
  lexeme-complete (l-hint {s₃ = s₃} w₁ x w₂ w₃ y) =
      rw (whites-skip w₁, simple-skip apart x, simple-complete apart x, whites-skip w₂, skip-bracket s₃, whites-skip w₃, simple-skip apart y, simple-complete apart y)

  pub lexed-skip : {s k : List ℕ} {l : Lexeme} → Lexed ρ s l k → skip s ≡ s
  unfolding skip is_whitespace member
  lexed-skip l-open = refl
  lexed-skip l-close = refl
  lexed-skip (l-atom x) = simple-skip apart x
  lexed-skip (l-hint w₁ x w₂ w₃ y) = refl

module _ {ρ : Rules} where
  pub lexed-short : {s k : List ℕ} {l : Lexeme} → Lexed ρ s l k → length k < length s
  lexed-short l-open = omega arith
  lexed-short l-close = omega arith
  lexed-short (l-atom x) = simple-short x
  lexed-short (l-hint w₁ x w₂ w₃ y) = omega (arith, whites-size w₁, simple-short x, whites-size w₂, whites-size w₃, simple-short y)

pub before-cases : {G : Type 0} (l : Lexeme) (o : Option (List Lexeme)) {ls : List Lexeme} → before l o ≡ some ls → ((x : List Lexeme) → o ≡ some x → some (l ∷ x) ≡ some ls → G) → G
unfolding before
before-cases l none e g = none-some e
before-cases l (some x) e g = g x refl e
