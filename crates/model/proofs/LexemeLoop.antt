-- The lexemes of a text one by one, without a bound on their number: what a loop over a text needs.
use Prim.Native.Nat.{ℕ, zero, suc, ◌≤◌, ◌<◌}
use native.Mathlib.Omega.{arith}
use mathlib.Core.Path.{◌≡◌, refl, ap, ◌∙◌}
use mathlib.Core.Bool.{Bool}
use mathlib.Core.Option.{Option, none, some}
use mathlib.Core.List.{List, [], ◌∷◌}
use lib.ListN.{length, length-append}
use Rattle.model.specs.Decode.{lexeme_in, lexemes}
use Rattle.model.specs.Grammar.{Rules}
use Rattle.model.specs.Lexemes.{Lexeme, stay, strict_lexeme, before, lexemes_by, strict_lexemes}
use Rattle.model.specs.Strings.{Read, got, refused, skip}
use Rattle.model.proofs.Held.{lexeme-in-short}
use Rattle.model.proofs.Marks.{skip-whites}
use Rattle.model.proofs.ReadCases.{never, pick_list, list-nil, list-cons, pick_read, read-got}
use Rattle.model.proofs.Sizes.{whites-size}
use Rattle.model.proofs.Strict.{octets_of_lexeme, strict-sound, octets-some}

-- whatever is skipped, and whatever a lexeme is, if none is empty
module _
    (over : List ℕ → List ℕ)
    (lex : List ℕ → Read Lexeme)
    (over-short : (s : List ℕ) → length (over s) ≤ length s)
    (lex-short : (s : List ℕ) (l : Lexeme) (k : List ℕ) → lex s ≡ got l k → length k < length s)
  where
    -- the step of the loop, over what is done with the rest
    abbrev step_by : (List ℕ → Option (List Lexeme)) → List ℕ → Option (List Lexeme)
    step_by rec s = elim (over s) [ [] ↦ some [] | b ∷ r ↦ elim (lex (b ∷ r)) [ got l k ↦ before l (rec k) | refused ↦ none ] ]

    step_same : (p q : List ℕ → Option (List Lexeme)) (s : List ℕ) → ((k : List ℕ) → length k < length s → p k ≡ q k) → step_by p s ≡ step_by q s
    step_same p q s h = by (over s) refl
      where
        at : (b : ℕ) (r : List ℕ) → length (b ∷ r) ≤ length s → (x : Read Lexeme) → lex (b ∷ r) ≡ x → pick_read x (λ l k. before l (p k)) none ≡ pick_read x (λ l k. before l (q k)) none
        at b r n (got l k) e = ap (before l) (h k (omega (arith, lex-short (b ∷ r) l k e)))
        at b r n refused e = refl

        by : (r : List ℕ) → over s ≡ r
            → pick_list r (some []) (λ b t. pick_read (lex (b ∷ t)) (λ l k. before l (p k)) none) ≡ pick_list r (some []) (λ b t. pick_read (lex (b ∷ t)) (λ l k. before l (q k)) none)
        by [] e = refl
        by (b ∷ r) e = at b r (omega (arith, over-short s, ap length e)) (lex (b ∷ r)) refl

    any-bound : (f g : ℕ) (s : List ℕ) → length s < f → length s < g → lexemes_by over lex f s ≡ lexemes_by over lex g s
    unfolding lexemes_by
    any-bound zero g s h k = absurd (omega arith)
    any-bound (suc f) zero s h k = absurd (omega arith)
    any-bound (suc f) (suc g) s h k = step_same (lexemes_by over lex f) (lexemes_by over lex g) s (λ x l. any-bound f g x (omega arith) (omega arith))

    abbrev all : List ℕ → Option (List Lexeme)
    all s = lexemes_by over lex (suc (length s)) s

    one-step : (s : List ℕ) → all s ≡ step_by all s
    unfolding lexemes_by
    one-step s = step_same (lexemes_by over lex (length s)) all s (λ k l. any-bound (length s) (suc (length k)) k l (omega arith))

    -- the end, a lexeme, and what is none
    at-end : (s : List ℕ) → over s ≡ [] → all s ≡ some []
    at-end s e = one-step s ∙ list-nil _ _ e

    at-lexeme : (s : List ℕ) (b : ℕ) (r k : List ℕ) (l : Lexeme) → over s ≡ b ∷ r → lex (b ∷ r) ≡ got l k → all s ≡ before l (all k)
    at-lexeme s b r k l e h = one-step s ∙ list-cons _ _ b r e ∙ read-got _ _ h

    at_other : (s : List ℕ) (b : ℕ) (r : List ℕ) → over s ≡ b ∷ r → lex (b ∷ r) ≡ refused → all s ≡ none
    at_other s b r e h = one-step s ∙ list-cons _ _ b r e ∙ rw h

-- ---- forms 3 and 4

skip-short : (s : List ℕ) → length (skip s) ≤ length s
skip-short s = whites-size (skip-whites s)

module _ (ρ : Rules) (β : Bool) where
  pub lexemes-end : (s : List ℕ) → skip s ≡ [] → lexemes ρ β s ≡ some []
  unfolding lexemes
  lexemes-end s e = at-end skip (lexeme_in ρ β) skip-short (lexeme-in-short ρ β) s e

  pub lexemes-next : (s : List ℕ) (b : ℕ) (r k : List ℕ) (l : Lexeme) → skip s ≡ b ∷ r → lexeme_in ρ β (b ∷ r) ≡ got l k → lexemes ρ β s ≡ before l (lexemes ρ β k)
  unfolding lexemes
  lexemes-next s b r k l e h = at-lexeme skip (lexeme_in ρ β) skip-short (lexeme-in-short ρ β) s b r k l e h

  pub lexemes-none : (s : List ℕ) (b : ℕ) (r : List ℕ) → skip s ≡ b ∷ r → lexeme_in ρ β (b ∷ r) ≡ refused → lexemes ρ β s ≡ none
  unfolding lexemes
  lexemes-none s b r e h = at_other skip (lexeme_in ρ β) skip-short (lexeme-in-short ρ β) s b r e h

-- ---- form 1

stay-short : (s : List ℕ) → length (stay s) ≤ length s
stay-short s = omega arith

strict-short : (s : List ℕ) (l : Lexeme) (k : List ℕ) → strict_lexeme s ≡ got l k → length k < length s
strict-short s l k e = omega (arith, octets-some l, ap length (strict-sound s e), length-append (octets_of_lexeme l) k)

pub strict-end : strict_lexemes [] ≡ some []
unfolding strict_lexemes
strict-end = at-end stay strict_lexeme stay-short strict-short [] refl

pub strict_next : (s k : List ℕ) (l : Lexeme) → strict_lexeme s ≡ got l k → strict_lexemes s ≡ before l (strict_lexemes k)
unfolding strict_lexemes strict_lexeme
strict_next [] k l h = never h
strict_next (b ∷ s) k l h = at-lexeme stay strict_lexeme stay-short strict-short (b ∷ s) b s k l refl h

pub strict_none : (b : ℕ) (s : List ℕ) → strict_lexeme (b ∷ s) ≡ refused → strict_lexemes (b ∷ s) ≡ none
unfolding strict_lexemes
strict_none b s h = at_other stay strict_lexeme stay-short strict-short (b ∷ s) b s refl h
