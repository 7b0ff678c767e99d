-- Lexemes passed and to come of a text that is converted.
use Prim.Native.Nat.{ℕ, ◌+◌, ◌*◌, ◌-◌, ◌≤◌, ◌<◌}
use native.Mathlib.Omega.{arith}
use mathlib.Core.Path.{◌≡◌, refl, sym, ap, ◌∙◌, subst}
use mathlib.Core.Bool.{Bool, true}
use mathlib.Core.Option.{Option, none, some}
use mathlib.Core.List.{List, [], ◌∷◌, ◌++◌, append_assoc, append-nil}
use lib.ListN.{length, drop, get_or}
use Rattle.base.specs.Choice.{chain}
use Rattle.base.proofs.Cases.{chain-cases}
use Rattle.model.specs.Grammar.{rules}
use Rattle.model.specs.Decode.{nest, braces, lexeme_in, lexemes, decode₃}
use Rattle.model.specs.Lexemes.{Lexeme, before}
use Rattle.model.specs.Limits.{max_canonical}
use Rattle.model.specs.Strings.{Read, got, refused, skip}
use Rattle.model.specs.Tree.{Tree, canon}
use Rattle.model.proofs.Braces.{unnesting}
use Rattle.model.proofs.Canonical.{unnest-canon}
use Rattle.model.proofs.Held.{Held, braces-sound}
use Rattle.model.proofs.Nesting.{unnest, nest-sound}
use Rattle.model.proofs.Unique.{canon-inj}
use Rattle.model.proofs.Unnested.{unnest-split}
use Rattle.model.proofs.LexemeLoop.{lexemes-next, lexemes-none}
use Rattle.model.proofs.Strict.{octets_of_lexeme, octets_of_lexemes}
use Rattle.model.specs.Count.{Count, shut}
use Rattle.walk.proofs.Chained.{walking, walking-shut}
use Rattle.scan.proofs.Places.{one-here}
use Rattle.advanced.specs.Converted.{Enough, thrice, largest}

-- the octets of the lexemes, one after the other, are the canonical form
pub lexemes-canon : (β : Bool) (src : List ℕ) (ls : List Lexeme) (t : Tree) → lexemes rules β src ≡ some ls → chain (lexemes rules β src) nest ≡ some t → octets_of_lexemes ls ≡ canon t
unfolding chain
lexemes-canon β src ls t e h = ap octets_of_lexemes (nest-sound ls t (rw e at h)) ∙ unnest-canon t

-- the lexemes passed stand before the others
unfoldable pub prefixed : List Lexeme → Option (List Lexeme) → Option (List Lexeme)
prefixed p none = none
prefixed p (some ls) = some (p ++ ls)

pub prefixed-none : (x : Option (List Lexeme)) → x ≡ prefixed [] x
unfolding prefixed
prefixed-none none = refl
prefixed-none (some ls) = refl

pub prefixed-step : (p : List Lexeme) (l : Lexeme) (y : Option (List Lexeme)) → prefixed p (before l y) ≡ prefixed (p ++ (l ∷ [])) y
unfolding prefixed before
prefixed-step p l none = refl
prefixed-step p l (some ls) = ap some (sym (append_assoc p (l ∷ []) ls))

pub octets-both : (a b : List Lexeme) → octets_of_lexemes (a ++ b) ≡ octets_of_lexemes a ++ octets_of_lexemes b
unfolding octets_of_lexemes
octets-both [] b = refl
octets-both (l ∷ a) b = ap (λ (x : List ℕ). octets_of_lexeme l ++ x) (octets-both a b) ∙ sym (append_assoc (octets_of_lexeme l) (octets_of_lexemes a) (octets_of_lexemes b))

pub prefixed-tree : (p : List Lexeme) (t : Tree) (y : Option (List Lexeme)) → prefixed p (unnesting t y) ≡ prefixed (p ++ unnest t []) y
unfolding prefixed unnesting
prefixed-tree p t none = refl
prefixed-tree p t (some ls) = ap some (ap (λ (x : List Lexeme). p ++ x) (unnest-split t ls) ∙ sym (append_assoc p (unnest t []) ls))

-- what braces hold, by what is read of them
pub held_of : {s k : List ℕ} {t : Tree} → braces rules s ≡ got (canon t) k → Held rules s t k
held_of {s} {k} {t} e = braces-sound s e (λ u c h. subst (λ (x : Tree). Held rules s x k) (canon-inj u t (sym c)) h)

pub octets-more : (a : List Lexeme) (l : Lexeme) → octets_of_lexemes (a ++ (l ∷ [])) ≡ octets_of_lexemes a ++ octets_of_lexeme l
unfolding octets_of_lexemes
octets-more a l = octets-both a (l ∷ []) ∙ ap (λ (x : List ℕ). octets_of_lexemes a ++ x) (append-nil (octets_of_lexeme l))

module _ (β : Bool) (src : List ℕ) (at i : ℕ) (e : skip (drop at src) ≡ drop i src) (h : i < length src) where
  pub place-next : (l : Lexeme) (k : List ℕ) → lexeme_in rules β (drop i src) ≡ got l k → lexemes rules β (drop at src) ≡ before l (lexemes rules β k)
  place-next l k f = lexemes-next rules β (drop at src) (get_or src i 0) (drop (i + 1) src) k l (e ∙ one-here src i h) (ap (lexeme_in rules β) (sym (one-here src i h)) ∙ f)

  pub place_none : lexeme_in rules β (drop i src) ≡ refused → lexemes rules β (drop at src) ≡ none
  place_none f = lexemes-none rules β (drop at src) (get_or src i 0) (drop (i + 1) src) (e ∙ one-here src i h) (ap (lexeme_in rules β) (sym (one-here src i h)) ∙ f)

  pub past-shut : (c : Count) → shut c ≡ true → walking (lexemes rules β (drop at src)) c ≡ none
  unfolding chain
  past-shut c s = by (lexeme_in rules β (drop i src)) refl
    where
      by : (x : Read Lexeme) → lexeme_in rules β (drop i src) ≡ x → walking (lexemes rules β (drop at src)) c ≡ none
      by (got l k) f = ap (λ (y : Option (List Lexeme)). walking y c) (place-next l k f) ∙ walking-shut l (lexemes rules β k) c s
      by refused f = ap (λ (y : Option (List Lexeme)). walking y c) (place_none f)

-- there is room for a string at any place
pub enough : (n room at o : ℕ) → Enough n room → at ≤ n → o ≤ max_canonical → o ≤ 3 * at → o + (n - at) + 40 ≤ room
enough n room at o (thrice h) a b c = omega arith
enough n room at o (largest h) a b c = omega arith

-- the lexemes of a text that means a tree
pub lexed : (β : Bool) (src : List ℕ) (t : Tree) → decode₃ rules β src ≡ some t → lexemes rules β src ≡ some (unnest t [])
unfolding decode₃
lexed β src t e = chain-cases (lexemes rules β src) nest e (λ ls h₁ h₂. h₁ ∙ ap some (nest-sound ls t h₂))
