-- Form 1: a text is read exactly when it is a tree's canonical form.
use Prim.Native.Nat.{ℕ, ◌≤◌}
use native.Mathlib.Omega.{arith}
use mathlib.Core.Path.{◌≡◌, sym, ap, ◌∙◌, subst}
use mathlib.Core.Option.{some}
use mathlib.Core.List.{List, [], ◌∷◌, append-nil}
use lib.ListN.{length, length-append}
use Rattle.base.specs.Choice.{chain}
use Rattle.base.proofs.Cases.{chain-cases}
use Rattle.model.specs.Decode.{nest, decode₁}
use Rattle.model.specs.Grammar.{CSexp, Canonical}
use Rattle.model.specs.Lexemes.{strict_lexemes}
use Rattle.model.specs.Tree.{Tree, plain, hinted, list, verbatim, canon, canons}
use Rattle.model.proofs.Nesting.{unnest, nest-sound, nest-complete}
use Rattle.model.proofs.Rules.{c-sexp-strip, strip-c-sexp}
use Rattle.model.proofs.Sizes.{digits-length, verbatim-length}
use Rattle.model.proofs.Strict.{octets_of_lexemes, unnest-octets, strict-all-sound, strict-all-complete}

pub unnest-canon : (t : Tree) → octets_of_lexemes (unnest t []) ≡ canon t
unfolding octets_of_lexemes
unnest-canon t = unnest-octets t [] ∙ append-nil (canon t)

-- a text is read in form 1 exactly when it is a tree's canonical form
pub canon-sound : (s : List ℕ) (t : Tree) → decode₁ s ≡ some t → s ≡ canon t
unfolding decode₁
canon-sound s t e = chain-cases (strict_lexemes s) nest e (λ ls h₁ h₂. strict-all-sound s h₁ ∙ ap octets_of_lexemes (nest-sound ls t h₂) ∙ unnest-canon t)

pub canon-complete : (t : Tree) → decode₁ (canon t) ≡ some t
unfolding decode₁ chain
canon-complete t = rw (← unnest-canon t, strict-all-complete (unnest t [])) (nest-complete t)

pub c-sexp-canon : {s : List ℕ} {t : Tree} → CSexp s t [] → s ≡ canon t
c-sexp-canon {s} {t} x = c-sexp-strip x ∙ append-nil (canon t)

pub c-sexp-sound : (s : List ℕ) (t : Tree) → decode₁ s ≡ some t → CSexp s t []
c-sexp-sound s t e = subst (λ (x : List ℕ). CSexp x t []) (append-nil (canon t) ∙ sym (canon-sound s t e)) (strip-c-sexp t [])

pub c-sexp-complete : {s : List ℕ} {t : Tree} → CSexp s t [] → decode₁ s ≡ some t
c-sexp-complete {s} {t} x = ap decode₁ (c-sexp-canon x) ∙ canon-complete t

pub sound₁ : (s : List ℕ) (t : Tree) → decode₁ s ≡ some t → Canonical s t
sound₁ s t e = Canonical.canonical (c-sexp-sound s t e)

pub complete₁ : {s : List ℕ} {t : Tree} → Canonical s t → decode₁ s ≡ some t
complete₁ (Canonical.canonical x) = c-sexp-complete x

pub canon-two : (t : Tree) → 2 ≤ length (canon t)
unfolding canon
canon-two (plain d) = omega (arith, verbatim-length d, digits-length (length d))
canon-two (hinted h d) = omega (arith, length-append (verbatim h) (93 ∷ verbatim d))
canon-two (list f) = omega (arith, length-append (canons f) (41 ∷ []))
