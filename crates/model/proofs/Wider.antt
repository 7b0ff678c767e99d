-- Wider rules accept at least the same texts, with the same trees.
use Prim.Native.Nat.{ℕ, ◌<◌}
use mathlib.Core.Path.{◌≡◌, refl, subst}
use mathlib.Core.Bool.{Bool, true}
use mathlib.Core.List.{List, [], ◌∷◌}
use Rattle.model.specs.Tree.{Tree, Forest}
use Rattle.model.specs.Grammar.{Rules, Quotable, escaped-octet, escaped-octal, escaped-hex, escaped-cr, escaped-lf, escaped-cr-lf, escaped-lf-cr, Quotables, dquote, quotable, Base64Chars, closing-mark, base-64-chars, base-64-end-3, base-64-end-2, SimpleString, verbatim-string, quoted-string, token, hexadecimal, base-64, Display, Value, display-string, list-value, Values, closing-parenthesis, a-whitespace, b-c-sexp, b-base-64, Advanced, sexp, Language, form-1, form-2, form-3, form-4, braced-value}
use Rattle.model.specs.Amended.{Wider}

module _ {ρ σ : Rules} (w : Wider ρ σ) where
  octet-wider : (e : ℕ) (k : List ℕ) → ρ.escape e < 256 → Quotable σ (92 ∷ e ∷ k) (ρ.escape e ∷ []) k
  octet-wider e k h = subst (λ (x : ℕ). Quotable σ (92 ∷ e ∷ k) (x ∷ []) k) (w.escapes e h) (escaped-octet (rw (w.escapes e h) h))

  quotable-wider : {s p k : List ℕ} → Quotable ρ s p k → Quotable σ s p k
  quotable-wider (Quotable.printable t) = Quotable.printable t
  quotable-wider (escaped-octet {e = e} {k = k} h) = octet-wider e k h
  quotable-wider (escaped-octal a b c h) = escaped-octal a b c h
  quotable-wider (escaped-hex a b) = escaped-hex a b
  quotable-wider escaped-cr = escaped-cr
  quotable-wider escaped-lf = escaped-lf
  quotable-wider escaped-cr-lf = escaped-cr-lf
  quotable-wider escaped-lf-cr = escaped-lf-cr

  quotables-wider : {s d k : List ℕ} → Quotables ρ s d k → Quotables σ s d k
  quotables-wider dquote = dquote
  quotables-wider (quotable p q) = quotable (quotable-wider p) (quotables-wider q)

  letters-wider : {m : ℕ} {s d k : List ℕ} → Base64Chars ρ m s d k → Base64Chars σ m s d k
  letters-wider closing-mark = closing-mark
  letters-wider (base-64-chars a b c e h) = base-64-chars a b c e (letters-wider h)
  letters-wider (base-64-end-3 a b c h q) = base-64-end-3 a b c (w.leftovers _ h) q
  letters-wider (base-64-end-2 a b h q) = base-64-end-2 a b (w.leftovers _ h) q

  string-wider : {s d k : List ℕ} → SimpleString ρ s d k → SimpleString σ s d k
  string-wider (verbatim-string v) = verbatim-string v
  string-wider (quoted-string l q) = quoted-string l (quotables-wider q)
  string-wider (token t r) = token t r
  string-wider (hexadecimal l a h) = hexadecimal l a h
  string-wider (base-64 l a h) = base-64 l a (letters-wider h)

  display-wider : {s h k : List ℕ} → Display ρ s h k → Display σ s h k
  display-wider (Display.display a x b c) = Display.display a (string-wider x) b c

  module _ {β γ : Bool} (u : β ≡ true → γ ≡ true) where
    mutual
      value-wider : {s k : List ℕ} {t : Tree} → Value ρ β s t k → Value σ γ s t k
      value-wider (Value.string x) = Value.string (string-wider x)
      value-wider (display-string h x) = display-string (display-wider h) (string-wider x)
      value-wider (braced-value e a h c) = braced-value (u e) a (letters-wider h) c
      value-wider (list-value v) = list-value (values-wider v)

      values-wider : {s k : List ℕ} {f : Forest} → Values ρ β s f k → Values σ γ s f k
      values-wider closing-parenthesis = closing-parenthesis
      values-wider (a-whitespace t v) = a-whitespace t (values-wider v)
      values-wider (Values.value x v) = Values.value (value-wider x) (values-wider v)

    pub advanced-wider : {s : List ℕ} {t : Tree} → Advanced ρ β s t → Advanced σ γ s t
    advanced-wider (sexp a v b) = sexp a (value-wider v) b

  pub language-wider : {form : ℕ} {s : List ℕ} {t : Tree} → Language ρ form s t → Language σ form s t
  language-wider (form-1 c) = form-1 c
  language-wider (form-2 (b-c-sexp c)) = form-2 (b-c-sexp c)
  language-wider (form-2 (b-base-64 a h n c)) = form-2 (b-base-64 a (letters-wider h) n c)
  language-wider (form-3 x) = form-3 (advanced-wider (λ e. e) x)
  language-wider (form-4 x) = form-4 (advanced-wider (λ e. e) x)

-- S 3.15: form 4 accepts what form 3 accepts, with the same tree
pub form-3-in-4 : {ρ : Rules} {s : List ℕ} {t : Tree} → Language ρ 3 s t → Language ρ 4 s t
form-3-in-4 (form-3 x) = form-4 (advanced-wider (record { leftovers = λ n h. h; escapes = λ e h. refl }) (λ e. refl) x)
