-- The lexemes of forms 3 and 4: a tree in braces gives its own.
use Prim.Native.Nat.{ℕ, zero, suc, ◌<◌}
use native.Mathlib.Omega.{arith}
use mathlib.Core.Path.{◌≡◌, refl, sym, ap, ◌∙◌, subst}
use mathlib.Core.Bool.{Bool, true, false}
use mathlib.Core.Option.{Option, none, some}
use mathlib.Core.List.{List, [], ◌∷◌, ◌++◌, append_assoc}
use lib.ListN.{length}
use lib.Dec.{eqb}
use borrow.Author.Tests.{eqb-true, ne_eqb}
use Rattle.base.specs.Choice.{both, member}
use Rattle.base.proofs.Cases.{by_bool, both_true, some_same, none-some}
use Rattle.model.specs.Amended.{Apart}
use Rattle.model.specs.Decode.{braces, lexemes}
use Rattle.model.specs.Grammar.{Rules, Whitespaces, no-whitespace}
use Rattle.model.specs.Lexemes.{Lexeme, opening, closing, atom, hinting, lexeme, before}
use Rattle.model.specs.Octets.{is_whitespace, is_alpha, is_simple_punc, is_token_start}
use Rattle.model.specs.Strings.{Read, got, refused, bind, skip, marked, simple}
use Rattle.model.specs.Tree.{Tree, plain, hinted, list, Forest, nil, cons, verbatim, canon, canons}
use Rattle.model.proofs.Held.{Held, braces-sound, braces-complete, held-size, lexeme-in-other, lexeme-in-braces}
use Rattle.model.proofs.LexemeLoop.{lexemes-end, lexemes-next, lexemes-none}
use Rattle.model.proofs.Lexemes.{Lexed, l-open, l-close, l-atom, l-hint, lexeme-sound, lexeme-complete, lexed-skip, lexed-short, refuses, before-cases}
use Rattle.model.proofs.Marks.{skip-whites, whites-skip}
use Rattle.model.proofs.Nesting.{unnest, unnests}
use Rattle.model.proofs.Simples.{simple-complete}
use Rattle.model.proofs.Sizes.{whites-size}
use Rattle.model.proofs.Stripped.{simple-verbatim}

-- a tree's lexemes, and those of several, before others
unfoldable pub unnesting : Tree → Option (List Lexeme) → Option (List Lexeme)
unnesting t none = none
unnesting t (some ls) = some (unnest t ls)

unfoldable pub unnestings : Forest → Option (List Lexeme) → Option (List Lexeme)
unnestings f none = none
unnestings f (some ls) = some (unnests f ls)

-- no lexeme of form 3 begins with a brace
simple-unbraced : (ρ : Rules) (r : List ℕ) → simple ρ (123 ∷ r) ≡ refused
unfolding simple is_whitespace member marked is_token_start is_alpha is_simple_punc
simple-unbraced ρ r = refl

pub unbrace-test : (β : Bool) (b : ℕ) → (b ≡ 123 → ⊥) → both β (eqb b 123) ≡ false
unbrace-test true b n = ne_eqb b 123 n
unbrace-test false b n = refl

module _ {ρ : Rules} (apart : Apart ρ) where
  lexed-unbraced : {b : ℕ} {r k : List ℕ} {l : Lexeme} → Lexed ρ (b ∷ r) l k → b ≡ 123 → ⊥
  lexed-unbraced l-open e = omega arith
  lexed-unbraced l-close e = omega arith
  lexed-unbraced {b} {r} (l-atom x) e = refuses ρ 123 b r (simple-unbraced ρ) (simple-complete apart x) e
  lexed-unbraced (l-hint w₁ x w₂ w₃ y) e = omega arith

  pub lexed-next : (β : Bool) (s r : List ℕ) {k : List ℕ} {l : Lexeme} → Whitespaces s r → Lexed ρ r l k → lexemes ρ β s ≡ before l (lexemes ρ β k)
  lexed-next β s [] w x = absurd (omega (arith, lexed-short x))
  lexed-next β s (b ∷ r) {k} {l} w x =
      lexemes-next ρ β s b r k l (whites-skip w ∙ lexed-skip apart x) (lexeme-in-other ρ β b r (unbrace-test β b (lexed-unbraced x)) ∙ lexeme-complete apart x)

  verbatim-lexed : (d k : List ℕ) → Lexed ρ (verbatim d ++ k) (atom d) k
  verbatim-lexed d k = l-atom (simple-verbatim d k)

  hint-lexed : (h d k : List ℕ) → Lexed ρ (91 ∷ (verbatim h ++ (93 ∷ (verbatim d ++ k)))) (hinting h d) k
  hint-lexed h d k = l-hint no-whitespace (simple-verbatim h _) no-whitespace no-whitespace (simple-verbatim d k)

  atom-before : (d : List ℕ) (o : Option (List Lexeme)) → before (atom d) o ≡ unnesting (plain d) o
  unfolding before unnesting unnest
  atom-before d none = refl
  atom-before d (some ls) = refl

  hint-before : (h d : List ℕ) (o : Option (List Lexeme)) → before (hinting h d) o ≡ unnesting (hinted h d) o
  unfolding before unnesting unnest
  hint-before h d none = refl
  hint-before h d (some ls) = refl

  list-before : (f : Forest) (o : Option (List Lexeme)) → before opening (unnestings f (before closing o)) ≡ unnesting (list f) o
  unfolding before unnesting unnestings unnest
  list-before f none = refl
  list-before f (some ls) = refl

  nil-before : (o : Option (List Lexeme)) → o ≡ unnestings nil o
  unfolding unnestings unnest
  nil-before none = refl
  nil-before (some ls) = refl

  cons-before : (t : Tree) (f : Forest) (o : Option (List Lexeme)) → unnesting t (unnestings f o) ≡ unnestings (cons t f) o
  unfolding unnesting unnestings unnest
  cons-before t f none = refl
  cons-before t f (some ls) = refl

  module _ (β : Bool) where
    mutual
      unfolding canon

      -- the lexemes of a tree's canonical form are the tree's
      pub tree-lexemes : (t : Tree) (k : List ℕ) → lexemes ρ β (canon t ++ k) ≡ unnesting t (lexemes ρ β k)
      tree-lexemes (plain d) k = lexed-next β _ _ no-whitespace (verbatim-lexed d k) ∙ atom-before d (lexemes ρ β k)
      tree-lexemes (hinted h d) k =
          ap (λ (x : List ℕ). lexemes ρ β (91 ∷ x)) (append_assoc (verbatim h) (93 ∷ verbatim d) k) ∙ lexed-next β _ _ no-whitespace (hint-lexed h d k) ∙ hint-before h d (lexemes ρ β k)
      tree-lexemes (list f) k =
          ap (λ (x : List ℕ). lexemes ρ β (40 ∷ x)) (append_assoc (canons f) (41 ∷ []) k)
          ∙ lexed-next β _ _ no-whitespace l-open
          ∙ ap (before opening) (forest-lexemes f (41 ∷ k) ∙ ap (unnestings f) (lexed-next β _ _ no-whitespace l-close))
          ∙ list-before f (lexemes ρ β k)

      forest-lexemes : (f : Forest) (k : List ℕ) → lexemes ρ β (canons f ++ k) ≡ unnestings f (lexemes ρ β k)
      forest-lexemes nil k = nil-before (lexemes ρ β k)
      forest-lexemes (cons t f) k =
          ap (lexemes ρ β) (append_assoc (canon t) (canons f) k) ∙ tree-lexemes t (canons f ++ k) ∙ ap (unnesting t) (forest-lexemes f k) ∙ cons-before t f (lexemes ρ β k)

  -- the first lexeme of a tree's canonical form
  record Leading (t : Tree) (k : List ℕ) : Type 0 where
    first : Lexeme
    rest : List ℕ
    lexes : Lexed ρ (canon t ++ k) first rest

  leading : (t : Tree) (k : List ℕ) → Leading t k
  unfolding canon
  leading (plain d) k = record { first = atom d; rest = k; lexes = verbatim-lexed d k }
  leading (hinted h d) k = record { first = hinting h d; rest = k; lexes = subst (λ (x : List ℕ). Lexed ρ (91 ∷ x) (hinting h d) k) (sym (append_assoc (verbatim h) (93 ∷ verbatim d) k)) (hint-lexed h d k) }
  leading (list f) k = record { first = opening; rest = (canons f ++ (41 ∷ [])) ++ k; lexes = l-open }

  -- a tree in braces gives the tree's lexemes
  pub held-lexemes : (β : Bool) → β ≡ true → (s r k : List ℕ) (t : Tree) → skip s ≡ 123 ∷ r → Held ρ r t k → lexemes ρ β s ≡ unnesting t (lexemes ρ β k)
  unfolding bind
  held-lexemes β e s r k t w h =
      let l : Leading t k = leading t k in
      let c : both β (eqb 123 123) ≡ true = rw e in
      lexemes-next ρ β s 123 r l.rest l.first w (lexeme-in-braces ρ β 123 r c ∙ rw (braces-complete h) (lexeme-complete apart l.lexes))
      ∙ sym (lexed-next β (canon t ++ k) (canon t ++ k) no-whitespace l.lexes)
      ∙ tree-lexemes β t k

  pub held_none : (β : Bool) → β ≡ true → (s r : List ℕ) → skip s ≡ 123 ∷ r → braces ρ r ≡ refused → lexemes ρ β s ≡ none
  unfolding bind
  held_none β e s r w h =
      let c : both β (eqb 123 123) ≡ true = rw e in
      lexemes-none ρ β s 123 r w (lexeme-in-braces ρ β 123 r c ∙ rw h)

-- ---- all lexemes

pub data Lexes (ρ : Rules) (β : Bool) : List ℕ → List Lexeme → Type 0 where
  lexes-end : {s : List ℕ} → Whitespaces s [] → Lexes ρ β s []
  lexes-more : {s r k : List ℕ} {l : Lexeme} {ls : List Lexeme} → Whitespaces s r → Lexed ρ r l k → Lexes ρ β k ls → Lexes ρ β s (l ∷ ls)
  lexes-held : {s r k : List ℕ} {t : Tree} {ls ms : List Lexeme} → β ≡ true → Whitespaces s (123 ∷ r) → Held ρ r t k → Lexes ρ β k ls → ms ≡ unnest t ls → Lexes ρ β s ms

brace-unwhite : (r : List ℕ) → skip (123 ∷ r) ≡ 123 ∷ r
unfolding skip is_whitespace member
brace-unwhite r = refl

unnesting-cases : {G : Type 0} (t : Tree) (o : Option (List Lexeme)) {ls : List Lexeme} → unnesting t o ≡ some ls → ((x : List Lexeme) → o ≡ some x → ls ≡ unnest t x → G) → G
unfolding unnesting
unnesting-cases t none e g = none-some e
unnesting-cases t (some x) {ls} e g = g x refl (some_same (λ (y : List Lexeme). y ≡ unnest t x) e refl)

module _ {ρ : Rules} {β : Bool} (apart : Apart ρ) where
  pub lexemes-complete : {s : List ℕ} {ls : List Lexeme} → Lexes ρ β s ls → lexemes ρ β s ≡ some ls
  unfolding before unnesting skip
  lexemes-complete {s} (lexes-end w) = lexemes-end ρ β s (whites-skip w)
  lexemes-complete {s} (lexes-more {r = r} {l = l} w x y) = lexed-next apart β s r w x ∙ ap (before l) (lexemes-complete y)
  lexemes-complete {s} (lexes-held {r = r} {k = k} {t = t} e w h y z) = held-lexemes apart β e s r k t (whites-skip w ∙ brace-unwhite r) h ∙ ap (unnesting t) (lexemes-complete y) ∙ ap some (sym z)

  -- from the lexemes of what is left
  module _ (s : List ℕ) (rec : (k : List ℕ) → length k < length s → (ls : List Lexeme) → lexemes ρ β k ≡ some ls → Lexes ρ β k ls) (ls : List Lexeme) (e : lexemes ρ β s ≡ some ls) where
    white : (r : List ℕ) → skip s ≡ r → Whitespaces s r
    white r z = subst (Whitespaces s) z (skip-whites s)

    held-here : (r : List ℕ) → skip s ≡ 123 ∷ r → β ≡ true → (x : Read (List ℕ)) → braces ρ r ≡ x → Lexes ρ β s ls
    held-here r z c refused y = none-some (sym (held_none apart β c s r z y) ∙ e)
    held-here r z c (got d k) y =
        braces-sound r y
        (λ t g h. unnesting-cases t (lexemes ρ β k) (sym (held-lexemes apart β c s r k t z h) ∙ e)
        (λ x i j. lexes-held c (white (123 ∷ r) z) h (rec k (omega (arith, held-size h, whites-size (white (123 ∷ r) z))) x i) j))

    lexeme-here : (b : ℕ) (r : List ℕ) → skip s ≡ b ∷ r → both β (eqb b 123) ≡ false → (x : Read Lexeme) → lexeme ρ (b ∷ r) ≡ x → Lexes ρ β s ls
    lexeme-here b r z c refused y = none-some (sym (lexemes-none ρ β s b r z (lexeme-in-other ρ β b r c ∙ y)) ∙ e)
    lexeme-here b r z c (got l k) y =
        let w : Lexed ρ (b ∷ r) l k = lexeme-sound (b ∷ r) y in
        before-cases l (lexemes ρ β k) (sym (lexemes-next ρ β s b r k l z (lexeme-in-other ρ β b r c ∙ y)) ∙ e)
        (λ x i j. some_same (Lexes ρ β s) j (lexes-more (white (b ∷ r) z) w (rec k (omega (arith, lexed-short w, whites-size (white (b ∷ r) z))) x i)))

    lexes-here : (r : List ℕ) → skip s ≡ r → Lexes ρ β s ls
    lexes-here [] z = some_same (Lexes ρ β s) (sym (lexemes-end ρ β s z) ∙ e) (lexes-end (white [] z))
    lexes-here (b ∷ r) z =
        by_bool (both β (eqb b 123))
        (λ c.
        let p : (β ≡ true) × (eqb b 123 ≡ true) = both_true c in
        held-here r (z ∙ ap (λ (x : ℕ). x ∷ r) (eqb-true b 123 p.1)) p.0 (braces ρ r) refl)
        (λ c. lexeme-here b r z c (lexeme ρ (b ∷ r)) refl)

  by-lexemes : (f : ℕ) (s : List ℕ) → length s < f → (ls : List Lexeme) → lexemes ρ β s ≡ some ls → Lexes ρ β s ls
  by-lexemes zero s n ls e = absurd (omega arith)
  by-lexemes (suc f) s n ls e = lexes-here s (λ k m. by-lexemes f k (omega arith)) ls e (skip s) refl

  pub lexemes-sound : (s : List ℕ) {ls : List Lexeme} → lexemes ρ β s ≡ some ls → Lexes ρ β s ls
  lexemes-sound s {ls} e = by-lexemes (suc (length s)) s (omega arith) ls e
