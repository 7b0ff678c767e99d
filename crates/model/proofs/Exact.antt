-- The decoders are exact.
use Prim.Native.Nat.{ℕ, ◌*◌, ◌≤◌}
use native.Mathlib.Omega.{arith}
use mathlib.Core.Path.{◌≡◌, refl, sym, ap, ◌∙◌, subst}
use mathlib.Core.Bool.{Bool, true}
use mathlib.Core.Option.{Option, some}
use mathlib.Core.List.{List, [], ◌∷◌}
use lib.ListN.{length}
use lib.Dec.{eqb}
use borrow.Author.Tests.{ne_eqb, eqb-true}
use Rattle.base.specs.Choice.{member, chain}
use Rattle.base.proofs.Cases.{pick-cases, unpicked, none-some, chain-cases}
use Rattle.model.specs.Decode.{nest, decode₁, unbrace, decode₂, lexemes, decode₃, decode_under}
use Rattle.model.specs.Amended.{Apart}
use Rattle.model.specs.Grammar.{Whitespaces, no-whitespace, Base64Chars, Display, Value, display-string, list-value, Values, closing-parenthesis, a-whitespace, CSexp, Canonical, Basic, b-c-sexp, b-base-64, Advanced, sexp, Language, form-1, form-2, form-3, form-4, braced-value, Rules}
use Rattle.model.specs.Lexemes.{Lexeme, opening, closing, atom, hinting, strict_lexeme, lexemes_by, strict_lexemes}
use Rattle.model.specs.Octets.{is_whitespace, letter}
use Rattle.model.specs.Strings.{Read, got, refused, bind, upto, lastly, unbase, verbatim_of}
use Rattle.model.specs.Tree.{Tree, plain, hinted, list, Forest, nil, cons, canon}
use Rattle.model.proofs.Braces.{Lexes, lexes-end, lexes-more, lexes-held, lexemes-sound, lexemes-complete}
pub use Rattle.model.proofs.Canonical.{unnest-canon, canon-sound, canon-complete, c-sexp-canon, c-sexp-sound, c-sexp-complete, sound₁, complete₁, canon-two}
use Rattle.model.proofs.Held.{Held}
use Rattle.model.proofs.Lexemes.{Lexed, l-open, l-close, l-atom, l-hint}
use Rattle.model.proofs.Marks.{upto-sound, upto-complete, base-sound, base-complete}
use Rattle.model.proofs.Nesting.{unnest, unnests, nest-sound, nest-complete}
use Rattle.model.proofs.Unnested.{unnest-inj, unclosed, unempty, leads}
use Rattle.model.proofs.Rules.{whites-upto, Split, base-64-strip, After, strip-base-64, simple-strip, strip-simple}
use Rattle.model.proofs.Sizes.{upto-size, base-size, whites-size, advanced-size}
use Rattle.model.proofs.Stripped.{Base64}

-- ---- forms 3 and 4

whites-lexes : {ρ : Rules} {β : Bool} {s k : List ℕ} {ls : List Lexeme} → Whitespaces s k → Lexes ρ β k ls → Lexes ρ β s ls
whites-lexes no-whitespace y = y
whites-lexes (Whitespaces.whitespace t w) y = white-lexes t (whites-lexes w y)
  where
    white-lexes : {ρ : Rules} {β : Bool} {b : ℕ} {s : List ℕ} {ls : List Lexeme} → is_whitespace b ≡ true → Lexes ρ β s ls → Lexes ρ β (b ∷ s) ls
    white-lexes t (lexes-end w) = lexes-end (Whitespaces.whitespace t w)
    white-lexes t (lexes-more w x y) = lexes-more (Whitespaces.whitespace t w) x y
    white-lexes t (lexes-held e w h y z) = lexes-held e (Whitespaces.whitespace t w) h y z

-- what stands in braces, by the rules and as the decoder takes it
to_held : {ρ : Rules} {s s₁ d k : List ℕ} {t : Tree} → Whitespaces s s₁ → Base64Chars ρ 125 s₁ d k → CSexp d t [] → Held ρ s t k
unfolding letter
to_held {ρ} {s} {s₁} {d} {k} {t} w b x =
    let y : Split 125 s₁ k (λ l. Base64 ρ l d) = base-64-strip 125 refl (λ e. omega arith) b in
    record { letters = y.letters; upto = whites-upto w y.upto; means = subst (Base64 ρ y.letters) (c-sexp-canon x) y.means }

of-held : {ρ : Rules} {β : Bool} {s k : List ℕ} {t : Tree} → β ≡ true → Held ρ s t k → Value ρ β (123 ∷ s) t k
of-held {ρ} {β} {s} {k} {t} e h =
    let x : After s (λ r. Base64Chars ρ 125 r (canon t) k) = strip-base-64 h.means h.upto in
    braced-value e x.whites x.means (c-sexp-sound (canon t) t (canon-complete t))

module _ {ρ : Rules} {β : Bool} where
  mutual
    unfolding unnest

    value-lexes : {s k : List ℕ} {t : Tree} {ls : List Lexeme} → Value ρ β s t k → Lexes ρ β k ls → Lexes ρ β s (unnest t ls)
    value-lexes (Value.string x) y = lexes-more no-whitespace (l-atom (simple-strip x)) y
    value-lexes (display-string (Display.display w₁ x w₂ w₃) z) y = lexes-more no-whitespace (l-hint w₁ (simple-strip x) w₂ w₃ (simple-strip z)) y
    value-lexes (braced-value e w b x) y = lexes-held e no-whitespace (to_held w b x) y refl
    value-lexes (list-value v) y = lexes-more no-whitespace l-open (values-lexes v y)

    values-lexes : {s k : List ℕ} {f : Forest} {ls : List Lexeme} → Values ρ β s f k → Lexes ρ β k ls → Lexes ρ β s (unnests f (closing ∷ ls))
    values-lexes closing-parenthesis y = lexes-more no-whitespace l-close y
    values-lexes (a-whitespace t v) y = whites-lexes (Whitespaces.whitespace t no-whitespace) (values-lexes v y)
    values-lexes (Values.value v w) y = value-lexes v (values-lexes w y)

-- what stands at the front of a text whose first lexemes are a tree's
record Front (ρ : Rules) (β : Bool) (s : List ℕ) (t : Tree) (ls : List Lexeme) : Type 0 where
  begin : List ℕ
  rest : List ℕ
  whites : Whitespaces s begin
  value : Value ρ β begin t rest
  others : Lexes ρ β rest ls

record Inside (ρ : Rules) (β : Bool) (s : List ℕ) (f : Forest) (ls : List Lexeme) : Type 0 where
  rest : List ℕ
  values : Values ρ β s f rest
  others : Lexes ρ β rest ls

module _ {ρ : Rules} {β : Bool} where
  whites-values : {s r k : List ℕ} {f : Forest} → Whitespaces s r → Values ρ β r f k → Values ρ β s f k
  whites-values no-whitespace v = v
  whites-values (Whitespaces.whitespace t w) v = a-whitespace t (whites-values w v)

  -- the first lexeme, by itself or from braces
  lexes-cases : {G : Type 0} {s : List ℕ} {ms : List Lexeme} (l : Lexeme) (ls : List Lexeme) → Lexes ρ β s ms → ms ≡ l ∷ ls
      → ((r k : List ℕ) → Whitespaces s r → Lexed ρ r l k → Lexes ρ β k ls → G)
      → ((t : Tree) (r k : List ℕ) (ns : List Lexeme) → β ≡ true → Whitespaces s (123 ∷ r) → Held ρ r t k → Lexes ρ β k ns → l ∷ ls ≡ unnest t ns → G)
      → G
  lexes-cases l ls (lexes-end w) e f g = none-some (ap leads e)
  lexes-cases l ls (lexes-more {r = r} {k = k} {l = m} {ls = ms} w x y) e f g =
      let a : m ≡ l = cc in
      let b : ms ≡ ls = cc in
      f r k w (subst (λ (z : Lexeme). Lexed ρ r z k) a x) (subst (Lexes ρ β k) b y)
  lexes-cases l ls (lexes-held {r = r} {k = k} {t = t} {ls = ns} c w h y z) e f g = g t r k ns c w h y (sym e ∙ z)

  -- a tree from braces
  held-front : (t u : Tree) (s r k : List ℕ) (ls ns : List Lexeme) → β ≡ true → Whitespaces s (123 ∷ r) → Held ρ r u k → Lexes ρ β k ns → unnest t ls ≡ unnest u ns → Front ρ β s t ls
  held-front t u s r k ls ns c w h y e =
      let i : (t ≡ u) × (ls ≡ ns) = unnest-inj t u ls ns e in
      record { begin = 123 ∷ r; rest = k; whites = w; value = of-held c (subst (λ (x : Tree). Held ρ r x k) (sym i.0) h); others = subst (Lexes ρ β k) (sym i.1) y }

  atom-front : {s r d k : List ℕ} {ls : List Lexeme} → Whitespaces s r → Lexed ρ r (atom d) k → Lexes ρ β k ls → Front ρ β s (plain d) ls
  atom-front {r = r} {k = k} w (l-atom x) y = record { begin = r; rest = k; whites = w; value = Value.string (strip-simple x); others = y }

  hint-front : {s r h d k : List ℕ} {ls : List Lexeme} → Whitespaces s r → Lexed ρ r (hinting h d) k → Lexes ρ β k ls → Front ρ β s (hinted h d) ls
  hint-front {r = r} {k = k} w (l-hint w₁ x w₂ w₃ z) y =
      record { begin = r; rest = k; whites = w; value = display-string (Display.display w₁ (strip-simple x) w₂ w₃) (strip-simple z); others = y }

  none_inside : {s r k : List ℕ} {ls : List Lexeme} → Whitespaces s r → Lexed ρ r closing k → Lexes ρ β k ls → Inside ρ β s nil ls
  none_inside {k = k} w l-close y = record { rest = k; values = whites-values w closing-parenthesis; others = y }

  list-front : {s r k : List ℕ} {f : Forest} {ls : List Lexeme} → Whitespaces s r → Lexed ρ r opening k → Inside ρ β k f ls → Front ρ β s (list f) ls
  list-front {k = k} w l-open i = record { begin = 40 ∷ k; rest = i.rest; whites = w; value = list-value i.values; others = i.others }

  mutual
    unfolding unnest

    lexes-value : (t : Tree) (s : List ℕ) (ls : List Lexeme) → Lexes ρ β s (unnest t ls) → Front ρ β s t ls
    lexes-value (plain d) s ls x = lexes-cases (atom d) ls x refl (λ r k w l y. atom-front w l y) (λ u r k ns c w h y e. held-front (plain d) u s r k ls ns c w h y e)
    lexes-value (hinted g d) s ls x = lexes-cases (hinting g d) ls x refl (λ r k w l y. hint-front w l y) (λ u r k ns c w h y e. held-front (hinted g d) u s r k ls ns c w h y e)
    lexes-value (list f) s ls x =
        lexes-cases opening (unnests f (closing ∷ ls)) x refl
        (λ r k w l y. list-front w l (lexes-values f k ls y))
        (λ u r k ns c w h y e. held-front (list f) u s r k ls ns c w h y e)

    lexes-values : (f : Forest) (s : List ℕ) (ls : List Lexeme) → Lexes ρ β s (unnests f (closing ∷ ls)) → Inside ρ β s f ls
    lexes-values nil s ls x = lexes-cases closing ls x refl (λ r k w l y. none_inside w l y) (λ u r k ns c w h y e. absurd (unclosed u ns ls e))
    lexes-values (cons t f) s ls x =
        let p : Front ρ β s t (unnests f (closing ∷ ls)) = lexes-value t s (unnests f (closing ∷ ls)) x in
        let i : Inside ρ β p.rest f ls = lexes-values f p.rest ls p.others in
        record { rest = i.rest; values = whites-values p.whites (Values.value p.value i.values); others = i.others }

  ends : {s : List ℕ} {ls : List Lexeme} → Lexes ρ β s ls → ls ≡ [] → Whitespaces s []
  ends (lexes-end w) e = w
  ends (lexes-more w x y) e = none-some (ap leads (sym e))
  ends (lexes-held {t = t} {ls = ls} c w h y z) e = absurd (unempty t ls (sym z ∙ e))

module _ {ρ : Rules} {β : Bool} (apart : Apart ρ) where
  pub sound₃ : (s : List ℕ) (t : Tree) → decode₃ ρ β s ≡ some t → Advanced ρ β s t
  unfolding decode₃
  sound₃ s t e =
      chain-cases (lexemes ρ β s) nest e
      (λ ls h₁ h₂.
      let p : Front ρ β s t [] = lexes-value t s [] (subst (Lexes ρ β s) (nest-sound ls t h₂) (lexemes-sound apart s h₁)) in
      sexp p.whites p.value (ends p.others refl))

  pub complete₃ : {s : List ℕ} {t : Tree} → Advanced ρ β s t → decode₃ ρ β s ≡ some t
  unfolding decode₃ chain
  complete₃ (sexp {t = t} w v x) = rw (lexemes-complete apart (whites-lexes w (value-lexes v (lexes-end x)))) (nest-complete t)

-- ---- form 2

lastly-cases : {G : Type 0} (o : Option (List ℕ)) (k : List ℕ) {d : List ℕ} → lastly o k ≡ some d → (k ≡ [] → o ≡ some d → G) → G
unfolding lastly
lastly-cases o [] e g = g refl e
lastly-cases o (b ∷ k) e g = none-some e

unbrace-cases : (ρ : Rules) {G : Type 0} (r : Read (List ℕ)) {d : List ℕ} → unbrace ρ r ≡ some d → ((l : List ℕ) → r ≡ got l [] → unbase ρ l ≡ some d → G) → G
unfolding unbrace
unbrace-cases ρ refused e g = none-some e
unbrace-cases ρ (got l k) e g = lastly-cases (unbase ρ l) k e (λ z h. g l (ap (got l) z) h)

module _ {ρ : Rules} where
  pub sound₂ : (s : List ℕ) (t : Tree) → decode₂ ρ s ≡ some t → Basic ρ s t
  unfolding decode₂
  sound₂ [] t e = none-some e
  sound₂ (b ∷ s) t e =
      pick-cases (eqb b 123) _ _ e
      (λ z h.
      let w : b ≡ 123 = eqb-true b 123 z in
      chain-cases (unbrace ρ (upto 125 s)) decode₁ h
      (λ d h₁ h₂. unbrace-cases ρ (upto 125 s) h₁
      (λ l i j.
      let c : d ≡ canon t = canon-sound d t h₂ in
      let x : After s (λ r. Base64Chars ρ 125 r d []) = strip-base-64 (base-sound l j) (upto-sound 125 s i) in
      rw w (b-base-64 x.whites x.means (omega (arith, canon-two t, ap length c)) (c-sexp-sound d t h₂)))))
      (λ z h. b-c-sexp (c-sexp-sound (b ∷ s) t h))

  -- what stands in braces is base-64 of the tree's canonical form
  pub braced : (s : List ℕ) (t : Tree) → decode₂ ρ (123 ∷ s) ≡ some t → Split 125 s [] (λ l. Base64 ρ l (canon t))
  unfolding decode₂
  braced s t e =
      chain-cases (unbrace ρ (upto 125 s)) decode₁ e
      (λ d h₁ h₂. unbrace-cases ρ (upto 125 s) h₁
      (λ l i j. record { letters = l; upto = upto-sound 125 s i; means = subst (Base64 ρ l) (canon-sound d t h₂) (base-sound l j) }))

-- no canonical form begins with a brace
unbraced : (b : ℕ) (s : List ℕ) (t : Tree) → decode₁ (b ∷ s) ≡ some t → b ≡ 123 → ⊥
unfolding decode₁ strict_lexemes lexemes_by strict_lexeme verbatim_of bind chain
unbraced b s t e z = none-some (ap (λ (x : ℕ). decode₁ (x ∷ s)) (sym z) ∙ e)

bare-complete : (ρ : Rules) (s : List ℕ) (t : Tree) → decode₁ s ≡ some t → decode₂ ρ s ≡ some t
unfolding decode₂
bare-complete ρ [] t e = absurd (omega (arith, canon-two t, ap length (canon-sound [] t e)))
bare-complete ρ (b ∷ s) t e = unpicked _ _ (ne_eqb b 123 (unbraced b s t e)) ∙ e

module _ {ρ : Rules} where
  pub complete₂ : {s : List ℕ} {t : Tree} → Basic ρ s t → decode₂ ρ s ≡ some t
  unfolding decode₂ unbrace chain lastly letter is_whitespace member
  complete₂ (b-c-sexp {s = s} {t = t} x) = bare-complete ρ s t (c-sexp-complete x)
  complete₂ (b-base-64 {s = s} {s₁ = s₁} {d = d} w b n x) =
      let y : Split 125 s₁ [] (λ l. Base64 ρ l d) = base-64-strip 125 refl (λ e. omega arith) b in
      rw (upto-complete 125 refl (whites-upto w y.upto), base-complete y.means) (c-sexp-complete x)

-- ---- each form

module _ {ρ : Rules} (apart : Apart ρ) where
  pub sound : (form : ℕ) (s : List ℕ) (t : Tree) → decode_under ρ form s ≡ some t → Language ρ form s t
  unfolding decode_under
  sound form s t e =
      pick-cases (eqb form 1) _ _ e
      (λ z h. let w : form ≡ 1 = eqb-true form 1 z in rw w (form-1 (sound₁ s t h)))
      (λ z h. pick-cases (eqb form 2) _ _ h
      (λ y i. let w : form ≡ 2 = eqb-true form 2 y in rw w (form-2 (sound₂ s t i)))
      (λ y i. pick-cases (eqb form 3) _ _ i
      (λ x j. let w : form ≡ 3 = eqb-true form 3 x in rw w (form-3 (sound₃ apart s t j)))
      (λ x j. pick-cases (eqb form 4) _ _ j (λ v k. let w : form ≡ 4 = eqb-true form 4 v in rw w (form-4 (sound₃ apart s t k))) (λ v k. none-some k))))

  pub complete : {form : ℕ} {s : List ℕ} {t : Tree} → Language ρ form s t → decode_under ρ form s ≡ some t
  unfolding decode_under
  complete (form-1 x) = complete₁ x
  complete (form-2 x) = complete₂ x
  complete (form-3 x) = complete₃ apart x
  complete (form-4 x) = complete₃ apart x

  -- a text means one tree at most
  pub unique : {form : ℕ} {s : List ℕ} {t u : Tree} → Language ρ form s t → Language ρ form s u → t ≡ u
  unique {form} {s} {t} {u} x y = let p : decode_under ρ form s ≡ some t = complete x in let q : decode_under ρ form s ≡ some u = complete y in cc

-- S 6.2: what a source of n octets says has 3 n at most in canonical form, whatever the form
c-sexp-size : {s : List ℕ} {t : Tree} → CSexp s t [] → length (canon t) ≡ length s
c-sexp-size x = ap length (sym (c-sexp-canon x))

module _ {ρ : Rules} where
  basic-tripled : {s : List ℕ} {t : Tree} → Basic ρ s t → length (canon t) ≤ 3 * length s
  unfolding letter
  basic-tripled (b-c-sexp x) = omega (arith, c-sexp-size x)
  basic-tripled (b-base-64 {s₁ = s₁} {d = d} w b n x) =
      let y : Split 125 s₁ [] (λ l. Base64 ρ l d) = base-64-strip 125 refl (λ e. omega arith) b in
      omega (arith, whites-size w, upto-size y.upto, base-size y.means, c-sexp-size x)

  pub language-tripled : {form : ℕ} {s : List ℕ} {t : Tree} → Language ρ form s t → length (canon t) ≤ 3 * length s
  language-tripled (form-1 (Canonical.canonical x)) = omega (arith, c-sexp-size x)
  language-tripled (form-2 x) = basic-tripled x
  language-tripled (form-3 x) = advanced-size x
  language-tripled (form-4 x) = advanced-size x
