-- Reading the lexemes of form 1 is exact.
use Prim.Native.Nat.{ℕ, zero, suc, ◌<◌}
use native.Mathlib.Omega.{arith}
use mathlib.Core.Path.{◌≡◌, refl, sym, ap, ◌∙◌}
use mathlib.Core.Bool.{true, false}
use mathlib.Core.Option.{some}
use mathlib.Core.List.{List, [], ◌∷◌, ◌++◌, append_assoc}
use lib.ListN.{length, length-append}
use lib.Dec.{eqb}
use borrow.Author.Tests.{ne_eqb, eqb-true}
use Rattle.base.specs.Choice.{among}
use Rattle.base.proofs.Cases.{pick-cases, picked, unpicked, some_same, none-some}
use Rattle.model.specs.Lexemes.{Lexeme, opening, closing, atom, hinting, stay, close_strict, strict_lexeme, before, lexemes_by, strict_lexemes}
use Rattle.model.specs.Octets.{is_digit}
use Rattle.model.specs.Strings.{got, bind, decimal, after_length, verbatim_of}
use Rattle.model.specs.Tree.{Tree, plain, hinted, list, Forest, nil, cons, digits, verbatim, canon, canons}
use Rattle.model.proofs.Digits.{Numeral, numeral, decimal-sound}
use Rattle.model.proofs.Lexemes.{before-cases}
use Rattle.model.proofs.Nesting.{unnest, unnests}
use Rattle.model.proofs.ReadCases.{bind-cases, never, got_same, list_cases, read-cases, read-got}
use Rattle.model.proofs.Simples.{verb-shape, first-sound, first-complete}
use Rattle.model.proofs.Sizes.{verbatim-length}

-- the canonical octets of a lexeme, and of many
unfoldable pub octets_of_lexeme : Lexeme → List ℕ
octets_of_lexeme opening = 40 ∷ []
octets_of_lexeme closing = 41 ∷ []
octets_of_lexeme (atom d) = verbatim d
octets_of_lexeme (hinting h d) = 91 ∷ verbatim h ++ 93 ∷ verbatim d

unfoldable pub octets_of_lexemes : List Lexeme → List ℕ
octets_of_lexemes [] = []
octets_of_lexemes (l ∷ ls) = octets_of_lexeme l ++ octets_of_lexemes ls

-- a tree's lexemes have its canonical octets
mutual
  unfolding unnest canon octets_of_lexeme octets_of_lexemes

  pub unnest-octets : (t : Tree) (ls : List Lexeme) → octets_of_lexemes (unnest t ls) ≡ canon t ++ octets_of_lexemes ls
  unnest-octets (plain d) ls = refl
  unnest-octets (hinted h d) ls = refl
  unnest-octets (list f) ls = ap (λ (x : List ℕ). 40 ∷ x) (unnests-octets f (closing ∷ ls)) ∙ simp append_assoc

  pub unnests-octets : (f : Forest) (ls : List Lexeme) → octets_of_lexemes (unnests f ls) ≡ canons f ++ octets_of_lexemes ls
  unnests-octets nil ls = refl
  unnests-octets (cons t f) ls = unnest-octets t (unnests f ls) ∙ ap (λ (x : List ℕ). canon t ++ x) (unnests-octets f ls) ∙ simp append_assoc

-- ---- a verbatim string

after-length : (n : ℕ) (s : List ℕ) {d k : List ℕ} → after_length n s ≡ got d k → digits n ++ s ≡ verbatim d ++ k
unfolding after_length
after-length n [] e = never e
after-length n (b ∷ s) {d} {k} e =
    pick-cases (eqb b 58) _ _ e
    (λ t h.
    let z : b ≡ 58 = eqb-true b 58 t in
    let w : (n ≡ length d) × (s ≡ d ++ k) = first-sound n s h in
    rw (z, w.0, w.1) (sym (verb-shape d k)))
    (λ t h. never h)

pub verb-sound : (s : List ℕ) {d k : List ℕ} → verbatim_of s ≡ got d k → s ≡ verbatim d ++ k
unfolding verbatim_of
verb-sound [] e = never e
verb-sound (b ∷ s) e =
    pick-cases (among 48 57 b) _ _ e
    (λ t h. bind-cases (decimal b s) after_length h (λ n r h₁ h₂. decimal-sound b s n r t h₁ ∙ after-length n r h₂))
    (λ t h. never h)

-- a verbatim string and its first digit
pub record Led (d k : List ℕ) : Type 0 where
  pub first : ℕ
  pub rest : List ℕ
  pub is : verbatim d ++ k ≡ first ∷ rest
  pub digital : is_digit first ≡ true
  pub reads : verbatim_of (verbatim d ++ k) ≡ got d k

pub led : (d k : List ℕ) → Led d k
unfolding verbatim_of bind after_length
led d k =
    let l : Numeral (length d) 58 (d ++ k) = numeral (length d) 58 (d ++ k) refl in
    let i : verbatim d ++ k ≡ l.first ∷ (l.rest ++ 58 ∷ (d ++ k)) = verb-shape d k ∙ ap (λ (x : List ℕ). x ++ 58 ∷ (d ++ k)) l.is in
    record { first = l.first; rest = l.rest ++ 58 ∷ (d ++ k); is = i; digital = l.digital; reads = ap verbatim_of i ∙ picked _ _ l.digital ∙ rw l.reads (first-complete d k) }

-- ---- a lexeme

close-sound : (h s : List ℕ) {l : Lexeme} {k : List ℕ} → close_strict h s ≡ got l k → 91 ∷ (verbatim h ++ s) ≡ octets_of_lexeme l ++ k
unfolding close_strict octets_of_lexeme
close-sound h [] e = never e
close-sound h (b ∷ s) {l} {k} e =
    pick-cases (eqb b 93) _ _ e
    (λ t i.
    let z : b ≡ 93 = eqb-true b 93 t in
    bind-cases (verbatim_of s) _ i
    (λ d k' h₁ h₂. got_same (λ (l : Lexeme) (k : List ℕ). 91 ∷ (verbatim h ++ b ∷ s) ≡ octets_of_lexeme l ++ k) h₂ (rw (z, verb-sound s h₁) (simp append_assoc))))
    (λ t i. never i)

pub strict-sound : (s : List ℕ) {l : Lexeme} {k : List ℕ} → strict_lexeme s ≡ got l k → s ≡ octets_of_lexeme l ++ k
unfolding strict_lexeme octets_of_lexeme
strict-sound [] e = never e
strict-sound (b ∷ s) {l} {k} e =
    pick-cases (eqb b 40) _ _ e
    (λ t h. let z : b ≡ 40 = eqb-true b 40 t in rw z (got_same (λ (l : Lexeme) (k : List ℕ). 40 ∷ s ≡ octets_of_lexeme l ++ k) h refl))
    (λ t h. pick-cases (eqb b 41) _ _ h
    (λ u i. let z : b ≡ 41 = eqb-true b 41 u in rw z (got_same (λ (l : Lexeme) (k : List ℕ). 41 ∷ s ≡ octets_of_lexeme l ++ k) i refl))
    (λ u i. pick-cases (eqb b 91) _ _ i
    (λ v j.
    let z : b ≡ 91 = eqb-true b 91 v in
    bind-cases (verbatim_of s) close_strict j (λ x r h₁ h₂. rw (z, verb-sound s h₁) (close-sound x r h₂)))
    (λ v j. bind-cases (verbatim_of (b ∷ s)) _ j (λ d r h₁ h₂. got_same (λ (l : Lexeme) (k : List ℕ). b ∷ s ≡ octets_of_lexeme l ++ k) h₂ (verb-sound (b ∷ s) h₁)))))

not_digit : (b c : ℕ) → among 48 57 c ≡ false → among 48 57 b ≡ true → b ≡ c → ⊥
not_digit b c f t e = let v : among 48 57 c ≡ true = rw e at t in let z : ◌≡◌ {A = ℕ} 0 1 = cc in omega arith

atom-strict : (d k : List ℕ) → strict_lexeme (verbatim d ++ k) ≡ got (atom d) k
unfolding strict_lexeme bind
atom-strict d k =
    let l : Led d k = led d k in
    let e : verbatim_of (l.first ∷ l.rest) ≡ got d k = ap verbatim_of (sym l.is) ∙ l.reads in
    ap strict_lexeme l.is
    ∙ unpicked _ _ (ne_eqb l.first 40 (not_digit l.first 40 refl l.digital))
    ∙ unpicked _ _ (ne_eqb l.first 41 (not_digit l.first 41 refl l.digital))
    ∙ unpicked _ _ (ne_eqb l.first 91 (not_digit l.first 91 refl l.digital))
    ∙ rw e

pub strict-complete : (l : Lexeme) (k : List ℕ) → strict_lexeme (octets_of_lexeme l ++ k) ≡ got l k
unfolding octets_of_lexeme strict_lexeme close_strict bind
strict-complete opening k = refl
strict-complete closing k = refl
strict-complete (atom d) k = atom-strict d k
strict-complete (hinting h d) k = rw (append_assoc (verbatim h), (led h (93 ∷ (verbatim d ++ k))).reads, (led d k).reads)

pub octets-some : (l : Lexeme) → 0 < length (octets_of_lexeme l)
unfolding octets_of_lexeme
octets-some opening = omega arith
octets-some closing = omega arith
octets-some (atom d) = omega (arith, verbatim-length d)
octets-some (hinting h d) = omega arith

-- ---- all of them

by-strict : (f : ℕ) (s : List ℕ) {ls : List Lexeme} → lexemes_by stay strict_lexeme f s ≡ some ls → s ≡ octets_of_lexemes ls
unfolding lexemes_by octets_of_lexemes
by-strict zero s e = none-some e
by-strict (suc f) s e =
    list_cases s _ _ e
    (λ z h. some_same (λ (ls : List Lexeme). s ≡ octets_of_lexemes ls) h z)
    (λ b t z h. read-cases (strict_lexeme (b ∷ t)) _ _ h
    (λ l k i j. before-cases l (lexemes_by stay strict_lexeme f k) j
    (λ x p q. some_same (λ (ls : List Lexeme). s ≡ octets_of_lexemes ls) q (z ∙ strict-sound (b ∷ t) i ∙ ap (λ (y : List ℕ). octets_of_lexeme l ++ y) (by-strict f k p))))
    (λ i j. none-some j))

strict-step : (f : ℕ) (s k : List ℕ) (l : Lexeme) {ls : List Lexeme} → s ≡ octets_of_lexeme l ++ k → lexemes_by stay strict_lexeme f k ≡ some ls → lexemes_by stay strict_lexeme (suc f) s ≡ some (l ∷ ls)
unfolding lexemes_by before
strict-step f [] k l z e = absurd (omega (arith, octets-some l, ap length z, length-append (octets_of_lexeme l) k))
strict-step f (b ∷ s) k l z e = read-got _ _ (ap strict_lexeme z ∙ strict-complete l k) ∙ ap (before l) e

to-strict : (f : ℕ) (ls : List Lexeme) → length (octets_of_lexemes ls) < f → lexemes_by stay strict_lexeme f (octets_of_lexemes ls) ≡ some ls
unfolding lexemes_by octets_of_lexemes
to-strict zero ls h = absurd (omega arith)
to-strict (suc f) [] h = refl
to-strict (suc f) (l ∷ ls) h = strict-step f _ (octets_of_lexemes ls) l refl (to-strict f ls (omega (arith, octets-some l, length-append (octets_of_lexeme l) (octets_of_lexemes ls))))

pub strict-all-sound : (s : List ℕ) {ls : List Lexeme} → strict_lexemes s ≡ some ls → s ≡ octets_of_lexemes ls
unfolding strict_lexemes
strict-all-sound s e = by-strict (suc (length s)) s e

pub strict-all-complete : (ls : List Lexeme) → strict_lexemes (octets_of_lexemes ls) ≡ some ls
unfolding strict_lexemes
strict-all-complete ls = to-strict (suc (length (octets_of_lexemes ls))) ls (omega arith)
