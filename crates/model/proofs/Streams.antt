-- What stands between marks, octet by octet and group by group: the laws for a loop that decodes as it goes.
use Prim.Native.Nat.{ℕ, ◌+◌, ◌*◌, ◌≤◌, ◌<◌}
use mathlib.Core.Path.{◌≡◌, refl, sym, ap, ◌∙◌}
use mathlib.Core.Bool.{true, false}
use mathlib.Core.Option.{Option, none, some}
use mathlib.Core.List.{List, [], ◌∷◌, ◌++◌, append_assoc, append-nil}
use borrow.Author.Tests.{lt-ltb, le-ltb, eq-eqb, ne_eqb}
use Rattle.base.proofs.Cases.{picked, unpicked}
use Rattle.model.specs.Grammar.{octet₁, octet₂, octet₃, rules}
use Rattle.model.specs.Octets.{is_whitespace, hexval, letter}
use Rattle.model.specs.Strings.{Read, got, refused, bind, upto, also, unhex, joined, unbase, decoded}
use Rattle.model.proofs.Marks.{four-complete}

-- the octets up to the mark, decoded after p, which was read before
abbrev pub between : ℕ → (List ℕ → Option (List ℕ)) → List ℕ → List ℕ → Read (List ℕ)
between m dec p s = bind (upto m s) (λ l k. decoded (dec (p ++ l)) k)

module _ (m : ℕ) (dec : List ℕ → Option (List ℕ)) (p : List ℕ) where
  pub between_none : between m dec p [] ≡ refused
  unfolding upto bind
  between_none = refl

  pub between-mark : (b : ℕ) (s : List ℕ) → b ≡ m → between m dec p (b ∷ s) ≡ decoded (dec p) s
  unfolding upto bind
  between-mark b s e = rw (eq-eqb b m e, upto, append-nil)

  pub between-white : (b : ℕ) (s : List ℕ) → (b ≡ m → ⊥) → is_whitespace b ≡ true → between m dec p (b ∷ s) ≡ between m dec p s
  unfolding upto
  between-white b s n e = rw (ne_eqb b m n, upto, e)

  pub between-other : (b : ℕ) (s : List ℕ) → (b ≡ m → ⊥) → (is_whitespace b ≡ false) → between m dec p (b ∷ s) ≡ between m dec (p ++ (b ∷ [])) s
  unfolding upto bind
  between-other b s n e = rw (ne_eqb b m n, upto, e) (by (upto m s))
    where
      by : (r : Read (List ℕ)) → bind (bind r (λ l k. got (b ∷ l) k)) (λ l k. decoded (dec (p ++ l)) k) ≡ bind r (λ l k. decoded (dec ((p ++ (b ∷ [])) ++ l)) k)
      by (got l k) = ap (λ (x : List ℕ). decoded (dec x) k) (sym (append_assoc p (b ∷ []) l))
      by refused = refl

-- what a whole group gives goes before what the rest gives
module _ (m : ℕ) (dec : List ℕ → Option (List ℕ)) (p g : List ℕ) (s : List ℕ) where
  after-group : ((l : List ℕ) → dec (p ++ l) ≡ also g (dec l)) → between m dec p s ≡ bind (between m dec [] s) (λ d k. got (g ++ d) k)
  unfolding bind decoded also
  after-group h = by (upto m s)
    where
      at : (o : Option (List ℕ)) (k : List ℕ) → decoded (also g o) k ≡ bind (decoded o k) (λ d k. got (g ++ d) k)
      at none k = refl
      at (some d) k = refl

      by : (r : Read (List ℕ)) → bind r (λ l k. decoded (dec (p ++ l)) k) ≡ bind (bind r (λ l k. decoded (dec l) k)) (λ d k. got (g ++ d) k)
      by (got l k) = ap (λ (o : Option (List ℕ)). decoded o k) (h l) ∙ at (dec l) k
      by refused = refl

  after-bad : ((l : List ℕ) → dec (p ++ l) ≡ none) → between m dec p s ≡ refused
  unfolding bind decoded
  after-bad h = by (upto m s)
    where
      by : (r : Read (List ℕ)) → bind r (λ l k. decoded (dec (p ++ l)) k) ≡ refused
      by (got l k) = ap (λ (o : Option (List ℕ)). decoded o k) (h l)
      by refused = refl

pub hex-group : (m a b : ℕ) (s : List ℕ) → hexval a < 16 → hexval b < 16 → between m unhex (a ∷ b ∷ []) s ≡ bind (between m unhex [] s) (λ d k. got ((hexval a * 16 + hexval b) ∷ d) k)
unfolding unhex
hex-group m a b s h k = after-group m unhex (a ∷ b ∷ []) ((hexval a * 16 + hexval b) ∷ []) s (λ l. picked _ _ (lt-ltb (hexval a) 16 h) ∙ picked _ _ (lt-ltb (hexval b) 16 k))

pub hex-bad₂ : (m a b : ℕ) (s : List ℕ) → hexval a < 16 → 16 ≤ hexval b → between m unhex (a ∷ b ∷ []) s ≡ refused
unfolding unhex
hex-bad₂ m a b s h k = after-bad m unhex (a ∷ b ∷ []) [] s (λ l. picked _ _ (lt-ltb (hexval a) 16 h) ∙ unpicked _ _ (le-ltb (hexval b) 16 k))

-- four letters taken together give three octets
pub base-group : (m a b c e : ℕ) (s : List ℕ) → letter a < 64 → letter b < 64 → letter c < 64 → letter e < 64 → (e ≡ 61 → ⊥)
    → between m (unbase rules) (a ∷ b ∷ c ∷ e ∷ []) s ≡ bind (between m (unbase rules) [] s) (λ d k. got (octet₁ a b ∷ octet₂ b c ∷ octet₃ c e ∷ d) k)
unfolding unbase joined
base-group m a b c e s h i j k n =
    after-group m (unbase rules) (a ∷ b ∷ c ∷ e ∷ []) (octet₁ a b ∷ octet₂ b c ∷ octet₃ c e ∷ []) s
    (λ l. unpicked _ _ (ne_eqb e 61 n) ∙ ap (λ (o : Option (List ℕ)). joined o (unbase rules l)) (four-complete a b c e h i j k))
