-- Octets have one spelling in base-64, but for whitespace and "=" at the end: the letters are those that we would write.
use Prim.Native.Nat.{ℕ, suc, ◌+◌, ◌*◌, ◌/◌, ◌%◌, ◌≤◌, ◌<◌}
use native.Mathlib.Omega.{arith}
use mathlib.Core.Path.{◌≡◌, refl, sym, ap, ◌∙◌}
use mathlib.Core.Bool.{Bool, true}
use mathlib.Core.List.{List, [], ◌∷◌, ◌++◌, append_cancel_right}
use mathlib.Core.Option.{some}
use lib.Dec.{eqb, ltb}
use borrow.Author.Tests.{eqb-true, ne_eqb, lt-ltb}
use Rattle.base.specs.Choice.{pick}
use Rattle.base.proofs.Below.{below, below_at}
use Rattle.base.proofs.Cases.{by_le, among-high, picked}
use Rattle.model.specs.Amended.{unspaced, pads, Spelling}
use Rattle.model.specs.Grammar.{Whitespaces, Base64Chars, octet₁, octet₂, octet₃, rules}
use Rattle.model.specs.Octets.{letter, leftover}
use Rattle.model.specs.Decode.{decode₂}
use Rattle.model.specs.Tree.{Tree, canon}
use Rattle.model.specs.Write.{letter_of}
use Rattle.model.proofs.Exact.{braced}
use Rattle.model.proofs.Rules.{Split, whites-upto, base-64-strip}
use Rattle.model.proofs.Stripped.{Upto, upto-mark, upto-white, upto-other, Pads, no-pad, a-pad, Base64, no-letter, four, three, two}

-- ---- a letter is the one of its value
abbrev spelt-test : ℕ → Bool
spelt-test a = pick (ltb (letter a) 64) (eqb (letter_of (letter a)) a) true

tested : below 123 spelt-test ≡ true
unfolding below letter letter_of
tested = refl

high : (a : ℕ) → 123 ≤ a → letter a ≡ 64
unfolding letter
high a h = rw (among-high 65 90 a (omega arith), among-high 97 122 a (omega arith), among-high 48 57 a (omega arith), ne_eqb a 43 (λ e. omega arith), ne_eqb a 47 (λ e. omega arith))

letter-is : (a : ℕ) → letter a < 64 → letter_of (letter a) ≡ a
letter-is a h =
    by_le 123 a
    (λ l. absurd (omega (arith, high a l)))
    (λ l. eqb-true _ _ (sym (picked _ _ (lt-ltb (letter a) 64 h)) ∙ below_at 123 spelt-test tested a l))

of-value : (a n : ℕ) → letter a < 64 → n ≡ letter a → letter_of n ≡ a
of-value a n h e = ap letter_of e ∙ letter-is a h

none_left : (n : ℕ) → leftover n ≡ true → n ≡ 0
unfolding leftover
none_left n e = eqb-true n 0 e

-- ---- the letters of octets, without "="
unfoldable letters_of : List ℕ → List ℕ
letters_of [] = []
letters_of (a ∷ []) = letter_of (a / 4) ∷ letter_of (a % 4 * 16) ∷ []
letters_of (a ∷ b ∷ []) = letter_of (a / 4) ∷ letter_of (a % 4 * 16 + b / 16) ∷ letter_of (b % 16 * 4) ∷ []
letters_of (a ∷ b ∷ c ∷ s) = letter_of (a / 4) ∷ letter_of (a % 4 * 16 + b / 16) ∷ letter_of (b % 16 * 4 + c / 64) ∷ letter_of (c % 64) ∷ letters_of s

record Spelt (l d : List ℕ) : Type 0 where
  many : ℕ
  is : l ≡ letters_of d ++ pads many

pads-are : {n : ℕ} {p : List ℕ} → Pads n p → Spelt p []
unfolding letters_of pads
pads-are no-pad = record { many = 0; is = refl }
pads-are (a-pad {s = p} q) = let x : Spelt p [] = pads-are q in record { many = suc x.many; is = ap (λ (s : List ℕ). 61 ∷ s) x.is }

spelt : {l d : List ℕ} → Base64 rules l d → Spelt l d
unfolding letters_of pads
spelt no-letter = record { many = 0; is = refl }
spelt (four {a = a} {b = b} {c = c} {e = e} {s = s} {d = d} x y z w h) =
    let i : Spelt s d = spelt h in
    record {
      many = i.many;
      is = rw (of-value a (octet₁ a b / 4) x (omega arith), of-value b (octet₁ a b % 4 * 16 + octet₂ b c / 16) y (omega arith), of-value c (octet₂ b c % 16 * 4 + octet₃ c e / 64) z (omega arith), of-value e (octet₃ c e % 64) w (omega arith)) (ap (λ (t : List ℕ). a ∷ b ∷ c ∷ e ∷ t) i.is);
    }
spelt (three {a = a} {b = b} {c = c} {p = p} x y z v q) =
    let i : Spelt p [] = pads-are q in
    let n : letter c % 4 ≡ 0 = none_left _ v in
    record {
      many = i.many;
      is = rw (of-value a (octet₁ a b / 4) x (omega arith), of-value b (octet₁ a b % 4 * 16 + octet₂ b c / 16) y (omega arith), of-value c (octet₂ b c % 16 * 4) z (omega arith)) (ap (λ (t : List ℕ). a ∷ b ∷ c ∷ t) i.is);
    }
spelt (two {a = a} {b = b} {p = p} x y v q) =
    let i : Spelt p [] = pads-are q in
    let n : letter b % 16 ≡ 0 = none_left _ v in
    record {
      many = i.many;
      is = rw (of-value a (octet₁ a b / 4) x (omega arith), of-value b (octet₁ a b % 4 * 16) y (omega arith)) (ap (λ (t : List ℕ). a ∷ b ∷ t) i.is);
    }

-- ---- what stands before the closing mark
record Inside (m : ℕ) (s l k : List ℕ) : Type 0 where
  text : List ℕ
  whole : s ≡ text ++ m ∷ k
  bare : l ≡ unspaced text

inside : {m : ℕ} {s l k : List ℕ} → Upto m s l k → Inside m s l k
unfolding unspaced
inside upto-mark = record { text = []; whole = refl; bare = refl }
inside (upto-white {b = b} {s = s} {l = l} {k = k} t u) =
    let x : Inside _ s l k = inside u in
    record { text = b ∷ x.text; whole = ap (λ (y : List ℕ). b ∷ y) x.whole; bare = rw t x.bare }
inside (upto-other {b = b} {s = s} {l = l} {k = k} t n u) =
    let x : Inside _ s l k = inside u in
    record { text = b ∷ x.text; whole = ap (λ (y : List ℕ). b ∷ y) x.whole; bare = rw t (ap (λ (y : List ℕ). b ∷ y) x.bare) }

split-spelt : (m : ℕ) (x d k : List ℕ) → Split m (x ++ m ∷ k) k (λ l. Base64 rules l d) → Spelt (unspaced x) d
split-spelt m x d k z =
    let i : Inside m (x ++ m ∷ k) z.letters k = inside z.upto in
    let e : x ≡ i.text = append_cancel_right x i.text (m ∷ k) i.whole in
    let j : Spelt z.letters d = spelt z.means in
    record { many = j.many; is = ap unspaced e ∙ sym i.bare ∙ j.is }

same-letters : (x y d : List ℕ) → Spelt (unspaced x) d → Spelt (unspaced y) d → Spelling x y
same-letters x y d i j = record { letters = letters_of d; p = i.many; q = j.many; one = i.is; other = j.is }

-- texts in braces with one tree
pub braces-differ : (x y : List ℕ) (t : Tree) → decode₂ rules (123 ∷ x ++ 125 ∷ []) ≡ some t → decode₂ rules (123 ∷ y ++ 125 ∷ []) ≡ some t → Spelling x y
braces-differ x y t g h = same-letters x y (canon t) (split-spelt 125 x (canon t) [] (braced _ t g)) (split-spelt 125 y (canon t) [] (braced _ t h))

module _ (m : ℕ) (no : letter m ≡ 64) (other : 61 ≡ m → ⊥) where
  spelling-of : (x d k s : List ℕ) → Whitespaces (x ++ m ∷ k) s → Base64Chars rules m s d k → Spelt (unspaced x) d
  spelling-of x d k s w h =
      let z : Split m s k (λ l. Base64 rules l d) = base-64-strip m no other h in
      split-spelt m x d k (record { letters = z.letters; upto = whites-upto w z.upto; means = z.means })

  pub spellings-differ : (x y d k l s s' : List ℕ) → Whitespaces (x ++ m ∷ k) s → Base64Chars rules m s d k → Whitespaces (y ++ m ∷ l) s' → Base64Chars rules m s' d l → Spelling x y
  spellings-differ x y d k l s s' v g w h = same-letters x y d (spelling-of x d k s v g) (spelling-of y d l s' w h)
