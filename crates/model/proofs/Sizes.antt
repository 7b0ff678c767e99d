-- How long the canonical form of a text is at most.
use Prim.Native.Nat.{ℕ, ◌+◌, ◌*◌, ◌/◌, ◌≤◌, ◌<◌, max}
use native.Mathlib.Omega.{arith}
use mathlib.Core.Path.{◌≡◌, refl, ap, ◌∙◌}
use mathlib.Core.Bool.{Bool}
use mathlib.Core.List.{List, [], ◌∷◌, append-nil}
use lib.ListN.{length, length-append}
use Rattle.model.specs.Grammar.{Whitespaces, no-whitespace, Quotables, dquote, quotable, Run, run_more, run_end, run-stop, Display, Value, display-string, list-value, braced-value, Base64Chars, CSexp, Values, closing-parenthesis, a-whitespace, Advanced, sexp, Rules}
use Rattle.model.specs.Octets.{letter}
use Rattle.model.specs.Tree.{Tree, Forest, digits, verbatim, canon, canons}
use Rattle.model.proofs.Digits.{digits-small, digits_more, digits-ind}
use Rattle.model.proofs.Quoted.{piece-size}
use Rattle.model.proofs.Rules.{Split, base-64-strip, simple-strip, c-sexp-strip}
use Rattle.model.proofs.Stripped.{Upto, upto-mark, upto-white, upto-other, Hex, no-hex, two-hex, Base64, no-letter, four, three, two, Marked, in-quotes, in-hashes, in-bars, Simple, simple-verbatim, simple-token, unmeasured, measured}

pub digits-length : (n : ℕ) → (1 ≤ length (digits n)) × (length (digits n) ≤ max 1 n)
digits-length n =
    digits-ind (λ (n : ℕ). (1 ≤ length (digits n)) × (length (digits n) ≤ max 1 n))
    (λ n h. rw (digits-small n h) (omega arith))
    (λ n h ih. let i : length (digits n) ≡ length (digits (n / 10)) + 1 = ap length (digits_more n h) ∙ length-append (digits (n / 10)) _ in omega arith)
    n

pub verbatim-length : (d : List ℕ) → length (verbatim d) ≡ length (digits (length d)) + 1 + length d
unfolding verbatim
verbatim-length d = length-append (digits (length d)) (58 ∷ d) ∙ omega arith

pub run-size : {s d k : List ℕ} → Run s d k → length d + length k ≡ length s
run-size (run_more t r) = omega (arith, run-size r)
run-size run_end = refl
run-size (run-stop t) = omega arith

module _ {ρ : Rules} where
  quoted-size : {s d k : List ℕ} → Quotables ρ s d k → length d + 1 + length k ≤ length s
  quoted-size dquote = omega arith
  quoted-size (quotable {p = p} {d = d} x q) = omega (arith, piece-size x, quoted-size q, length-append p d)

pub upto-size : {m : ℕ} {s l k : List ℕ} → Upto m s l k → length l + 1 + length k ≤ length s
upto-size upto-mark = omega arith
upto-size (upto-white t u) = omega (arith, upto-size u)
upto-size (upto-other t n u) = omega (arith, upto-size u)

hex-size : {l d : List ℕ} → Hex l d → length d ≤ length l
hex-size no-hex = omega arith
hex-size (two-hex t u h) = omega (arith, hex-size h)

module _ {ρ : Rules} where
  pub base-size : {l d : List ℕ} → Base64 ρ l d → length d ≤ length l
  base-size no-letter = omega arith
  base-size (four t u v w h) = omega (arith, base-size h)
  base-size (three t u v l p) = omega arith
  base-size (two t u l p) = omega arith

  pub marked-size : {s d k : List ℕ} → Marked ρ s d k → length d + 2 + length k ≤ length s
  marked-size (in-quotes q) = omega (arith, quoted-size q)
  marked-size (in-hashes u h) = omega (arith, upto-size u, hex-size h)
  marked-size (in-bars u h) = omega (arith, upto-size u, base-size h)

  pub simple-size : {s d k : List ℕ} → Simple ρ s d k → length (verbatim d) + 3 * length k ≤ 3 * length s
  simple-size (simple-verbatim d k) = omega (arith, length-append (verbatim d) k)
  simple-size (simple-token {b = b} {d = d} t r) = omega (arith, run-size r, verbatim-length (b ∷ d), digits-length (length (b ∷ d)))
  simple-size (unmeasured {d = d} m) = omega (arith, marked-size m, verbatim-length d, digits-length (length d))
  simple-size (measured {s = s} {d = d} m) = omega (arith, marked-size m, verbatim-length d, digits-length (length d), length-append (digits (length d)) s)

  pub simple-short : {s d k : List ℕ} → Simple ρ s d k → length k < length s
  simple-short {s} {d} {k} x = omega (arith, simple-size x, verbatim-length d, digits-length (length d))

pub whites-size : {s k : List ℕ} → Whitespaces s k → length k ≤ length s
whites-size no-whitespace = omega arith
whites-size (Whitespaces.whitespace t w) = omega (arith, whites-size w)

-- a tree in braces has fewer octets than the letters there
braced-size : {ρ : Rules} {s d k : List ℕ} {t : Tree} → Base64Chars ρ 125 s d k → CSexp d t [] → length (canon t) + 1 + length k ≤ length s
unfolding letter
braced-size {ρ} {s} {d} {k} {t} b x =
    let y : Split 125 s k (λ l. Base64 ρ l d) = base-64-strip 125 refl (λ e. omega arith) b in
    omega (arith, upto-size y.upto, base-size y.means, ap length (c-sexp-strip x ∙ append-nil (canon t)))

-- S 6.2: what a source of n octets says has 3 n at most in canonical form
module _ {ρ : Rules} {β : Bool} where
  mutual
    unfolding canon

    pub value-size : {s k : List ℕ} {t : Tree} → Value ρ β s t k → length (canon t) + 3 * length k ≤ 3 * length s
    value-size (Value.string x) = simple-size (simple-strip x)
    value-size (display-string {h = h} {d = d} (Display.display w₁ x w₂ w₃) y) =
        omega (arith, whites-size w₁, simple-size (simple-strip x), whites-size w₂, whites-size w₃, simple-size (simple-strip y), length-append (verbatim h) (93 ∷ verbatim d))
    value-size (braced-value {s₁ = s₁} {d = d} {k = k} {t = t} e w b x) = omega (arith, whites-size w, braced-size b x)
    value-size (list-value {f = f} v) = omega (arith, values-size v, length-append (canons f) (41 ∷ []))

    pub values-size : {s k : List ℕ} {f : Forest} → Values ρ β s f k → length (canons f) + 3 + 3 * length k ≤ 3 * length s
    values-size closing-parenthesis = omega arith
    values-size (a-whitespace t v) = omega (arith, values-size v)
    values-size (Values.value {t = t} {f = f} v w) = omega (arith, value-size v, values-size w, length-append (canon t) (canons f))

  pub advanced-size : {s : List ℕ} {t : Tree} → Advanced ρ β s t → length (canon t) ≤ 3 * length s
  advanced-size (sexp w v x) = omega (arith, whites-size w, value-size v)
