-- A text of octets means a tree of octets, whose canonical form is octets.
use Prim.Native.Nat.{ℕ, ◌<◌}
use native.Mathlib.Omega.{arith}
use mathlib.Core.Path.{refl, ◌∙◌, subst}
use mathlib.Core.Bool.{Bool}
use mathlib.Core.List.{List, [], ◌∷◌, ◌++◌, append-nil}
use lib.ListN.{length}
use Rattle.model.specs.Grammar.{Whitespaces, no-whitespace, Quotable, escaped-octet, escaped-octal, escaped-hex, escaped-cr, escaped-lf, escaped-cr-lf, escaped-lf-cr, Quotables, dquote, quotable, Run, run_more, run_end, run-stop, Display, Value, display-string, list-value, Values, closing-parenthesis, a-whitespace, CSexp, Canonical, b-c-sexp, b-base-64, sexp, Language, form-1, form-2, form-3, form-4, braced-value, Rules}
use Rattle.model.specs.Octets.{letter}
use Rattle.model.specs.Tree.{Tree, plain, hinted, list, Forest, nil, cons, digits, verbatim, canon, canons, Bytes, no_byte, a_byte, TreeBytes, plain-bytes, hinted-bytes, list-bytes, ForestBytes, nil-bytes, cons-bytes}
use Rattle.model.proofs.Digits.{digits-small, digits_more, digits-ind}
use Rattle.model.proofs.Rules.{Split, base-64-strip, simple-strip, c-sexp-strip}
use Rattle.model.proofs.Stripped.{Upto, upto-mark, upto-white, upto-other, Hex, no-hex, two-hex, Base64, no-letter, four, three, two, Marked, in-quotes, in-hashes, in-bars, Simple, simple-verbatim, simple-token, unmeasured, measured}

-- ---- the octets of a canonical form are those of its tree

pub bytes_left : (a b : List ℕ) → Bytes (a ++ b) → Bytes a
bytes_left [] b x = no_byte
bytes_left (n ∷ a) b (a_byte h x) = a_byte h (bytes_left a b x)

pub bytes-right : (a b : List ℕ) → Bytes (a ++ b) → Bytes b
bytes-right [] b x = x
bytes-right (n ∷ a) b (a_byte h x) = bytes-right a b x

pub bytes-tail : {b : ℕ} {d : List ℕ} → Bytes (b ∷ d) → Bytes d
bytes-tail (a_byte h x) = x

pub verbatim-bytes : (d : List ℕ) → Bytes (verbatim d) → Bytes d
unfolding verbatim
verbatim-bytes d x = bytes-tail (bytes-right (digits (length d)) (58 ∷ d) x)

mutual
  unfolding canon

  pub tree-bytes : (t : Tree) → Bytes (canon t) → TreeBytes t
  tree-bytes (plain d) x = plain-bytes (verbatim-bytes d x)
  tree-bytes (hinted h d) x =
      hinted-bytes (verbatim-bytes h (bytes_left (verbatim h) (93 ∷ verbatim d) (bytes-tail x))) (verbatim-bytes d (bytes-tail (bytes-right (verbatim h) (93 ∷ verbatim d) (bytes-tail x))))
  tree-bytes (list f) x = list-bytes (forest-bytes f (bytes_left (canons f) (41 ∷ []) (bytes-tail x)))

  pub forest-bytes : (f : Forest) → Bytes (canons f) → ForestBytes f
  forest-bytes nil x = nil-bytes
  forest-bytes (cons t f) x = cons-bytes (tree-bytes t (bytes_left (canon t) (canons f) x)) (forest-bytes f (bytes-right (canon t) (canons f) x))

pub bytes-append : {a b : List ℕ} → Bytes a → Bytes b → Bytes (a ++ b)
bytes-append no_byte y = y
bytes-append (a_byte h x) y = a_byte h (bytes-append x y)

-- as a function: its octet is then known from the goal
more : {b : ℕ} {d : List ℕ} → b < 256 → Bytes d → Bytes (b ∷ d)
more h x = a_byte h x

bytes-head : {b : ℕ} {d : List ℕ} → Bytes (b ∷ d) → b < 256
bytes-head (a_byte h x) = h

-- ---- the canonical form

digits-bytes : (n : ℕ) → Bytes (digits n)
digits-bytes n =
    digits-ind (λ (n : ℕ). Bytes (digits n))
    (λ n h. rw (digits-small n h) (more (omega arith) no_byte))
    (λ n h ih. rw (digits_more n h) (bytes-append ih (more (omega arith) no_byte)))
    n

bytes-verbatim : {d : List ℕ} → Bytes d → Bytes (verbatim d)
unfolding verbatim
bytes-verbatim {d} x = bytes-append (digits-bytes (length d)) (more (omega arith) x)

mutual
  unfolding canon

  pub canon-bytes : {t : Tree} → TreeBytes t → Bytes (canon t)
  canon-bytes (plain-bytes x) = bytes-verbatim x
  canon-bytes (hinted-bytes x y) = more (omega arith) (bytes-append (bytes-verbatim x) (more (omega arith) (bytes-verbatim y)))
  canon-bytes (list-bytes x) = more (omega arith) (bytes-append (canons-bytes x) (more (omega arith) no_byte))

  pub canons-bytes : {f : Forest} → ForestBytes f → Bytes (canons f)
  canons-bytes nil-bytes = no_byte
  canons-bytes (cons-bytes x y) = bytes-append (canon-bytes x) (canons-bytes y)

-- ---- what is read of octets is octets, and the rest is

whites-bytes : {s k : List ℕ} → Bytes s → Whitespaces s k → Bytes k
whites-bytes x no-whitespace = x
whites-bytes x (Whitespaces.whitespace t w) = whites-bytes (bytes-tail x) w

run-bytes : {s d k : List ℕ} → Bytes s → Run s d k → Bytes d × Bytes k
run-bytes x (run_more t r) = let i : Bytes _ × Bytes _ = run-bytes (bytes-tail x) r in (a_byte (bytes-head x) i.0, i.1)
run-bytes x run_end = (no_byte, no_byte)
run-bytes x (run-stop t) = (no_byte, x)

one : {b : ℕ} → b < 256 → Bytes (b ∷ [])
one h = a_byte h no_byte

module _ {ρ : Rules} where
  piece_bytes : {s p k : List ℕ} → Bytes s → Quotable ρ s p k → Bytes p × Bytes k
  piece_bytes x (Quotable.printable t) = (one (bytes-head x), bytes-tail x)
  piece_bytes x (escaped-octet t) = (one t, bytes-tail (bytes-tail x))
  piece_bytes x (escaped-octal t u v w) = (one (omega arith), bytes-tail (bytes-tail (bytes-tail (bytes-tail x))))
  piece_bytes x (escaped-hex t u) = (one (omega arith), bytes-tail (bytes-tail (bytes-tail (bytes-tail x))))
  piece_bytes x escaped-cr = (no_byte, bytes-tail (bytes-tail x))
  piece_bytes x escaped-lf = (no_byte, bytes-tail (bytes-tail x))
  piece_bytes x escaped-cr-lf = (no_byte, bytes-tail (bytes-tail (bytes-tail x)))
  piece_bytes x escaped-lf-cr = (no_byte, bytes-tail (bytes-tail (bytes-tail x)))

  quoted-bytes : {s d k : List ℕ} → Bytes s → Quotables ρ s d k → Bytes d × Bytes k
  quoted-bytes x dquote = (no_byte, bytes-tail x)
  quoted-bytes x (quotable p q) =
      let i : Bytes _ × Bytes _ = piece_bytes x p in
      let j : Bytes _ × Bytes _ = quoted-bytes i.1 q in
      (bytes-append i.0 j.0, j.1)

upto-bytes : {m : ℕ} {s l k : List ℕ} → Bytes s → Upto m s l k → Bytes k
upto-bytes x upto-mark = bytes-tail x
upto-bytes x (upto-white t u) = upto-bytes (bytes-tail x) u
upto-bytes x (upto-other t n u) = upto-bytes (bytes-tail x) u

hex-bytes : {l d : List ℕ} → Hex l d → Bytes d
hex-bytes no-hex = no_byte
hex-bytes (two-hex t u h) = more (omega arith) (hex-bytes h)

module _ {ρ : Rules} where
  base-bytes : {l d : List ℕ} → Base64 ρ l d → Bytes d
  base-bytes no-letter = no_byte
  base-bytes (four t u v w h) = more (omega arith) (more (omega arith) (more (omega arith) (base-bytes h)))
  base-bytes (three t u v l p) = more (omega arith) (one (omega arith))
  base-bytes (two t u l p) = one (omega arith)

  marked-bytes : {s d k : List ℕ} → Bytes s → Marked ρ s d k → Bytes d × Bytes k
  marked-bytes x (in-quotes q) = quoted-bytes (bytes-tail x) q
  marked-bytes x (in-hashes u h) = (hex-bytes h, upto-bytes (bytes-tail x) u)
  marked-bytes x (in-bars u h) = (base-bytes h, upto-bytes (bytes-tail x) u)

  simple-bytes : {s d k : List ℕ} → Bytes s → Simple ρ s d k → Bytes d × Bytes k
  simple-bytes x (simple-verbatim d k) = (verbatim-bytes d (bytes_left (verbatim d) k x), bytes-right (verbatim d) k x)
  simple-bytes x (simple-token t r) = let i : Bytes _ × Bytes _ = run-bytes (bytes-tail x) r in (a_byte (bytes-head x) i.0, i.1)
  simple-bytes x (unmeasured m) = marked-bytes x m
  simple-bytes x (measured {s = s} {d = d} m) = marked-bytes (bytes-right (digits (length d)) s x) m

c-sexp-bytes : {s : List ℕ} {t : Tree} → Bytes s → CSexp s t [] → TreeBytes t
c-sexp-bytes {s} {t} x y = tree-bytes t (subst Bytes (c-sexp-strip y ∙ append-nil (canon t)) x)

module _ {ρ : Rules} {β : Bool} where
  mutual
    unfolding letter

    value-bytes : {s k : List ℕ} {t : Tree} → Value ρ β s t k → Bytes s → TreeBytes t × Bytes k
    value-bytes (Value.string y) x = let i : Bytes _ × Bytes _ = simple-bytes x (simple-strip y) in (plain-bytes i.0, i.1)
    value-bytes (display-string (Display.display w₁ y w₂ w₃) z) x =
        let i : Bytes _ × Bytes _ = simple-bytes (whites-bytes (bytes-tail x) w₁) (simple-strip y) in
        let j : Bytes _ × Bytes _ = simple-bytes (whites-bytes (bytes-tail (whites-bytes i.1 w₂)) w₃) (simple-strip z) in
        (hinted-bytes i.0 j.0, j.1)
    value-bytes (braced-value {s₁ = s₁} {d = d} {k = k} e w b y) x =
        let z : Split 125 s₁ k (λ l. Base64 ρ l d) = base-64-strip 125 refl (λ e. omega arith) b in
        (c-sexp-bytes (base-bytes z.means) y, upto-bytes (whites-bytes (bytes-tail x) w) z.upto)
    value-bytes (list-value v) x = let i : ForestBytes _ × Bytes _ = values-bytes v (bytes-tail x) in (list-bytes i.0, i.1)

    values-bytes : {s k : List ℕ} {f : Forest} → Values ρ β s f k → Bytes s → ForestBytes f × Bytes k
    values-bytes closing-parenthesis x = (nil-bytes, bytes-tail x)
    values-bytes (a-whitespace t v) x = values-bytes v (bytes-tail x)
    values-bytes (Values.value v w) x =
        let i : TreeBytes _ × Bytes _ = value-bytes v x in
        let j : ForestBytes _ × Bytes _ = values-bytes w i.1 in
        (cons-bytes i.0 j.0, j.1)

module _ {ρ : Rules} where
  pub language-tree : {form : ℕ} {s : List ℕ} {t : Tree} → Bytes s → Language ρ form s t → TreeBytes t
  unfolding letter
  language-tree x (form-1 (Canonical.canonical y)) = c-sexp-bytes x y
  language-tree x (form-2 (b-c-sexp y)) = c-sexp-bytes x y
  language-tree x (form-2 (b-base-64 {s₁ = s₁} {d = d} w b n y)) =
      let z : Split 125 s₁ [] (λ l. Base64 ρ l d) = base-64-strip 125 refl (λ e. omega arith) b in
      c-sexp-bytes (base-bytes z.means) y
  language-tree x (form-3 (sexp w v z)) = (value-bytes v (whites-bytes x w)).0
  language-tree x (form-4 (sexp w v z)) = (value-bytes v (whites-bytes x w)).0

  pub language-bytes : {form : ℕ} {s : List ℕ} {t : Tree} → Bytes s → Language ρ form s t → Bytes (canon t)
  language-bytes x y = canon-bytes (language-tree x y)
