-- The stripped rules are the RFC's, both ways.
use Prim.Native.Nat.{ℕ, ◌+◌, ◌*◌, ◌-◌, ◌/◌, ◌%◌, ◌≤◌, ◌<◌}
use native.Mathlib.Omega.{arith}
use mathlib.Core.Path.{◌≡◌, refl, sym, ap, ◌∙◌, subst}
use mathlib.Core.Bool.{true, false}
use mathlib.Core.List.{List, [], ◌∷◌, ◌++◌, append_assoc}
use lib.ListN.{length}
use Rattle.base.specs.Choice.{among, member}
use Rattle.base.proofs.Cases.{by-eq, among-true, among_in}
use Rattle.model.specs.Grammar.{Whitespaces, no-whitespace, Digits, no_digit, Decimal, zero-decimal, Verbatim, Length, no_length, a-length, Hexadecimals, closing-hash, hexadecimals, Base64Char, base-64-char, Equals, no-equals, Base64Chars, closing-mark, base-64-chars, base-64-end-3, base-64-end-2, SimpleString, verbatim-string, quoted-string, token, hexadecimal, base-64, CSexp, c-string, c-display-string, c-list, CSexps, c-closing-parenthesis, c-sexp, Rules}
use Rattle.model.specs.Octets.{is_whitespace, is_digit, hexval, letter}
use Rattle.model.specs.Tree.{Tree, plain, hinted, list, Forest, nil, cons, digits, verbatim, canon, canons}
use Rattle.model.proofs.Classes.{hex-unwhite, letter-unwhite}
use Rattle.model.proofs.Digits.{digits-small, digits_more, digits-ind, digits-next}
use Rattle.model.proofs.Simples.{verb-shape}
use Rattle.model.proofs.Stripped.{Upto, upto-mark, upto-white, upto-other, Hex, no-hex, two-hex, Pads, no-pad, a-pad, Base64, no-letter, four, three, two, Marked, in-quotes, in-hashes, in-bars, Simple, simple-verbatim, simple-token, unmeasured, measured}

-- ---- from the rules

pub whites-upto : {m : ℕ} {s r l k : List ℕ} → Whitespaces s r → Upto m r l k → Upto m s l k
whites-upto no-whitespace u = u
whites-upto (Whitespaces.whitespace t w) u = upto-white t (whites-upto w u)

pub pad-unwhite : is_whitespace 61 ≡ false
unfolding is_whitespace member
pad-unwhite = refl

pub hex-unmark : (a : ℕ) → hexval a < 16 → a ≡ 35 → ⊥
unfolding hexval
hex-unmark a h e = let w : hexval 35 < 16 = rw e at h in omega arith

pub record Split (m : ℕ) (s k : List ℕ) (P : List ℕ → Type 0) : Type 0 where
  pub letters : List ℕ
  pub upto : Upto m s letters k
  pub means : P letters

pub hexadecimals-strip : {s d k : List ℕ} → Hexadecimals s d k → Split 35 s k (λ l. Hex l d)
hexadecimals-strip closing-hash = record { letters = []; upto = upto-mark; means = no-hex }
hexadecimals-strip (hexadecimals {a = a} {b = b} {s₂ = s₂} {d = d} {k = k} x w y v h) =
    let r : Split 35 s₂ k (λ l. Hex l d) = hexadecimals-strip h in
    record {
      letters = a ∷ b ∷ r.letters;
      upto = upto-other (hex-unwhite a x) (hex-unmark a x) (whites-upto w (upto-other (hex-unwhite b y) (hex-unmark b y) (whites-upto v r.upto)));
      means = two-hex x y r.means;
    }

-- the mark is no letter, and no pad
module _ (m : ℕ) (no : letter m ≡ 64) (other : 61 ≡ m → ⊥) where
  char-upto : {a : ℕ} {s r l k : List ℕ} → Base64Char s a r → Upto m r l k → Upto m s (a ∷ l) k
  char-upto (base-64-char {a = a} h w) u = upto-other (letter-unwhite a h) (λ e. omega (arith, ap letter e)) (whites-upto w u)

  equals-upto : {n : ℕ} {s r k : List ℕ} → Equals n s r → r ≡ m ∷ k → Split m s k (Pads n)
  equals-upto {n} {s} {r} {k} no-equals e = record { letters = []; upto = rw e upto-mark; means = no-pad }
  equals-upto (Equals.equals {n = n} {s₁ = s₁} w q) e =
      let x : Split m s₁ _ (Pads n) = equals-upto q e in
      record { letters = 61 ∷ x.letters; upto = upto-other pad-unwhite other (whites-upto w x.upto); means = a-pad x.means }

  letter-of : {a : ℕ} {s k : List ℕ} → Base64Char s a k → letter a < 64
  letter-of (base-64-char h w) = h

  module _ {ρ : Rules} where
    pub base-64-strip : {s d k : List ℕ} → Base64Chars ρ m s d k → Split m s k (λ l. Base64 ρ l d)
    base-64-strip closing-mark = record { letters = []; upto = upto-mark; means = no-letter }
    base-64-strip (base-64-chars {a = a} {b = b} {c = c} {e = e} {s₄ = s₄} {d = d} {k = k} p q r t u) =
        let x : Split m s₄ k (λ l. Base64 ρ l d) = base-64-strip u in
        record { letters = a ∷ b ∷ c ∷ e ∷ x.letters; upto = char-upto p (char-upto q (char-upto r (char-upto t x.upto))); means = four (letter-of p) (letter-of q) (letter-of r) (letter-of t) x.means }
    base-64-strip (base-64-end-3 {a = a} {b = b} {c = c} {s₃ = s₃} {k = k} p q r v u) =
        let x : Split m s₃ k (Pads 1) = equals-upto u refl in
        record { letters = a ∷ b ∷ c ∷ x.letters; upto = char-upto p (char-upto q (char-upto r x.upto)); means = three (letter-of p) (letter-of q) (letter-of r) v x.means }
    base-64-strip (base-64-end-2 {a = a} {b = b} {s₂ = s₂} {k = k} p q v u) =
        let x : Split m s₂ k (Pads 2) = equals-upto u refl in
        record { letters = a ∷ b ∷ x.letters; upto = char-upto p (char-upto q x.upto); means = two (letter-of p) (letter-of q) v x.means }

-- ---- to the rules

record First (m a : ℕ) (s l k : List ℕ) : Type 0 where
  rest : List ℕ
  whites : Whitespaces s (a ∷ rest)
  upto : Upto m rest l k

first_of : {m a : ℕ} {s l k : List ℕ} → Upto m s (a ∷ l) k → First m a s l k
first_of (upto-white t u) = let f : First _ _ _ _ _ = first_of u in record { rest = f.rest; whites = Whitespaces.whitespace t f.whites; upto = f.upto }
first_of (upto-other {s = s} t n u) = record { rest = s; whites = no-whitespace; upto = u }

last_of : {m : ℕ} {s k : List ℕ} → Upto m s [] k → Whitespaces s (m ∷ k)
last_of upto-mark = no-whitespace
last_of (upto-white t u) = Whitespaces.whitespace t (last_of u)

pub record After (s : List ℕ) (P : List ℕ → Type 0) : Type 0 where
  pub begin : List ℕ
  pub whites : Whitespaces s begin
  pub means : P begin

pub strip-hexadecimals : {s l d k : List ℕ} → Hex l d → Upto 35 s l k → After s (λ r. Hexadecimals r d k)
strip-hexadecimals no-hex u = record { begin = _; whites = last_of u; means = closing-hash }
strip-hexadecimals {s = s} {k = k} (two-hex {a = a} {b = b} {s = l} {d = d} x y h) u =
    let f : First 35 a _ (b ∷ l) _ = first_of u in
    let g : First 35 b f.rest l _ = first_of f.upto in
    let i : After g.rest (λ r. Hexadecimals r d _) = strip-hexadecimals {s = g.rest} h g.upto in
    record { begin = a ∷ f.rest; whites = f.whites; means = hexadecimals x g.whites y i.whites i.means }

pads-equals : {m n : ℕ} {s p k : List ℕ} → Pads n p → Upto m s p k → After s (λ r. Equals n r (m ∷ k))
pads-equals no-pad u = record { begin = _; whites = last_of u; means = no-equals }
pads-equals (a-pad {n = n} {s = p} q) u =
    let f : First _ 61 _ p _ = first_of u in
    let i : After f.rest (λ r. Equals n r _) = pads-equals q f.upto in
    record { begin = 61 ∷ f.rest; whites = f.whites; means = Equals.equals i.whites i.means }

module _ {ρ : Rules} where
  pub strip-base-64 : {m : ℕ} {s l d k : List ℕ} → Base64 ρ l d → Upto m s l k → After s (λ r. Base64Chars ρ m r d k)
  strip-base-64 no-letter u = record { begin = _; whites = last_of u; means = closing-mark }
  strip-base-64 {m = m} {s = s} {k = k} (four {a = a} {b = b} {c = c} {e = e} {s = l} {d = d} x y z w h) u =
      let f₁ : First _ a _ (b ∷ c ∷ e ∷ l) _ = first_of u in
      let f₂ : First _ b f₁.rest (c ∷ e ∷ l) _ = first_of f₁.upto in
      let f₃ : First _ c f₂.rest (e ∷ l) _ = first_of f₂.upto in
      let f₄ : First _ e f₃.rest l _ = first_of f₃.upto in
      let i : After f₄.rest (λ r. Base64Chars ρ _ r d _) = strip-base-64 {s = f₄.rest} h f₄.upto in
      record { begin = a ∷ f₁.rest; whites = f₁.whites; means = base-64-chars (base-64-char x f₂.whites) (base-64-char y f₃.whites) (base-64-char z f₄.whites) (base-64-char w i.whites) i.means }
  strip-base-64 (three {a = a} {b = b} {c = c} {p = p} x y z v q) u =
      let f₁ : First _ a _ (b ∷ c ∷ p) _ = first_of u in
      let f₂ : First _ b f₁.rest (c ∷ p) _ = first_of f₁.upto in
      let f₃ : First _ c f₂.rest p _ = first_of f₂.upto in
      let i : After f₃.rest (λ r. Equals 1 r _) = pads-equals q f₃.upto in
      record { begin = a ∷ f₁.rest; whites = f₁.whites; means = base-64-end-3 (base-64-char x f₂.whites) (base-64-char y f₃.whites) (base-64-char z i.whites) v i.means }
  strip-base-64 (two {a = a} {b = b} {p = p} x y v q) u =
      let f₁ : First _ a _ (b ∷ p) _ = first_of u in
      let f₂ : First _ b f₁.rest p _ = first_of f₁.upto in
      let i : After f₂.rest (λ r. Equals 2 r _) = pads-equals q f₂.upto in
      record { begin = a ∷ f₁.rest; whites = f₁.whites; means = base-64-end-2 (base-64-char x f₂.whites) (base-64-char y i.whites) v i.means }

-- ---- decimal and verbatim

digits-strip : {v n : ℕ} {s k : List ℕ} → Digits v s n k → 0 < v → digits v ++ s ≡ digits n ++ k
digits-strip no_digit z = refl
digits-strip (Digits.digit {v = v} {b = b} {s = s} t x) z =
    let r : (48 ≤ b) × (b ≤ 57) = among-true 48 57 b t in
    sym (append_assoc (digits v) (b ∷ []) s) ∙ ap (λ (y : List ℕ). y ++ s) (sym (digits-next v b z r.0 r.1)) ∙ digits-strip x (omega arith)

pub decimal-strip : {s k : List ℕ} {n : ℕ} → Decimal s n k → s ≡ digits n ++ k
decimal-strip zero-decimal = rw (digits-small 0 (omega arith))
decimal-strip (Decimal.decimal {b = b} {s = s} t x) =
    let r : (49 ≤ b) × (b ≤ 57) = among-true 49 57 b t in
    let w : 48 + (b - 48) ≡ b = omega arith in
    sym (rw (digits-small (b - 48) (omega arith), w)) ∙ digits-strip x (omega arith)

-- digits, a further one, and what follows them
more-digits : {v n b : ℕ} {s k : List ℕ} → Digits v s n (b ∷ k) → is_digit b ≡ true → Digits v s (n * 10 + (b - 48)) k
more-digits no_digit t = Digits.digit t no_digit
more-digits (Digits.digit u x) t = Digits.digit u (more-digits x t)

more-decimal : {n b : ℕ} {s k : List ℕ} → Decimal s n (b ∷ k) → 0 < n → is_digit b ≡ true → Decimal s (n * 10 + (b - 48)) k
more-decimal zero-decimal z t = absurd (omega arith)
more-decimal (Decimal.decimal u x) z t = Decimal.decimal u (more-digits x t)

one-digit : (n : ℕ) (k : List ℕ) → n < 10 → Decimal ((48 + n) ∷ k) n k
one-digit n k h =
    by-eq n 0
    (λ z. rw z zero-decimal)
    (λ z. subst (λ (x : ℕ). Decimal ((48 + n) ∷ k) x k) (omega arith) (starts (among_in 49 57 (48 + n) (omega arith) (omega arith))))
  where
    starts : among 49 57 (48 + n) ≡ true → Decimal ((48 + n) ∷ k) (48 + n - 48) k
    starts t = Decimal.decimal t no_digit

pub strip-decimal : (n : ℕ) (k : List ℕ) → Decimal (digits n ++ k) n k
strip-decimal n =
    digits-ind (λ (n : ℕ). (k : List ℕ) → Decimal (digits n ++ k) n k)
    (λ n h k. rw (digits-small n h) (one-digit n k h))
    (λ n h ih k.
    let e : n / 10 * 10 + (48 + n % 10 - 48) ≡ n = omega arith in
    let d : Decimal (digits (n / 10) ++ ((48 + n % 10) ∷ k)) (n / 10 * 10 + (48 + n % 10 - 48)) k =
    more-decimal (ih ((48 + n % 10) ∷ k)) (omega arith) (among_in 48 57 (48 + n % 10) (omega arith) (omega arith)) in
    rw (digits_more n h, append_assoc) (subst (λ (x : ℕ). Decimal (digits (n / 10) ++ ((48 + n % 10) ∷ k)) x k) e d))
    n

pub verbatim-strip : {s d k : List ℕ} → Verbatim s d k → s ≡ verbatim d ++ k
verbatim-strip (Verbatim.verbatim {d = d} {k = k} x) = decimal-strip x ∙ sym (verb-shape d k)

pub strip-verbatim : (d k : List ℕ) → Verbatim (verbatim d ++ k) d k
strip-verbatim d k = rw (verb-shape d k) (Verbatim.verbatim (strip-decimal (length d) (58 ∷ (d ++ k))))

-- ---- simple strings

module _ {ρ : Rules} where
  -- a string between marks, with the length that may stand before it
  with-length : {d s s₁ k : List ℕ} → Length d s s₁ → Marked ρ s₁ d k → Simple ρ s d k
  with-length no_length m = unmeasured m
  with-length (a-length {s = s} {k = s₁} x) m = rw (decimal-strip x) (measured m)

  pub simple-strip : {s d k : List ℕ} → SimpleString ρ s d k → Simple ρ s d k
  unfolding letter
  simple-strip (verbatim-string {d = d} {k = k} x) = rw (verbatim-strip x) (simple-verbatim d k)
  simple-strip (quoted-string l q) = with-length l (in-quotes q)
  simple-strip (token t r) = simple-token t r
  simple-strip (hexadecimal {s₂ = s₂} {d = d} {k = k} l w h) =
      let x : Split 35 s₂ k (λ y. Hex y d) = hexadecimals-strip h in
      with-length l (in-hashes (whites-upto w x.upto) x.means)
  simple-strip (base-64 {s₂ = s₂} {d = d} {k = k} l w b) =
      let x : Split 124 s₂ k (λ y. Base64 ρ y d) = base-64-strip 124 refl (λ e. omega arith) b in
      with-length l (in-bars (whites-upto w x.upto) x.means)

  strip-marked : {s t d k : List ℕ} → Length d t s → Marked ρ s d k → SimpleString ρ t d k
  strip-marked l (in-quotes q) = quoted-string l q
  strip-marked l (in-hashes {s = s} {d = d} {k = k} u h) = let x : After s (λ r. Hexadecimals r d k) = strip-hexadecimals h u in hexadecimal l x.whites x.means
  strip-marked l (in-bars {s = s} {d = d} {k = k} u b) = let x : After s (λ r. Base64Chars ρ 124 r d k) = strip-base-64 b u in base-64 l x.whites x.means

  pub strip-simple : {s d k : List ℕ} → Simple ρ s d k → SimpleString ρ s d k
  strip-simple (simple-verbatim d k) = verbatim-string (strip-verbatim d k)
  strip-simple (simple-token t r) = token t r
  strip-simple (unmeasured m) = strip-marked no_length m
  strip-simple (measured {s = s} {d = d} m) = strip-marked (a-length (strip-decimal (length d) s)) m

-- ---- canonical forms

mutual
  unfolding canon

  pub c-sexp-strip : {s k : List ℕ} {t : Tree} → CSexp s t k → s ≡ canon t ++ k
  c-sexp-strip (c-string x) = verbatim-strip x
  c-sexp-strip (c-display-string {h = h} {d = d} {k = k} x y) = rw (verbatim-strip x, verbatim-strip y) (simp append_assoc)
  c-sexp-strip (c-list {k = k} {f = f} x) = rw (c-sexps-strip x) (simp append_assoc)

  c-sexps-strip : {s k : List ℕ} {f : Forest} → CSexps s f k → s ≡ canons f ++ (41 ∷ k)
  c-sexps-strip c-closing-parenthesis = refl
  c-sexps-strip (c-sexp {t = t} x y) = rw (c-sexp-strip x, c-sexps-strip y) (simp append_assoc)

mutual
  unfolding canon

  pub strip-c-sexp : (t : Tree) (k : List ℕ) → CSexp (canon t ++ k) t k
  strip-c-sexp (plain d) k = c-string (strip-verbatim d k)
  strip-c-sexp (hinted h d) k = rw (append_assoc (verbatim h)) (c-display-string (strip-verbatim h _) (strip-verbatim d k))
  strip-c-sexp (list f) k = rw (append_assoc (canons f)) (c-list (strip-c-sexps f k))

  strip-c-sexps : (f : Forest) (k : List ℕ) → CSexps (canons f ++ (41 ∷ k)) f k
  strip-c-sexps nil k = c-closing-parenthesis
  strip-c-sexps (cons t f) k = rw (append_assoc (canon t)) (c-sexp (strip-c-sexp t _) (strip-c-sexps f k))
