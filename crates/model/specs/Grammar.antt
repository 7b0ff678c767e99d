-- The language of the forms (S 3): RFC 9804's ABNF rule by rule, as S 3 narrows it, and form 4 of 1997.
-- `R s x k` says: the octets s begin with what the rule R names, x is what that means, and k is the rest of s.
-- A constructor is a rule, or one of its alternatives, and has the rule's name.
use Rattle.std.specs.Prelude.{ℕ, suc, ◌+◌, ◌*◌, ◌-◌, ◌/◌, ◌%◌, ◌≤◌, ◌<◌, ◌≡◌, Bool, true, false, List, [], ◌∷◌, ◌++◌, length}
use Rattle.base.specs.Choice.{among}
use Rattle.model.specs.Tree.{Tree, plain, hinted, list, Forest, nil, cons}
use Rattle.model.specs.Octets.{is_whitespace, is_digit, is_token_start, is_token_octet, is_printable, hexval, octval, letter, leftover, escape}

-- What requests change about strings, so that the languages before and after one are two uses of one definition.
pub record Rules : Type 0 where
  -- whether these low bits, which the last letter of base-64 has too many, may stand
  pub leftover : ℕ → Bool
  -- the octet that this one means after a backslash; 256 is none
  pub escape : ℕ → ℕ

-- those in force
abbrev pub rules : Rules
rules = record { leftover = leftover; escape = escape }

-- *whitespace
pub data Whitespaces : List ℕ → List ℕ → Type 0 where
  no-whitespace : {k : List ℕ} → Whitespaces k k
  whitespace : {b : ℕ} {s k : List ℕ} → is_whitespace b ≡ true → Whitespaces s k → Whitespaces (b ∷ s) k

-- ---- lengths and verbatim strings

-- *DIGIT, after digits that say v
pub data Digits : ℕ → List ℕ → ℕ → List ℕ → Type 0 where
  no_digit : {v : ℕ} {k : List ℕ} → Digits v k v k
  digit : {v b n : ℕ} {s k : List ℕ} → is_digit b ≡ true → Digits (v * 10 + (b - 48)) s n k → Digits v (b ∷ s) n k

-- decimal = %x30 / (%x31-39 *DIGIT)
pub data Decimal : List ℕ → ℕ → List ℕ → Type 0 where
  zero-decimal : {k : List ℕ} → Decimal (48 ∷ k) 0 k
  decimal : {b n : ℕ} {s k : List ℕ} → among 49 57 b ≡ true → Digits (b - 48) s n k → Decimal (b ∷ s) n k

-- verbatim = decimal ":" *OCTET, "the exact number of OCTETs indicated by the length"
pub data Verbatim : List ℕ → List ℕ → List ℕ → Type 0 where
  verbatim : {s d k : List ℕ} → Decimal s (length d) (58 ∷ (d ++ k)) → Verbatim s d k

-- [decimal] before the data d; S 3.11: it is the number of octets decoded
pub data Length (d : List ℕ) : List ℕ → List ℕ → Type 0 where
  no_length : {k : List ℕ} → Length d k k
  a-length : {s k : List ℕ} → Decimal s (length d) k → Length d s k

-- ---- quoted strings

-- printable / escaped, and the octet for which it stands, if any
pub data Quotable (ρ : Rules) : List ℕ → List ℕ → List ℕ → Type 0 where
  printable : {b : ℕ} {k : List ℕ} → is_printable b ≡ true → Quotable ρ (b ∷ k) (b ∷ []) k
  -- backslash and one of the octets that are listed
  escaped-octet : {e : ℕ} {k : List ℕ} → ρ.escape e < 256 → Quotable ρ (92 ∷ e ∷ k) (ρ.escape e ∷ []) k
  -- backslash 3(%x30-37); S 3.8: at most 255
  escaped-octal : {a b c : ℕ} {k : List ℕ} → octval a < 8 → octval b < 8 → octval c < 8 → octval a * 64 + octval b * 8 + octval c ≤ 255
      → Quotable ρ (92 ∷ a ∷ b ∷ c ∷ k) ((octval a * 64 + octval b * 8 + octval c) ∷ []) k
  -- backslash (%x78 2HEXDIG)
  escaped-hex : {a b : ℕ} {k : List ℕ} → hexval a < 16 → hexval b < 16 → Quotable ρ (92 ∷ 120 ∷ a ∷ b ∷ k) ((hexval a * 16 + hexval b) ∷ []) k
  -- backslash (CR / LF / (CR LF) / (LF CR)); S 3.8: it stands for nothing
  escaped-cr : {k : List ℕ} → Quotable ρ (92 ∷ 13 ∷ k) [] k
  escaped-lf : {k : List ℕ} → Quotable ρ (92 ∷ 10 ∷ k) [] k
  escaped-cr-lf : {k : List ℕ} → Quotable ρ (92 ∷ 13 ∷ 10 ∷ k) [] k
  escaped-lf-cr : {k : List ℕ} → Quotable ρ (92 ∷ 10 ∷ 13 ∷ k) [] k

-- *(printable / escaped) DQUOTE
pub data Quotables (ρ : Rules) : List ℕ → List ℕ → List ℕ → Type 0 where
  dquote : {k : List ℕ} → Quotables ρ (34 ∷ k) [] k
  quotable : {s p r d k : List ℕ} → Quotable ρ s p r → Quotables ρ r d k → Quotables ρ s (p ++ d) k

-- ---- tokens

-- *(ALPHA / DIGIT / simple-punc); S 3.7: the longest run, so that the rest does not begin with one
pub data Run : List ℕ → List ℕ → List ℕ → Type 0 where
  run_more : {b : ℕ} {s d k : List ℕ} → is_token_octet b ≡ true → Run s d k → Run (b ∷ s) (b ∷ d) k
  run_end : Run [] [] []
  run-stop : {b : ℕ} {k : List ℕ} → is_token_octet b ≡ false → Run (b ∷ k) [] (b ∷ k)

-- ---- hexadecimal

-- *hexadecimals "#", where hexadecimals = 2(HEXDIG *whitespace)
pub data Hexadecimals : List ℕ → List ℕ → List ℕ → Type 0 where
  closing-hash : {k : List ℕ} → Hexadecimals (35 ∷ k) [] k
  hexadecimals : {a b : ℕ} {s s₁ s₂ d k : List ℕ} → hexval a < 16 → Whitespaces s (b ∷ s₁) → hexval b < 16 → Whitespaces s₁ s₂ → Hexadecimals s₂ d k
      → Hexadecimals (a ∷ s) ((hexval a * 16 + hexval b) ∷ d) k

-- ---- base-64

-- S 3.10: four letters give three octets
abbrev pub octet₁ : ℕ → ℕ → ℕ
octet₁ a b = letter a * 4 + letter b / 16

abbrev pub octet₂ : ℕ → ℕ → ℕ
octet₂ b c = letter b % 16 * 16 + letter c / 4

abbrev pub octet₃ : ℕ → ℕ → ℕ
octet₃ c e = letter c % 4 * 64 + letter e

-- the low bits that the last letter has too many, after two letters and after three
abbrev pub leftover₂ : ℕ → Bool
leftover₂ b = leftover (letter b % 16)

abbrev pub leftover₃ : ℕ → Bool
leftover₃ c = leftover (letter c % 4)

-- base-64-char *whitespace
pub data Base64Char : List ℕ → ℕ → List ℕ → Type 0 where
  base-64-char : {a : ℕ} {s k : List ℕ} → letter a < 64 → Whitespaces s k → Base64Char (a ∷ s) a k

-- at most n of ("=" *whitespace)
pub data Equals : ℕ → List ℕ → List ℕ → Type 0 where
  no-equals : {n : ℕ} {k : List ℕ} → Equals n k k
  equals : {n : ℕ} {s s₁ k : List ℕ} → Whitespaces s s₁ → Equals n s₁ k → Equals (suc n) (61 ∷ s) k

-- *base-64-chars [base-64-end] and the closing mark; S 3.10: at most one "=" after three letters at the end, at most two after two, and of
-- the bits too many only those that the rules let stand
pub data Base64Chars (ρ : Rules) (mark : ℕ) : List ℕ → List ℕ → List ℕ → Type 0 where
  closing-mark : {k : List ℕ} → Base64Chars ρ mark (mark ∷ k) [] k
  base-64-chars : {a b c e : ℕ} {s s₁ s₂ s₃ s₄ d k : List ℕ} → Base64Char s a s₁ → Base64Char s₁ b s₂ → Base64Char s₂ c s₃ → Base64Char s₃ e s₄ → Base64Chars ρ mark s₄ d k
      → Base64Chars ρ mark s (octet₁ a b ∷ octet₂ b c ∷ octet₃ c e ∷ d) k
  base-64-end-3 : {a b c : ℕ} {s s₁ s₂ s₃ k : List ℕ} → Base64Char s a s₁ → Base64Char s₁ b s₂ → Base64Char s₂ c s₃ → ρ.leftover (letter c % 4) ≡ true → Equals 1 s₃ (mark ∷ k)
      → Base64Chars ρ mark s (octet₁ a b ∷ octet₂ b c ∷ []) k
  base-64-end-2 : {a b : ℕ} {s s₁ s₂ k : List ℕ} → Base64Char s a s₁ → Base64Char s₁ b s₂ → ρ.leftover (letter b % 16) ≡ true → Equals 2 s₂ (mark ∷ k)
      → Base64Chars ρ mark s (octet₁ a b ∷ []) k

-- ---- strings and values

-- simple-string = verbatim / quoted-string / token / hexadecimal / base-64
pub data SimpleString (ρ : Rules) : List ℕ → List ℕ → List ℕ → Type 0 where
  verbatim-string : {s d k : List ℕ} → Verbatim s d k → SimpleString ρ s d k
  -- quoted-string = [decimal] DQUOTE *(printable / escaped) DQUOTE
  quoted-string : {s s₁ d k : List ℕ} → Length d s (34 ∷ s₁) → Quotables ρ s₁ d k → SimpleString ρ s d k
  -- token = (ALPHA / simple-punc) *(ALPHA / DIGIT / simple-punc)
  token : {b : ℕ} {s d k : List ℕ} → is_token_start b ≡ true → Run s d k → SimpleString ρ (b ∷ s) (b ∷ d) k
  -- hexadecimal = [decimal] "#" *whitespace *hexadecimals "#"
  hexadecimal : {s s₁ s₂ d k : List ℕ} → Length d s (35 ∷ s₁) → Whitespaces s₁ s₂ → Hexadecimals s₂ d k → SimpleString ρ s d k
  -- base-64 = [decimal] "|" *whitespace *base-64-chars [base-64-end] "|"
  base-64 : {s s₁ s₂ d k : List ℕ} → Length d s (124 ∷ s₁) → Whitespaces s₁ s₂ → Base64Chars ρ 124 s₂ d k → SimpleString ρ s d k

-- display = "[" *whitespace simple-string *whitespace "]" *whitespace (S 3.5: a hint)
pub data Display (ρ : Rules) : List ℕ → List ℕ → List ℕ → Type 0 where
  display : {s s₁ s₂ s₃ h k : List ℕ} → Whitespaces s s₁ → SimpleString ρ s₁ h s₂ → Whitespaces s₂ (93 ∷ s₃) → Whitespaces s₃ k → Display ρ (91 ∷ s) h k

mutual
  -- c-sexp = c-string / ("(" *c-sexp ")"), where c-string = [ "[" verbatim "]" ] verbatim
  pub data CSexp : List ℕ → Tree → List ℕ → Type 0 where
    c-string : {s d k : List ℕ} → Verbatim s d k → CSexp s (plain d) k
    c-display-string : {s s₁ h d k : List ℕ} → Verbatim s h (93 ∷ s₁) → Verbatim s₁ d k → CSexp (91 ∷ s) (hinted h d) k
    c-list : {s k : List ℕ} {f : Forest} → CSexps s f k → CSexp (40 ∷ s) (list f) k

  -- *c-sexp ")"
  pub data CSexps : List ℕ → Forest → List ℕ → Type 0 where
    c-closing-parenthesis : {k : List ℕ} → CSexps (41 ∷ k) nil k
    c-sexp : {s r k : List ℕ} {t : Tree} {f : Forest} → CSexp s t r → CSexps r f k → CSexps s (cons t f) k

-- forms 3 and 4: whether braces may stand where a value may is β
mutual
  -- value = string / ("(" *(value / whitespace) ")"), where string = [display] simple-string
  pub data Value (ρ : Rules) (β : Bool) : List ℕ → Tree → List ℕ → Type 0 where
    string : {s d k : List ℕ} → SimpleString ρ s d k → Value ρ β s (plain d) k
    display-string : {s s₁ h d k : List ℕ} → Display ρ s h s₁ → SimpleString ρ s₁ d k → Value ρ β s (hinted h d) k
    -- S 3.3, form 4: "{", base-64, "}" where the octets decoded are form 1; their tree is the value
    braced-value : {s s₁ d k : List ℕ} {t : Tree} → β ≡ true → Whitespaces s s₁ → Base64Chars ρ 125 s₁ d k → CSexp d t [] → Value ρ β (123 ∷ s) t k
    list-value : {s k : List ℕ} {f : Forest} → Values ρ β s f k → Value ρ β (40 ∷ s) (list f) k

  -- *(value / whitespace) ")"
  pub data Values (ρ : Rules) (β : Bool) : List ℕ → Forest → List ℕ → Type 0 where
    closing-parenthesis : {k : List ℕ} → Values ρ β (41 ∷ k) nil k
    a-whitespace : {b : ℕ} {s k : List ℕ} {f : Forest} → is_whitespace b ≡ true → Values ρ β s f k → Values ρ β (b ∷ s) f k
    value : {s r k : List ℕ} {t : Tree} {f : Forest} → Value ρ β s t r → Values ρ β r f k → Values ρ β s (cons t f) k

-- ---- the forms: nothing is left after them

-- S 3.1: exactly one tree's canonical form
pub data Canonical : List ℕ → Tree → Type 0 where
  canonical : {s : List ℕ} {t : Tree} → CSexp s t [] → Canonical s t

-- b-sexp = c-sexp / b-base-64; b-base-64 = "{" *whitespace *base-64-chars base-64-end "}", "encodes a c-sexp".
-- S 3.2: letters stand inside, so that at least one octet is decoded; S 3.10: braces follow the rule of bars.
pub data Basic (ρ : Rules) : List ℕ → Tree → Type 0 where
  b-c-sexp : {s : List ℕ} {t : Tree} → CSexp s t [] → Basic ρ s t
  b-base-64 : {s s₁ d : List ℕ} {t : Tree} → Whitespaces s s₁ → Base64Chars ρ 125 s₁ d [] → 0 < length d → CSexp d t [] → Basic ρ (123 ∷ s) t

-- sexp = *whitespace value *whitespace
pub data Advanced (ρ : Rules) (β : Bool) : List ℕ → Tree → Type 0 where
  sexp : {s s₁ s₂ : List ℕ} {t : Tree} → Whitespaces s s₁ → Value ρ β s₁ t s₂ → Whitespaces s₂ [] → Advanced ρ β s t

pub data Language (ρ : Rules) : ℕ → List ℕ → Tree → Type 0 where
  form-1 : {s : List ℕ} {t : Tree} → Canonical s t → Language ρ 1 s t
  form-2 : {s : List ℕ} {t : Tree} → Basic ρ s t → Language ρ 2 s t
  form-3 : {s : List ℕ} {t : Tree} → Advanced ρ false s t → Language ρ 3 s t
  -- S 3.3: form 3, and braces where a value may stand
  form-4 : {s : List ℕ} {t : Tree} → Advanced ρ true s t → Language ρ 4 s t
