-- What an octet is to the grammar: RFC 9804's ranges, with the values of digits, letters and escapes (S 3.4 to 3.10).
use Rattle.std.specs.Prelude.{ℕ, ◌+◌, ◌-◌, Bool, List, [], ◌∷◌, eqb}
use Rattle.base.specs.Choice.{pick, either, among, member}

-- whitespace = SP / HTAB / vtab / CR / LF / ff; S 3.4
unfoldable pub is_whitespace : ℕ → Bool
is_whitespace b = member (32 ∷ 9 ∷ 10 ∷ 11 ∷ 12 ∷ 13 ∷ []) b

-- DIGIT
abbrev pub is_digit : ℕ → Bool
is_digit b = among 48 57 b

-- ALPHA
unfoldable pub is_alpha : ℕ → Bool
is_alpha b = either (among 65 90 b) (among 97 122 b)

-- simple-punc = "-" / "." / "/" / "_" / ":" / "*" / "+" / "="
unfoldable pub is_simple_punc : ℕ → Bool
is_simple_punc b = member (45 ∷ 46 ∷ 47 ∷ 95 ∷ 58 ∷ 42 ∷ 43 ∷ 61 ∷ []) b

-- S 3.7: what a token begins with, and what it goes on with
unfoldable pub is_token_start : ℕ → Bool
is_token_start b = either (is_alpha b) (is_simple_punc b)

unfoldable pub is_token_octet : ℕ → Bool
is_token_octet b = either (is_token_start b) (is_digit b)

-- printable = %x20-21 / %x23-5B / %x5D-7E; S 3.8: 32 to 126 but for the quotation mark and the backslash
unfoldable pub is_printable : ℕ → Bool
is_printable b = either (among 32 33 b) (either (among 35 91 b) (among 93 126 b))

-- HEXDIG, of either case; 16 is none
unfoldable pub hexval : ℕ → ℕ
hexval b = pick (among 48 57 b) (b - 48) (pick (among 65 70 b) (b - 55) (pick (among 97 102 b) (b - 87) 16))

-- %x30-37; 8 is none
unfoldable pub octval : ℕ → ℕ
octval b = pick (among 48 55 b) (b - 48) 8

-- base-64-char = ALPHA / DIGIT / "+" / "/", with RFC 4648's values; 64 is none
unfoldable pub letter : ℕ → ℕ
letter b =
    pick (among 65 90 b) (b - 65)
    (pick (among 97 122 b) (b - 71)
    (pick (among 48 57 b) (b + 4)
    (pick (eqb b 43) 62 (pick (eqb b 47) 63 64))))

-- S 3.10: of the bits that the last letter has too many, only zeros may stand
unfoldable pub leftover : ℕ → Bool
leftover bits = eqb bits 0

-- what stands after a backslash, and the octet that it means
unfoldable pub find : List (ℕ × ℕ) → ℕ → ℕ → ℕ
find [] e other = other
find (p ∷ ps) e other = pick (eqb e p.0) p.1 (find ps e other)

-- S 3.8: \b \t \v \n \f \r \" \' \\, and \a and \? of request 3
abbrev pub escapes : List (ℕ × ℕ)
escapes = (98, 8) ∷ (116, 9) ∷ (118, 11) ∷ (110, 10) ∷ (102, 12) ∷ (114, 13) ∷ (34, 34) ∷ (39, 39) ∷ (92, 92) ∷ (97, 7) ∷ (63, 63) ∷ []

-- 256 is none
unfoldable pub escape : ℕ → ℕ
escape e = find escapes e 256
