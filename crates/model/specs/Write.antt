-- What goes out (S 5).
use Rattle.std.specs.Prelude.{ℕ, ◌+◌, ◌*◌, ◌-◌, ◌/◌, ◌%◌, Bool, false, List, [], ◌∷◌, ◌++◌, ltb, eqb}
use Rattle.base.specs.Choice.{pick, among, every}
use Rattle.model.specs.Octets.{is_token_start, is_token_octet}
use Rattle.model.specs.Tree.{Tree, plain, hinted, list, Forest, nil, cons, canon}

-- ---- form 3

-- the octets make a token
unfoldable pub is_token : List ℕ → Bool
is_token [] = false
is_token (b ∷ s) = pick (is_token_start b) (every is_token_octet s) false

-- S 5.2: the quotation mark and the backslash by a backslash
unfoldable pub quote_one : ℕ → List ℕ
quote_one b = pick (eqb b 34) (92 ∷ 34 ∷ []) (pick (eqb b 92) (92 ∷ 92 ∷ []) (b ∷ []))

unfoldable pub quote_all : List ℕ → List ℕ
quote_all [] = []
quote_all (b ∷ d) = quote_one b ++ quote_all d

-- S 5.2: hexadecimal in lower case
unfoldable pub hex_digit : ℕ → ℕ
hex_digit n = pick (ltb n 10) (48 + n) (87 + n)

unfoldable pub hex_all : List ℕ → List ℕ
hex_all [] = []
hex_all (b ∷ d) = hex_digit (b / 16) ∷ hex_digit (b % 16) ∷ hex_all d

-- S 5.2: a token if the octets can be one, else quoted if all are 32 to 126, else hexadecimal
unfoldable pub shown : List ℕ → List ℕ
shown d = pick (is_token d) d (pick (every (among 32 126) d) (34 ∷ quote_all d ++ 34 ∷ []) (35 ∷ hex_all d ++ 35 ∷ []))

-- S 5.2: one space between elements, none inside a parenthesis's edge, and a hint directly before its string
unfoldable mutual
  pub advanced : Tree → List ℕ
  advanced (plain d) = shown d
  advanced (hinted h d) = 91 ∷ shown h ++ 93 ∷ shown d
  advanced (list f) = 40 ∷ elements f ++ 41 ∷ []

  pub elements : Forest → List ℕ
  elements nil = []
  elements (cons t f) = advanced t ++ following f

  pub following : Forest → List ℕ
  following nil = []
  following (cons t f) = 32 ∷ advanced t ++ following f

-- ---- form 2 (S 5.1): padded base-64 without whitespace, in braces

-- RFC 4648's alphabet; 52 to 61 are the digits
unfoldable pub letter_of : ℕ → ℕ
letter_of n = pick (ltb n 26) (65 + n) (pick (ltb n 52) (71 + n) (pick (ltb n 62) (n - 4) (pick (eqb n 62) 43 47)))

unfoldable pub base_all : List ℕ → List ℕ
base_all [] = []
base_all (a ∷ []) = letter_of (a / 4) ∷ letter_of (a % 4 * 16) ∷ 61 ∷ 61 ∷ []
base_all (a ∷ b ∷ []) = letter_of (a / 4) ∷ letter_of (a % 4 * 16 + b / 16) ∷ letter_of (b % 16 * 4) ∷ 61 ∷ []
base_all (a ∷ b ∷ c ∷ s) = letter_of (a / 4) ∷ letter_of (a % 4 * 16 + b / 16) ∷ letter_of (b % 16 * 4 + c / 64) ∷ letter_of (c % 64) ∷ base_all s

unfoldable pub basic : Tree → List ℕ
basic t = 123 ∷ base_all (canon t) ++ 125 ∷ []

-- a tree in the form named; S 5.1: form 1 is the sheet
unfoldable pub encode : ℕ → Tree → List ℕ
encode form t = pick (eqb form 1) (canon t) (pick (eqb form 2) (basic t) (pick (eqb form 3) (advanced t) []))
