-- What a class number says of its octet. The numbers are in an order in which each test of the grammar is one comparison,
-- so that one look-up per octet serves all of them.
use Rattle.std.specs.Prelude.{ℕ, ◌<◌, ◌≡◌, List, get_or, leb, ltb, eqb}
use Rattle.base.specs.Choice.{among}
use Rattle.model.specs.Octets.{is_whitespace, is_digit, is_token_start, is_token_octet, is_printable, hexval, letter}

-- c is the class number of the octet b: 0 any other octet, 1 quotation mark, 2 backslash, 3 whitespace that is no space, 4 space,
-- 5 any other printable octet, 6 ( 7 ) 8 [ 9 ] 10 # 11 | 12 { 13 }, 14 one of - . _ : * =, 15 + or /,
-- 16 a letter past F, 17 a letter up to F, 18 a digit
pub record Class (b c : ℕ) : Type 0 where
  pub whitespace : is_whitespace b ≡ among 3 4 c
  pub printable : is_printable b ≡ leb 4 c
  pub token_start : is_token_start b ≡ among 14 17 c
  pub token_octet : is_token_octet b ≡ leb 14 c
  pub letter : ltb (letter b) 64 ≡ leb 15 c
  pub hexdig : ltb (hexval b) 16 ≡ leb 17 c
  pub digit : is_digit b ≡ leb 18 c
  pub quote : eqb b 34 ≡ eqb c 1
  pub backslash : eqb b 92 ≡ eqb c 2
  pub opening : eqb b 40 ≡ eqb c 6
  pub closing : eqb b 41 ≡ eqb c 7
  pub hint_opening : eqb b 91 ≡ eqb c 8
  pub hint_closing : eqb b 93 ≡ eqb c 9
  pub hash : eqb b 35 ≡ eqb c 10
  pub bar : eqb b 124 ≡ eqb c 11
  pub brace_opening : eqb b 123 ≡ eqb c 12
  pub brace_closing : eqb b 125 ≡ eqb c 13

-- S 3.16: one list sorts all 256 octets into classes, and agrees with the grammar at each octet
pub record Classed (table : List ℕ) : Type 0 where
  pub at : (b : ℕ) → b < 256 → Class b (get_or table b 0)

-- the value of each base-64 letter
pub record Lettered (table : List ℕ) : Type 0 where
  pub at : (b : ℕ) → b < 256 → get_or table b 0 ≡ letter b
