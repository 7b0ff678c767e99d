-- How many octets of a text begin a string, where the text does not begin with a whole one: what the place of S 7.3 needs of a length. Its
-- digits are looked at to their end, however many there are; their value doesn't matter.
use Rattle.std.specs.Prelude.{ℕ, ◌+◌, List, [], ◌∷◌, length, eqb}
use Rattle.base.specs.Choice.{pick}
use Rattle.model.specs.Octets.{is_digit}

-- after a digit that is not 0: digits, and what follows a colon, which is less than the digits say
unfoldable pub digits_on : List ℕ → ℕ
digits_on [] = 0
digits_on (b ∷ s) = pick (eqb b 58) (1 + length s) (pick (is_digit b) (1 + digits_on s) 0)

-- verbatim; 0 stands alone
unfoldable pub begun : List ℕ → ℕ
begun [] = 0
begun (b ∷ s) = pick (is_digit b) (1 + pick (eqb b 48) 0 (digits_on s)) 0

-- after a hint: `]`, verbatim
unfoldable pub begun_after : List ℕ → ℕ
begun_after [] = 0
begun_after (b ∷ s) = pick (eqb b 93) (1 + begun s) 0
