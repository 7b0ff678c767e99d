-- Groups of base-64.
use Rattle.std.specs.Prelude.{ℕ, ◌+◌, ◌*◌, ◌/◌, ◌%◌, ◌<◌, ◌≡◌, List, [], ◌∷◌, get_or}
use Rattle.model.specs.Write.{letter_of}

-- the letter of each value
pub record Alphabet (table : List ℕ) : Type 0 where
  pub at : (v : ℕ) → v < 64 → get_or table v 0 ≡ letter_of v

-- the four letters of three octets
abbrev pub letters_of : ℕ → ℕ → ℕ → List ℕ
letters_of a b c = letter_of (a / 4) ∷ letter_of (a % 4 * 16 + b / 16) ∷ letter_of (b % 16 * 4 + c / 64) ∷ letter_of (c % 64) ∷ []
