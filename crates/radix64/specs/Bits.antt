-- Four letters' values and three octets.
use Rattle.std.specs.Prelude.{ℕ, ◌+◌, ◌*◌, ◌/◌, ◌%◌, ◌<◌, List, [], ◌∷◌, get_or}

-- S 3.10: four letters give three octets
abbrev pub three_octets : ℕ → ℕ → ℕ → ℕ → List ℕ
three_octets a b c e = (a * 4 + b / 16) ∷ (b % 16 * 16 + c / 4) ∷ (c % 4 * 64 + e) ∷ []

abbrev pub three_from : List ℕ → List ℕ
three_from g = three_octets (get_or g 0 0) (get_or g 1 0) (get_or g 2 0) (get_or g 3 0)

-- the four are values of letters
pub record Low (g : List ℕ) : Type 0 where
  pub first : get_or g 0 0 < 64
  pub second : get_or g 1 0 < 64
  pub third : get_or g 2 0 < 64
  pub fourth : get_or g 3 0 < 64
