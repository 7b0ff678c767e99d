-- Numbers as octets, the highest first (S 10.1).
use Rattle.std.specs.Prelude.{ℕ, zero, suc, ◌+◌, ◌-◌, ◌*◌, ◌/◌, ◌%◌, ◌^◌, Bool, true, false, not, ◌&&◌, List, [], ◌∷◌, leb, ltb, eqb, length, ℤ, pos}
use Rattle.std.specs.Float.Ieee.{minus}
use Rattle.base.specs.Choice.{pick}

-- the number that the digits l to the base 256 go on to, after a
unfoldable pub be : ℕ → List ℕ → ℕ
be a [] = a
be a (b ∷ l) = be (a * 256 + b) l

-- k digits of n to the base 256 before l, the highest first
unfoldable pub octs : ℕ → ℕ → List ℕ → List ℕ
octs zero n l = l
octs (suc k) n l = octs k (n / 256) (n % 256 ∷ l)

-- a digit, or with every bit turned over
abbrev pub turned : Bool → ℕ → ℕ
turned true b = 255 - b
turned false b = b

-- whether every number of a list is an octet
unfoldable pub octets : List ℕ → Bool
octets [] = true
octets (b ∷ l) = ltb b 256 && octets l

-- S 10.1, two's complement: where the highest bit is set, 256 ^ n less; zero is no octets
unfoldable pub signed : List ℕ → ℤ
signed [] = pos 0
signed (b ∷ l) = pick (ltb b 128) (pos (be 0 (b ∷ l))) (minus (be 0 (b ∷ l)) (256 ^ length (b ∷ l)))

-- S 10.1, the shortest: no octet at the front only repeats the sign of the next, and none is a lone zero
unfoldable pub shortest : List ℕ → Bool
shortest [] = true
shortest (b ∷ []) = not (eqb b 0)
shortest (b ∷ c ∷ l) = not (eqb b 0 && ltb c 128) && not (eqb b 255 && leb 128 c)
