-- Hours in whole quarters, from the bits of a double, over whole numbers (S 10.7).
use Rattle.std.specs.Prelude.{ℕ, zero, suc, ◌+◌, ◌-◌, ◌*◌, ◌/◌, ◌%◌, ◌^◌, ◌&&◌, leb, ltb, eqb, Float, Some, None}
use Rattle.std.proofs.Math.Option.{Option, none, some}
use Rattle.std.specs.Float.{binary64}
use Rattle.std.specs.Float.Ieee.{to_bits, of_bits}
use Rattle.base.specs.Choice.{pick}
use Rattle.typed.specs.declared.Line.{Line}
use Rattle.typed.specs.declared.Total.{Total}

-- the quarters of an hour that a double is, if it is a number of hours of a line
abbrev pub Count : Type 0
Count = Rattle.std.specs.Prelude.Option ℕ

-- the magnitude of the double with the bits b, of which the highest is the sign, 11 the exponent and 52 the digits: in units of the
-- smallest there is, 2 ^ -1074
unfoldable pub units : ℕ → ℕ
units b = pick (eqb (b / 2 ^ 52 % 2 ^ 11) 0) (b % 2 ^ 52) ((2 ^ 52 + b % 2 ^ 52) * 2 ^ (b / 2 ^ 52 % 2 ^ 11 - 1))

-- S 10.3, 0 to 24 in whole quarters: the sign is clear, and the magnitude is at most 96 times 2 ^ -2
unfoldable pub count_of : ℕ → Count
count_of b = pick (ltb b (2 ^ 63) && eqb (units b % 2 ^ 1072) 0 && leb (units b / 2 ^ 1072) 96) (Some (units b / 2 ^ 1072)) None

abbrev pub counted : Float → Count
counted x = count_of (to_bits binary64 x)

abbrev pub plus : Count → Count → Count → Count
plus (Some a) (Some b) (Some c) = Some (a + b + c)
plus (Some a) (Some b) None = None
plus (Some a) None c = None
plus None b c = None

-- S 10.3, the count of a line's quarters: none where it is no line
unfoldable pub quarters_of : Line → Count
quarters_of h = plus (counted h.ordinary) (counted h.night) (counted h.holiday)

-- how often a number is doubled until it has 53 digits to the base 2; f bounds it
unfoldable pub doublings : ℕ → ℕ → ℕ
doublings zero m = 0
doublings (suc f) m = pick (leb (2 ^ 52) m) 0 (suc (doublings f (m * 2)))

-- the bits of the double that is n quarters, 0 < n: n doubled k times fills the digits, of which the highest is not kept, and the
-- exponent's field is 1073 - k
unfoldable pub bits_by : ℕ → ℕ → ℕ
bits_by n k = (1072 - k) * 2 ^ 52 + n * 2 ^ k

unfoldable pub quarter_bits : ℕ → ℕ
quarter_bits zero = 0
quarter_bits (suc n) = bits_by (suc n) (doublings 52 (suc n))

-- S 10.3, the double that is a quarter of the count; that it is exactly that: `quarter-exact` (proofs/Exact)
unfoldable pub hours_of : ℕ → Float
hours_of n = of_bits binary64 (quarter_bits n)

unfoldable pub total_by : ℕ → Total
total_by n = record { quarters = n; hours = hours_of n }

abbrev pub total_for : Count → Option Total
total_for (Some n) = some (total_by n)
total_for None = none

-- S 10.5: a line's total
unfoldable pub total_of : Line → Option Total
total_of h = total_for (quarters_of h)
