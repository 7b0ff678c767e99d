-- What the octets of a string stand for, by its hint (S 10.1).
use Rattle.std.specs.Prelude.{ℕ, ◌*◌, ◌%◌, Bool, ◌&&◌, List, [], ◌∷◌, leb, ltb, eqb, length, Float, Option, Some, None}
use Rattle.std.proofs.Math.Seq.{slice}
use Rattle.std.specs.Float.{Format, binary32, binary64}
use Rattle.std.specs.Float.Ieee.{of_bits, top, ones, hid}
use Rattle.base.specs.Choice.{pick, equal}
use Rattle.typed.specs.Octets.{be, signed, shortest}
use Rattle.typed.specs.declared.Value.{Value}
use Rattle.typed.specs.declared.Value.TheVariants.{Single, Double, Whole, Raw}

-- the value that octets are, if they are one
abbrev pub Typing : Type 0
Typing = Option Value

-- a bit pattern is neither NaN nor an infinity: its exponent's field is not all ones
unfoldable pub finite : Format → ℕ → Bool
finite f b = ltb (b % top f) (ones f * hid f)

-- a float of the format f, in k octets; S 10.2: neither of a wrong length nor NaN nor an infinity
unfoldable pub float_of : Format → ℕ → (Float → Value) → List ℕ → Typing
float_of f k made o = pick (eqb (length o) k && finite f (be 0 o)) (Some (made (of_bits f (be 0 o)))) None

-- S 10.1: `f32` has four octets and `f64` eight, big-endian
abbrev pub single_of : List ℕ → Typing
single_of = float_of binary32 4 Single

abbrev pub double_of : List ℕ → Typing
double_of = float_of binary64 8 Double

-- S 10.1: `int` is the shortest two's complement, of at most eight octets
unfoldable pub whole_of : List ℕ → Typing
whole_of o = pick (leb (length o) 8 && shortest o) (Some (Whole (signed o))) None

-- S 10.1, the kind that a hint tells, as exact octets: 1 `f32`, 2 `f64`, 3 `int`; any other hint, or none, is raw: 0
unfoldable pub kind_of : List ℕ → ℕ
kind_of h =
    pick (equal h (102 ∷ 51 ∷ 50 ∷ [])) 1
    (pick (equal h (102 ∷ 54 ∷ 52 ∷ [])) 2 (pick (equal h (105 ∷ 110 ∷ 116 ∷ [])) 3 0))

-- the value of the octets of src from s up to e, by their kind; a raw one is told by its place
unfoldable pub value_at : ℕ → List ℕ → ℕ → ℕ → Typing
value_at k src s e =
    pick (eqb k 1) (single_of (slice s e src))
    (pick (eqb k 2) (double_of (slice s e src)) (pick (eqb k 3) (whole_of (slice s e src)) (Some (Raw s e))))
