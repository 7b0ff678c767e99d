-- The octets of a value, and what writing them answers (S 10.2).
use Rattle.std.specs.Prelude.{ℕ, zero, suc, ◌/◌, Bool, true, false, List, [], ◌∷◌, map, leb, ltb, length, ℤ, pos, negsuc, Float}
use Rattle.std.proofs.Math.Option.{Option, none, some}
use Rattle.std.proofs.Math.Seq.{slice}
use Rattle.std.specs.Float.{Format, binary32, binary64}
use Rattle.std.specs.Float.Ieee.{to_bits}
use Rattle.base.specs.Choice.{pick, both, is_none}
use Rattle.model.specs.Limits.{no_refusal, refusal_size, refusal_not_own}
use Rattle.model.specs.Answers.{Check, when, judged, settled, Output, unwritten}
use Rattle.typed.specs.Octets.{octs, turned}
use Rattle.typed.specs.Typed.{finite}
use Rattle.typed.specs.declared.Value.{Value}
use Rattle.typed.specs.declared.Value.TheVariants.{Single, Double, Whole, Raw}

-- S 10.2: no value
abbrev pub refusal_not_typed : ℕ
refusal_not_typed = 11

-- S 10.3: no line
abbrev pub refusal_not_line : ℕ
refusal_not_line = 12

-- how many octets a magnitude takes beside the first, of which one bit is the sign's; f bounds it
unfoldable pub more_up_to : ℕ → ℕ → ℕ
more_up_to zero m = 0
more_up_to (suc f) m = pick (ltb m 128) 0 (suc (more_up_to f (m / 256)))

unfoldable pub more : ℕ → ℕ
more m = more_up_to 7 m

-- S 10.1: zero has no octets; a negative number is one less than minus m: the digits of m, turned over
unfoldable pub whole_octets : ℤ → List ℕ
whole_octets (pos zero) = []
whole_octets (pos (suc n)) = map (turned false) (octs (suc (more (suc n))) (suc n) [])
whole_octets (negsuc m) = map (turned true) (octs (suc (more m)) m [])

unfoldable pub float_octets : Format → ℕ → Float → Option (List ℕ)
float_octets f k x = pick (finite f (to_bits f x)) (some (octs k (to_bits f x) [])) none

-- S 10.2: a raw one is copied from its place, a part of what is lent; it starts and ends within it
unfoldable pub raw_octets : List ℕ → ℕ → ℕ → Option (List ℕ)
raw_octets src s e = pick (both (leb s e) (leb e (length src))) (some (slice s e src)) none

-- the octets of a value, a raw one's from src
unfoldable pub coding : List ℕ → Value → Option (List ℕ)
coding src (Single x) = float_octets binary32 4 x
coding src (Double x) = float_octets binary64 8 x
coding src (Whole x) = some (whole_octets x)
coding src (Raw s e) = raw_octets src s e

abbrev pub is_raw : Value → Bool
is_raw (Single x) = false
is_raw (Double x) = false
is_raw (Whole x) = false
is_raw (Raw s e) = true

-- the octets, where there are any
unfoldable pub the_octets : Option (List ℕ) → List ℕ
the_octets none = []
the_octets (some o) = o

-- S 10.2: 7, 11, 6
unfoldable pub putting_checks : Value → List ℕ → List ℕ → List Check
putting_checks v src out =
    when refusal_not_own (both (is_raw v) (is_none (coding src v)))
    ∷ when refusal_not_typed (is_none (coding src v))
    ∷ when refusal_size (ltb (length out) (length (the_octets (coding src v))))
    ∷ []

-- S 10.2: the octets of the value, and their number; output past them stays, as in S 8.2
unfoldable pub putting : Value → List ℕ → List ℕ → Output
putting v src out =
    judged (putting_checks v src out)
    (record { accepted = true; number = no_refusal; place = 0; octets = length (the_octets (coding src v)); out = settled out 0 (the_octets (coding src v)) })
    (λ n. unwritten n out)
