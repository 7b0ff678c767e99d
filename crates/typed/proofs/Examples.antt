-- Worked examples, computed from the definitions: that of S 16.6, and each kind's edges.
use Prim.Native.Nat.{ℕ}
use mathlib.Core.Path.{◌≡◌, refl}
use mathlib.Core.Bool.{true, false}
use mathlib.Core.List.{List, [], ◌∷◌, map}
use lib.IntN.{pos, negsuc}
use lib.Ieee.{fin, of_bits}
use Rattle.typed.specs.Typed.{single_of, double_of, whole_of, kind_of, float_of, finite}
use Rattle.typed.specs.Octets.{signed, shortest, be, octs}
use Rattle.typed.specs.Coding.{more_up_to, more, whole_octets}
use Rattle.typed.specs.Quarters.{units, count_of, doublings, bits_by, quarter_bits}
use Rattle.typed.specs.declared.Value.TheVariants.{Single, Double, Whole}
use Rattle.typed.specs.Typed.{Typing}
use Rattle.std.specs.Prelude.{Some, None}
use Rattle.base.specs.Choice.{equal}

-- octets, and the whole number that they are
abbrev wholes : List (List ℕ × Typing)
wholes =
    ([], Some (Whole (pos 0)))
    ∷ (0 ∷ [], None)
    ∷ (127 ∷ [], Some (Whole (pos 127)))
    ∷ (0 ∷ 127 ∷ [], None)
    ∷ (0 ∷ 128 ∷ [], Some (Whole (pos 128)))
    ∷ (255 ∷ [], Some (Whole (negsuc 0)))
    ∷ (255 ∷ 255 ∷ [], None)
    ∷ (0x80 ∷ [], Some (Whole (negsuc 127)))
    ∷ (0xff ∷ 0x80 ∷ [], None)
    ∷ (0xff ∷ 0x7f ∷ [], Some (Whole (negsuc 128)))
    ∷ (0x80 ∷ 0 ∷ 0 ∷ 0 ∷ 0 ∷ 0 ∷ 0 ∷ 0 ∷ [], Some (Whole (negsuc 0x7fff_ffff_ffff_ffff)))
    ∷ (0 ∷ 0x80 ∷ 0 ∷ 0 ∷ 0 ∷ 0 ∷ 0 ∷ 0 ∷ 0 ∷ [], None)
    ∷ []

pub whole-examples : map (λ (p : List ℕ × Typing). whole_of p.0) wholes ≡ map (λ (p : List ℕ × Typing). p.1) wholes
unfolding whole_of signed shortest be
whole-examples = refl

-- the octets of a whole number
pub whole-octets : map whole_octets (pos 0 ∷ pos 127 ∷ pos 128 ∷ negsuc 0 ∷ negsuc 127 ∷ negsuc 128 ∷ pos 32768 ∷ []) ≡ [] ∷ (127 ∷ []) ∷ (0 ∷ 128 ∷ []) ∷ (255 ∷ []) ∷ (128 ∷ []) ∷ (0xff ∷ 0x7f ∷ []) ∷ (0 ∷ 128 ∷ 0 ∷ []) ∷ []
unfolding whole_octets octs more more_up_to
whole-octets = refl

abbrev doubles : List (List ℕ × Typing)
doubles =
    (0x3f ∷ 0xf8 ∷ 0 ∷ 0 ∷ 0 ∷ 0 ∷ 0 ∷ 0 ∷ [], Some (Double (fin false 3 (negsuc 0))))
    ∷ (0x80 ∷ 0 ∷ 0 ∷ 0 ∷ 0 ∷ 0 ∷ 0 ∷ 0 ∷ [], Some (Double (fin true 0 (pos 0))))
    ∷ (0x7f ∷ 0xf0 ∷ 0 ∷ 0 ∷ 0 ∷ 0 ∷ 0 ∷ 0 ∷ [], None)
    ∷ (0xff ∷ 0xf0 ∷ 0 ∷ 0 ∷ 0 ∷ 0 ∷ 0 ∷ 0 ∷ [], None)
    ∷ (0x7f ∷ 0xf0 ∷ 0 ∷ 0 ∷ 0 ∷ 0 ∷ 0 ∷ 1 ∷ [], None)
    ∷ (0x3f ∷ 0xf8 ∷ 0 ∷ 0 ∷ 0 ∷ 0 ∷ 0 ∷ [], None)
    ∷ []

pub double-examples : map (λ (p : List ℕ × Typing). double_of p.0) doubles ≡ map (λ (p : List ℕ × Typing). p.1) doubles
unfolding float_of finite of_bits be
double-examples = refl

pub single-examples : map single_of ((0x7f ∷ 0xc0 ∷ 0 ∷ 0 ∷ []) ∷ (0x3f ∷ 0xc0 ∷ 0 ∷ []) ∷ (0x3f ∷ 0xc0 ∷ 0 ∷ 0 ∷ []) ∷ []) ≡ None ∷ None ∷ Some (Single (fin false 3 (negsuc 0))) ∷ []
unfolding float_of finite of_bits be
single-examples = refl

-- hints: `f32`, `f64`, `int`, and some that nearly match
pub hint-examples : map kind_of ((102 ∷ 51 ∷ 50 ∷ []) ∷ (102 ∷ 54 ∷ 52 ∷ []) ∷ (105 ∷ 110 ∷ 116 ∷ []) ∷ [] ∷ (70 ∷ 51 ∷ 50 ∷ []) ∷ (102 ∷ 54 ∷ []) ∷ (105 ∷ 110 ∷ 116 ∷ 0 ∷ []) ∷ []) ≡ 1 ∷ 2 ∷ 3 ∷ 0 ∷ 0 ∷ 0 ∷ 0 ∷ []
unfolding kind_of equal
hint-examples = refl

-- 0, minus 0, a quarter, 24, 24.25 and 0.1 hours, the smallest double, the largest, infinity
pub count-examples : map count_of (0 ∷ 0x8000_0000_0000_0000 ∷ 0x3fd0_0000_0000_0000 ∷ 0x4038_0000_0000_0000 ∷ 0x4038_4000_0000_0000 ∷ 0x3fb9_9999_9999_999a ∷ 1 ∷ 0x7fef_ffff_ffff_ffff ∷ 0x7ff0_0000_0000_0000 ∷ [])
    ≡ Some 0 ∷ None ∷ Some 1 ∷ Some 96 ∷ None ∷ None ∷ None ∷ None ∷ None ∷ []
unfolding count_of units
count-examples = refl

-- the doubles of 0, 1, 4, 96 and 288 quarters: 0, 0.25, 1, 24, 72
pub quarter-examples : map quarter_bits (0 ∷ 1 ∷ 4 ∷ 96 ∷ 288 ∷ []) ≡ 0 ∷ 0x3fd0_0000_0000_0000 ∷ 0x3ff0_0000_0000_0000 ∷ 0x4038_0000_0000_0000 ∷ 0x4052_0000_0000_0000 ∷ []
unfolding quarter_bits bits_by doublings
quarter-examples = refl
