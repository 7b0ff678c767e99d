-- The value of a string, as a tree (S 10.1).
use Rattle.std.specs.Prelude.{ℕ, ◌≤◌, ◌≡◌, true, List, [], ◌∷◌, length}
use Rattle.std.specs.Float.{binary32, binary64}
use Rattle.std.specs.Float.Ieee.{of_bits}
use Rattle.model.specs.Tree.{Tree, plain, hinted}
use Rattle.typed.specs.Octets.{be, signed, shortest}
use Rattle.typed.specs.Typed.{finite}
use Rattle.typed.specs.declared.Value.{Value}
use Rattle.typed.specs.declared.Value.TheVariants.{Single, Double, Whole, Raw}

-- the three hints
abbrev pub f32 : List ℕ
f32 = 102 ∷ 51 ∷ 50 ∷ []

abbrev pub f64 : List ℕ
f64 = 102 ∷ 54 ∷ 52 ∷ []

abbrev pub int : List ℕ
int = 105 ∷ 110 ∷ 116 ∷ []

-- the value of a string whose data stand from s up to e. A list has none
pub data ValueOf (s e : ℕ) : Tree → Value → Type 0 where
  -- S 10.1: `f32` has four octets and `f64` eight, big-endian; neither NaN nor an infinity (S 10.2)
  single : {d : List ℕ} → length d ≡ 4 → finite binary32 (be 0 d) ≡ true → ValueOf s e (hinted f32 d) (Single (of_bits binary32 (be 0 d)))
  double : {d : List ℕ} → length d ≡ 8 → finite binary64 (be 0 d) ≡ true → ValueOf s e (hinted f64 d) (Double (of_bits binary64 (be 0 d)))
  -- S 10.1: `int` is the shortest two's complement, of at most eight octets
  whole : {d : List ℕ} → length d ≤ 8 → shortest d ≡ true → ValueOf s e (hinted int d) (Whole (signed d))
  -- S 10.1: with any other hint, or none, it is raw
  other : {g d : List ℕ} → (g ≡ f32 → ⊥) → (g ≡ f64 → ⊥) → (g ≡ int → ⊥) → ValueOf s e (hinted g d) (Raw s e)
  bare : {d : List ℕ} → ValueOf s e (plain d) (Raw s e)
