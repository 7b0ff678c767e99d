-- Pairs of hexadecimal digits at a place of a source.
use Rattle.std.specs.Prelude.{ℕ, ◌+◌, ◌*◌, ◌<◌, ◌≡◌, List, [], ◌∷◌, length, drop, Option, Some, None}
use Rattle.model.specs.Octets.{hexval}
use Rattle.model.specs.Grammar.{rules}
use Rattle.model.specs.Strings.{refused, marked}
use Rattle.scan.specs.Marks.{Stretch, Chunk, Last}
use Rattle.hexadecimal.specs.declared.Pair.{Pair}
use Rattle.hexadecimal.specs.declared.Pair.TheVariants.{Two, Hash}

-- the next octet, the closing mark, or neither
unfoldable pub Pairs : List ℕ → ℕ → Option Pair → Type 0
Pairs src at (Some (Two o next)) = Chunk (marked rules 35) src at (o ∷ []) next
Pairs src at (Some (Hash next)) = Last (marked rules 35) src at [] next
Pairs src at None = marked rules 35 (drop at src) ≡ refused

-- r is the value of the digit b
pub record Digit (b r : ℕ) : Type 0 where
  pub is : r ≡ hexval b
  pub low : r < 16

-- pairs side by side from `at` to `next`
pub record Paired (src : List ℕ) (at next : ℕ) : Type 0 where
  pub octets : List ℕ
  pub long : at + 2 * length octets ≡ next
  pub stretch : Stretch (marked rules 35) src at octets next
