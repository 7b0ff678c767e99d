-- A number at a place of a source, and how many digits a number has.
use Rattle.std.specs.Prelude.{ℕ, ◌≤◌, ◌<◌, ◌≡◌, List, length, drop, Option, Some, None}
use Rattle.model.specs.Strings.{Read, got}
use Rattle.model.specs.Tree.{digits}
use Rattle.decimal.specs.declared.Number.{Number}

-- ten times this is past the length of any slice, which is below 2 ^ 63, and a digit more still fits in 64 bits
abbrev pub large : ℕ
large = 1000000000000000000

-- the reading y gives a value, which ends at `next`
pub record Valued (src : List ℕ) (y : Read ℕ) (at value next : ℕ) : Type 0 where
  pub from : at ≤ next
  pub within : next ≤ length src
  pub small : value ≤ length src
  pub reads : y ≡ got value (drop next src)

-- the reading y gives a value that is larger than the source is long
pub record Huge (src : List ℕ) (y : Read ℕ) : Type 0 where
  pub value : ℕ
  pub rest : List ℕ
  pub large : length src < value
  pub reads : y ≡ got value rest
  pub short : length rest ≤ length src

unfoldable pub Numbered : List ℕ → Read ℕ → ℕ → Option Number → Type 0
Numbered src y at (Some n) = Valued src y at n.value n.next
Numbered src y at None = Huge src y

-- n has r digits, at most 5
pub record Wide (n r : ℕ) : Type 0 where
  pub is : r ≡ length (digits n)
  pub few : r ≤ 5
