-- Whitespace, octets by their class, and token octets at a place of a source.
use Rattle.std.specs.Prelude.{ℕ, ◌-◌, ◌≤◌, ◌<◌, ◌≡◌, List, length, take, drop, get_or}
use Rattle.model.specs.Strings.{got, skip, run}
use Rattle.octets.specs.Classes.{Class}

-- whitespace from `at` to `next`, and none there
pub record Skipped (src : List ℕ) (at next : ℕ) : Type 0 where
  pub from : at ≤ next
  pub within : next ≤ length src
  pub reads : skip (drop at src) ≡ drop next src

-- token octets from `at` to `end`, and none there
pub record Ran (src : List ℕ) (at end : ℕ) : Type 0 where
  pub from : at ≤ end
  pub within : end ≤ length src
  pub reads : run (drop at src) ≡ got (take (end - at) (drop at src)) (drop end src)

-- the octet b has the class `low` or one above it; or one below it
pub record AtLeast (low b : ℕ) : Type 0 where
  pub class : ℕ
  pub is : Class b class
  pub over : low ≤ class

pub record Under (low b : ℕ) : Type 0 where
  pub class : ℕ
  pub is : Class b class
  pub under : class < low

-- octets of the class `low` and above from `at` to r, and none there, unless r is the end
pub record Reach (src : List ℕ) (at end low r : ℕ) : Type 0 where
  pub from : at ≤ r
  pub within : r ≤ end
  pub all : (k : ℕ) → at ≤ k → k < r → AtLeast low (get_or src k 0)
  pub stop : r < end → Under low (get_or src r 0)
