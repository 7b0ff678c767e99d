-- Runs of groups of four letters side by side.
use Rattle.std.specs.Prelude.{ℕ, ◌+◌, ◌*◌, ◌≤◌, ◌≡◌, List, [], length}
use Rattle.model.specs.Grammar.{rules}
use Rattle.model.specs.Strings.{unbase}
use Rattle.model.proofs.Streams.{between}
use Rattle.scan.specs.Marks.{Stretch}
use Rattle.radix64.specs.Steps.{Closing}

-- groups side by side from `at` to `next`, whichever mark follows
pub record Grouped (src : List ℕ) (at next : ℕ) : Type 0 where
  pub octets : List ℕ
  pub groups : ℕ
  pub long : at + 4 * groups ≡ next
  pub size : length octets ≡ 3 * groups
  pub within : next ≤ length src
  pub stretch : (mark : ℕ) → Closing mark → Stretch (between mark (unbase rules) []) src at octets next
