-- What is found at a place of an area: a length, and the sheet of an entry (S 9.1).
use Rattle.std.specs.Prelude.{ℕ, ◌-◌, ◌≤◌, ◌<◌, ◌≡◌, List, length, take, drop, Option, Some, None}
use Rattle.answers.specs.Cases.{Place}
use Rattle.model.specs.Strings.{got, refused}
use Rattle.spools.specs.Groups.{length_of}
use Rattle.spools.specs.Spool.{entry_of}
use Rattle.groups.specs.declared.lengths.Length.{Length}

-- a length at `at`, which ends at `next`
pub record Lengthy (area : List ℕ) (at value next : ℕ) : Type 0 where
  pub reads : length_of (drop at area) ≡ got value (drop next area)
  pub from : at < next
  pub within : next ≤ length area
  pub small : value < 2097152

-- where there is none, there is no entry either
unfoldable pub Lengths : List ℕ → ℕ → Option Length → Type 0
Lengths area at (Some l) = Lengthy area at l.value l.next
Lengths area at None = entry_of (drop at area) ≡ refused

-- the sheet of the entry at `at` stands from `start` to `end`
pub record Sheeted (area : List ℕ) (at start end : ℕ) : Type 0 where
  pub reads : entry_of (drop at area) ≡ got (take (end - start) (drop start area)) (drop end area)
  pub from : at < end
  pub ordered : start ≤ end
  pub within : end ≤ length area

unfoldable pub SheetAt : List ℕ → ℕ → Place → Type 0
SheetAt area at (Some part) = Sheeted area at part.start part.end
SheetAt area at None = entry_of (drop at area) ≡ refused
