-- The automaton with numbers that stop one past the longest text, and what a state of it says of the text so far.
use Rattle.std.specs.Prelude.{ℕ, ◌+◌, min, Bool}
use Rattle.base.specs.Choice.{pick, both}
use Rattle.model.specs.Automaton.{State, rests}
use Rattle.model.specs.Count.{shut}
use Rattle.model.specs.Limits.{max_source}
use Rattle.walk.specs.Extent.{Measured}
use Rattle.walk.specs.Extent.{Whole, Refused}

abbrev pub cap : ℕ
cap = max_source + 1

unfoldable pub capped : ℕ → ℕ
capped n = min n cap

-- the octets so far are one canonical form
abbrev pub whole : State → Bool
whole x = both (rests x.phase) (shut x.tally)

-- octets, nodes and depth of the tree that is whole, else how many octets begin one
unfoldable pub extent : State → Measured
extent x = pick (whole x) (Whole x.taken x.tally.seen x.tally.deepest) (Refused x.taken)
