use Rattle.radix64.proofs.GroupSteps.{stands, stands-not}
use Rattle.radix64.proofs.steps.last_two.Goals as goal

pub returns-then-leftover : goal.returns-then-leftover
returns-then-leftover c = search stands

pub returns : goal.returns
returns c = search stands-not
