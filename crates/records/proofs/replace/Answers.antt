use Rattle.plan.specs.Asked.{changing}
use Rattle.records.proofs.replace.Goals as goal

pub returns : goal.returns
unfolding changing
returns c = rw c.replace_node-asked.ensures at c.change.ensures
