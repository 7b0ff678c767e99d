use Rattle.plan.specs.Asked.{changing}
use Rattle.records.proofs.corrections.remove.Goals as goal

pub returns : goal.returns
unfolding changing
returns c = rw c.remove_node-asked.ensures at c.change.ensures
