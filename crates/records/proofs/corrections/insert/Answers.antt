use Rattle.plan.specs.Asked.{changing}
use Rattle.records.proofs.corrections.insert.Goals as goal

pub returns : goal.returns
unfolding changing
returns c = rw c.insert_at-asked.ensures at c.change.ensures
