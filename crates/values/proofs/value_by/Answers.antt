use Rattle.values.proofs.ByKind.{kind-raw, kind-single, kind-double, kind-whole}
use Rattle.values.proofs.value_by.Goals as goal

pub returns-in-Single : goal.returns-in-Single
returns-in-Single c = search kind-single

pub returns-in-Double : goal.returns-in-Double
returns-in-Double c = search kind-double

pub returns-in-Whole : goal.returns-in-Whole
returns-in-Whole c = search kind-whole

pub returns-in-Raw : goal.returns-in-Raw
returns-in-Raw c = search kind-raw
