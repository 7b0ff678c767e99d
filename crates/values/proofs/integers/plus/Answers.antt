use Rattle.values.proofs.Signs.{to_z-half}
use Rattle.values.proofs.integers.plus.Goals as goal

pub returns : goal.returns
returns c = to_z-half _ c.requires
