use Rattle.values.proofs.Putting.{width-is}
use Rattle.values.proofs.integers.width.Goals as goal

pub returns : goal.returns
returns c = width-is c.args.m _ c.requires c.div_ceil.ensures
