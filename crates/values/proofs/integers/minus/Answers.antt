use Rattle.values.proofs.Signs.{less-fits, less-is}
use Rattle.values.proofs.integers.minus.Goals as goal

pub overflow_sub-result : goal.overflow_sub-result
overflow_sub-result c = less-fits _ c.requires

pub returns : goal.returns
returns c = less-is _ c.requires
