use Rattle.values.proofs.Signs.{apart_below, below-cast, below-is, apart_above}
use Rattle.values.proofs.integers.apart.Goals as goal

pub overflow_sub-result : goal.overflow_sub-result
overflow_sub-result c = (apart_below _ c.ranges.x c.if-x-lt0.true).fits

pub overflow_cast-result : goal.overflow_cast-result
overflow_cast-result c = below-cast _ (apart_below _ c.ranges.x c.if-x-lt0.true)

pub returns-then-x-lt0 : goal.returns-then-x-lt0
returns-then-x-lt0 c = below-is _ _ (apart_below _ c.ranges.x c.if-x-lt0.true) (apart_below _ c.ranges.x c.if-x-lt0.true).turns

pub overflow_cast-result-2 : goal.overflow_cast-result-2
overflow_cast-result-2 c = (apart_above _ c.ranges.x c.if-x-lt0.false).0

pub returns : goal.returns
returns c = (apart_above _ c.ranges.x c.if-x-lt0.false).1
