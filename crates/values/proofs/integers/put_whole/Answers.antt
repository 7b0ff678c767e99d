use Rattle.values.proofs.Laying.{whole-none, whole-full, whole-done}
use Rattle.values.proofs.Signs.{zero_is, nonzero, as_passed}
use Rattle.values.proofs.integers.put_whole.Goals as goal

pub returns-then-x-eq0 : goal.returns-then-x-eq0
returns-then-x-eq0 c = whole-none c.args.x c.args.out.now (zero_is _ c.ranges.x c.if-x-eq0.true)

pub returns-then-out-k : goal.returns-then-out-k
returns-then-out-k c = let x = as_passed c.args.x _ c.ranges.x c.apart-p.ensures.0 in whole-full c.args.x c.apart-p.result.turn c.apart-p.result.size c.width-k.result x (nonzero c.args.x _ _ x c.if-x-eq0.false) c.width-k.ensures.0 c.args.out.now c.if-out-k.true

pub returns : goal.returns
returns c = let apart = c.apart-p in let width = c.width-k in let x = as_passed c.args.x _ c.ranges.x apart.ensures.0 in whole-done c.args.x apart.result.turn apart.result.size width.result x (nonzero c.args.x _ _ x c.if-x-eq0.false) width.ensures.0 c.args.out.now c.if-out-k.false _ c.put.ensures
