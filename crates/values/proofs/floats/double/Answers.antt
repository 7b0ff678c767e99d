use lib.Ieee.{binary64}
use Rattle.typed.proofs.Floating.{part_length, part-odd, part-made, no-nan-bits}
use Rattle.typed.specs.declared.Value.TheVariants.{Double}
use Rattle.values.proofs.floats.double.Goals as goal

pub returns-then-end-start-ne8 : goal.returns-then-end-start-ne8
returns-then-end-start-ne8 c = part_length binary64 8 Double _ _ _ c.requires.1 c.if-end-start-ne8.true

pub returns-then-b-ge9218868437227405312 : goal.returns-then-b-ge9218868437227405312
returns-then-b-ge9218868437227405312 c = part-odd binary64 8 Double c.args.src.now c.args.start c.args.end c.requires.1 _ c.number-b.ensures.0 c.if-b-ge9218868437227405312.true

pub float_from_bits-result : goal.float_from_bits-result
float_from_bits-result c = no-nan-bits binary64 c.number-b.result c.if-b-ge9218868437227405312.false

pub returns : goal.returns
returns c = part-made binary64 8 Double c.args.src.now c.args.start c.args.end c.requires.1 _ c.number-b.ensures.0 c.if-end-start-ne8.false c.if-b-ge9218868437227405312.false
