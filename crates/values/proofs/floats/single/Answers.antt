use lib.Ieee.{binary32}
use Rattle.typed.proofs.Floating.{part_length, part-odd, part-made, no-nan-bits, four-fit}
use Rattle.typed.specs.declared.Value.TheVariants.{Single}
use Rattle.values.proofs.floats.single.Goals as goal

pub returns-then-end-start-ne4 : goal.returns-then-end-start-ne4
returns-then-end-start-ne4 c = part_length binary32 4 Single _ _ _ c.requires.1 c.if-end-start-ne4.true

pub returns-then-b-ge2139095040 : goal.returns-then-b-ge2139095040
returns-then-b-ge2139095040 c = part-odd binary32 4 Single c.args.src.now c.args.start c.args.end c.requires.1 _ c.number-b.ensures.0 c.if-b-ge2139095040.true

pub overflow_cast-result : goal.overflow_cast-result
overflow_cast-result c = four-fit _ _ c.number-b.ensures.1 c.if-end-start-ne4.false

pub float_from_bits-result : goal.float_from_bits-result
float_from_bits-result c = no-nan-bits binary32 c.number-b.result c.if-b-ge2139095040.false

pub returns : goal.returns
returns c = part-made binary32 4 Single c.args.src.now c.args.start c.args.end c.requires.1 _ c.number-b.ensures.0 c.if-end-start-ne4.false c.if-b-ge2139095040.false
