use mathlib.Core.Path.{refl}
use Rattle.typed.proofs.Quarterly.{count-zero, count_low, count-high, count-many, count-uneven, count-even}
use Rattle.hours.proofs.count_bits.Goals as goal

pub returns-then-b-eq0 : goal.returns-then-b-eq0
returns-then-b-eq0 c = search count-zero

pub returns-then-e-lt1021 : goal.returns-then-e-lt1021
returns-then-e-lt1021 c = search count_low

pub returns-then-e-gt1027 : goal.returns-then-e-gt1027
returns-then-e-gt1027 c = search count-high

pub returns-then-q-gt96 : goal.returns-then-q-gt96
returns-then-q-gt96 c = search count-many

pub returns-then-q-k : goal.returns-then-q-k
returns-then-q-k c = count-uneven _ _ _ _ refl c.if-e-lt1021.false c.if-e-gt1027.false refl refl c.if-q-k.true

pub returns : goal.returns
returns c = search count-even
