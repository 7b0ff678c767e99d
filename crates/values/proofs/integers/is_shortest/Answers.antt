use Rattle.typed.proofs.Shortly.{short_none, short-one, short-plus, short-minus, short-else}
use Rattle.values.proofs.integers.is_shortest.Goals as goal

pub returns-then-start-end : goal.returns-then-start-end
returns-then-start-end c = search short_none

pub returns-then-next-end : goal.returns-then-next-end
returns-then-next-end c = search short-one

pub returns-then-first-eq0 : goal.returns-then-first-eq0
returns-then-first-eq0 c = search (short-plus, c.if-start-end.false, c.if-next-end.false)

pub returns-then-first : goal.returns-then-first
returns-then-first c = search (short-minus, c.if-start-end.false, c.if-next-end.false)

pub returns : goal.returns
returns c = search (short-else, c.if-start-end.false, c.if-next-end.false, c.if-first-eq0.false, c.if-first.false)
