use Rattle.lookup.proofs.Pacing.{answer-none, answer-low, answer-so}
use native.Mathlib.Omega.{arith}
use Rattle.lookup.proofs.turns.answer.Goals as goal

pub returns-then-end-eq0 : goal.returns-then-end-eq0
returns-then-end-eq0 c = search (answer-none, arith)

pub returns-then-state-end : goal.returns-then-state-end
returns-then-state-end c = search (answer-low, arith)

pub returns : goal.returns
returns c = search (answer-so, arith)
