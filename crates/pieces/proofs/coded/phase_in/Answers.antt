use Rattle.pieces.proofs.Coding.{is-between, is-sizing, is-counting, is-filling, is-bracket, is-dead}
use native.Mathlib.Omega.{arith}
use Rattle.pieces.proofs.coded.phase_in.Goals as goal

pub returns-then-kind-eq0 : goal.returns-then-kind-eq0
returns-then-kind-eq0 c = search (is-between, arith)

pub returns-then-kind-eq1 : goal.returns-then-kind-eq1
returns-then-kind-eq1 c = search (is-sizing, arith)

pub returns-then-kind-eq2 : goal.returns-then-kind-eq2
returns-then-kind-eq2 c = search (is-counting, arith)

pub returns-then-kind-eq3 : goal.returns-then-kind-eq3
returns-then-kind-eq3 c = search (is-filling, arith)

pub returns-then-kind-eq4 : goal.returns-then-kind-eq4
returns-then-kind-eq4 c = search (is-bracket, arith)

pub returns : goal.returns
returns c = search (is-dead, arith)
