use Rattle.groups.proofs.Lengthy.{one-group, no_second, second-zero, two-groups, no_third, third-zero, three-read, third-more}
use native.Mathlib.Omega.{arith}
use Rattle.groups.proofs.lengths.length_at.Goals as goal

pub returns-then-a-lt128 : goal.returns-then-a-lt128
returns-then-a-lt128 c = search (one-group, arith)

pub returns-then-at-area : goal.returns-then-at-area
returns-then-at-area c = search (no_second, arith)

pub returns-then-b-eq0 : goal.returns-then-b-eq0
returns-then-b-eq0 c = search (second-zero, arith)

pub returns-then-b-lt128 : goal.returns-then-b-lt128
returns-then-b-lt128 c = search (two-groups, arith)

pub returns-then-at-area-2 : goal.returns-then-at-area-2
returns-then-at-area-2 c = search (no_third, arith)

pub returns-then-c-eq0 : goal.returns-then-c-eq0
returns-then-c-eq0 c = search (third-zero, arith)

pub returns-then-c-lt128 : goal.returns-then-c-lt128
returns-then-c-lt128 c = search (three-read, arith)

pub returns : goal.returns
returns c = search (third-more, arith)
