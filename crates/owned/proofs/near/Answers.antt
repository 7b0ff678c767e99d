use native.Mathlib.Omega.{arith}
use Rattle.owned.proofs.Meeting.{near-off, near-so}
use Rattle.owned.proofs.near.Goals as goal

pub returns-then-start-at : goal.returns-then-start-at
returns-then-start-at c = near-off _ _ _ _

pub returns-then-end-src : goal.returns-then-end-src
returns-then-end-src c = near-off _ _ _ _

pub returns-then-start-end : goal.returns-then-start-end
returns-then-start-end c = near-off _ _ _ _

pub returns-then-n-gt9 : goal.returns-then-n-gt9
returns-then-n-gt9 c = near-off _ _ _ _

pub returns-then-src-at : goal.returns-then-src-at
returns-then-src-at c = near-off _ _ _ _

pub returns-then-src-at-ne58 : goal.returns-then-src-at-ne58
returns-then-src-at-ne58 c = near-off _ _ _ _

pub returns : goal.returns
returns c = search (near-so, arith)
