use native.Mathlib.Omega.{arith}
use Rattle.scan.proofs.Skips.{skip-none, skip-more, skip-low, skip-high, skip-end}
use Rattle.scan.proofs.skip_at.Goals as goal

pub loop-i-init : goal.loop-i-init
loop-i-init c = search skip-none

pub returns-then-c-lt-BLANK : goal.returns-then-c-lt-BLANK
returns-then-c-lt-BLANK c = search (skip-low, arith)

pub returns-then-c-gt-SPACE : goal.returns-then-c-gt-SPACE
returns-then-c-gt-SPACE c = search (skip-high, arith)

pub loop-i-preserved : goal.loop-i-preserved
loop-i-preserved c = search (skip-more, arith)

pub returns : goal.returns
returns c = search (skip-end, arith)
