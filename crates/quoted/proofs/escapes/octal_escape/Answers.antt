use Rattle.quoted.proofs.EscapeSteps.{octal-cut, octal-bad, octal-bad₂, octal-bad₃, octal-over, octal-three}
use native.Mathlib.Omega.{arith}
use Rattle.quoted.proofs.escapes.octal_escape.Goals as goal

pub returns-then-src-at-lt3 : goal.returns-then-src-at-lt3
returns-then-src-at-lt3 c = search (octal-cut, arith)

pub returns-in_err-a : goal.returns-in_err-a
returns-in_err-a c = rw c.from_residual.ensures (octal-bad _ _ (omega arith) c.in_err-a.ensures)

pub returns-in_err-b : goal.returns-in_err-b
returns-in_err-b c = rw c.from_residual-in_err-b.ensures (octal-bad₂ _ _ (omega arith) _ c.in_ok-a.ensures c.in_err-b.ensures)

pub returns-in_err-c : goal.returns-in_err-c
returns-in_err-c c = rw c.from_residual-in_err-c.ensures (octal-bad₃ _ _ (omega arith) _ c.in_ok-a.ensures _ c.in_ok-b.ensures c.in_err-c.ensures)

pub returns-then-v-gt255 : goal.returns-then-v-gt255
returns-then-v-gt255 c = octal-over _ _ (omega arith) _ c.in_ok-a.ensures _ c.in_ok-b.ensures _ c.in_ok-c.ensures (omega arith)

pub returns : goal.returns
returns c = octal-three _ _ (omega arith) _ c.in_ok-a.ensures _ c.in_ok-b.ensures _ c.in_ok-c.ensures (omega arith)
