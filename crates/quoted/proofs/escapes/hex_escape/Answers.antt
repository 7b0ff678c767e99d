use Rattle.quoted.proofs.EscapeSteps.{hexed-short, hexed-bad, hexed-bad₂, hexed-two}
use native.Mathlib.Omega.{arith}
use Rattle.quoted.proofs.escapes.hex_escape.Goals as goal

pub returns-then-src-at-lt2 : goal.returns-then-src-at-lt2
returns-then-src-at-lt2 c = search (hexed-short, arith)

pub returns-in_err-h : goal.returns-in_err-h
returns-in_err-h c = rw c.from_residual.ensures (hexed-bad _ _ (omega arith) c.in_err-h.ensures)

pub returns-in_err-l : goal.returns-in_err-l
returns-in_err-l c = rw c.from_residual-in_err-l.ensures (hexed-bad₂ _ _ (omega arith) _ c.in_ok-h.ensures c.in_err-l.ensures)

pub returns : goal.returns
returns c = hexed-two _ _ (omega arith) _ c.in_ok-h.ensures _ c.in_ok-l.ensures
