use Rattle.hexadecimal.proofs.Digits.{pair-cut, pair-hash, pair-bad, pair-cut₂, pair-bad₂, pair-two}
use native.Mathlib.Omega.{arith}
use Rattle.hexadecimal.proofs.pair_at.Goals as goal

pub returns-in_err-a : goal.returns-in_err-a
returns-in_err-a c = let k = c.in_err-a.ensures.lookup in rw c.from_residual.ensures (pair-cut _ _ _ c.skip_at-i.ensures (omega arith))

pub returns-then-a-eq35 : goal.returns-then-a-eq35
returns-then-a-eq35 c = let k = c.in_ok-a.ensures.lookup in pair-hash _ _ _ c.skip_at-i.ensures (omega arith) _ (k.3.1 0) c.if-a-eq35.true

pub returns-in_err-h : goal.returns-in_err-h
returns-in_err-h c =
    let k = c.in_ok-a.ensures.lookup in
    rw c.from_residual-in_err-h.ensures (pair-bad _ _ _ c.skip_at-i.ensures (omega arith) _ (k.3.1 0) c.if-a-eq35.false c.in_err-h.ensures)

pub returns-in_err-get : goal.returns-in_err-get
returns-in_err-get c =
    let k = c.in_ok-a.ensures.lookup in
    let l = c.in_err-get.ensures.lookup in
    rw c.from_residual-in_err-get.ensures
    (pair-cut₂ _ _ _ c.skip_at-i.ensures (omega arith) _ (k.3.1 0) c.if-a-eq35.false _ c.in_ok-h.ensures _ c.skip_at-j.ensures (omega arith))

pub returns-in_err-l : goal.returns-in_err-l
returns-in_err-l c =
    let k = c.in_ok-a.ensures.lookup in
    let l = c.in_ok-get.ensures.lookup in
    rw c.from_residual-in_err-l.ensures
    (pair-bad₂ _ _ _ c.skip_at-i.ensures (omega arith) _ (k.3.1 0) c.if-a-eq35.false _ c.in_ok-h.ensures _ c.skip_at-j.ensures (omega arith) _ (l.3.1 0) c.in_err-l.ensures)

pub returns : goal.returns
returns c =
    let k = c.in_ok-a.ensures.lookup in
    let l = c.in_ok-get.ensures.lookup in
    pair-two _ _ _ c.skip_at-i.ensures (omega arith) _ (k.3.1 0) c.if-a-eq35.false _ c.in_ok-h.ensures _ c.skip_at-j.ensures (omega arith) _ (l.3.1 0) _ c.in_ok-l.ensures
