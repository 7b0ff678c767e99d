use Rattle.quoted.proofs.PieceSteps.{piece-end, piece-quote, piece-escaped, piece-none, piece-plain}
use native.Mathlib.Omega.{arith}
use Rattle.quoted.proofs.piece_at.Goals as goal

pub returns-in_err-b : goal.returns-in_err-b
returns-in_err-b c = let k = c.in_err-b.ensures.lookup in rw c.from_residual.ensures (piece-end _ _ (omega arith))

pub returns-then-b-eq34 : goal.returns-then-b-eq34
returns-then-b-eq34 c = let k = c.in_ok-b.ensures.lookup in piece-quote _ _ (omega arith) _ (k.3.1 0) c.if-b-eq34.true

pub returns-then-b-eq92 : goal.returns-then-b-eq92
returns-then-b-eq92 c = let k = c.in_ok-b.ensures.lookup in piece-escaped _ _ (omega arith) _ (k.3.1 0) c.if-b-eq34.false c.if-b-eq92.true _ c.escape_at.ensures

pub returns-then-class_of-lt-SPACE : goal.returns-then-class_of-lt-SPACE
returns-then-class_of-lt-SPACE c = let k = c.in_ok-b.ensures.lookup in piece-none _ _ (omega arith) _ (k.3.1 0) c.if-b-eq34.false c.if-b-eq92.false _ c.class_of.ensures (omega arith)

pub returns : goal.returns
returns c = let k = c.in_ok-b.ensures.lookup in piece-plain _ _ (omega arith) _ (k.3.1 0) c.if-b-eq34.false c.if-b-eq92.false _ c.class_of.ensures (omega arith)
