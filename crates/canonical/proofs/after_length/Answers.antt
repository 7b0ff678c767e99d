use native.Mathlib.Omega.{arith}
use Rattle.canonical.proofs.Lexing.{length-end, length-uncolon, length-short, length-span}
use Rattle.canonical.proofs.after_length.Goals as goal

pub returns-in_err-get : goal.returns-in_err-get
returns-in_err-get c = let k = c.in_err-get.ensures.lookup in rw c.from_residual.ensures (length-end _ _ _ (omega arith))

pub returns-then-branch-ne58 : goal.returns-then-branch-ne58
returns-then-branch-ne58 c = let k = c.in_ok-get.ensures.lookup in let e = k.3.1 0 in length-uncolon _ _ _ (omega arith) (λ z. absurd (omega arith))

pub returns-then-n-src : goal.returns-then-n-src
returns-then-n-src c = let k = c.in_ok-get.ensures.lookup in let e = k.3.1 0 in length-short _ _ _ (omega arith) (omega arith) (omega arith)

pub returns : goal.returns
returns c = let k = c.in_ok-get.ensures.lookup in let e = k.3.1 0 in length-span _ _ _ (omega arith) (omega arith) (omega arith)
