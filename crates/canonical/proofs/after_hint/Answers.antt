use native.Mathlib.Omega.{arith}
use Rattle.canonical.proofs.Lexing.{hint-end, hint-unclosed, hint-none, hint-string}
use Rattle.canonical.proofs.after_hint.Goals as goal

pub returns-in_err-get : goal.returns-in_err-get
returns-in_err-get c = let k = c.in_err-get.ensures.lookup in rw c.from_residual.ensures (hint-end _ _ _ (omega arith))

pub returns-then-branch-ne93 : goal.returns-then-branch-ne93
returns-then-branch-ne93 c = let k = c.in_ok-get.ensures.lookup in let e = k.3.1 0 in hint-unclosed _ _ _ (omega arith) (λ z. absurd (omega arith))

pub returns-in_err-data : goal.returns-in_err-data
returns-in_err-data c = let k = c.in_ok-get.ensures.lookup in let e = k.3.1 0 in rw c.from_residual-in_err-data.ensures (hint-none _ _ _ (omega arith) (omega arith) c.in_err-data.ensures)

pub returns : goal.returns
returns c = let k = c.in_ok-get.ensures.lookup in let e = k.3.1 0 in hint-string _ _ _ (omega arith) (omega arith) _ c.in_ok-data.ensures
