use native.Mathlib.Omega.{arith}
use Rattle.lookup.proofs.SideBySide.{token-open, token-close, token-plain, token-hinted, token-other}
use Rattle.lookup.proofs.alike.token_at.Goals as goal

pub returns-in-Some-Open : goal.returns-in-Some-Open
returns-in-Some-Open c = search (token-open, arith)

pub returns-in-Some-Close : goal.returns-in-Some-Close
returns-in-Some-Close c = search (token-close, arith)

pub returns-in-Some-Plain : goal.returns-in-Some-Plain
returns-in-Some-Plain c = search (token-plain, arith)

pub returns-in-Some-Hinted : goal.returns-in-Some-Hinted
returns-in-Some-Hinted c = search (token-hinted, arith)

pub returns-in-None : goal.returns-in-None
returns-in-None c = search (token-other, arith)
