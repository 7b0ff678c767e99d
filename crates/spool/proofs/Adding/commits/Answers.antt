use Rattle.spool.proofs.Stepping.{commits-later, commits-last, commits-not}
use native.Mathlib.Omega.{arith}
use Rattle.spool.proofs.Adding.commits.Goals as goal

pub returns-in-Some-Body : goal.returns-in-Some-Body
returns-in-Some-Body c = search (commits-later, arith)

pub returns-in-Some-Octet : goal.returns-in-Some-Octet
returns-in-Some-Octet c = search (commits-last, arith)

pub returns-in-None : goal.returns-in-None
returns-in-None c = search (commits-not, arith)
