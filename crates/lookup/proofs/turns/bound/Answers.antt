use Rattle.lookup.proofs.Pacing.{bound-beyond, bound-long, bound-empty, bound-many, bound-unlent, bound-so}
use native.Mathlib.Omega.{arith}
use Rattle.lookup.proofs.turns.bound.Goals as goal

pub returns-then-len-octets : goal.returns-then-len-octets
returns-then-len-octets c = search (bound-beyond, arith)

pub returns-then-len-gt-CANONICAL : goal.returns-then-len-gt-CANONICAL
returns-then-len-gt-CANONICAL c = search (bound-long, arith)

pub returns-then-len-eq0 : goal.returns-then-len-eq0
returns-then-len-eq0 c = search (bound-empty, arith)

pub returns-then-nodes-gt-NODES : goal.returns-then-nodes-gt-NODES
returns-then-nodes-gt-NODES c = search (bound-many, arith)

pub returns-then-nodes-room : goal.returns-then-nodes-room
returns-then-nodes-room c = search (bound-unlent, arith)

pub returns : goal.returns
returns c = search (bound-so, arith)
