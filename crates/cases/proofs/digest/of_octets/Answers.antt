use native.Mathlib.Omega.{arith}
use Rattle.cases.proofs.Digests.{digest-start, digest-on, digest-end}
use Rattle.cases.proofs.digest.of_octets.Goals as goal

pub loop-octet-init : goal.loop-octet-init
loop-octet-init c = search (digest-start, arith)

pub loop-octet-preserved : goal.loop-octet-preserved
loop-octet-preserved c = search (digest-on, arith)

pub returns : goal.returns
returns c = search (digest-end, arith)
