use Rattle.cases.proofs.Digests.{Digesting}
use Rattle.cases.proofs.digest.of_octets.Given as goal

abbrev pub invariant-loop-octet : goal.invariant-loop-octet
invariant-loop-octet l = Digesting l.buffer l.digest l.octet-index
