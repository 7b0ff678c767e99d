use Rattle.cases.proofs.Digests.{Digesting}
use Rattle.cases.proofs.digest.of_numbers.Given as goal

abbrev pub invariant-loop-number : goal.invariant-loop-number
invariant-loop-number l = Digesting l.buffer l.digest l.number-index
