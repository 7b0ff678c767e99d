use Rattle.tables.proofs.Filling.{Filling}
use Rattle.tables.proofs.fill.Given as goal

abbrev pub invariant-loop-k : goal.invariant-loop-k
invariant-loop-k l = Filling l.notes l.count l.initial.table l.table l.k
