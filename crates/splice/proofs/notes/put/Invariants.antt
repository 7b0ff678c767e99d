use Rattle.splice.proofs.Moving.{Putting}
use Rattle.splice.proofs.notes.put.Given as goal

abbrev pub invariant-loop-note : goal.invariant-loop-note
invariant-loop-note l = Putting l.initial.note-items l.start l.first l.up l.note-items l.above l.note-index
