use Rattle.extract.proofs.Giving.{kept-notes, note-judged, notes-given, notes-none}
use native.Mathlib.Omega.{arith}
use Rattle.extract.proofs.extract_notes.Goals as goal

pub give-requires-clause-judged : goal.give-requires-clause-judged
give-requires-clause-judged c = search (note-judged, arith)

pub give-requires-clause-noteable : goal.give-requires-clause-noteable
give-requires-clause-noteable c = search (kept-notes, arith)

pub returns : goal.returns
returns c = search (notes-given, arith)

pub returns-in_default : goal.returns-in_default
returns-in_default c = search (notes-none, arith)
