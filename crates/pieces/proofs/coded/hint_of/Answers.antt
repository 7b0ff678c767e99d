use Rattle.pieces.specs.Coded.{hint_of}
use Rattle.pieces.proofs.Coding.{hint-as}
use native.Mathlib.Omega.{arith}
use Rattle.pieces.proofs.coded.hint_of.Goals as goal

pub returns-in-Between : goal.returns-in-Between
unfolding hint_of
returns-in-Between c = search (hint-as, arith)

pub returns-in-Sizing : goal.returns-in-Sizing
unfolding hint_of
returns-in-Sizing c = search (hint-as, arith)

pub returns-in-Counting : goal.returns-in-Counting
unfolding hint_of
returns-in-Counting c = search (hint-as, arith)

pub returns-in-Filling : goal.returns-in-Filling
unfolding hint_of
returns-in-Filling c = search (hint-as, arith)

pub returns-in-Bracket : goal.returns-in-Bracket
unfolding hint_of
returns-in-Bracket c = search (hint-as, arith)

pub returns-in-Dead : goal.returns-in-Dead
unfolding hint_of
returns-in-Dead c = search (hint-as, arith)
