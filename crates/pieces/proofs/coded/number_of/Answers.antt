use Rattle.pieces.specs.Coded.{number_of}
use Rattle.pieces.proofs.Coding.{number-as}
use native.Mathlib.Omega.{arith}
use Rattle.pieces.proofs.coded.number_of.Goals as goal

pub returns-in-Between : goal.returns-in-Between
unfolding number_of
returns-in-Between c = search (number-as, arith)

pub returns-in-Sizing : goal.returns-in-Sizing
unfolding number_of
returns-in-Sizing c = search (number-as, arith)

pub returns-in-Counting : goal.returns-in-Counting
unfolding number_of
returns-in-Counting c = search (number-as, arith)

pub returns-in-Filling : goal.returns-in-Filling
unfolding number_of
returns-in-Filling c = search (number-as, arith)

pub returns-in-Bracket : goal.returns-in-Bracket
unfolding number_of
returns-in-Bracket c = search (number-as, arith)

pub returns-in-Dead : goal.returns-in-Dead
unfolding number_of
returns-in-Dead c = search (number-as, arith)
