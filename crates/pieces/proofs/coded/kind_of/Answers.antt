use Rattle.pieces.specs.Coded.{kind_of}
use Rattle.pieces.proofs.Coding.{kind-as}
use native.Mathlib.Omega.{arith}
use Rattle.pieces.proofs.coded.kind_of.Goals as goal

pub returns-in-Between : goal.returns-in-Between
unfolding kind_of
returns-in-Between c = search (kind-as, arith)

pub returns-in-Sizing : goal.returns-in-Sizing
unfolding kind_of
returns-in-Sizing c = search (kind-as, arith)

pub returns-in-Counting : goal.returns-in-Counting
unfolding kind_of
returns-in-Counting c = search (kind-as, arith)

pub returns-in-Filling : goal.returns-in-Filling
unfolding kind_of
returns-in-Filling c = search (kind-as, arith)

pub returns-in-Bracket : goal.returns-in-Bracket
unfolding kind_of
returns-in-Bracket c = search (kind-as, arith)

pub returns-in-Dead : goal.returns-in-Dead
unfolding kind_of
returns-in-Dead c = search (kind-as, arith)
