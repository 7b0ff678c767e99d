use Rattle.answers.proofs.Judged.{refuses}
use Rattle.pieces.proofs.Ended.{held, end-room, end-lent, end-long, end-inside, end-past}
use native.Mathlib.Omega.{arith}
use Rattle.pieces.proofs.ending.end_notes.Goals as goal

pub returns-then-canonical-state : goal.returns-then-canonical-state
returns-then-canonical-state c = search (end-room, refuses, arith)

pub returns-then-lent-state : goal.returns-then-lent-state
returns-then-lent-state c = search (end-lent, refuses, arith)

pub returns-then-fed-gt-SOURCE : goal.returns-then-fed-gt-SOURCE
returns-then-fed-gt-SOURCE c = search (end-long, refuses, arith)

pub inside-requires : goal.inside-requires
inside-requires c =
    held _ _ _ _ c.space.ensures c.if-fed-space.true c.requires

pub returns-then-fed-space : goal.returns-then-fed-space
returns-then-fed-space c = search (end-inside, arith)

pub returns : goal.returns
returns c = search (end-past, arith)
