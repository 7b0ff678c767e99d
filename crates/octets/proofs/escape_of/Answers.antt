use native.Mathlib.Omega.{arith}
use Rattle.model.specs.Octets.{escape, find}
use Rattle.octets.proofs.Values.{escape-arm, escape-none}
use Rattle.octets.proofs.escape_of.Goals as goal

pub returns-in-98 : goal.returns-in-98
unfolding escape find
returns-in-98 c = (search (escape-arm 98, arith), omega arith)

pub returns-in-116 : goal.returns-in-116
unfolding escape find
returns-in-116 c = (search (escape-arm 116, arith), omega arith)

pub returns-in-118 : goal.returns-in-118
unfolding escape find
returns-in-118 c = (search (escape-arm 118, arith), omega arith)

pub returns-in-110 : goal.returns-in-110
unfolding escape find
returns-in-110 c = (search (escape-arm 110, arith), omega arith)

pub returns-in-102 : goal.returns-in-102
unfolding escape find
returns-in-102 c = (search (escape-arm 102, arith), omega arith)

pub returns-in-114 : goal.returns-in-114
unfolding escape find
returns-in-114 c = (search (escape-arm 114, arith), omega arith)

pub returns-in-34 : goal.returns-in-34
unfolding escape find
returns-in-34 c = (search (escape-arm 34, arith), omega arith)

pub returns-in-39 : goal.returns-in-39
unfolding escape find
returns-in-39 c = (search (escape-arm 39, arith), omega arith)

pub returns-in-92 : goal.returns-in-92
unfolding escape find
returns-in-92 c = (search (escape-arm 92, arith), omega arith)

pub returns-in-97 : goal.returns-in-97
unfolding escape find
returns-in-97 c = (search (escape-arm 97, arith), omega arith)

pub returns-in-63 : goal.returns-in-63
unfolding escape find
returns-in-63 c = (search (escape-arm 63, arith), omega arith)

pub returns-in_default : goal.returns-in_default
returns-in_default c = search (escape-none, arith)
