use Rattle.texts.proofs.Forms.{coded-advanced, coded-braced, form-canonical}
use native.Mathlib.Omega.{arith}
use Rattle.texts.proofs.take.Goals as goal

pub take_coded-requires-clause-coded : goal.take_coded-requires-clause-coded
take_coded-requires-clause-coded c = search (coded-advanced, arith)

pub take_coded-requires-then-braced-clause-coded : goal.take_coded-requires-then-braced-clause-coded
take_coded-requires-then-braced-clause-coded c = search (coded-braced, arith)

pub returns : goal.returns
returns c = search (form-canonical, arith)
