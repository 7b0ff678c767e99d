use Rattle.editor.proofs.Placing.{strike-placeable, strike-placed}
use native.Mathlib.Omega.{arith}
use Rattle.editor.proofs.strike.Goals as goal

pub place-requires-clause-placeable : goal.place-requires-clause-placeable
place-requires-clause-placeable c = search (strike-placeable, arith)

pub returns : goal.returns
returns c = search (strike-placed, arith)
