use Rattle.texts.proofs.Forms.{bare-not, bare-basic}
use native.Mathlib.Omega.{arith}
use Rattle.texts.proofs.bare.Goals as goal

pub returns-then-form-ne2 : goal.returns-then-form-ne2
returns-then-form-ne2 c = search (bare-not, arith)

pub returns-then-braced : goal.returns-then-braced
returns-then-braced c = search (bare-not, arith)

pub returns : goal.returns
returns c = search (bare-basic, arith)
