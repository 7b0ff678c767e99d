use native.Mathlib.Omega.{arith}
use Rattle.texts.proofs.Forms.{opens-form, opens-empty, opens-other, opens-brace}
use Rattle.texts.proofs.braced.Goals as goal

pub returns-then-form-ne2 : goal.returns-then-form-ne2
returns-then-form-ne2 c = search (opens-form, arith)

pub returns-then-text-eq0 : goal.returns-then-text-eq0
returns-then-text-eq0 c = search (opens-empty, arith)

pub returns-then-text-ne123 : goal.returns-then-text-ne123
returns-then-text-ne123 c = search (opens-other, arith)

pub returns : goal.returns
returns c = search (opens-brace, arith)
