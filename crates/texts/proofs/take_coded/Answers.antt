use Rattle.texts.proofs.Forms.{form-advanced, form-brace, form-braced}
use native.Mathlib.Omega.{arith}
use borrow.Author.Rules.{rules}
use Rattle.texts.proofs.take_coded.Goals as goal

pub returns-then-form-ge3 : goal.returns-then-form-ge3
returns-then-form-ge3 c = search (form-advanced, arith)

pub take_braced-requires : goal.take_braced-requires
take_braced-requires c = (search (form-brace, arith), search rules)

pub returns : goal.returns
returns c = search (form-braced, arith)
