use Rattle.editor.proofs.Placing.{comes-text, comes-none, strike-noteable}
use Rattle.editor.proofs.Entry.{change-struck}
use native.Mathlib.Omega.{arith}
use Rattle.editor.proofs.change_by.Goals as goal

pub text_by-requires-clause-asked_value : goal.text_by-requires-clause-asked_value
text_by-requires-clause-asked_value c = search (comes-text, arith)

pub strike-requires-clause-noteable : goal.strike-requires-clause-noteable
strike-requires-clause-noteable c = search (strike-noteable, comes-none, arith)

pub strike-requires-clause-asked_value : goal.strike-requires-clause-asked_value
strike-requires-clause-asked_value c = search (comes-none, arith)

pub returns : goal.returns
returns c = search (change-struck, comes-none, arith)
