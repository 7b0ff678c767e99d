use Rattle.sheets.proofs.Strings.{plain-bodied, plain-small, plain-kept, hint-bodied, data-bodied, data-small, hint-kept, hint-fits}
use native.Mathlib.Omega.{arith}
use Rattle.sheets.proofs.notes.keep_string.Goals as goal

pub body_at-requires : goal.body_at-requires
body_at-requires c = search (plain-bodied, arith)

pub keep-requires : goal.keep-requires
keep-requires c = search (plain-small, arith)

pub returns-then-mid-eq0 : goal.returns-then-mid-eq0
returns-then-mid-eq0 c = search (plain-kept, arith)

pub overflow_add-pos : goal.overflow_add-pos
overflow_add-pos c = search (hint-fits, arith)

pub body_at-from-requires : goal.body_at-from-requires
body_at-from-requires c = search (hint-bodied, arith)

pub body_at-requires-2 : goal.body_at-requires-2
body_at-requires-2 c = search (data-bodied, arith)

pub keep-requires-2 : goal.keep-requires-2
keep-requires-2 c = search (data-small, arith)

pub returns : goal.returns
returns c = search (hint-kept, arith)
