use Rattle.sheets.proofs.Packing.{after-end, after-unclosed, after-string}
use native.Mathlib.Omega.{arith}
use Rattle.sheets.proofs.places.after_hint.Goals as goal

pub returns-then-to-src : goal.returns-then-to-src
returns-then-to-src c = search (after-end, arith)

pub returns-then-src-to-ne93 : goal.returns-then-src-to-ne93
returns-then-src-to-ne93 c = search (after-unclosed, arith)

pub returns : goal.returns
returns c = search (after-string, arith)
