use native.Mathlib.Omega.{arith}
use Rattle.lookup.proofs.Matching.{match-sorts, match-marks, match-data, match-hints}
use Rattle.lookup.proofs.alike.tokens_match.Goals as goal

pub returns-then-left-right : goal.returns-then-left-right
returns-then-left-right c = search (match-sorts, arith)

pub returns-then-left-lt2 : goal.returns-then-left-lt2
returns-then-left-lt2 c = search (match-marks, arith)

pub returns-then-hints_match : goal.returns-then-hints_match
returns-then-hints_match c = search (match-data, arith)

pub returns-else-hints_match : goal.returns-else-hints_match
returns-else-hints_match c = search (match-hints, arith)
