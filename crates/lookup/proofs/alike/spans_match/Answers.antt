use native.Mathlib.Omega.{arith}
use Rattle.lookup.proofs.Spans.{spans-equal}
use Rattle.lookup.proofs.alike.spans_match.Goals as goal

pub returns : goal.returns
returns c = search (spans-equal, arith)
