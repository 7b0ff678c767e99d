use native.Mathlib.Omega.{arith}
use Rattle.spelling.proofs.Spellings.{octets-source, octets-room, octets-rest, octets-both}
use Rattle.spelling.proofs.put_octets.Goals as goal

pub copy-o-requires : goal.copy-o-requires
copy-o-requires c = (search (octets-source, arith), search (octets-room, arith))

pub put_escaped-requires-clause-end_in_bounds : goal.put_escaped-requires-clause-end_in_bounds
put_escaped-requires-clause-end_in_bounds c = search (octets-rest, arith)

pub returns : goal.returns
returns c = search (octets-both, arith)
