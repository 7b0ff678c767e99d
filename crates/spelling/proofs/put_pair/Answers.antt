use native.Mathlib.Omega.{arith}
use Rattle.spelling.proofs.Spellings.{pair-front}
use Rattle.spelling.proofs.put_pair.Goals as goal

pub returns : goal.returns
returns c = search (pair-front, arith)
