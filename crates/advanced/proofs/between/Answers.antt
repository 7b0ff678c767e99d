use Rattle.advanced.proofs.Strings.{quoted-whole}
use native.Mathlib.Omega.{arith}
use Rattle.advanced.proofs.between.Goals as goal

pub returns : goal.returns
returns c = search (quoted-whole, arith)
