use native.Mathlib.Omega.{arith}
use Rattle.writer.proofs.Groups.{group-wrote}
use Rattle.writer.proofs.basic.put_group.Goals as goal

pub returns : goal.returns
returns c = search (group-wrote, arith)
