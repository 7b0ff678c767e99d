use Rattle.answers.proofs.Judged.{refuses-writing}
use native.Mathlib.Omega.{arith}
use Rattle.write.proofs.Forms.{canonical-refused, canonical-room, canonical-written}
use Rattle.write.proofs.write_canonical.Goals as goal

pub returns-then-length-out : goal.returns-then-length-out
returns-then-length-out c = search (canonical-refused, refuses-writing, arith)

pub copy-requires : goal.copy-requires
copy-requires c =
    canonical-room _ _ c.requires c.args.out.now c.if-length-out.false

pub returns : goal.returns
returns c = search (canonical-written, arith)
