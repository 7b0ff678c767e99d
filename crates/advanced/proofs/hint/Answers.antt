use Rattle.advanced.proofs.Hints.{kept-length, kept_again, hint-room, hint-none, hint-inside, hint-last, hint-end}
use native.Mathlib.Omega.{arith}
use mathlib.Core.Path.{refl}
use Rattle.advanced.proofs.hint.Goals as goal

pub simple-requires : goal.simple-requires
simple-requires c = search (hint-room, arith)

pub shape_of-out-in_err-next : goal.shape_of-out-in_err-next
shape_of-out-in_err-next c = search (kept-length, arith)

pub returns-in_err-next : goal.returns-in_err-next
returns-in_err-next c = rw c.from_residual.ensures (search (hint-none, c.in_err-next.ensures, arith))

pub close_hint-requires : goal.close_hint-requires
close_hint-requires c = (hint-inside _ _ _ c.args.out.now (omega arith) c.requires.1 _ c.skip_at-i.ensures _ _ _ c.in_ok-next.ensures _ refl, hint-last _ _ _ c.args.out.now (omega arith) c.requires.1 _ c.skip_at-i.ensures _ _ _ c.in_ok-next.ensures _ refl)

pub shape_of-out : goal.shape_of-out
shape_of-out c = search (kept_again, arith)

pub returns : goal.returns
returns c = search (hint-end, c.in_ok-next.ensures, arith)
