use Rattle.advanced.proofs.Strings.{room-spacious, framed-none, framed-some, frame_small, frame-room}
use native.Mathlib.Omega.{arith}
use borrow.Author.Rules.{rules}
use Rattle.advanced.proofs.framed.Goals as goal

pub decode-requires : goal.decode-requires
decode-requires c = (search rules, search (room-spacious, arith))

pub returns-in_err-next : goal.returns-in_err-next
returns-in_err-next c = rw c.from_residual.ensures (search (framed-none, c.in_err-next.ensures, arith))

pub frame-requires : goal.frame-requires
frame-requires c = (search (frame_small, c.in_ok-next.ensures, arith), search (frame-room, c.in_ok-next.ensures, arith))

pub returns : goal.returns
returns c = search (framed-some, c.in_ok-next.ensures, arith)
