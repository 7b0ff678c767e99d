use Rattle.advanced.proofs.Strings.{after-cut, after-few, after-colon, room-spacious, frame_small, frame-room, sized-none, sized-other, sized-some}
use native.Mathlib.Omega.{arith}
use mathlib.Core.Path.{refl}
use borrow.Author.Rules.{rules}
use Rattle.advanced.proofs.after_number.Goals as goal

pub returns-then-at-src : goal.returns-then-at-src
returns-then-at-src c = search (after-cut, arith)

pub returns-then-n-src : goal.returns-then-n-src
returns-then-n-src c = search (after-few, arith)

pub returns-then-src-at-eq58 : goal.returns-then-src-at-eq58
returns-then-src-at-eq58 c = search (after-colon, arith)

pub decode-requires : goal.decode-requires
decode-requires c = (search rules, search (room-spacious, arith))

pub returns-in_err-next : goal.returns-in_err-next
returns-in_err-next c = rw c.from_residual.ensures (search (sized-none, c.in_err-next.ensures, arith))

pub returns-then-m-n : goal.returns-then-m-n
returns-then-m-n c = search (sized-other, c.in_ok-next.ensures, arith)

pub frame-requires : goal.frame-requires
frame-requires c = (search (frame_small, c.in_ok-next.ensures, arith), frame-room _ _ _ _ _ _ _ (omega arith) c.requires c.in_ok-next.ensures _ refl)

pub returns : goal.returns
returns c = search (sized-some, c.in_ok-next.ensures, arith)
