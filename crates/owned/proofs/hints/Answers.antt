use native.Mathlib.Omega.{arith}
use Rattle.owned.proofs.Meeting.{hints-apart, hints-fit, hints-inside, hints-other, hints-so, hints-unfollowed, hints-unhinted}
use Rattle.owned.proofs.hints.Goals as goal

pub returns-then-src-at-ne91 : goal.returns-then-src-at-ne91
returns-then-src-at-ne91 c = search (hints-other, arith)

pub returns-in_err-h : goal.returns-in_err-h
returns-in_err-h c = rw c.from_residual.ensures (search (hints-unhinted, c.in_err-h.ensures, arith))

pub after_hint-requires : goal.after_hint-requires
after_hint-requires c = search (hints-inside, c.in_ok-h.ensures, arith)

pub returns-in_err-d : goal.returns-in_err-d
returns-in_err-d c = rw c.from_residual-in_err-d.ensures (search (hints-unfollowed, c.in_ok-h.ensures, c.in_err-d.ensures, arith))

pub overflow_mul-start_of : goal.overflow_mul-start_of
overflow_mul-start_of c = omega (arith, hints-fit _ _ _ c.requires.meetable.inside c.requires.unread c.if-src-at-ne91.false _ c.in_ok-h.ensures _ c.end_of.ensures _ c.in_ok-d.ensures _ c.start_of.ensures c.requires.meetable)

pub overflow_add-d : goal.overflow_add-d
overflow_add-d c = omega (arith, hints-fit _ _ _ c.requires.meetable.inside c.requires.unread c.if-src-at-ne91.false _ c.in_ok-h.ensures _ c.end_of.ensures _ c.in_ok-d.ensures _ c.start_of.ensures c.requires.meetable)

pub overflow_add-d-2 : goal.overflow_add-d-2
overflow_add-d-2 c = omega (arith, hints-fit _ _ _ c.requires.meetable.inside c.requires.unread c.if-src-at-ne91.false _ c.in_ok-h.ensures _ c.end_of.ensures _ c.in_ok-d.ensures _ c.start_of.ensures c.requires.meetable)

pub returns-then-note-d : goal.returns-then-note-d
returns-then-note-d c = search (hints-so, c.in_ok-h.ensures, c.in_ok-d.ensures, arith)

pub returns : goal.returns
returns c = search (hints-apart, c.in_ok-h.ensures, c.in_ok-d.ensures, arith)
