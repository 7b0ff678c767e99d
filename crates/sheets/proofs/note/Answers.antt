use Rattle.sheets.proofs.Noting.{note-start, note-long, note-stack, note-more, note-whole, note-short, open-on, close-refused, close-leaving, close-on, plain-small, plain-less, plain-on, other-refused, unhinted-refused, hint-room, unfollowed-refused, hint-small, hint-less, hint-on}
use native.Mathlib.Omega.{arith}
use borrow.Author.Rules.{rules}
use Rattle.sheets.proofs.note.Goals as goal

pub loop-starts-init : goal.loop-starts-init
loop-starts-init c = search (note-start, arith)

pub shape_of-notes-then-at-src : goal.shape_of-notes-then-at-src
shape_of-notes-then-at-src c = search (note-long, arith)

pub returns-then-at-src : goal.returns-then-at-src
returns-then-at-src c = search (note-more, arith)

pub shape_of-notes-then-closed : goal.shape_of-notes-then-closed
shape_of-notes-then-closed c = search (note-long, arith)

pub returns-then-closed : goal.returns-then-closed
returns-then-closed c = search (note-whole, arith)

pub shape_of-notes-then-at-src-2 : goal.shape_of-notes-then-at-src-2
shape_of-notes-then-at-src-2 c = search (note-long, arith)

pub returns-then-at-src-2 : goal.returns-then-at-src-2
returns-then-at-src-2 c = search (note-short, arith)

pub up_of-up-requires : goal.up_of-up-requires
up_of-up-requires c = search (note-stack, arith)

pub keep-requires : goal.keep-requires
keep-requires c = search (plain-small, c.in-Some.ensures, arith)

pub loop-starts-smaller-in-Some : goal.loop-starts-smaller-in-Some
loop-starts-smaller-in-Some c = search (plain-less, c.in-Some.ensures, arith)

pub loop-starts-preserved-in-Some : goal.loop-starts-preserved-in-Some
loop-starts-preserved-in-Some c = plain-on _ _ _ _ _ _ _ _ _ c.loop-starts.invariant c.closed.result c.closed.ensures c.if-closed.false c.if-at-src-2.false _ c.in-Some.ensures c.end_of-at.result c.end_of-at.ensures c.up_of-up.result c.up_of-up.ensures _ c.keep.ensures

pub loop-starts-preserved-then-b-eq40 : goal.loop-starts-preserved-then-b-eq40
loop-starts-preserved-then-b-eq40 c = search (open-on, arith)

pub shape_of-notes-then-opened-eq0 : goal.shape_of-notes-then-opened-eq0
shape_of-notes-then-opened-eq0 c = search (note-long, arith)

pub returns-then-opened-eq0 : goal.returns-then-opened-eq0
returns-then-opened-eq0 c = search (close-refused, arith)

pub leave-requires : goal.leave-requires
leave-requires c = search (close-leaving, arith)

pub loop-starts-preserved-then-b-eq41 : goal.loop-starts-preserved-then-b-eq41
loop-starts-preserved-then-b-eq41 c = close-on _ _ _ _ _ _ _ _ _ c.loop-starts.invariant c.closed.result c.closed.ensures c.if-closed.false c.if-at-src-2.false c.if-b-eq40.false c.if-b-eq41.true c.if-opened-eq0.false _ c.leave.ensures

pub shape_of-notes-then-b-ne91 : goal.shape_of-notes-then-b-ne91
shape_of-notes-then-b-ne91 c = search (note-long, arith)

pub returns-then-b-ne91 : goal.returns-then-b-ne91
returns-then-b-ne91 c = search (other-refused, c.in_default.ensures, arith)

pub shape_of-notes-in_default-string_at : goal.shape_of-notes-in_default-string_at
shape_of-notes-in_default-string_at c = search (note-long, arith)

pub returns-in_default-string_at : goal.returns-in_default-string_at
returns-in_default-string_at c = search (unhinted-refused, c.in_default-string_at.ensures, arith)

pub after_hint-requires : goal.after_hint-requires
after_hint-requires c = (hint-room _ _ _ _ _ _ _ _ _ c.loop-starts.invariant c.closed.result c.closed.ensures c.if-closed.false c.if-at-src-2.false c.if-b-eq40.false c.if-b-eq41.false c.if-b-ne91.false _ c.in-Some-string_at.ensures c.end_of-to.result c.end_of-to.ensures, search rules)

pub hint_begins-place-requires : goal.hint_begins-place-requires
hint_begins-place-requires c = (hint-room _ _ _ _ _ _ _ _ _ c.loop-starts.invariant c.closed.result c.closed.ensures c.if-closed.false c.if-at-src-2.false c.if-b-eq40.false c.if-b-eq41.false c.if-b-ne91.false _ c.in-Some-string_at.ensures c.end_of-to.result c.end_of-to.ensures, search rules)

pub shape_of-notes-in_default-after_hint : goal.shape_of-notes-in_default-after_hint
shape_of-notes-in_default-after_hint c = search (note-long, arith)

pub returns-in_default-after_hint : goal.returns-in_default-after_hint
returns-in_default-after_hint c = search (unfollowed-refused, c.in-Some-string_at.ensures, c.in_default-after_hint.ensures, arith)

pub up_of-up-requires-in-loop-starts : goal.up_of-up-requires-in-loop-starts
up_of-up-requires-in-loop-starts c = search (note-stack, arith)

pub keep-requires-in-loop-starts : goal.keep-requires-in-loop-starts
keep-requires-in-loop-starts c = search (hint-small, c.in-Some-string_at.ensures, c.in-Some-after_hint.ensures, arith)

pub loop-starts-smaller : goal.loop-starts-smaller
loop-starts-smaller c = search (hint-less, c.in-Some-string_at.ensures, c.in-Some-after_hint.ensures, arith)

pub loop-starts-preserved : goal.loop-starts-preserved
loop-starts-preserved c = hint-on _ _ _ _ _ _ _ _ _ c.loop-starts.invariant c.closed.result c.closed.ensures c.if-closed.false c.if-at-src-2.false c.if-b-eq40.false c.if-b-eq41.false c.if-b-ne91.false _ c.in-Some-string_at.ensures c.end_of-to.result c.end_of-to.ensures _ c.in-Some-after_hint.ensures c.start_of.result c.start_of.ensures c.end_of-at-in-loop-starts.result c.end_of-at-in-loop-starts.ensures c.up_of-up-in-loop-starts.result c.up_of-up-in-loop-starts.ensures _ c.keep-in-loop-starts.ensures
