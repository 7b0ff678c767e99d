use borrow.Author.Rules.{rules}
use native.Mathlib.Omega.{arith}
use Rattle.writer.proofs.Writing.{write-start, string-order, string-within, string-room, string-less, string-written, open-room, open-written, close-room, close-written, no-bracket, no-hint, hint-within, no-data, both-strings, both-room, both-less, both-written, write-long, write-end}
use Rattle.writer.proofs.advanced.put_advanced.Goals as goal

pub loop-at-init : goal.loop-at-init
loop-at-init c = search (write-start, arith)

pub put_plain-o-requires-clause-start_le_end : goal.put_plain-o-requires-clause-start_le_end
put_plain-o-requires-clause-start_le_end c = (search (string-order, c.in-Some.ensures, arith), search (string-within, c.in-Some.ensures, arith))

pub put_plain-o-requires-clause-end_in_bounds : goal.put_plain-o-requires-clause-end_in_bounds
put_plain-o-requires-clause-end_in_bounds c = search (string-room, c.in-Some.ensures, arith)

pub loop-at-smaller-in-Some : goal.loop-at-smaller-in-Some
loop-at-smaller-in-Some c = search (string-less, c.in-Some.ensures, arith)

pub loop-at-preserved-in-Some : goal.loop-at-preserved-in-Some
loop-at-preserved-in-Some c = search (string-written, c.in-Some.ensures, arith)

pub put_open-o-requires : goal.put_open-o-requires
put_open-o-requires c = search (open-room, arith)

pub loop-at-preserved-then-b-eq40 : goal.loop-at-preserved-then-b-eq40
loop-at-preserved-then-b-eq40 c = search (open-written, arith)

pub bounds-out-o : goal.bounds-out-o
bounds-out-o c = search (close-room, arith)

pub loop-at-preserved-then-b-eq41 : goal.loop-at-preserved-then-b-eq41
loop-at-preserved-then-b-eq41 c = search (close-written, arith)

pub shape_of-out-then-b-ne91 : goal.shape_of-out-then-b-ne91
shape_of-out-then-b-ne91 c = search (write-long, arith)

pub returns-then-b-ne91 : goal.returns-then-b-ne91
returns-then-b-ne91 c = search (no-bracket, c.in_default.ensures, arith)

pub shape_of-out-in_default-string_at : goal.shape_of-out-in_default-string_at
shape_of-out-in_default-string_at c = search (write-long, arith)

pub returns-in_default-string_at : goal.returns-in_default-string_at
returns-in_default-string_at c = search (no-hint, c.in_default-string_at.ensures, arith)

pub after_hint-requires : goal.after_hint-requires
after_hint-requires c = (search (hint-within, c.in-Some-string_at.ensures, arith), search rules)

pub shape_of-out-in_default-after_hint : goal.shape_of-out-in_default-after_hint
shape_of-out-in_default-after_hint c = search (write-long, arith)

pub returns-in_default-after_hint : goal.returns-in_default-after_hint
returns-in_default-after_hint c = search (no-data, c.in-Some-string_at.ensures, c.in_default-after_hint.ensures, arith)

pub put_hinted-o-requires-clause-strings : goal.put_hinted-o-requires-clause-strings
put_hinted-o-requires-clause-strings c = search (both-strings, c.in-Some-string_at.ensures, c.in-Some-after_hint.ensures, arith)

pub put_hinted-o-requires-clause-end_in_bounds : goal.put_hinted-o-requires-clause-end_in_bounds
put_hinted-o-requires-clause-end_in_bounds c = search (both-room, c.in-Some-string_at.ensures, c.in-Some-after_hint.ensures, arith)

pub loop-at-smaller : goal.loop-at-smaller
loop-at-smaller c = search (both-less, c.in-Some-string_at.ensures, c.in-Some-after_hint.ensures, arith)

pub loop-at-preserved : goal.loop-at-preserved
loop-at-preserved c = search (both-written, c.in-Some-string_at.ensures, c.in-Some-after_hint.ensures, arith)

pub shape_of-out : goal.shape_of-out
shape_of-out c = search (write-long, arith)

pub returns : goal.returns
returns c = search (write-end, arith)
