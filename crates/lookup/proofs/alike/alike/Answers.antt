use native.Mathlib.Omega.{arith}
use Rattle.lookup.proofs.SideBySide.{match-start, match-short, left-reads, right-reads, match-less, match-on, match-differs, match-end}
use Rattle.lookup.proofs.Spans.{left-span, right-span, spans-less, spans_on, spans-differ}
use Rattle.lookup.proofs.alike.alike.Goals as goal

pub loop-i-init : goal.loop-i-init
loop-i-init c = search (match-start, arith)

pub returns-then-j-b : goal.returns-then-j-b
returns-then-j-b c = search (match-short, arith)

pub spans_match-requires : goal.spans_match-requires
spans_match-requires c = (left-span _ _ _ _ _ c.loop-i.invariant c.loop-i-test.true c.if-j-b.false _ _ c.in-Some.ensures c.in-Some-string_at.ensures, right-span _ _ _ _ _ c.loop-i.invariant c.loop-i-test.true c.if-j-b.false _ _ c.in-Some.ensures c.in-Some-string_at.ensures)

pub loop-i-smaller-then-spans_match : goal.loop-i-smaller-then-spans_match
loop-i-smaller-then-spans_match c = search (spans-less, c.in-Some.ensures, c.in-Some-string_at.ensures, arith)

pub loop-i-preserved-then-spans_match : goal.loop-i-preserved-then-spans_match
loop-i-preserved-then-spans_match c = search (spans_on, c.in-Some.ensures, c.in-Some-string_at.ensures, arith)

pub returns-in-Some-string_at : goal.returns-in-Some-string_at
returns-in-Some-string_at c = search (spans-differ, c.in-Some.ensures, c.in-Some-string_at.ensures, arith)

pub token_at-left-requires : goal.token_at-left-requires
token_at-left-requires c = search (left-reads, arith)

pub token_at-right-requires : goal.token_at-right-requires
token_at-right-requires c = search (right-reads, arith)

pub loop-i-smaller : goal.loop-i-smaller
loop-i-smaller c = search (match-less, arith)

pub loop-i-preserved : goal.loop-i-preserved
loop-i-preserved c = search (match-on, arith)

pub returns-else-tokens_match : goal.returns-else-tokens_match
returns-else-tokens_match c = search (match-differs, arith)

pub returns : goal.returns
returns c = search (match-end, arith)
