use Rattle.radix64.proofs.GroupSteps.{group-none, pad-end, pad-char, pad-pad-end, pad-pad-char, pad-pad-pad, pad-pad-no}
use Rattle.radix64.proofs.LetterSteps.{pad-place}
use native.Mathlib.Omega.{arith}
use Rattle.radix64.proofs.steps.padded.Goals as goal

pub returns-in_err-next : goal.returns-in_err-next
returns-in_err-next c = rw c.from_residual.ensures (search (group-none, c.in_err-next.ensures))

pub letter_at-requires-in-Pad : goal.letter_at-requires-in-Pad
letter_at-requires-in-Pad c = search (pad-place, c.in_ok-next.ensures, arith)

pub returns-in_err-last-in-Pad : goal.returns-in_err-last-in-Pad
returns-in_err-last-in-Pad c = rw c.from_residual-in_err-last-in-Pad.ensures (search (pad-pad-no, c.in_ok-next.ensures, c.in_err-last-in-Pad.ensures))

pub returns-in-End : goal.returns-in-End
returns-in-End c = search (pad-end, c.in_ok-next.ensures)

pub returns-in-End-2 : goal.returns-in-End-2
returns-in-End-2 c = search (pad-pad-end, c.in_ok-next.ensures, c.in_ok-last-in-Pad.ensures)

pub returns-in-Char-2 : goal.returns-in-Char-2
returns-in-Char-2 c = search (pad-pad-char, c.in_ok-next.ensures, c.in_ok-last-in-Pad.ensures)

pub returns-in-Pad-2 : goal.returns-in-Pad-2
returns-in-Pad-2 c = search (pad-pad-pad, c.in_ok-next.ensures, c.in_ok-last-in-Pad.ensures)

pub returns-in-Char : goal.returns-in-Char
returns-in-Char c = search (pad-char, c.in_ok-next.ensures)
