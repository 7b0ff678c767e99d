use Rattle.radix64.proofs.GroupSteps.{group-none, g4-char, g4-end, g4-pad-end, g4-pad-char, g4-pad-pad, g4-pad-no}
use Rattle.radix64.proofs.LetterSteps.{pad-place}
use native.Mathlib.Omega.{arith}
use Rattle.radix64.proofs.steps.group_4.Goals as goal

pub returns-in_err-octet : goal.returns-in_err-octet
returns-in_err-octet c = rw c.from_residual.ensures (search (group-none, c.in_err-octet.ensures))

pub letter_at-requires-in-Pad : goal.letter_at-requires-in-Pad
letter_at-requires-in-Pad c = search (pad-place, c.in_ok-octet.ensures, arith)

pub returns-in_err-last-in-Pad : goal.returns-in_err-last-in-Pad
returns-in_err-last-in-Pad c = rw c.from_residual-in_err-last-in-Pad.ensures (search (g4-pad-no, c.in_ok-octet.ensures, c.in_err-last-in-Pad.ensures))

pub returns-in-Char : goal.returns-in-Char
returns-in-Char c = search (g4-char, c.in_ok-octet.ensures)

pub returns-in-End : goal.returns-in-End
returns-in-End c = search (g4-end, c.in_ok-octet.ensures)

pub returns-in-End-2 : goal.returns-in-End-2
returns-in-End-2 c = search (g4-pad-end, c.in_ok-octet.ensures, c.in_ok-last-in-Pad.ensures)

pub returns-in-Char-2 : goal.returns-in-Char-2
returns-in-Char-2 c = search (g4-pad-char, c.in_ok-octet.ensures, c.in_ok-last-in-Pad.ensures)

pub returns-in-Pad-2 : goal.returns-in-Pad-2
returns-in-Pad-2 c = search (g4-pad-pad, c.in_ok-octet.ensures, c.in_ok-last-in-Pad.ensures)
