use Rattle.radix64.proofs.GroupSteps.{group-none, g1-end, g1-pad, g2-end, g2-pad, g2-no, g2-char}
use Rattle.radix64.proofs.LetterSteps.{char-place, char-low}
use native.Mathlib.Omega.{arith}
use Rattle.radix64.proofs.steps.group_at.Goals as goal

pub returns-in_err-x : goal.returns-in_err-x
returns-in_err-x c = rw c.from_residual.ensures (search (group-none, c.in_err-x.ensures))

pub letter_at-requires-in-Char : goal.letter_at-requires-in-Char
letter_at-requires-in-Char c = search (char-place, c.in_ok-x.ensures, arith)

pub returns-in_err-y-in-Char : goal.returns-in_err-y-in-Char
returns-in_err-y-in-Char c = rw c.from_residual-in_err-y-in-Char.ensures (search (g2-no, c.in_ok-x.ensures, c.in_err-y-in-Char.ensures))

pub group_3-requires : goal.group_3-requires
group_3-requires c = search (char-place, char-low, c.in_ok-x.ensures, c.in_ok-y-in-Char.ensures, arith)

pub returns-in-Char-2 : goal.returns-in-Char-2
returns-in-Char-2 c = search (g2-char, c.in_ok-x.ensures, c.in_ok-y-in-Char.ensures)

pub returns-in-End-2 : goal.returns-in-End-2
returns-in-End-2 c = search (g2-end, c.in_ok-x.ensures, c.in_ok-y-in-Char.ensures)

pub returns-in-Pad-2 : goal.returns-in-Pad-2
returns-in-Pad-2 c = search (g2-pad, c.in_ok-x.ensures, c.in_ok-y-in-Char.ensures)

pub returns-in-End : goal.returns-in-End
returns-in-End c = search (g1-end, c.in_ok-x.ensures)

pub returns-in-Pad : goal.returns-in-Pad
returns-in-Pad c = search (g1-pad, c.in_ok-x.ensures)
