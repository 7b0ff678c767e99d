use Rattle.radix64.proofs.LetterSteps.{letter-cut, letter-end, letter-pad, letter-bad, letter-char}
use Rattle.radix64.proofs.Runs.{letter-here}
use native.Mathlib.Omega.{arith}
use Rattle.radix64.proofs.steps.letter_at.Goals as goal

pub returns-then-letter_of-lt64 : goal.returns-then-letter_of-lt64
returns-then-letter_of-lt64 c = search (letter-here, arith)

pub returns-in_err-x : goal.returns-in_err-x
returns-in_err-x c = let k = c.in_err-x.ensures.lookup in rw c.from_residual.ensures (letter-cut _ c.requires.1 _ _ _ c.skip_at-i.ensures (omega arith))

pub returns-then-x-mark : goal.returns-then-x-mark
returns-then-x-mark c = let k = c.in_ok-x.ensures.lookup in letter-end _ c.requires.1 _ _ _ c.skip_at-i.ensures (omega arith) _ (k.3.1 0) c.if-x-mark.true

pub returns-then-x-eq61 : goal.returns-then-x-eq61
returns-then-x-eq61 c = let k = c.in_ok-x.ensures.lookup in letter-pad _ c.requires.1 _ _ _ c.skip_at-i.ensures (omega arith) _ (k.3.1 0) c.if-x-mark.false c.if-x-eq61.true

pub returns-then-letter_of-ge64 : goal.returns-then-letter_of-ge64
returns-then-letter_of-ge64 c = let k = c.in_ok-x.ensures.lookup in letter-bad _ c.requires.1 _ _ _ c.skip_at-i.ensures (omega arith) _ (k.3.1 0) c.if-x-mark.false c.if-x-eq61.false _ c.letter_of-2.ensures (omega arith)

pub returns : goal.returns
returns c = let k = c.in_ok-x.ensures.lookup in letter-char _ c.requires.1 _ _ _ c.skip_at-i.ensures (omega arith) _ (k.3.1 0) c.if-x-mark.false c.if-x-eq61.false _ c.letter_of-2.ensures (omega arith)
