use Rattle.spelling.proofs.Spellings.{Pairing}
use Rattle.spelling.proofs.put_pairs.Given as goal

abbrev pub invariant-loop-i : goal.invariant-loop-i
invariant-loop-i l = Pairing l.src l.start l.end l.pos l.initial.out l.out l.i l.o
