use Rattle.answers.proofs.Judged.{refuses-writing}
use native.Mathlib.Omega.{arith}
use Rattle.write.proofs.Entry.{write_low, write-high, good, write-in, write-last, write-none}
use Rattle.write.proofs.write.Goals as goal

pub returns-then-form-lt1 : goal.returns-then-form-lt1
returns-then-form-lt1 c = search (write_low, refuses-writing, arith)

pub returns-then-form-gt3 : goal.returns-then-form-gt3
returns-then-form-gt3 c = search (write-high, refuses-writing, arith)

pub write_canonical-requires : goal.write_canonical-requires
write_canonical-requires c = search (good, arith)

pub returns-then-form-eq1 : goal.returns-then-form-eq1
returns-then-form-eq1 c = search (write-in, arith)

pub write_basic-requires : goal.write_basic-requires
write_basic-requires c = search (good, arith)

pub returns-then-form-eq2 : goal.returns-then-form-eq2
returns-then-form-eq2 c = search (write-in, arith)

pub write_advanced-requires : goal.write_advanced-requires
write_advanced-requires c = search (good, arith)

pub returns-else-form-eq2 : goal.returns-else-form-eq2
returns-else-form-eq2 c = search (write-last, arith)

pub returns-else-sheet : goal.returns-else-sheet
returns-else-sheet c = search (write-none, refuses-writing, arith)
