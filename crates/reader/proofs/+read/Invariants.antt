use Rattle.reader.proofs.+read.Given as goal

abbrev pub decreases-read : goal.decreases-read
decreases-read l = l.form
