use Rattle.hours.proofs.Counting.{total-given, total-refused}
use Rattle.hours.proofs.total.Goals as goal

pub returns-in-Some : goal.returns-in-Some
returns-in-Some c = search total-given

pub returns-in-None : goal.returns-in-None
returns-in-None c = search total-refused
