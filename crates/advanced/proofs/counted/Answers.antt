use Rattle.advanced.proofs.Strings.{number-room, number-on, number-huge}
use Rattle.advanced.proofs.counted.Goals as goal

pub after_number-requires : goal.after_number-requires
after_number-requires c = search (number-room, c.in_ok-number.ensures)

pub returns : goal.returns
returns c = search (number-on, c.in_ok-number.ensures)

pub returns-in_err-number : goal.returns-in_err-number
returns-in_err-number c = rw c.from_residual.ensures (search (number-huge, c.in_err-number.ensures))
