use Rattle.hours.proofs.Counting.{nan-none, no_nan}
use Rattle.hours.proofs.count.Goals as goal

pub returns-then-x : goal.returns-then-x
returns-then-x c = search nan-none

pub float_to_bits-x : goal.float_to_bits-x
float_to_bits-x c = search no_nan
