use Rattle.hours.proofs.Doubling.{bits-finite, total_made}
use Rattle.hours.proofs.total_by.Goals as goal

pub float_from_bits-result : goal.float_from_bits-result
float_from_bits-result c = bits-finite _ c.bits_of.ensures.1

pub returns : goal.returns
returns c = total_made _ _ c.bits_of.ensures.0
