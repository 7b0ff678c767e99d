use mathlib.Core.Path.{refl}
use Rattle.model.specs.Octets.{leftover}
use Rattle.radix64.proofs.bits.leftover.Goals as goal

pub returns : goal.returns
unfolding leftover
returns c = refl
