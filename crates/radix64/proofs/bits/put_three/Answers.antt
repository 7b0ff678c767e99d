use Rattle.radix64.proofs.GroupOctets.{three-wrote, second-of-three, third-room}
use native.Mathlib.Omega.{arith}
use Rattle.radix64.proofs.bits.put_three.Goals as goal

pub bounds-out-pos-2 : goal.bounds-out-pos-2
bounds-out-pos-2 c = search (second-of-three, arith)

pub bounds-out-pos-3 : goal.bounds-out-pos-3
bounds-out-pos-3 c = search (third-room, arith)

pub returns : goal.returns
returns c = search three-wrote
