use Rattle.radix64.proofs.GroupOctets.{none-wrote, one-wrote, two-wrote, second-room, at-least-two}
use native.Mathlib.Omega.{arith}
use Rattle.radix64.proofs.bits.put_last.Goals as goal

pub returns-then-len-eq0 : goal.returns-then-len-eq0
returns-then-len-eq0 c = search none-wrote

pub returns-then-len-eq1 : goal.returns-then-len-eq1
returns-then-len-eq1 c = search one-wrote

pub bounds-out-pos-2 : goal.bounds-out-pos-2
bounds-out-pos-2 c = search (second-room, at-least-two, arith)

pub returns : goal.returns
returns c = search two-wrote
