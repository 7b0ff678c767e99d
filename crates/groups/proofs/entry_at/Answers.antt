use Rattle.groups.proofs.Octets.{entry-group, entry-data, entry-behind}
use native.Mathlib.Omega.{arith}
use Rattle.groups.proofs.entry_at.Goals as goal

pub returns-then-i-groups : goal.returns-then-i-groups
returns-then-i-groups c = search (entry-group, arith)

pub returns-then-k-octets : goal.returns-then-k-octets
returns-then-k-octets c = search (entry-data, arith)

pub returns : goal.returns
returns c = search (entry-behind, arith)
