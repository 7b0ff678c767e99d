use native.Mathlib.Omega.{arith}
use Rattle.records.specs.Numbers.{part_of}
use Rattle.etglavino_c.proofs.Handed.{place-handed}
use Rattle.etglavino_c.proofs.etg_hint_records.Goals as goal

pub returns : goal.returns
unfolding part_of
returns c = search (place-handed, arith)
